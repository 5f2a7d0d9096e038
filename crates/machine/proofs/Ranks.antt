-- What falls at each call of the cycle: the depth left, at one depth the nodes left from a function's node on, and at one node the function's rank. Assumes nothing.
use mathlib.Core.Path.{◌≡◌, sym, subst}
use mathlib.Core.List.{List}
use Prim.Native.Nat.{ℕ, ◌+◌, ◌-◌, ◌*◌, ◌^◌, ◌≤◌, ◌<◌}
use native.Mathlib.Omega.{arith}
use lib.ListN.{length}
use Rattle.files.specs.Spells.{Inside, next}
use Rattle.hosting.specs.declared.How.{How}
use Rattle.hosting.specs.Stands.{Fine, FineFields}
use Rattle.hosting.proofs.Shapes.{field_inside}
use Rattle.operations.specs.Registers.{how_in}

-- ranks at one node: 0 of a kind's own function and of what a store does, 2 evaluating an Assign, 3 evaluate, 4 operand and what evaluates trees side by side
-- in front stands the depth left, which the registers of the workspace w tell. No call takes from it, since none is followed; a routine has fewer than 2 ^ 64 nodes,
-- so that all that is left at one depth is less than 2 ^ 67
unfoldable pub left : List ℕ → List ℕ → ℕ → ℕ → ℕ
left w b n rank = (how_in w).depth * 2 ^ 67 + (5 * (length b - n) + rank)

-- in another workspace, whose run goes as before
pub falls_on : (w w' b : List ℕ) (n rank : ℕ) {t : ℕ} → how_in w' ≡ how_in w → left w b n rank < t → left w' b n rank < t
unfolding left
falls_on w w' b n rank {t} e h = subst (λ (z : How). z.depth * 2 ^ 67 + (5 * (length b - n) + rank) < t) (sym e) h

-- ---- at the same node

module _ (w b : List ℕ) (n : ℕ) {t : ℕ} where
  pub kind_falls : left w b n 3 ≡ t → left w b n 0 < t
  unfolding left
  kind_falls e = omega (arith, e)

  pub assigned_falls : left w b n 3 ≡ t → left w b n 2 < t
  unfolding left
  assigned_falls e = omega (arith, e)

  pub assign_falls : left w b n 2 ≡ t → left w b n 0 < t
  unfolding left
  assign_falls e = omega (arith, e)

  pub operand_falls : left w b n 4 ≡ t → left w b n 3 < t
  unfolding left
  operand_falls e = omega (arith, e)

  -- there or at a sibling after it
  pub here_falls : {i : ℕ} → left w b n 4 ≡ t → n ≤ i → left w b i 3 < t
  unfolding left
  here_falls e h = omega (arith, e, h)

-- ---- at a later node

pub next_past : {b : List ℕ} {n m : ℕ} → Fine b n → m ≡ next b n → n < m
next_past f p = let i = f.inside in omega (arith, p, i.some)

module _ (w b : List ℕ) (n : ℕ) {t : ℕ} (r s : ℕ) where
  after : {m : ℕ} → left w b n r ≡ t → Inside b n → n < m → s ≤ 4 → left w b m s < t
  unfolding left
  after e i lt h = omega (arith, e, i.some, i.fits, lt, h)

  -- at the first child
  pub first_falls : left w b n r ≡ t → Fine b n → s ≤ 4 → left w b (n + 1) s < t
  first_falls e f h = after e f.inside (omega arith) h

  -- past it, and past that
  pub second_falls : {m : ℕ} → left w b n r ≡ t → Fine b n → m ≡ next b (n + 1) → s ≤ 4 → left w b m s < t
  second_falls e f p h = after e f.inside (omega (arith, p)) h

  pub third_falls : {m l : ℕ} → left w b n r ≡ t → Fine b n → m ≡ next b (n + 1) → l ≡ next b m → s ≤ 4 → left w b l s < t
  third_falls e f p q h = after e f.inside (omega (arith, p, q)) h

  -- at a later side
  pub right_falls : {m : ℕ} → left w b n r ≡ t → Fine b n → n < m → s ≤ 4 → left w b m s < t
  right_falls e f lt h = after e f.inside lt h

  -- at a field, or one after it
  pub field_falls : {e i : ℕ} → left w b n r ≡ t → n ≤ i → (i ≡ e → ⊥) → FineFields b i e → s ≤ 4 → left w b (i + 1) s < t
  unfolding left
  field_falls z p ne f h = let i = field_inside ne f in omega (arith, z, p, i.some, i.fits, h)
