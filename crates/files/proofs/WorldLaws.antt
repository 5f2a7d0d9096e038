-- What the tests of symbols and regions show. Assumes nothing.
use mathlib.Core.Path.{◌≡◌, refl, ◌∙◌}
use mathlib.Core.Bool.{Bool, true, false, ◌||◌}
use mathlib.Core.List.{List, [], ◌∷◌}
use Prim.Native.Nat.{ℕ, ◌+◌, ◌*◌, ◌/◌, ◌%◌, ◌≤◌, ◌<◌}
use native.Mathlib.Numerals.{add-one}
use native.Mathlib.Omega.{arith}
use borrow.Author.Tests.{leb-true, ltb-true, le-leb, lt-ltb, eq-eqb, ne_eqb}
use lib.ListN.{length}
use lib.Dec.{eqb, leb, ltb}
use Rattle.layout.specs.Number.{number_at}
use Rattle.files.specs.Items.{every}
use Rattle.std.specs.Prelude.{Option, None, Some, MatchOption, IsTrue}
use Rattle.files.specs.WorldFile.{Before, Came, least_name, symbol_ok, symbols_ok}
use Rattle.files.proofs.BoolLaws.{each_true}
use Rattle.files.proofs.ItemLaws.{every_at}

-- an address and the region before it
-- there is no region before, or its last address is below
pub past : (o : Option ℕ) (a : ℕ) (s : Before) (r : Bool) → MatchOption o (IsTrue r) (λ x. r ≡ ltb x a) → Came o s → r ≡ (eqb s.count 0 || ltb s.last a)
past None a s r h t = simp (eq-eqb _ _ t) h
past (Some x) a s r h t = h ∙ simp (ne_eqb s.count 0 (λ z. omega (arith, z, t.0)), t.1)

module _ (b : List ℕ) (names : ℕ) where
  pub symbols_odd : (length b % 11 ≡ 0 → ⊥) → false ≡ symbols_ok b names
  unfolding symbols_ok
  symbols_odd h = simp (ne_eqb _ _ h)

  pub symbols_each : (k : ℕ) → k < length b / 11 → symbols_ok b names ≡ true → (least_name b k ≤ number_at b (k * 11) 2) × (number_at b (k * 11) 2 < names)
  unfolding symbols_ok
  symbols_each k l h =
      let t = each_true (eqb (length b % 11) 0) (every (length b / 11) (symbol_ok b names) ∷ []) h in
      let s = each_true (leb (least_name b k) (number_at b (k * 11) 2)) (ltb (number_at b (k * 11) 2) names ∷ []) (every_at (symbol_ok b names) _ k t.1.0 l) in
      (leb-true _ _ s.0, ltb-true _ _ s.1.0)

  pub symbols_on : (k n l : ℕ) → every k (symbol_ok b names) ≡ true → n ≡ number_at b (k * 11) 2 → l ≡ least_name b k → l ≤ n → n < names → every (k + 1) (symbol_ok b names) ≡ true
  unfolding every
  symbols_on k n l a en el h g = rw (add-one, a) (simp (← en, ← el, le-leb _ _ h, lt-ltb _ _ g))

  pub symbols_next : (k n : ℕ) → n ≡ number_at b (k * 11) 2 → n + 1 ≡ least_name b (k + 1)
  unfolding least_name
  symbols_next k n e = rw (add-one k, e)

  pub symbols_start : 0 ≡ least_name b 0
  unfolding least_name
  symbols_start = refl

  pub symbols_good : length b % 11 ≡ 0 → (k c : ℕ) → c ≡ length b / 11 → k ≤ c → c ≤ k → every k (symbol_ok b names) ≡ true → true ≡ symbols_ok b names
  unfolding symbols_ok
  symbols_good l k c q f g a = let p : k ≡ length b / 11 = omega arith in simp (eq-eqb _ _ l, ← p, a)
