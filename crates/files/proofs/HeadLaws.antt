-- What the tests of a head show. Assumes nothing.
use mathlib.Core.Path.{◌≡◌}
use mathlib.Core.Bool.{Bool, true, false, not, and-false}
use mathlib.Core.List.{List, [], ◌∷◌}
use Prim.Native.Nat.{ℕ, ◌+◌, ◌-◌, ◌*◌, ◌/◌, ◌%◌, ◌≤◌, ◌<◌}
use borrow.Author.Tests.{le-leb, lt-leb, leb-true, ltb-true, eqb-true, not-true}
use lib.Dec.{leb, ltb, eqb}
use lib.ListN.{length, get_or}
use Rattle.layout.specs.Number.{number_at}
use Rattle.files.specs.Items.{every}
use Rattle.files.specs.Head.{variable_ok, fixed_ok, head_ok}
use Rattle.files.proofs.ItemLaws.{every_at}
use Rattle.std.proofs.lemmas.Bool.{and_parts}
use Rattle.files.proofs.BoolLaws.{each_true}

module _ (b : List ℕ) (names types : ℕ) where
  pub head_short : length b < 13 → false ≡ head_ok b names types
  unfolding head_ok
  head_short h = simp (lt-leb _ _ h)

  pub head_odd : (t : Bool) → t ≡ fixed_ok b names types → not t ≡ true → false ≡ head_ok b names types
  unfolding head_ok
  head_odd t e h = simp (← e, not-true t h, and-false)

  pub head_good : 13 ≤ length b → (t u : Bool) → t ≡ fixed_ok b names types → t ≡ true → u ≡ every ((length b - 13) / 4) (variable_ok b names types) → u ≡ head_ok b names types
  unfolding head_ok
  head_good l t u e h a = simp (le-leb _ _ l, ← e, h, ← a)

-- ---- what an accepted head has

pub record Head (b : List ℕ) (names types : ℕ) : Type 0 where
  pub room : 13 ≤ length b
  pub whole : (length b - 13) % 4 ≡ 0
  pub name : number_at b 0 2 < names
  pub type : number_at b 10 2 < types
  pub few : get_or b 12 0 ≤ 16
  pub there : get_or b 12 0 ≤ (length b - 13) / 4
  pub variables : (k : ℕ) → k < (length b - 13) / 4 → (number_at b (k * 4 + 13) 2 < names) × (number_at b (k * 4 + 15) 2 < types)

pub head_has : (b : List ℕ) (names types : ℕ) → head_ok b names types ≡ true → Head b names types
unfolding head_ok fixed_ok variable_ok
head_has b names types h =
    let rest = length b - 13 in
    let t = each_true (leb 13 (length b)) (fixed_ok b names types ∷ every (rest / 4) (variable_ok b names types) ∷ []) h in
    let f = each_true (eqb (rest % 4) 0) (ltb (number_at b 0 2) names ∷ ltb (number_at b 10 2) types ∷ leb (get_or b 12 0) 16 ∷ leb (get_or b 12 0) (rest / 4) ∷ []) t.1.0 in
    record {
      room = leb-true _ _ t.0;
      whole = eqb-true _ _ f.0;
      name = ltb-true _ _ f.1.0;
      type = ltb-true _ _ f.1.1.0;
      few = leb-true _ _ f.1.1.1.0;
      there = leb-true _ _ f.1.1.1.1.0;
      variables = λ k l.
          let v = and_parts (ltb (number_at b (k * 4 + 13) 2) names) (ltb (number_at b (k * 4 + 15) 2) types) (every_at (variable_ok b names types) (rest / 4) k t.1.1.0 l) in
          (ltb-true _ _ v.0, ltb-true _ _ v.1);
    }
