-- A format read from a place of a body: what it reads, and where the next one reads. Assumes nothing.
use mathlib.Core.Path.{◌≡◌, refl, ap, ◌∙◌}
use mathlib.Core.List.{List, ◌∷◌}
use mathlib.Core.Bool.{Bool}
use Prim.Native.Nat.{ℕ, zero, suc, ◌+◌}
use native.Mathlib.Omega.{arith}
use lib.ListN.{take, drop}
use lib.Seq.{drop-drop}
use Rattle.layout.specs.Number.{num, number_at}
use Rattle.layout.specs.Format.{Format, number, flag, pair, counted, reads, bool_of}
use Rattle.value.specs.declared.Val.{Val}
use Rattle.definition.specs.Record.{StopFields, stop_format, StepFields, step_format}
use Rattle.value.specs.Encoding.{val, to_val, val_at}
use Rattle.text.specs.Read.{names_in}

module _ (s : List ℕ) where
  -- F reads a from place i up to place j
  abbrev pub At : {A : Type 0} → Format A → ℕ → A → ℕ → Type 0
  At F i a j = F.read (drop i s) ≡ (a, drop j s)

  pub number_at_lem : (i k : ℕ) → At (number k) i (number_at s i k) (i + k)
  unfolding number_at
  number_at_lem i k = λ t. (num (take k (drop i s)), drop-drop k i s t)

  pub flag_at : (i : ℕ) → At flag i (bool_of (number_at s i 1)) (i + 1)
  unfolding number_at
  flag_at i = λ t. (bool_of (num (take 1 (drop i s))), drop-drop 1 i s t)

  pub pair_at : {A B : Type 0} (F : Format A) (G : Format B) (i j k : ℕ) {a : A} {b : B} → At F i a j → At G j b k → At (pair F G) i (a, b) k
  pair_at {A} {B} F G i j k {a} p q =
      ap (λ (r : A × List ℕ). let t = G.read r.1 in ((r.0, t.0), t.1)) p
      ∙ ap (λ (t : B × List ℕ). ((a, t.0), t.1)) q

  pub value_at_lem : (i : ℕ) → At val i (val_at s i) (i + 14)
  unfolding val_at
  value_at_lem i =
      let p = pair_at flag (pair flag (pair (number 4) (number 8))) i (i + 1) (i + 1 + 1 + 4 + 8) (flag_at i)
      (pair_at flag (pair (number 4) (number 8)) (i + 1) (i + 1 + 1) (i + 1 + 1 + 4 + 8) (flag_at (i + 1))
      (pair_at (number 4) (number 8) (i + 1 + 1) (i + 1 + 1 + 4) (i + 1 + 1 + 4 + 8) (number_at_lem (i + 1 + 1) 4) (number_at_lem (i + 1 + 1 + 4) 8))) in
      let a : i + 1 + 1 ≡ i + 2 = omega arith in
      let b : i + 1 + 1 + 4 ≡ i + 6 = omega arith in
      let c : i + 1 + 1 + 4 + 8 ≡ i + 14 = omega arith in
      ap (λ (r : (Bool × (Bool × (ℕ × ℕ))) × List ℕ). (to_val r.0, r.1)) p
      ∙ (λ t. (to_val (bool_of (number_at s i 1), (bool_of (number_at s (i + 1) 1), (number_at s (a t) 4, number_at s (b t) 8))), drop (c t) s))

  pub names_at : (n i : ℕ) → (reads (number 2) n (drop i s)).0 ≡ names_in s i n
  unfolding names_in number_at
  names_at zero i = refl
  names_at (suc n) i =
      ap (λ (l : List ℕ). num (take 2 (drop i s)) ∷ (reads (number 2) n l).0) (drop-drop 2 i s)
      ∙ ap (λ (l : List ℕ). num (take 2 (drop i s)) ∷ l) (names_at n (i + 2))

  -- ---- the fields of a step, of a stop and of a variable

  abbrev pub step_fields_in : StepFields
  step_fields_in = (
    (number_at s 0 1, number_at s 1 8),
    (
      number_at s 9 4,
      (
        number_at s 13 4,
        (
          (bool_of (number_at s 17 1), (number_at s 18 2, val_at s 20)),
          (number_at s 34 1, (number_at s 35 8, (number_at s 43 4, (val_at s 47, names_in s 63 (number_at s 61 2))))),
        ),
      ),
    ),
  )

  abbrev pub stop_fields_in : StopFields
  stop_fields_in = (number_at s 0 1, (number_at s 1 1, ((number_at s 2 1, number_at s 3 8), (number_at s 11 8, (number_at s 19 4, (number_at s 23 2, val_at s 25))))))

  taken_at : ((counted 2 (number 2)).read (drop 61 s)).0 ≡ names_in s 63 (number_at s 61 2)
  unfolding number_at
  taken_at = ap (λ (l : List ℕ). (reads (number 2) (num (take 2 (drop 61 s))) l).0) (drop-drop 2 61 s) ∙ names_at (num (take 2 (drop 61 s))) 63

  -- a pair, of whose second part only what it reads counts
  last_at : {A B : Type 0} (F : Format A) (G : Format B) (i j : ℕ) {a : A} {b : B} → At F i a j → (G.read (drop j s)).0 ≡ b → ((pair F G).read (drop i s)).0 ≡ (a, b)
  last_at {A} {B} F G i j {a} p q =
      ap (λ (r : A × List ℕ). (r.0, (G.read r.1).0)) p ∙ ap (λ (b : B). (a, b)) q

  pub step_at : (step_format.read s).0 ≡ step_fields_in
  step_at =
      let taken : Format (List ℕ) = counted 2 (number 2) in
      let note = pair (number 1) (pair (number 8) (pair (number 4) (pair val taken))) in
      let wrote = pair flag (pair (number 2) val) in
      let rest = pair wrote note in
      last_at (pair (number 1) (number 8)) (pair (number 4) (pair (number 4) rest)) 0 9 (pair_at (number 1) (number 8) 0 1 9 (number_at_lem 0 1) (number_at_lem 1 8))
      (last_at (number 4) (pair (number 4) rest) 9 13 (number_at_lem 9 4)
      (last_at (number 4) rest 13 17 (number_at_lem 13 4)
      (last_at wrote note 17 34 (pair_at flag (pair (number 2) val) 17 18 34 (flag_at 17) (pair_at (number 2) val 18 20 34 (number_at_lem 18 2) (value_at_lem 20)))
      (last_at (number 1) (pair (number 8) (pair (number 4) (pair val taken))) 34 35 (number_at_lem 34 1)
      (last_at (number 8) (pair (number 4) (pair val taken)) 35 43 (number_at_lem 35 8)
      (last_at (number 4) (pair val taken) 43 47 (number_at_lem 43 4)
      (last_at val taken 47 61 (value_at_lem 47) taken_at)))))))

  pub stop_at_lem : (stop_format.read s).0 ≡ stop_fields_in
  stop_at_lem =
      let d = pair (number 2) val in
      let c = pair (number 4) d in
      let b = pair (number 8) c in
      let a = pair (pair (number 1) (number 8)) b in
      last_at (number 1) (pair (number 1) a) 0 1 (number_at_lem 0 1)
      (last_at (number 1) a 1 2 (number_at_lem 1 1)
      (last_at (pair (number 1) (number 8)) b 2 11 (pair_at (number 1) (number 8) 2 3 11 (number_at_lem 2 1) (number_at_lem 3 8))
      (last_at (number 8) c 11 19 (number_at_lem 11 8)
      (last_at (number 4) d 19 23 (number_at_lem 19 4)
      (last_at (number 2) val 23 25 (number_at_lem 23 2) (ap (λ (r : Val × List ℕ). r.0) (value_at_lem 25)))))))

  pub variable_at_lem : ((pair (number 2) val).read s).0 ≡ (number_at s 0 2, val_at s 2)
  variable_at_lem = last_at (number 2) val 0 2 (number_at_lem 0 2) (ap (λ (r : Val × List ℕ). r.0) (value_at_lem 2))
