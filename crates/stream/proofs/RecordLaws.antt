-- A record put together in a buffer: the bodies at their places, in the order in which a run writes them, and the pairs. Assumes nothing.
use mathlib.Core.Path.{◌≡◌, refl, sym, ap, ◌∙◌}
use mathlib.Core.List.{List, [], ◌∷◌, ◌++◌, map, append-nil}
use Prim.Native.Nat.{ℕ, suc, ◌+◌, ◌≤◌, ◌<◌}
use native.Mathlib.Nat.{zero-add, lt_irrefl}
use native.Mathlib.Omega.{arith}
use lib.ListN.{length, drop, set, length-append}
use lib.Seq.{sets, sets-eq, set_comm}
use Rattle.layout.specs.Each.{Each}
use Rattle.layout.specs.Number.{le}
use Rattle.memory.specs.Entries.{memory_body}
use Rattle.definition.specs.Record.{Ran, stop_body, counts_body, steps_body, variables_body, questions_body, bodies, pairs, layout, record_bytes}
use Rattle.definition.proofs.Record.{stop_length, counts_length}
use Rattle.stream.specs.declared.Lengths.{Lengths}
use Rattle.stream.specs.Bodies.{stop_place, counts_place, steps_place, pairs_of, lengths_of}
use Rattle.stream.proofs.StoreLaws.{two_stored}

-- ---- stores that do not meet may change places

set_sets : (ys l : List ℕ) (i j v : ℕ) → i < j → sets (set l i v) j ys ≡ set (sets l j ys) i v
set_sets [] l i j v h = refl
set_sets (y ∷ ys) l i j v h =
    ap (λ (t : List ℕ). sets t (suc j) ys) (set_comm l i j v y (λ e. lt_irrefl j (omega arith))) ∙ set_sets ys (set l j y) i (suc j) v (omega arith)

pub sets_swap : (xs ys l : List ℕ) (i j : ℕ) → i + length xs ≤ j → sets (sets l i xs) j ys ≡ sets (sets l j ys) i xs
sets_swap [] ys l i j h = refl
sets_swap (x ∷ xs) ys l i j h =
    sets_swap xs ys (set l i x) (suc i) j (omega arith) ∙ ap (λ (t : List ℕ). sets t (suc i) xs) (set_sets ys l i j x (omega arith))

-- a place, and the bytes to store there; one such store after the other
abbrev Store : Type 0
Store = ℕ × List ℕ

abbrev stores : List ℕ → List Store → List ℕ
stores l [] = l
stores l (w ∷ ws) = stores (sets l w.0 w.1) ws

-- what is stored below all others may be stored first
below_first : (ws : List Store) (i : ℕ) (b l : List ℕ) → Each (λ w. i + length b ≤ w.0) ws → sets (stores l ws) i b ≡ stores (sets l i b) ws
below_first [] i b l h = refl
below_first (w ∷ ws) i b l h =
    below_first ws i b (sets l w.0 w.1) h.1 ∙ ap (λ (t : List ℕ). stores t ws) (sym (sets_swap b w.1 l i w.0 h.0))

-- ---- the pairs by the lengths alone

pub pairs_of_lem : (o : ℕ) (bs : List (List ℕ)) → pairs_of o (map length bs) ≡ pairs o bs
unfolding pairs_of
pairs_of_lem o [] = refl
pairs_of_lem o (b ∷ bs) = ap (λ (r : List ℕ). le 4 o ++ (le 4 (length b) ++ r)) (pairs_of_lem (o + length b) bs)

module _ (r : Ran) where
  abbrev stop : List ℕ
  stop = stop_body r.stop

  abbrev counts : List ℕ
  counts = counts_body r.entered r.recorded

  abbrev steps : List ℕ
  steps = steps_body r.steps

  abbrev variables : List ℕ
  variables = variables_body r.variables

  abbrev memory : List ℕ
  memory = memory_body r.memory

  abbrev questions : List ℕ
  questions = questions_body r.questions

  pub pairs_are : (l : Lengths) → l.steps ≡ length steps → l.variables ≡ length variables → l.memory ≡ length memory → l.questions ≡ length questions
      → pairs_of stop_place (lengths_of l) ≡ pairs stop_place (bodies r)
  pairs_are l a b c d =
      let e = stop_length r.stop in
      let f = counts_length r.entered r.recorded in
      sym (λ i. pairs_of stop_place (e i ∷ f i ∷ sym a i ∷ sym b i ∷ sym c i ∷ sym d i ∷ [])) ∙ pairs_of_lem stop_place (bodies r)

  record_is : record_bytes r ≡ pairs stop_place (bodies r) ++ (stop ++ (counts ++ (steps ++ (variables ++ (memory ++ questions)))))
  unfolding record_bytes layout
  record_is = ap (λ (q : List ℕ). pairs stop_place (bodies r) ++ (stop ++ (counts ++ (steps ++ (variables ++ (memory ++ q)))))) (append-nil questions)

  pub length_record : length (record_bytes r) ≡ steps_place + length steps + length variables + length memory + length questions
  length_record =
      ap length record_is
      ∙ simp length-append (omega (arith, stop_length r.stop, counts_length r.entered r.recorded))

  module _ (v m q : ℕ) (hv : v ≡ steps_place + length steps) (hm : m ≡ v + length variables) (hq : q ≡ m + length memory) (old : List ℕ) where
    abbrev head : List ℕ
    head = pairs stop_place (bodies r)

    -- in the order of the run
    abbrev in_order : List ℕ
    in_order = sets (sets (sets (sets (sets (sets (sets old steps_place steps) q questions) stop_place stop) counts_place counts) v variables) m memory) 0 head

    -- back to back
    abbrev in_row : List ℕ
    in_row = sets (sets (sets (sets (sets (sets (sets old 0 head) stop_place stop) counts_place counts) steps_place steps) v variables) m memory) q questions

    sorted : in_order ≡ in_row
    sorted =
        let ls = stop_length r.stop in
        let lc = counts_length r.entered r.recorded in
        let l₁ = sets old 0 head in
        let l₃ = sets (sets l₁ stop_place stop) counts_place counts in
        below_first ((steps_place, steps) ∷ (q, questions) ∷ (stop_place, stop) ∷ (counts_place, counts) ∷ (v, variables) ∷ (m, memory) ∷ []) 0 head old (omega arith, (omega arith, (omega arith, (omega arith, (omega arith, (omega arith, tt))))))
        ∙ ap (λ (t : List ℕ). sets (sets (sets t counts_place counts) v variables) m memory) (below_first ((steps_place, steps) ∷ (q, questions) ∷ []) stop_place stop l₁ (omega arith, (omega arith, tt)))
        ∙ ap (λ (t : List ℕ). sets (sets t v variables) m memory) (below_first ((steps_place, steps) ∷ (q, questions) ∷ []) counts_place counts (sets l₁ stop_place stop) (omega arith, (omega arith, tt)))
        ∙ ap (λ (t : List ℕ). sets t m memory) (below_first ((q, questions) ∷ []) v variables (sets l₃ steps_place steps) (omega arith, tt))
        ∙ below_first ((q, questions) ∷ []) m memory (sets (sets l₃ steps_place steps) v variables) (omega arith, tt)

    joined : in_row ≡ sets old 0 (record_bytes r)
    joined =
        let ls = stop_length r.stop in
        let lc = counts_length r.entered r.recorded in
        let l₁ = sets old 0 head in
        let l₂ = sets l₁ stop_place stop in
        let l₃ = sets l₂ counts_place counts in
        let l₄ = sets l₃ steps_place steps in
        let l₅ = sets l₄ v variables in
        two_stored head (stop ++ (counts ++ (steps ++ (variables ++ (memory ++ questions))))) old l₁ in_row 0 stop_place refl
        (two_stored stop (counts ++ (steps ++ (variables ++ (memory ++ questions)))) l₁ l₂ in_row stop_place counts_place refl
        (two_stored counts (steps ++ (variables ++ (memory ++ questions))) l₂ l₃ in_row counts_place steps_place refl
        (two_stored steps (variables ++ (memory ++ questions)) l₃ l₄ in_row steps_place v refl
        (two_stored variables (memory ++ questions) l₄ l₅ in_row v m refl
        (two_stored memory questions l₅ (sets l₅ m memory) in_row m q refl refl hq) hm) hv) (omega arith)) (omega arith)) refl
        ∙ ap (sets old 0) (sym record_is)

    -- steps and questions by their streams, then the bodies that are written at once, then the pairs: the record, and then the old bytes
    pub record_written : length (record_bytes r) ≤ length old → {s₁ s₂ s₃ s₄ s₅ s₆ s₇ : List ℕ} → s₁ ≡ sets old steps_place steps → s₂ ≡ sets s₁ q questions
        → s₃ ≡ sets s₂ stop_place stop → s₄ ≡ sets s₃ counts_place counts → s₅ ≡ sets s₄ v variables → s₆ ≡ sets s₅ m memory → s₇ ≡ sets s₆ 0 (pairs stop_place (bodies r))
        → s₇ ≡ record_bytes r ++ drop (length (record_bytes r)) old
    record_written h e₁ e₂ e₃ e₄ e₅ e₆ e₇ =
        let f₂ = e₂ ∙ ap (λ (t : List ℕ). sets t q questions) e₁ in
        let f₃ = e₃ ∙ ap (λ (t : List ℕ). sets t stop_place stop) f₂ in
        let f₄ = e₄ ∙ ap (λ (t : List ℕ). sets t counts_place counts) f₃ in
        let f₅ = e₅ ∙ ap (λ (t : List ℕ). sets t v variables) f₄ in
        let f₆ = e₆ ∙ ap (λ (t : List ℕ). sets t m memory) f₅ in
        e₇ ∙ ap (λ (t : List ℕ). sets t 0 head) f₆ ∙ sorted ∙ joined ∙ sets-eq (record_bytes r) old 0 (omega arith) ∙ rw zero-add
