-- How far a loop over the operands of a Ternary or of a Binary has come: which are evaluated, and what is kept of their values. Assumes nothing.
use Rattle.std.specs.Prelude.{Option, Some}
use mathlib.Core.Path.{◌≡◌, refl, sym, ◌∙◌, subst}
use mathlib.Core.Bool.{Bool, true, false}
use mathlib.Core.List.{List}
use Prim.Native.Nat.{ℕ, ◌+◌, ◌<◌, ◌≤◌}
use native.Mathlib.Omega.{arith}
use Rattle.value.specs.declared.Val.{Val}
use Rattle.value.specs.Operators.{binary_of, operator_of}
use Rattle.files.specs.Nodes.{kind_of, flag_of}
use Rattle.files.specs.Spells.{next}
use Rattle.definition.specs.Evaluate.{chosen}
use Rattle.workspace.specs.Parts.{registers_part}
use Rattle.workspace.specs.Registers.{value_at}
use Rattle.hosting.specs.Scene.{given}
use Rattle.hosting.specs.Stands.{Fine}
use Rattle.operations.specs.Registers.{result_in, how_in}
use Rattle.operations.specs.Going.{ReadyIn}
use Rattle.operations.specs.Steps.{Gives, Answers, AtHand}
use Rattle.machine.specs.Post.{Evaluates}
use Rattle.hosting.proofs.Shapes.{ternary_first, ternary_second, ternary_third, binary_left, binary_right}
use Rattle.machine.proofs.Ranks.{left, falls_on, first_falls, second_falls, third_falls}
use Rattle.machine.proofs.Evaluating.{Valued, valued_at_hand, valued_as, ready_valued, how_valued, ready_on, how_on, ternary_evals, ternary_short, ternary_short_second, ternary_short_third, binary_evals, binary_short, binary_short_right}

evaluated : {b s r : List ℕ} {i : ℕ} {w o : List ℕ} {p : Bool} {w' o' : List ℕ} → p ≡ true → Evaluates b s r i w o p w' o' → Evaluates b s r i w o true w' o'
evaluated {b} {s} {r} {i} {w} {o} {p} {w'} {o'} e ev = subst (λ (q : Bool). Evaluates b s r i w o q w' o') e ev

-- ---- the operands of a Ternary

-- k of them are evaluated, the next is at node i; y is the value before the last, and x the one before that
pub data Trio (b s r : List ℕ) (n : ℕ) (w₀ o₀ : List ℕ) : ℕ → ℕ → Val → Val → List ℕ → List ℕ → Type 0 where
  no_operand : {x y : Val} → Trio b s r n w₀ o₀ 0 (n + 1) x y w₀ o₀
  one_operand : {x y : Val} {w o : List ℕ} → Evaluates b s r (n + 1) w₀ o₀ true w o → Trio b s r n w₀ o₀ 1 (next b (n + 1)) x y w o
  two_operands : {x : Val} {w₁ o₁ w o : List ℕ} → Evaluates b s r (n + 1) w₀ o₀ true w₁ o₁ → Evaluates b s r (next b (n + 1)) w₁ o₁ true w o
      → Trio b s r n w₀ o₀ 2 (next b (next b (n + 1))) x (value_at (registers_part w₁) 0) w o
  all_operands : {i : ℕ} {w₁ o₁ w₂ o₂ w o : List ℕ} → Evaluates b s r (n + 1) w₀ o₀ true w₁ o₁ → Evaluates b s r (next b (n + 1)) w₁ o₁ true w₂ o₂
      → Evaluates b s r (next b (next b (n + 1))) w₂ o₂ true w o → Trio b s r n w₀ o₀ 3 i (value_at (registers_part w₁) 0) (value_at (registers_part w₂) 0) w o

pub record TernarySoFar (b s r : List ℕ) (n : ℕ) (w₀ o₀ : List ℕ) (k i : ℕ) (x y : Val) (w o : List ℕ) : Type 0 where
  pub kind : kind_of b n ≡ 11
  pub fine : Fine b n
  pub ready : ReadyIn (given b s r) w
  pub how : how_in w ≡ how_in w₀
  pub trio : Trio b s r n w₀ o₀ k i x y w o

pub ternary_start : {b s r : List ℕ} {n : ℕ} {w o : List ℕ} {x y : Val} → kind_of b n ≡ 11 → Fine b n → ReadyIn (given b s r) w → TernarySoFar b s r n w o 0 (n + 1) x y w o
ternary_start e f p = record { kind = e; fine = f; ready = p; how = refl; trio = no_operand }

module _ {b s r : List ℕ} {n : ℕ} {w₀ o₀ : List ℕ} where
  trio_fine : {k i : ℕ} {x y : Val} {w o : List ℕ} → Trio b s r n w₀ o₀ k i x y w o → k < 3 → kind_of b n ≡ 11 → Fine b n → Fine b i
  trio_fine no_operand ne e f = ternary_first e f
  trio_fine (one_operand ea) ne e f = ternary_second e f refl
  trio_fine (two_operands ea eb) ne e f = ternary_third e f refl refl
  trio_fine (all_operands ea eb ec) ne e f = absurd (omega (arith, ne))

  trio_falls : {k i : ℕ} {x y : Val} {w o : List ℕ} {t : ℕ} → Trio b s r n w₀ o₀ k i x y w o → k < 3 → left w₀ b n 0 ≡ t → Fine b n → left w₀ b i 3 < t
  trio_falls no_operand ne e f = first_falls w₀ b n 0 3 e f (omega arith)
  trio_falls (one_operand ea) ne e f = second_falls w₀ b n 0 3 e f refl (omega arith)
  trio_falls (two_operands ea eb) ne e f = third_falls w₀ b n 0 3 e f refl refl (omega arith)
  trio_falls (all_operands ea eb ec) ne e f = absurd (omega (arith, ne))

  trio_on : {k i : ℕ} {x y : Val} {w o w' o' : List ℕ} → Trio b s r n w₀ o₀ k i x y w o → k < 3 → Evaluates b s r i w o true w' o'
      → Trio b s r n w₀ o₀ (k + 1) (next b i) y (value_at (registers_part w) 0) w' o'
  trio_on no_operand ne ev = one_operand ev
  trio_on (one_operand ea) ne ev = two_operands ea ev
  trio_on (two_operands ea eb) ne ev = all_operands ea eb ev
  trio_on (all_operands ea eb ec) ne ev = absurd (omega (arith, ne))

  trio_short : {k i : ℕ} {x y : Val} {w o : List ℕ} {p : Bool} {w' o' : List ℕ} → Trio b s r n w₀ o₀ k i x y w o → k < 3 → kind_of b n ≡ 11
      → Evaluates b s r i w o p w' o' → p ≡ false → Evaluates b s r n w₀ o₀ false w' o'
  trio_short no_operand ne e ev ep = ternary_short e ev ep
  trio_short (one_operand ea) ne e ev ep = ternary_short_second e ea refl refl ev ep
  trio_short (two_operands ea eb) ne e ev ep = ternary_short_third e ea refl refl eb refl refl ev ep
  trio_short (all_operands ea eb ec) ne e ev ep = absurd (omega (arith, ne))

  trio_evals : {k i : ℕ} {x y : Val} {w o : List ℕ} {u : Bool} {w' : List ℕ} → Trio b s r n w₀ o₀ k i x y w o → 3 ≤ k → kind_of b n ≡ 11 → Gives w (chosen x y (result_in w)) u w'
      → Evaluates b s r n w₀ o₀ u w' o
  trio_evals no_operand ek e g = absurd (omega (arith, ek))
  trio_evals (one_operand ea) ek e g = absurd (omega (arith, ek))
  trio_evals (two_operands ea eb) ek e g = absurd (omega (arith, ek))
  trio_evals (all_operands ea eb ec) ek e g = ternary_evals e ea refl refl eb refl refl ec refl refl refl g

module _ {b s r : List ℕ} {n : ℕ} {w₀ o₀ : List ℕ} {k i : ℕ} {x y : Val} {w o : List ℕ} (z : TernarySoFar b s r n w₀ o₀ k i x y w o) where
  pub ternary_done : {u : Bool} {w' : List ℕ} → 3 ≤ k → Gives w (chosen x y (result_in w)) u w' → Evaluates b s r n w₀ o₀ u w' o
  ternary_done ek g = trio_evals z.trio ek z.kind g

  module _ (ne : k < 3) where
    pub ternary_fine : Fine b i
    ternary_fine = trio_fine z.trio ne z.kind z.fine

    pub ternary_falls : {t : ℕ} → left w₀ b n 0 ≡ t → left w b i 3 < t
    ternary_falls e = falls_on w₀ w b i 3 z.how (trio_falls z.trio ne e z.fine)

    module _ {p : Bool} {w' o' : List ℕ} (ev : Evaluates b s r i w o p w' o') where
      pub ternary_stopped : p ≡ false → Evaluates b s r n w₀ o₀ false w' o'
      ternary_stopped ep = trio_short z.trio ne z.kind ev ep

      -- the operand at node i is evaluated, and the value before it, v, is kept
      pub ternary_next : {v : Val} {m : ℕ} → v ≡ value_at (registers_part w) 0 → p ≡ true → m ≡ next b i → TernarySoFar b s r n w₀ o₀ (k + 1) m y v w' o'
      ternary_next {v} {m} e ep em = record {
        kind = z.kind;
        fine = z.fine;
        ready = ready_on ev z.ready ep ternary_fine;
        how = how_on ev ternary_fine ∙ z.how;
        trio = subst (λ (j : ℕ). Trio b s r n w₀ o₀ (k + 1) j y v w' o') (sym em) (subst (λ (u : Val). Trio b s r n w₀ o₀ (k + 1) (next b i) y u w' o') (sym e) (trio_on z.trio ne (evaluated ep ev)));
      }

-- ---- the operands of a Binary

-- k of them are evaluated, the next is at node i; y is the last value, and x the one before it
pub data Duo (b s r : List ℕ) (n : ℕ) (w₀ o₀ : List ℕ) : ℕ → ℕ → Val → Val → List ℕ → List ℕ → Type 0 where
  at_left : {x y : Val} → Duo b s r n w₀ o₀ 0 (n + 1) x y w₀ o₀
  at_right : {x y : Val} {w o : List ℕ} → Valued b s r (n + 1) w₀ o₀ y w o → Duo b s r n w₀ o₀ 1 (next b (n + 1)) x y w o
  past_both : {i : ℕ} {x y : Val} {w₁ o₁ w o : List ℕ} → Valued b s r (n + 1) w₀ o₀ x w₁ o₁ → Valued b s r (next b (n + 1)) w₁ o₁ y w o → Duo b s r n w₀ o₀ 2 i x y w o

pub record BinarySoFar (b s r : List ℕ) (n : ℕ) (w₀ o₀ : List ℕ) (k i : ℕ) (x y : Val) (w o : List ℕ) : Type 0 where
  pub kind : kind_of b n ≡ 12
  pub fine : Fine b n
  pub ready : ReadyIn (given b s r) w
  pub how : how_in w ≡ how_in w₀
  pub duo : Duo b s r n w₀ o₀ k i x y w o

pub binary_start : {b s r : List ℕ} {n : ℕ} {w o : List ℕ} {x y : Val} → kind_of b n ≡ 12 → Fine b n → ReadyIn (given b s r) w → BinarySoFar b s r n w o 0 (n + 1) x y w o
binary_start e f p = record { kind = e; fine = f; ready = p; how = refl; duo = at_left }

module _ {b s r : List ℕ} {n : ℕ} {w₀ o₀ : List ℕ} where
  duo_fine : {k i : ℕ} {x y : Val} {w o : List ℕ} → Duo b s r n w₀ o₀ k i x y w o → k < 2 → kind_of b n ≡ 12 → Fine b n → Fine b i
  duo_fine at_left ne e f = binary_left e f
  duo_fine (at_right ea) ne e f = binary_right e f refl
  duo_fine (past_both ea eb) ne e f = absurd (omega (arith, ne))

  duo_falls : {k i : ℕ} {x y : Val} {w o : List ℕ} {t : ℕ} → Duo b s r n w₀ o₀ k i x y w o → k < 2 → left w₀ b n 0 ≡ t → Fine b n → left w₀ b i 3 < t
  duo_falls at_left ne e f = first_falls w₀ b n 0 3 e f (omega arith)
  duo_falls (at_right ea) ne e f = second_falls w₀ b n 0 3 e f refl (omega arith)
  duo_falls (past_both ea eb) ne e f = absurd (omega (arith, ne))

  duo_short : {k i : ℕ} {x y : Val} {w o : List ℕ} {p : Bool} {w' o' : List ℕ} → Duo b s r n w₀ o₀ k i x y w o → k < 2 → kind_of b n ≡ 12
      → Evaluates b s r i w o p w' o' → p ≡ false → Evaluates b s r n w₀ o₀ false w' o'
  duo_short at_left ne e ev ep = binary_short e ev ep
  duo_short (at_right ea) ne e ev ep = binary_short_right e ea ev ep
  duo_short (past_both ea eb) ne e ev ep = absurd (omega (arith, ne))

  duo_on : {k i : ℕ} {x y : Val} {w o : List ℕ} {v : Val} {w' o' : List ℕ} → Duo b s r n w₀ o₀ k i x y w o → k < 2 → Valued b s r i w o v w' o'
      → Duo b s r n w₀ o₀ (k + 1) (next b (n + 1)) y v w' o'
  duo_on at_left ne ev = at_right ev
  duo_on (at_right ea) ne ev = past_both ea ev
  duo_on (past_both ea eb) ne ev = absurd (omega (arith, ne))

  duo_evals : {k i : ℕ} {x y : Val} {w o : List ℕ} {u : Bool} {w' : List ℕ} → Duo b s r n w₀ o₀ k i x y w o → 2 ≤ k → kind_of b n ≡ 12
      → Answers w (binary_of (operator_of (flag_of b n)) x y) u w' → Evaluates b s r n w₀ o₀ u w' o
  duo_evals at_left ek e a = absurd (omega (arith, ek))
  duo_evals (at_right ea) ek e a = absurd (omega (arith, ek))
  duo_evals (past_both ea eb) ek e a = binary_evals e ea eb a

module _ {b s r : List ℕ} {n : ℕ} {w₀ o₀ : List ℕ} {k i : ℕ} {x y : Val} {w o : List ℕ} (z : BinarySoFar b s r n w₀ o₀ k i x y w o) where
  pub binary_done : {u : Bool} {w' : List ℕ} → 2 ≤ k → Answers w (binary_of (operator_of (flag_of b n)) x y) u w' → Evaluates b s r n w₀ o₀ u w' o
  binary_done ek a = duo_evals z.duo ek z.kind a

  module _ (ne : k < 2) where
    pub binary_fine : Fine b i
    binary_fine = duo_fine z.duo ne z.kind z.fine

    pub binary_falls : {t : ℕ} → left w₀ b n 0 ≡ t → left w b i 3 < t
    binary_falls e = falls_on w₀ w b i 3 z.how (duo_falls z.duo ne e z.fine)

    pub binary_stopped : {p : Bool} {w' o' : List ℕ} → Evaluates b s r i w o p w' o' → p ≡ false → Evaluates b s r n w₀ o₀ false w' o'
    binary_stopped ev ep = duo_short z.duo ne z.kind ev ep

    -- the operand at node i is evaluated; m is where the right one is
    pub binary_next : {m : ℕ} {v : Val} {w' o' : List ℕ} → m ≡ next b (n + 1) → Valued b s r i w o v w' o' → BinarySoFar b s r n w₀ o₀ (k + 1) m y v w' o'
    binary_next {m} {v} {w'} {o'} em ev = record {
      kind = z.kind;
      fine = z.fine;
      ready = ready_valued ev z.ready binary_fine;
      how = how_valued ev binary_fine ∙ z.how;
      duo = subst (λ (j : ℕ). Duo b s r n w₀ o₀ (k + 1) j y v w' o') (sym em) (duo_on z.duo ne ev);
    }

-- an operand that is at hand, or that is evaluated, told by other names
module _ {b s r : List ℕ} {i : ℕ} {w o : List ℕ} {x : Val} {w' o' : List ℕ} where
  renamed : {v : Val} {w₂ o₂ : List ℕ} → x ≡ v → w' ≡ w₂ → o' ≡ o₂ → Valued b s r i w o v w₂ o₂ → Valued b s r i w o x w' o'
  renamed {v} {w₂} {o₂} ex ew eo ev = subst (λ (z : List ℕ). Valued b s r i w o x w' z) (sym eo) (subst (λ (z : List ℕ). Valued b s r i w o x z o₂) (sym ew)
      (subst (λ (z : Val). Valued b s r i w o z w₂ o₂) (sym ex) ev))

  pub operand_at_hand : {slot : Option Val} {v : Val} → AtHand b i w slot → slot ≡ Some v → x ≡ v → w' ≡ w → o' ≡ o → Valued b s r i w o x w' o'
  operand_at_hand a e ex ew eo = renamed ex ew eo (valued_at_hand a e)

  pub operand_evaluated : {p : Bool} {v : Val} {w₂ o₂ : List ℕ} → Evaluates b s r i w o p w₂ o₂ → p ≡ true → v ≡ value_at (registers_part w₂) 0 → x ≡ v → w' ≡ w₂ → o' ≡ o₂
      → Valued b s r i w o x w' o'
  operand_evaluated ev ep e ex ew eo = renamed ex ew eo (valued_as ev ep e)
