-- What each entry gives, and what it leaves in the buffers that are lent to it, on all inputs: what the entries' contracts state. Assumes nothing.
use Rattle.std.specs.Prelude.{◌≡◌, Bool, false, List, ◌++◌, ℕ, length, drop, replicate, Option, None, Some}
use Rattle.value.specs.declared.Val.{Val}
use Rattle.definition.specs.Fields.{no_val}
use Rattle.definition.specs.Run.{record_of, Verdict, refused, cleared, accepted, verdict, number}
use Rattle.definition.specs.Constant.{constant_value, constant_verdict, constant_number}

-- "zero throughout"
abbrev pub zeroed : List ℕ → List ℕ
zeroed s = replicate (length s) 0

-- ---- `run`

-- "A run gives 0 and the record's length, a refusal its number and 0", with 5, 30 and 31 "the lowest faulty node's number in place of the 0": 1 to 9, 20, 30
-- and 31 leave "record buffer and workspace untouched", "After 21 and 22 both buffers are zero throughout; after a run the workspace is zero, and the buffer
-- beyond the record unchanged"
module _ (routine world call record₀ workspace₀ : List ℕ) where
  abbrev pub Left : Verdict → (length : ℕ) → (record₁ workspace₁ : List ℕ) → Type 0
  Left (refused f) l record₁ workspace₁ = (l ≡ f.node) × (record₁ ≡ record₀) × (workspace₁ ≡ workspace₀)
  Left (cleared n) l record₁ workspace₁ = (l ≡ 0) × (record₁ ≡ zeroed record₀) × (workspace₁ ≡ zeroed workspace₀)
  Left accepted l record₁ workspace₁ =
      let r = record_of routine world call in
      (l ≡ length r) × (record₁ ≡ r ++ drop (length r) record₀) × (workspace₁ ≡ zeroed workspace₀)

  pub record Answered (n l : ℕ) (record₁ workspace₁ : List ℕ) : Type 0 where
    pub number : n ≡ number routine world call (length record₀) (length workspace₀)
    pub left : Left (verdict routine world call (length record₀) (length workspace₀)) l record₁ workspace₁

-- ---- `constant_value`

-- a value of its four fields; all of them are 0 where there is none
abbrev pub val_of : (known signed : Bool) → (bits number : ℕ) → Val
val_of known signed bits number = record { known = known; signed = signed; bits = bits; number = number }

abbrev pub val_or : Option Val → Val
val_or None = no_val
val_or (Some v) = v

-- after 5, 30 and 31 the node stands where a value's number does
abbrev pub told : ℕ → Val
told node = val_of false false 0 node

-- "a node number gives a known value or none", a refusal none; the workspace is as after a run
module _ (routine : List ℕ) (node : ℕ) (workspace₀ : List ℕ) where
  abbrev pub ConstantLeft : Verdict → Val → (workspace₁ : List ℕ) → Type 0
  ConstantLeft (refused f) v workspace₁ = (v ≡ told f.node) × (workspace₁ ≡ workspace₀)
  ConstantLeft (cleared n) v workspace₁ = (v ≡ no_val) × (workspace₁ ≡ zeroed workspace₀)
  ConstantLeft accepted v workspace₁ = (v ≡ val_or (constant_value routine node)) × (workspace₁ ≡ zeroed workspace₀)

  pub record ConstantAnswered (n : ℕ) (known signed : Bool) (bits value : ℕ) (workspace₁ : List ℕ) : Type 0 where
    pub number : n ≡ constant_number routine node (length workspace₀)
    pub left : ConstantLeft (constant_verdict routine node (length workspace₀)) (val_of known signed bits value) workspace₁
