-- The bodies that are written at once, and the pairs: stored group by group. Assumes nothing.
use mathlib.Core.Path.{◌≡◌, refl, ap, ap₂, ◌∙◌}
use mathlib.Core.List.{List, [], ◌∷◌, ◌++◌}
use Rattle.std.specs.Prelude.{Option, Some}
use Prim.Native.Nat.{ℕ, ◌+◌}
use lib.Seq.{sets}
use Rattle.value.specs.declared.Val.{Val}
use Rattle.layout.specs.Number.{le, put_number}
use Rattle.definition.specs.Record.{stop_with, counts_body}
use Rattle.stream.specs.declared.Reason.{Reason}
use Rattle.stream.specs.declared.Reason.TheVariants.{BranchUnknown, SwitchUnknown, NoCase, StructTo, UnknownAddress, UnknownValue, NoWidth, StoreTo, ByZero}
use Rattle.stream.specs.declared.StopPiece.{StopPiece}
use Rattle.stream.specs.declared.StopNumbers.{StopNumbers}
use Rattle.stream.specs.declared.Lengths.{Lengths}
use Rattle.value.specs.Encoding.{val_bytes}
use Rattle.stream.specs.Groups.{flagged_bytes, cause_bytes, named_bytes}
use Rattle.stream.specs.Bodies.{kind_number, reason_number, reason_at, reason_field, stop_size, counts_size, stop_place, steps_place, stop_bytes, stop_from, stop_with_numbers, pairs_of, lengths_of}
use Rattle.stream.proofs.StoreLaws.{two_stored}

-- ---- Stop

-- a reason is that of its number
pub numbered_back : (r : Reason) → reason_at (reason_number r) ≡ Some r
numbered_back BranchUnknown = refl
numbered_back SwitchUnknown = refl
numbered_back NoCase = refl
numbered_back StructTo = refl
numbered_back UnknownAddress = refl
numbered_back UnknownValue = refl
numbered_back NoWidth = refl
numbered_back StoreTo = refl
numbered_back ByZero = refl

pub cause_stored : (s t u w : List ℕ) (kind reason : ℕ) (o : Option ℕ) → t ≡ put_number s 0 1 kind → u ≡ put_number t 1 1 reason → w ≡ sets u 2 (flagged_bytes o)
    → w ≡ sets s 0 (cause_bytes kind reason o)
unfolding put_number flagged_bytes cause_bytes
cause_stored s t u w kind reason o p q r =
    two_stored (le 1 kind ++ le 1 reason) (flagged_bytes o) s u w 0 2 (two_stored (le 1 kind) (le 1 reason) s t u 0 1 p q refl) r refl

pub named_stored : (s t u w x : List ℕ) (number node name : ℕ) (v : Val) → t ≡ put_number s 11 8 number → u ≡ put_number t 19 4 node → w ≡ put_number u 23 2 name
    → x ≡ sets w 25 (val_bytes v) → x ≡ sets s 11 (named_bytes number node name v)
unfolding put_number val_bytes named_bytes
named_stored s t u w x number node name v p q r e =
    two_stored (le 8 number ++ le 4 node ++ le 2 name) (val_bytes v) s w x 11 25
    (two_stored (le 8 number ++ le 4 node) (le 2 name) s u w 11 23 (two_stored (le 8 number) (le 4 node) s t u 11 19 p q refl) r refl) e refl

pub stop_stored : (s t u : List ℕ) (p : StopNumbers) → t ≡ sets s 0 (cause_bytes p.kind p.reason p.address) → u ≡ sets t 11 (named_bytes p.number p.node p.name p.value)
    → u ≡ sets s 0 (stop_bytes (stop_with_numbers p))
unfolding cause_bytes named_bytes stop_bytes stop_with_numbers
stop_stored s t u p a b = two_stored (cause_bytes p.kind p.reason p.address) (named_bytes p.number p.node p.name p.value) s t u 0 11 a b refl

-- a stop's numbers are those of its kind and its reason
pub kind_stored : (s t : List ℕ) (p : StopPiece) (k r : ℕ) → k ≡ kind_number p.kind → r ≡ reason_field p.reason
    → t ≡ sets s 0 (stop_bytes (stop_with_numbers (record { kind = k; reason = r; address = p.address; number = p.number; node = p.node; name = p.name; value = p.value })))
    → t ≡ sets s 0 (stop_bytes (stop_from p))
unfolding stop_from stop_with_numbers
kind_stored s t p k r e f q = q ∙ ap₂ (λ (a b : ℕ). sets s 0 (stop_bytes (stop_with a b p.address p.number p.node p.name p.value))) e f

-- ---- Counts

pub counts_stored : (s t u w : List ℕ) (entered recorded : ℕ) → t ≡ put_number s 0 4 entered → u ≡ put_number t 4 4 recorded → w ≡ put_number u 8 4 (entered + recorded)
    → w ≡ sets s 0 (counts_body entered recorded)
unfolding put_number counts_body
counts_stored s t u w entered recorded p q r =
    two_stored (le 4 entered ++ le 4 recorded) (le 4 (entered + recorded)) s u w 0 8 (two_stored (le 4 entered) (le 4 recorded) s t u 0 4 p q refl) r refl

-- ---- pairs

pub pair_stored : (s t u : List ℕ) (at o n : ℕ) → t ≡ put_number s at 4 o → u ≡ put_number t (at + 4) 4 n → u ≡ sets s at (pairs_of o (n ∷ []))
unfolding put_number pairs_of
pair_stored s t u at o n p q = two_stored (le 4 o) (le 4 n) s t u at (at + 4) p q refl

pub three_stored : (s t u w : List ℕ) (at o a b c i j : ℕ) → i ≡ o + a → j ≡ i + b → t ≡ sets s at (pairs_of o (a ∷ [])) → u ≡ sets t (at + 8) (pairs_of i (b ∷ []))
    → w ≡ sets u (at + 16) (pairs_of j (c ∷ [])) → w ≡ sets s at (pairs_of o (a ∷ b ∷ c ∷ []))
unfolding pairs_of
three_stored s t u w at o a b c i j e f p q r =
    two_stored (pairs_of o (a ∷ []) ++ pairs_of i (b ∷ [])) (pairs_of j (c ∷ [])) s u w at (at + 16)
    (two_stored (pairs_of o (a ∷ [])) (pairs_of i (b ∷ [])) s t u at (at + 8) p q refl) r refl
    ∙ ap (λ (k : ℕ). sets s at (pairs_of o (a ∷ []) ++ pairs_of i (b ∷ []) ++ pairs_of k (c ∷ []))) f
    ∙ ap (λ (k : ℕ). sets s at (pairs_of o (a ∷ []) ++ pairs_of k (b ∷ []) ++ pairs_of (k + b) (c ∷ []))) e

pub pairs_stored : (s t u : List ℕ) (l : Lengths) (i : ℕ) → i ≡ steps_place + l.steps → t ≡ sets s 0 (pairs_of stop_place (stop_size ∷ counts_size ∷ l.steps ∷ []))
    → u ≡ sets t 24 (pairs_of i (l.variables ∷ l.memory ∷ l.questions ∷ [])) → u ≡ sets s 0 (pairs_of stop_place (lengths_of l))
unfolding pairs_of
pairs_stored s t u l i e p q =
    two_stored (pairs_of stop_place (stop_size ∷ counts_size ∷ l.steps ∷ [])) (pairs_of i (l.variables ∷ l.memory ∷ l.questions ∷ [])) s t u 0 24 p q refl
    ∙ ap (λ (k : ℕ). sets s 0 (pairs_of stop_place (stop_size ∷ counts_size ∷ l.steps ∷ []) ++ pairs_of k (l.variables ∷ l.memory ∷ l.questions ∷ []))) e
