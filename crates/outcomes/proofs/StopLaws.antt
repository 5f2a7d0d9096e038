-- The pieces of a stop are the definition's fields. Assumes nothing.
use mathlib.Core.Path.{◌≡◌, refl, sym, ap, ◌∙◌}
use Rattle.std.specs.Prelude.{Option, None, Some}
use Prim.Native.Nat.{ℕ}
use native.Mathlib.Omega.{arith}
use Rattle.definition.specs.Fields.{no_val}
use Rattle.definition.specs.Statements as statements
use Rattle.definition.specs.Record.{stop_fields, unknown_fields}
use Rattle.stream.specs.declared.Kind.TheVariants as kind
use Rattle.stream.specs.declared.Reason.{Reason}
use Rattle.stream.specs.declared.Reason.TheVariants.{BranchUnknown, SwitchUnknown, NoCase, StructTo, UnknownAddress, UnknownValue, NoWidth, StoreTo, ByZero}
use Rattle.stream.specs.declared.StopPiece.{StopPiece}
use Rattle.stream.specs.Bodies.{why_of, stop_bytes, stop_from}
use Rattle.stream.proofs.FieldLaws.{stop_body_lem}
use Rattle.hosting.specs.declared.Short.TheVariants.{Full, Why}
use Rattle.hosting.specs.declared.Stop.{Stop}
use Rattle.hosting.specs.declared.Stop.TheVariants.{Returned, Steps, Unknown, NoBlock, NoBlocks, NoReturn, Halted}
use Rattle.hosting.specs.Ending.{ended, short}
use Rattle.hosting.specs.Walking.{stop_end}
use Rattle.outcomes.specs.Reasons.{stopping, unknown_piece}
use Rattle.outcomes.specs.Telling.{Tells}

-- ---- from the fields to the bytes

-- a piece that is the definition's stop s₀ tells a stop that reads so
tells_as : {limit : ℕ} {stop stop' : Stop} {p q : StopPiece} (s₀ : statements.Stop) → stop ≡ stop' → p ≡ q → stop_end limit stop' ≡ ended s₀ → stop_from q ≡ stop_fields s₀ → Tells limit stop p
tells_as {limit} {p = p} {q = q} s₀ e ep d f = record {
  bytes = λ s h.
      let same : s₀ ≡ s = inner (sym d ∙ ap (stop_end limit) (sym e) ∙ h) in
      ap (λ (x : StopPiece). stop_bytes (stop_from x)) ep ∙ ap stop_bytes (f ∙ ap stop_fields same) ∙ stop_body_lem s;
}
  where
    inner : {a b : statements.Stop} → ended a ≡ ended b → a ≡ b
    inner h = cc

-- the piece of a stop, by the stop
abbrev pub piece_by : ℕ → Stop → StopPiece
piece_by limit (Returned None) = stopping kind.ReturnedNothing None 0 no_val
piece_by limit (Returned (Some v)) = stopping kind.Returned None 0 v
piece_by limit Steps = stopping kind.Steps None limit no_val
piece_by limit (Unknown m s) = unknown_piece m s
piece_by limit (NoBlock b) = stopping kind.NoBlock None b no_val
piece_by limit NoBlocks = stopping kind.NoBlocks None 0 no_val
piece_by limit (NoReturn m) = stopping kind.NoReturn m 0 no_val
piece_by limit (Halted m t) = stopping kind.Halted m t no_val

-- ---- the reasons

reason_fields : (m : Option ℕ) (r : Reason) (n : ℕ) → stop_from (unknown_piece m (Why r n)) ≡ unknown_fields m (why_of r n)
unfolding stop_from
reason_fields m BranchUnknown n = refl
reason_fields m SwitchUnknown n = refl
reason_fields m NoCase n = refl
reason_fields m StructTo n = refl
reason_fields m UnknownAddress n = refl
reason_fields m UnknownValue n = refl
reason_fields m NoWidth n = refl
reason_fields m StoreTo n = refl
reason_fields m ByZero n = refl

-- for want of room a run has no stop
no_end : {s : statements.Stop} → short None ≡ ended s → ⊥
no_end h = let z : ◌≡◌ {A = ℕ} 0 1 = cc in omega arith

by_stop : (limit : ℕ) (stop : Stop) {p : StopPiece} → p ≡ piece_by limit stop → Tells limit stop p
unfolding stop_from
by_stop limit (Returned None) e = tells_as (statements.Returned None) refl e refl refl
by_stop limit (Returned (Some v)) e = tells_as (statements.Returned (Some v)) refl e refl refl
by_stop limit Steps e = tells_as (statements.Steps limit) refl e refl refl
by_stop limit (Unknown m Full) e = record { bytes = λ s d. absurd (no_end d) }
by_stop limit (Unknown m (Why r n)) e = tells_as (statements.Unknown m (why_of r n)) refl e refl (reason_fields m r n)
by_stop limit (NoBlock b) e = tells_as (statements.NoBlock b) refl e refl refl
by_stop limit NoBlocks e = tells_as statements.NoBlocks refl e refl refl
by_stop limit (NoReturn m) e = tells_as (statements.NoReturn m) refl e refl refl
by_stop limit (Halted m t) e = tells_as (statements.Halted m t) refl e refl refl

-- a piece of the stop that was found
pub tells_stop : {limit : ℕ} {stop : Stop} {p : StopPiece} → p ≡ piece_by limit stop → Tells limit stop p
tells_stop {limit} {stop} e = by_stop limit stop e
