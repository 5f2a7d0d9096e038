-- What the fields of a piece say in the definition's terms: a stop, a line for each note, and a step whole. Assumes nothing.
use mathlib.Core.Path.{◌≡◌, refl, ap, subst}
use mathlib.Core.Bool.{Bool}
use mathlib.Core.List.{List, ◌++◌}
use Prim.Native.Nat.{ℕ, ◌^◌, ◌<◌}
use lib.ListN.{length}
use Rattle.layout.specs.Each.{Each}
use Rattle.layout.specs.Number.{le, number_at}
use Rattle.layout.specs.Format.{number, writes}
use Rattle.layout.proofs.FormatLaws.{Below, number_sound, counted_sound}
use Rattle.definition.specs.Act.{Step}
use Rattle.definition.specs.Statements.{Stop}
use Rattle.definition.specs.Fields.{flag_and_number}
use Rattle.definition.specs.Record.{stop_fields, stop_body, wrote_fields, note_fields, StepFields, step_fields}
use Rattle.stream.specs.declared.NotePiece.{NotePiece}
use Rattle.stream.specs.declared.NotePiece.TheVariants.{NotFollowed}
use Rattle.stream.specs.declared.StepPiece.{StepPiece}
use Rattle.stream.specs.Stream.{Sent}
use Rattle.stream.specs.Pieces.{taken_names, step_bytes, note_from, step_from}
use Rattle.stream.specs.Bodies.{stop_bytes}

-- ---- why a run stopped

pub stop_body_lem : (s : Stop) → stop_bytes (stop_fields s) ≡ stop_body s
unfolding stop_bytes stop_body
stop_body_lem s = refl

-- ---- one statement run

-- a step's fields are its piece's, where each part is
pub step_fields_lem : (p : StepPiece) (n : NotePiece) (names : List ℕ) (s : Step) → p.address ≡ s.address → p.block ≡ s.block → p.statement ≡ s.statement
    → p.wrote ≡ s.wrote → note_from n names ≡ note_fields s.note → step_from p n names ≡ step_fields s
unfolding step_from
step_fields_lem p n names s a b c d e = λ i. (flag_and_number (a i), (b i, (c i, (wrote_fields (d i), e i))))

-- so what a writer sent is the step
pub step_sent : {on : Bool} {out out' : List ℕ} {at r : ℕ} (p : StepPiece) (n : NotePiece) (names : List ℕ) (s : Step) → Sent on out at (step_bytes (step_from p n names)) out' r
    → p.address ≡ s.address → p.block ≡ s.block → p.statement ≡ s.statement → p.wrote ≡ s.wrote
    → note_from n names ≡ note_fields s.note → Sent on out at (step_bytes (step_fields s)) out' r
step_sent {on} {out} {out'} {at} {r} p n names s t a b c d e =
    subst (λ (f : StepFields). Sent on out at (step_bytes f) out' r) (step_fields_lem p n names s a b c d e) t

-- names written behind their count are the names taken
pub taken_back : (xs rest : List ℕ) → length xs < 256 ^ 2 → Each (Below 2) xs → taken_names NotFollowed (le 2 (length xs) ++ writes (number 2) xs ++ rest) ≡ xs
unfolding taken_names number_at
taken_back xs rest l h = ap (λ (p : List ℕ × List ℕ). p.0) ((counted_sound (number_sound 2) 2).back xs (l, h) rest)
