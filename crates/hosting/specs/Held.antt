-- The host that the code is: what the lent bytes stand for, and what each operation does to that. Variables, memory and the pending note are the
-- definition's own; what is written to a stream goes in where it fits. Assumes nothing.
use Rattle.std.specs.Prelude.{Bool, true, false, not, List, ℕ, zero, suc, length}
use Rattle.memory.specs.Overlay.{Overlay, Cell, find, store}
use Rattle.definition.specs.Question.{World, Entry, cut}
use Rattle.definition.specs.Act.{Step, Op, peek_op, poke_op, get_op, set_op, pending_op, leave_op, spend_op, emit_op, Reply}
use Rattle.definition.specs.State.{some?}
use Rattle.definition.specs.Record.{step_fields}
use Rattle.definition.specs.Host.{Host}
use Rattle.workspace.specs.Parts.{questions_part}
use Rattle.workspace.specs.View.{View, view, setting, leaving}
use Rattle.stream.specs.Stream.{placed, advanced}
use Rattle.stream.specs.Pieces.{question_bytes, step_bytes}
use Rattle.hosting.specs.declared.Tally.{Tally}
use Rattle.hosting.specs.declared.Counts.{Counts}

-- the view and the part of the record that is being written, the questions beside the tables, and the counts
pub record Held : Type 0 where
  pub view : View
  pub out : List ℕ
  pub questions : List ℕ
  pub tally : Tally

unfoldable pub held : List ℕ → List ℕ → Counts → Held
held w o a = record { view = view w a.stored; out = o; questions = questions_part w; tally = a.tally }

-- ---- counts: with another cursor of the questions or of the steps, with another number of entries, after a step of n bytes, after a unit is paid

abbrev pub asked_tally : ℕ → Tally → Tally
asked_tally cursor t = record { recorded = t.recorded; asked = cursor; left = t.left; entered = t.entered; steps = t.steps }

abbrev pub with_asked : ℕ → Counts → Counts
with_asked cursor a = record { stored = a.stored; tally = asked_tally cursor a.tally }

abbrev pub recorded_tally : ℕ → Tally → Tally
recorded_tally cursor t = record { recorded = cursor; asked = t.asked; left = t.left; entered = t.entered; steps = t.steps }

abbrev pub with_recorded : ℕ → Counts → Counts
with_recorded cursor a = record { stored = a.stored; tally = recorded_tally cursor a.tally }

abbrev pub with_stored : ℕ → Counts → Counts
with_stored n a = record { stored = n; tally = a.tally }

abbrev pub step_tally : Tally → ℕ → Tally
step_tally t n = recorded_tally (advanced t.recorded n) t

abbrev pub paid_tally : (left : ℕ) → (block : Bool) → Tally → Tally
paid_tally zero b t = t
paid_tally (suc n) true t = record { recorded = t.recorded; asked = t.asked; left = n; entered = suc t.entered; steps = t.steps }
paid_tally (suc n) false t = record { recorded = t.recorded; asked = t.asked; left = n; entered = t.entered; steps = suc t.steps }

-- ---- the streams: in the first pass the steps are written, and the questions kept beside the tables; in the second the questions are written

unfoldable pub asked : Bool → Entry → Held → Held
asked second e s = record {
  view = s.view;
  out = placed second s.out s.tally.asked (question_bytes e);
  questions = placed (not second) s.questions s.tally.asked (question_bytes e);
  tally = asked_tally (advanced s.tally.asked (length (question_bytes e))) s.tally;
}

unfoldable pub emitted : Bool → Step → Held → Held
emitted second e s = record {
  view = s.view;
  out = placed (not second) s.out s.tally.recorded (step_bytes (step_fields e));
  questions = s.questions;
  tally = step_tally s.tally (length (step_bytes (step_fields e)));
}

-- ---- the operations

abbrev pub with_view : View → Held → Held
with_view v s = record { view = v; out = s.out; questions = s.questions; tally = s.tally }

abbrev pub with_memory : Overlay Cell → View → View
with_memory m v = record { variables = v.variables; memory = m; pending = v.pending }

abbrev pub reply_of : Held → (o : Op) → Reply o
reply_of s (peek_op a) = find a s.view.memory
reply_of s (poke_op a c) = tt
reply_of s (get_op x) = find x s.view.variables
reply_of s (set_op x v) = tt
reply_of s pending_op = s.view.pending
reply_of s (leave_op p) = tt
reply_of s (spend_op b) = some? s.tally.left
reply_of s (emit_op e) = tt

abbrev pub next_of : Bool → Held → Op → Held
next_of second s (peek_op a) = s
next_of second s (poke_op a c) = with_view (with_memory (store a c s.view.memory) s.view) s
next_of second s (get_op x) = s
next_of second s (set_op x v) = with_view (setting x v s.view) s
next_of second s pending_op = s
next_of second s (leave_op p) = with_view (leaving p s.view) s
next_of second s (spend_op b) = record { view = s.view; out = s.out; questions = s.questions; tally = paid_tally s.tally.left b s.tally }
next_of second s (emit_op e) = emitted second e s

unfoldable pub code_host : World → Bool → Host Held
code_host w second = record {
  answer = λ s κ q. w κ (cut κ q);
  asking = λ s κ q. asked second (κ, (cut κ q, w κ (cut κ q))) s;
  reply = reply_of;
  next = next_of second;
}
