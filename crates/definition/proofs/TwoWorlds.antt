-- Demand 3: the records of two accepted runs are equal just where the second world gives what the first record says (`two_worlds`). Assumes nothing.
use mathlib.Core.Path.{◌≡◌, sym, ap, ◌∙◌, subst}
use mathlib.Core.Logic.{◌↔◌}
use mathlib.Core.List.{List, [], ◌∷◌, map}
use Prim.Native.Nat.{ℕ, ◌^◌, ◌<◌}
use native.Mathlib.Omega.{arith}
use lib.ListN.{length}
use Rattle.layout.specs.Each.{Each}
use Rattle.layout.specs.Format.{writes, whole}
use Rattle.layout.proofs.FormatLaws.{whole_back}
use Rattle.files.specs.Call.{Limits, limits_of}
use Rattle.files.specs.Program.{Program, program_of}
use Rattle.definition.specs.Question.{Asked, Question, World, Entry, cut}
use Rattle.definition.specs.State.{Out, run}
use Rattle.definition.specs.Fields.{Written, written, fields_of, entry}
use Rattle.definition.specs.Statements.{Stop}
use Rattle.definition.specs.World.{world_of}
use Rattle.definition.specs.Record.{Ran, bodies_before, questions_body, record_bytes, questions_in}
use Rattle.definition.specs.Run.{acts, start, ran_of, ran_in, ran, record_of}
use Rattle.definition.specs.TwoWorlds.{Gives, TwoWorlds}
use Rattle.definition.proofs.Follow.{Answers, asked_all, honest, follows}
use Rattle.definition.proofs.Fields.{AnswerFits, WrittenFits, fields_fit, fields_tell, entry_sound, entry_some, cut_fits}
use Rattle.definition.proofs.Record.{body_back}
use Rattle.definition.proofs.World.{world_fits}
use Rattle.definition.proofs.Verdict.{accepted_run}

-- ---- what is read in a record is what was asked

-- what holds of each entry as it is written, holds of each that is written
each_written : (P : Written → Type 0) (es : List Entry) → Each (λ e. P (written e)) es → Each P (map written es)
each_written P [] h = tt
each_written P (e ∷ es) h = (h.0, each_written P es h.1)

-- a world answers as the entry says just where it gives the fields that are written
gives : (v : World) (es : List Entry) → Each (Answers v) es → Each (Gives v) (map written es)
gives v [] h = tt
gives v (e ∷ es) h = (ap (fields_of e.0) h.0, gives v es h.1)

answers : (v : World) (es : List Entry) → Each (Gives v) (map written es) → Each (Answers v) es
answers v [] h = tt
answers v (e ∷ es) h = (fields_tell e.0 (v e.0 e.1.0) e.1.1 h.0, answers v es h.1)

-- a world whose answers fit their fields
abbrev pub Fair : World → Type 0
Fair w = (κ : Asked) (q : Question κ) → AnswerFits κ (w κ (cut κ q))

-- the questions that the sixth pair of a record locates are those that it was made of
pub questions_back : (r : Ran) → Each (λ e. WrittenFits (written e)) r.questions → length (record_bytes r) < 256 ^ 4
    → questions_in (record_bytes r) ≡ map written r.questions
unfolding record_bytes questions_in questions_body
questions_back r f h =
    ap (λ (l : List ℕ). whole entry l) (body_back (bodies_before r) (writes entry (map written r.questions)) [] h)
    ∙ whole_back entry_sound entry_some (map written r.questions) (each_written WrittenFits r.questions f)

-- ---- any two worlds, of files or not

module _ (P : Program) (l : Limits) where
  read_back : (w : World) → Fair w → length (record_bytes (ran_in w P l)) < 256 ^ 4
      → questions_in (record_bytes (ran_in w P l)) ≡ map written (run w (acts P l) (start P l)).log
  unfolding ran_in ran_of
  read_back w fair h =
      questions_back (ran_in w P l)
      (asked_all w (λ e. WrittenFits (written e)) (λ κ q. (tt, (cut_fits κ q, fields_fit κ (w κ (cut κ q)) (fair κ q)))) (acts P l) (start P l)) h

  pub two_worlds_any : (w v : World) → Fair w → Fair v → length (record_bytes (ran_in w P l)) < 256 ^ 4
      → (record_bytes (ran_in w P l) ≡ record_bytes (ran_in v P l)) ↔ Each (Gives v) (questions_in (record_bytes (ran_in w P l)))
  unfolding ran_in
  two_worlds_any w v fw fv h = (
    (λ e. subst (Each (Gives v))
        (sym (read_back v fv (subst (λ (r : List ℕ). length r < 256 ^ 4) e h)) ∙ ap questions_in (sym e))
        (gives v (run v (acts P l) (start P l)).log (honest v (acts P l) (start P l)))),
    (λ g. ap (λ (o : Out Stop). record_bytes (ran_of P o))
        (sym (follows w v (acts P l) (start P l) (answers v (run w (acts P l) (start P l)).log (subst (Each (Gives v)) (read_back w fw h) g))))),
  )

-- ---- two accepted runs

pub two_worlds : TwoWorlds
unfolding record_of ran
two_worlds routine call world₁ world₂ buffer workspace a₁ a₂ =
    two_worlds_any (program_of routine) (limits_of call) (world_of routine world₁) (world_of routine world₂) (world_fits routine world₁) (world_fits routine world₂)
    (omega (arith, (accepted_run routine world₁ call buffer workspace a₁).state.in_length))
