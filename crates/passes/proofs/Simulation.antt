-- The code's host simulates the definition's: what the lent bytes stand for is the definition's state, and the stream that is on holds what was recorded,
-- or asked, so far. Assumes nothing.
use mathlib.Core.Path.{◌≡◌, refl, sym, ap, subst, ◌∙◌}
use mathlib.Core.Bool.{Bool, true, false}
use mathlib.Core.List.{List, [], ◌∷◌, ◌++◌}
use Prim.Native.Nat.{ℕ, zero, suc, ◌<◌}
use native.Mathlib.Omega.{arith}
use lib.ListN.{length}
use Rattle.value.specs.declared.Val.{Val}
use Rattle.memory.specs.Overlay.{Overlay, find, store}
use Rattle.definition.specs.Question.{World, Entry, cut}
use Rattle.definition.specs.Act.{Act, Op, peek_op, poke_op, get_op, set_op, pending_op, leave_op, spend_op, emit_op, Step, End}
use Rattle.definition.specs.State.{Budget, fresh, paid, some?, run}
use Rattle.definition.specs.Fields.{entry, written}
use Rattle.definition.specs.Record.{step_fields, step_format, steps_body, questions_body}
use Rattle.definition.specs.Host.{hosted, Logged, definition_host, Simulates}
use Rattle.definition.proofs.Hosts.{run_hosted, Alike, simulated}
use Rattle.stream.specs.Stream.{placed, advanced, most, Counted, Streamed}
use Rattle.stream.specs.Pieces.{question_bytes, step_bytes}
use Rattle.stream.proofs.StreamLaws.{placed_off, length_placed, counted_start, counted_more, streamed_start, streamed_more, writes_more}
use Rattle.hosting.specs.declared.Tally.{Tally}
use Rattle.hosting.specs.Held.{Held, asked, emitted, paid_tally, reply_of, next_of, code_host}
use Rattle.hosting.specs.Setting.{fresh_view}
use Rattle.passes.specs.Passing.{none_yet, cursor_in, either_of, BesideIf}

-- ---- one more entry in a body

steps_more : (ss : List Step) (t : Step) → steps_body (ss ++ (t ∷ [])) ≡ steps_body ss ++ step_bytes (step_fields t)
unfolding steps_body step_bytes
steps_more ss t = writes_more step_format step_fields ss t

questions_more : (es : List Entry) (e : Entry) → questions_body (es ++ (e ∷ [])) ≡ questions_body es ++ question_bytes e
unfolding questions_body question_bytes
questions_more es e = writes_more entry written es e

-- ---- the units

pub record LikeUnits (t : Tally) (g : Budget) : Type 0 where
  pub left : t.left ≡ g.left
  pub entered : t.entered ≡ g.entered
  pub steps : t.steps ≡ g.recorded

paid_units : (n m : ℕ) (b : Bool) (t : Tally) (g : Budget) → n ≡ m → LikeUnits t g → LikeUnits (paid_tally n b t) (paid m b g)
paid_units zero zero b t g e l = l
paid_units zero (suc m) b t g e l = absurd (omega (arith, e))
paid_units (suc n) zero b t g e l = absurd (omega (arith, e))
paid_units (suc n) (suc m) true t g e l = record { left = omega (arith, e); entered = ap suc l.entered; steps = l.steps }
paid_units (suc n) (suc m) false t g e l = record { left = omega (arith, e); entered = l.entered; steps = ap suc l.steps }

paid_recorded : (n : ℕ) (b : Bool) (t : Tally) → (paid_tally n b t).recorded ≡ t.recorded
paid_recorded zero b t = refl
paid_recorded (suc n) true t = refl
paid_recorded (suc n) false t = refl

paid_asked : (n : ℕ) (b : Bool) (t : Tally) → (paid_tally n b t).asked ≡ t.asked
paid_asked zero b t = refl
paid_asked (suc n) true t = refl
paid_asked (suc n) false t = refl

paid_cursor : (second : Bool) (n : ℕ) (b : Bool) (t : Tally) → cursor_in second (paid_tally n b t) ≡ cursor_in second t
paid_cursor true n b t = paid_asked n b t
paid_cursor false n b t = paid_recorded n b t

-- ---- the states

abbrev sent : Bool → Logged → List ℕ
sent second r = either_of second (steps_body r.0.steps) (questions_body r.1)

pub record Like (second : Bool) (old : List ℕ) (s : Held) (r : Logged) : Type 0 where
  pub variables : s.view.variables ≡ r.0.variables
  pub memory : s.view.memory ≡ r.0.memory
  pub pending : s.view.pending ≡ r.0.pending
  pub units : LikeUnits s.tally r.0.budget
  pub recorded : Counted s.tally.recorded (steps_body r.0.steps)
  pub asked : Counted s.tally.asked (questions_body r.1)
  pub part : Streamed old s.out (cursor_in second s.tally) (sent second r)
  pub beside : BesideIf second s.questions s.tally.asked (questions_body r.1)

-- ---- a question, and a step

asked_part : (second : Bool) (old : List ℕ) (e : Entry) (s : Held) (r : Logged) → Like second old s r
    → Streamed old (asked second e s).out (cursor_in second (asked second e s).tally) (sent second (r.0, r.1 ++ (e ∷ [])))
unfolding asked
asked_part true old e s r p =
    subst (Streamed old (placed true s.out s.tally.asked (question_bytes e)) (advanced s.tally.asked (length (question_bytes e)))) (sym (questions_more r.1 e))
    (streamed_more (question_bytes e) p.part)
asked_part false old e s r p =
    subst (λ (o : List ℕ). Streamed old o s.tally.recorded (steps_body r.0.steps)) (sym (placed_off s.out s.tally.asked (question_bytes e))) p.part

asked_beside : (second : Bool) (old : List ℕ) (e : Entry) (s : Held) (r : Logged) → Like second old s r
    → BesideIf second (asked second e s).questions (asked second e s).tally.asked (questions_body (r.1 ++ (e ∷ [])))
unfolding asked
asked_beside true old e s r p = tt
asked_beside false old e s r p =
    let b = p.beside in
    record {
      before = b.before;
      size = length_placed true s.questions s.tally.asked (question_bytes e) ∙ b.size;
      streamed = subst (Streamed b.before (placed true s.questions s.tally.asked (question_bytes e)) (advanced s.tally.asked (length (question_bytes e)))) (sym (questions_more r.1 e))
          (streamed_more (question_bytes e) b.streamed);
    }

emitted_part : (second : Bool) (old : List ℕ) (e : Step) (s : Held) (r : Logged) → Like second old s r
    → Streamed old (emitted second e s).out (cursor_in second (emitted second e s).tally) (either_of second (steps_body (r.0.steps ++ (e ∷ []))) (questions_body r.1))
unfolding emitted
emitted_part true old e s r p =
    subst (λ (o : List ℕ). Streamed old o s.tally.asked (questions_body r.1)) (sym (placed_off s.out s.tally.recorded (step_bytes (step_fields e)))) p.part
emitted_part false old e s r p =
    subst (Streamed old (placed true s.out s.tally.recorded (step_bytes (step_fields e))) (advanced s.tally.recorded (length (step_bytes (step_fields e))))) (sym (steps_more r.0.steps e))
    (streamed_more (step_bytes (step_fields e)) p.part)

module _ (second : Bool) (old : List ℕ) where
  asked_like : (e : Entry) (s : Held) (r : Logged) → Like second old s r → Like second old (asked second e s) (r.0, r.1 ++ (e ∷ []))
  unfolding asked
  asked_like e s r p = record {
    variables = p.variables;
    memory = p.memory;
    pending = p.pending;
    units = record { left = p.units.left; entered = p.units.entered; steps = p.units.steps };
    recorded = p.recorded;
    asked = subst (Counted (advanced s.tally.asked (length (question_bytes e)))) (sym (questions_more r.1 e)) (counted_more (question_bytes e) p.asked);
    part = asked_part second old e s r p;
    beside = asked_beside second old e s r p;
  }

  replies : (s : Held) (r : Logged) → Like second old s r → (w : World) (o : Op) → reply_of s o ≡ (definition_host w).reply r o
  unfolding definition_host
  replies s r p w (peek_op a) = ap (find a) p.memory
  replies s r p w (poke_op a c) = refl
  replies s r p w (get_op x) = ap (find x) p.variables
  replies s r p w (set_op x v) = refl
  replies s r p w pending_op = p.pending
  replies s r p w (leave_op q) = refl
  replies s r p w (spend_op b) = ap some? p.units.left
  replies s r p w (emit_op e) = refl

  nexts : (s : Held) (r : Logged) → Like second old s r → (w : World) (o : Op) → Like second old (next_of second s o) ((definition_host w).next r o)
  unfolding definition_host emitted
  nexts s r p w (peek_op a) = record { variables = p.variables; memory = p.memory; pending = p.pending; units = p.units; recorded = p.recorded; asked = p.asked; part = p.part; beside = p.beside }
  nexts s r p w (poke_op a c) = record { variables = p.variables; memory = ap (store a c) p.memory; pending = p.pending; units = p.units; recorded = p.recorded; asked = p.asked; part = p.part; beside = p.beside }
  nexts s r p w (get_op x) = record { variables = p.variables; memory = p.memory; pending = p.pending; units = p.units; recorded = p.recorded; asked = p.asked; part = p.part; beside = p.beside }
  nexts s r p w (set_op x v) = record { variables = ap (store x v) p.variables; memory = p.memory; pending = p.pending; units = p.units; recorded = p.recorded; asked = p.asked; part = p.part; beside = p.beside }
  nexts s r p w pending_op = record { variables = p.variables; memory = p.memory; pending = p.pending; units = p.units; recorded = p.recorded; asked = p.asked; part = p.part; beside = p.beside }
  nexts s r p w (leave_op q) = record { variables = p.variables; memory = p.memory; pending = refl; units = p.units; recorded = p.recorded; asked = p.asked; part = p.part; beside = p.beside }
  nexts s r p w (spend_op b) =
      let n = s.tally.left in
      record {
        variables = p.variables;
        memory = p.memory;
        pending = p.pending;
        units = paid_units n r.0.budget.left b s.tally r.0.budget p.units.left p.units;
        recorded = subst (λ (k : ℕ). Counted k (steps_body r.0.steps)) (sym (paid_recorded n b s.tally)) p.recorded;
        asked = subst (λ (k : ℕ). Counted k (questions_body r.1)) (sym (paid_asked n b s.tally)) p.asked;
        part = subst (λ (k : ℕ). Streamed old s.out k (sent second r)) (sym (paid_cursor second n b s.tally)) p.part;
        beside = subst (λ (k : ℕ). BesideIf second s.questions k (questions_body r.1)) (sym (paid_asked n b s.tally)) p.beside;
      }
  nexts s r p w (emit_op e) = record {
    variables = p.variables;
    memory = p.memory;
    pending = p.pending;
    units = record { left = p.units.left; entered = p.units.entered; steps = p.units.steps };
    recorded = subst (Counted (advanced s.tally.recorded (length (step_bytes (step_fields e))))) (sym (steps_more r.0.steps e)) (counted_more (step_bytes (step_fields e)) p.recorded);
    asked = p.asked;
    part = emitted_part second old e s r p;
    beside = p.beside;
  }

  pub simulates : (w : World) → Simulates (code_host w second) (definition_host w) (Like second old)
  unfolding code_host definition_host
  simulates w = record {
    answer = λ s r p κ q. refl;
    asking = λ s r p κ q. asked_like (κ, (cut κ q, w κ (cut κ q))) s r p;
    reply = λ s r p o. replies s r p w o;
    next = λ s r p o. nexts s r p w o;
  }

  -- ---- a run from the start

  start_part : (b : Bool) → length old < most → (limit : ℕ) (vs : Overlay Val) → Streamed old old (cursor_in b (none_yet limit)) (sent b (fresh limit vs, []))
  unfolding steps_body questions_body
  start_part true h limit vs = streamed_start old h
  start_part false h limit vs = streamed_start old h

  start_beside : (b : Bool) (q : List ℕ) → length q < most → BesideIf b q 0 []
  start_beside true q h = tt
  start_beside false q h = record { before = q; size = refl; streamed = streamed_start q h }

  start_like : (limit : ℕ) (vs : Overlay Val) (s : Held) → length old < most → length s.questions < most → s.view ≡ fresh_view vs → s.out ≡ old → s.tally ≡ none_yet limit → Like second old s (fresh limit vs, [])
  unfolding steps_body questions_body
  start_like limit vs s h k v o t = record {
    variables = ap (λ x. x.variables) v;
    memory = ap (λ x. x.memory) v;
    pending = ap (λ x. x.pending) v;
    units = record { left = ap (λ (x : Tally). x.left) t; entered = ap (λ (x : Tally). x.entered) t; steps = ap (λ (x : Tally). x.steps) t };
    recorded = subst (λ (x : Tally). Counted x.recorded []) (sym t) counted_start;
    asked = subst (λ (x : Tally). Counted x.asked []) (sym t) counted_start;
    part = rw (o, t) (start_part second h limit vs);
    beside = subst (λ (x : Tally). BesideIf second s.questions x.asked []) (sym t) (start_beside second s.questions k);
  }

  -- the run on the code's host ends as the definition's, and what is held then stands for the definition's state
  pub ends_alike : {A : Type 0} (w : World) (m : Act A) (limit : ℕ) (vs : Overlay Val) (s : Held) → length old < most → length s.questions < most → s.view ≡ fresh_view vs → s.out ≡ old → s.tally ≡ none_yet limit
      → let o = run w m (fresh limit vs) in Alike (Like second old) (hosted (code_host w second) m s) (o.end, (o.after, o.log))
  ends_alike {A} w m limit vs s h k v o t =
      subst (λ (y : End A × Logged). Alike (Like second old) (hosted (code_host w second) m s) y) (run_hosted w m (fresh limit vs) [])
      (simulated (simulates w) m s (fresh limit vs, []) (start_like limit vs s h k v o t))
