-- What one unit of the walk buys: a block is entered, which records no step, or a statement is run, which records one. Neither ends short, takes another
-- unit, or stops the run for want of units. Assumes nothing.
use mathlib.Core.Path.{◌≡◌, refl, ◌∙◌}
use mathlib.Core.Bool.{Bool, true, false}
use mathlib.Core.List.{List, [], ◌∷◌}
use Rattle.std.specs.Prelude.{Option, None, Some, slice_get}
use Prim.Native.Nat.{ℕ, suc, ◌+◌}
use native.Mathlib.Omega.{arith}
use lib.ListN.{length, length-append}
use lib.Dec.{ltb}
use Rattle.value.specs.declared.Val.{Val}
use Rattle.layout.specs.Text.{text}
use Rattle.files.specs.Program.{Statement, Case, case_of, Terminator, returns, goto, branch, switch, Block, Program, Tree}
use Rattle.files.specs.declared.kinds.Kind.TheVariants.{Return}
use Rattle.definition.specs.Question.{World, Entry}
use Rattle.definition.specs.Act.{Op, peek_op, poke_op, get_op, set_op, pending_op, leave_op, spend_op, emit_op, Act, done, pending, emit, End, gave, stopped, try, ◌>>=◌, Why, Step, Pending}
use Rattle.definition.specs.State.{State, next, leaving, run}
use Rattle.definition.specs.Term.{Term, Terms, is}
use Rattle.definition.specs.Evaluate.{Env, number_in, look}
use Rattle.definition.specs.Statements.{Stop, Returned, Steps, Unknown, NoBlock, NoBlocks, NoReturn, Halted, Outcome, note_of, outcome_of, returning, is_named, is_halted, outcome, run_statement}
use Rattle.definition.specs.Walk.{Place, before, within, Next, stops, goes, extended, left_to, address_or, taking, choosing, terminate, settle, onward, unit}
use Rattle.definition.proofs.Follow.{go_on, run_bind}
use Rattle.definition.proofs.Every.{Any, Never, EndIs, Every, every_bind, every_done, every_act, every_if, every_try, every_end, every_keeps, every_more}
use Rattle.definition.proofs.Evaluation.{Inner, Quiet, q_done, q_fail, q_if, q_option, q_bind, QuietTerm, QuietTerms, quiet_none, quiet_more, q_eval, q_kids, q_look, q_execute}

-- ---- stops that are a unit's own

abbrev pub Own : Stop → Type 0
Own (Returned v) = Unit
Own (Steps limit) = ⊥
Own (Unknown at x) = Unit
Own (NoBlock b) = Unit
Own NoBlocks = Unit
Own (NoReturn at) = Unit
Own (Halted at target) = Unit

abbrev pub OwnStop : Option Stop → Type 0
OwnStop None = Unit
OwnStop (Some s) = Own s

abbrev pub OwnNext : Next → Type 0
OwnNext (stops s) = Own s
OwnNext (goes p) = Unit

-- every operation but taking a unit
abbrev pub Unpaid : Op → Type 0
Unpaid (peek_op a) = Unit
Unpaid (poke_op a c) = Unit
Unpaid (get_op x) = Unit
Unpaid (set_op x v) = Unit
Unpaid pending_op = Unit
Unpaid (leave_op p) = Unit
Unpaid (spend_op b) = ⊥
Unpaid (emit_op e) = Unit

unpaid : (o : Op) → Inner o → Unpaid o
unpaid (peek_op a) h = tt
unpaid (poke_op a c) h = tt
unpaid (get_op x) h = tt
unpaid (set_op x v) h = tt
unpaid pending_op h = tt
unpaid (leave_op p) h = tt
unpaid (spend_op b) h = h
unpaid (emit_op e) h = tt

-- so many steps more, and the budget as it was
pub record Records (n : ℕ) (s s' : State) : Type 0 where
  pub budget : s'.budget ≡ s.budget
  pub steps : length s'.steps ≡ n + length s.steps

records_more : {m n : ℕ} {s s' s'' : State} → Records m s s' → Records n s' s'' → Records (n + m) s s''
records_more p q = record { budget = q.budget ∙ p.budget; steps = omega (arith, p.steps, q.steps) }

inner_records : (s : State) (o : Op) → Inner o → (s' : State) → Records 0 s s' → Records 0 s (next o s')
inner_records s (peek_op a) h s' p = p
inner_records s (poke_op a c) h s' p = record { budget = p.budget; steps = p.steps }
inner_records s (get_op x) h s' p = p
inner_records s (set_op x v) h s' p = record { budget = p.budget; steps = p.steps }
inner_records s pending_op h s' p = p
inner_records s (leave_op n) h s' p = record { budget = p.budget; steps = p.steps }
inner_records s (spend_op b) h s' p = absurd h
inner_records s (emit_op e) h s' p = absurd h

module _ {A : Type 0} {F : Why → Type 0} {Q : A → Type 0} (w : World) where
  -- an evaluation records nothing
  pub quiet_records : {t : Act A} → Every Inner F Q t → (s : State) → Records 0 s (run w t s).after
  quiet_records p s = every_keeps Inner w (Records 0 s) (inner_records s) s p (record { budget = refl; steps = omega arith })

-- ---- what a unit is

-- how many steps a unit records: it enters a block (true), or runs a statement
abbrev pub steps_of : Bool → ℕ
steps_of true = 0
steps_of false = 1

pub record UnitOf (u : Bool × Act Next) : Type 0 where
  pub own : Every Unpaid Never OwnNext u.1
  pub records : (w : World) (σ : State) → Records (steps_of u.0) σ (run w u.1 σ).after

abbrev pub UnitIs : Option (Bool × Act Next) → Type 0
UnitIs None = Unit
UnitIs (Some u) = UnitOf u

module _ (E : Env) (quiet : (name address : ℕ) (vs : List Val) → Quiet (E.follow name address vs)) where
  -- ---- terminators

  q_taking : (root : Tree) (taken next : ℕ) → Quiet (taking E root taken next)
  unfolding taking
  q_taking root taken next = q_bind (q_eval (q_look E quiet root)) (λ v. q_option (number_in v) q_fail (λ n. q_done))

  q_choosing : (root : Tree) (cs : List Case) → Quiet (choosing E root cs)
  unfolding choosing
  q_choosing root cs = q_bind (q_eval (q_look E quiet root)) (λ v. q_if v.known (q_option (case_of cs (extended v)) q_fail (λ b. q_done)) q_fail)

  own_left : (at : Option ℕ) (e : End ℕ) → OwnNext (left_to at e)
  own_left at (gave b) = tt
  own_left at (stopped x) = tt

  terminate_own : (ss : List Statement) (t : Terminator) → Every Inner Never OwnNext (terminate E ss t)
  unfolding terminate
  terminate_own ss returns = every_done Inner tt
  terminate_own ss (goto b) = every_done Inner tt
  terminate_own ss (branch at root taken next) =
      every_bind Inner (every_try Inner (q_taking root taken next)) (λ e _. every_done Inner (own_left (address_or at ss) e))
  terminate_own ss (switch at root cs) = every_bind Inner (every_try Inner (q_choosing root cs)) (λ e _. every_done Inner (own_left (address_or at ss) e))

  settle_own : (b : ℕ) (block : Block) (k : ℕ) → Every Inner Never OwnNext (settle E b block k)
  unfolding settle
  settle_own b block k = every_if Inner (ltb k (length block.statements)) (every_done Inner tt) (terminate_own block.statements block.terminator)

  onward_own : (b : ℕ) (block : Block) (k : ℕ) (o : Option Stop) → OwnStop o → Every Inner Never OwnNext (onward E b block k o)
  onward_own b block k None h = settle_own b block (suc k)
  onward_own b block k (Some s) h = every_done Inner h

  module _ (P : Program) where
    -- ---- statements

    returning_own : {ts : Terms} → QuietTerms ts → Every Inner Any (λ o. OwnStop o.1) (returning P ts)
    unfolding returning
    returning_own quiet_none = every_done Inner tt
    returning_own (quiet_more t ts) = every_bind Inner (q_eval t) (λ v _. every_done Inner tt)

    outcome_own : (at : Option ℕ) {t : Term} → QuietTerm t → Every Inner Any (λ o. OwnStop o.1) (outcome P E at t)
    unfolding outcome
    outcome_own at {t} p =
        every_if Inner (is Return t) (returning_own (q_kids p))
        (every_if Inner (is_named P t (text "__builtin_unreachable")) (every_done Inner tt)
        (every_if Inner (is_halted P t) (every_done Inner tt) (every_bind Inner (q_execute E quiet p) (λ d _. every_done Inner tt))))

    own_outcome : (at : Option ℕ) (e : End Outcome) → EndIs Any (λ o. OwnStop o.1) e → OwnStop (outcome_of at e).1
    own_outcome at (gave o) h = h
    own_outcome at (stopped x) h = tt

    module _ (b : ℕ) (s : Statement) where
      caught : Every Inner Never (EndIs Any (λ o. OwnStop o.1)) (try (outcome P E s.address (look E s.root)))
      caught = every_try Inner (outcome_own s.address (q_look E quiet s.root))

      pub statement_own : Every Unpaid Never OwnStop (run_statement P E b s)
      unfolding run_statement ◌>>=◌
      statement_own =
          every_act Unpaid tt (λ _. every_bind Unpaid (every_more unpaid caught)
          (λ e h. every_act Unpaid tt (λ p. every_act Unpaid tt (λ _. every_done Unpaid (own_outcome s.address e h)))))

      -- its step, which comes after its outcome
      abbrev step_of : End Outcome → Pending → Step
      step_of e p =
          let o = outcome_of s.address e in
          record { address = s.address; block = b; statement = s.statement; wrote = o.0.wrote; note = note_of o.0.note p }

      abbrev recording : End Outcome → Act (Option Stop)
      recording e = pending (λ p. emit (step_of e p) (done (outcome_of s.address e).1))

      pub statement_records : (w : World) (σ : State) → Records 1 σ (run w (run_statement P E b s) σ).after
      unfolding run_statement ◌>>=◌ run
      statement_records w σ =
          let r = run w (try (outcome P E s.address (look E s.root))) (leaving None σ) in
          rw (run_bind w recording (try (outcome P E s.address (look E s.root))) (leaving None σ)) (emitted r.end r.log r.after (every_end Inner w (leaving None σ) caught) (quiet_records w caught (leaving None σ)))
        where
          emitted : (e : End (End Outcome)) (l : List Entry) (σ' : State) → EndIs Never (EndIs Any (λ o. OwnStop o.1)) e
              → Records 0 (leaving None σ) σ' → Records 1 σ (go_on e l σ' (λ a σ''. run w (recording a) σ'')).after
          emitted (gave a) l σ' h p = record { budget = p.budget; steps = omega (arith, length-append σ'.steps (step_of a σ'.pending ∷ []), p.steps) }
          emitted (stopped x) l σ' h p = absurd h

    -- ---- units

    pub unit_is : (p : Place) → UnitIs (unit P E p)
    unfolding unit
    unit_is (before b) = go (slice_get P.blocks b)
      where
        go : (o : Option Block) → UnitIs (elim o [ None ↦ None | Some block ↦ Some (true, settle E b block 0) ])
        go None = tt
        go (Some block) = record { own = every_more unpaid (settle_own b block 0); records = λ w σ. quiet_records w (settle_own b block 0) σ }
    unit_is (within b k) = go (slice_get P.blocks b)
      where
        ran : (block : Block) (s : Statement) (w : World) (σ : State) → Records 1 σ (run w (run_statement P E b s >>= onward E b block k) σ).after
        ran block s w σ =
            let r = run w (run_statement P E b s) σ in
            rw run_bind (on r.end r.log r.after (every_end Unpaid w σ (statement_own b s)) (statement_records b s w σ))
          where
            on : (e : End (Option Stop)) (l : List Entry) (σ' : State) → EndIs Never OwnStop e → Records 1 σ σ'
                → Records 1 σ (go_on e l σ' (λ o σ''. run w (onward E b block k o) σ'')).after
            on (gave o) l σ' h p = records_more p (quiet_records w (onward_own b block k o h) σ')
            on (stopped x) l σ' h p = absurd h

        then : (block : Block) (o : Option Statement) → UnitIs (elim o [ None ↦ None | Some s ↦ Some (false, run_statement P E b s >>= onward E b block k) ])
        then block None = tt
        then block (Some s) = record {
          own = every_bind Unpaid (statement_own b s) (λ o h. every_more unpaid (onward_own b block k o h));
          records = ran block s;
        }

        go : (o : Option Block) → UnitIs (elim o [ None ↦ None | Some block ↦ elim (slice_get block.statements k) [ None ↦ None | Some s ↦ Some (false, run_statement P E b s >>= onward E b block k) ] ])
        go None = tt
        go (Some block) = then block (slice_get block.statements k)
