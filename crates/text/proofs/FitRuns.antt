-- The record of a run, of which what it holds fits its fields. Assumes nothing.
use mathlib.Core.Bool.{Bool, true, false}
use mathlib.Core.List.{List, [], ◌∷◌, ◌++◌, map}
use Rattle.std.specs.Prelude.{Option, None, Some, slice_get}
use Prim.Native.Nat.{ℕ, zero, suc, ◌≤◌, ◌<◌, compare, Ordering}
use native.Mathlib.Omega.{arith}
use lib.Dec.{ltb, eqb, lit<}
use lib.ListN.{length, get_or}
use Rattle.layout.specs.Each.{Each}
use Rattle.layout.specs.Text.{text, same}
use Rattle.layout.proofs.StoreLaws.{all_append}
use Rattle.layout.proofs.FormatLaws.{Below}
use Rattle.value.specs.declared.Ty.{Ty}
use Rattle.value.specs.declared.Val.{Val}
use Rattle.value.specs.Value.{type, known_val, unknown_val, cast_to, read_as}
use Rattle.spelling.specs.Spelling.{type_of}
use Rattle.memory.specs.Overlay.{Overlay, find, store}
use Rattle.files.specs.Call.{Limits}
use Rattle.files.specs.Program.{Statement, Case, case_of, Terminator, returns, goto, branch, switch, Block, Variable, Program, Tree, place}
use Rattle.files.specs.declared.kinds.Kind.TheVariants.{Return}
use Rattle.definition.specs.Question.{Asked, Question, World, cut}
use Rattle.definition.specs.Act.{Act, done, fail, ask, act, Op, peek_op, poke_op, get_op, set_op, pending_op, leave_op, spend_op, emit_op, End, gave, stopped, ◌>>=◌, Note, no_note, fields_written, value_written, result_unknown, not_followed, Pending}
use Rattle.definition.specs.State.{State, reply, next, Out, run}
use Rattle.definition.specs.Term.{Term, Terms, is}
use Rattle.definition.specs.Evaluate.{Env, number_in}
use Rattle.definition.specs.Statements.{Stop, Unknown, NoBlock, NoBlocks, Outcome, note_of, outcome_of, is_named, is_halted, returning, outcome, run_statement}
use Rattle.definition.specs.Walk.{Place, before, within, Next, stops, goes, last_address, address_or, extended, left_to, taking, choosing, terminate, settle, onward, block_of, unit, walk, walk_from, stop_at, walk_all, declared_in, parameters_set, unset_added, follow_at, env_of}
use Rattle.definition.specs.Run.{acts, start, stop_of, ran_of, ran_in}
use Rattle.definition.proofs.Fields.{OptionFits, AnswerFits}
use Rattle.text.specs.Fits.{NoteFits, StepFits, StopFits, VariableFits, RanFits}
use Rattle.text.proofs.FitValues.{TyIs, ValIs, unknown_fits, cast_fits, type_fits, residue_fits}
use Rattle.text.proofs.FitTrees.{OptionIs, PendingFits, OpFits, ReplyFits, All, Fit, EndFits, f_bind, f_done, f_fail, f_ask, f_act, f_if, f_option, f_try, FitTree, fit_tree, FitTerm, FitTerms, fit_none, fit_more, f_eval, f_kids, f_kid, f_node, number_fits, DidFits, EnvFits, f_look, f_execute}

-- ---- lists

each_get : {X : Type 0} (P : X → Type 0) (xs : List X) (k : ℕ) → Each P xs → OptionIs P (slice_get xs k)
each_get P [] k h = tt
each_get P (x ∷ xs) zero h = h.0
each_get P (x ∷ xs) (suc k) h = each_get P xs k h.1

each_snoc : {X : Type 0} (P : X → Type 0) (xs : List X) (x : X) → Each P xs → P x → Each P (xs ++ (x ∷ []))
each_snoc P [] x h p = (p, tt)
each_snoc P (y ∷ xs) x h p = (h.0, each_snoc P xs x h.1 p)

module _ (n : ℕ) where
  -- ---- what a program holds

  pub record StatementFits (s : Statement) : Type 0 where
    pub number : Below 4 s.statement
    pub address : OptionFits s.address
    pub root : FitTree n s.root

  pub data EndsFit : Terminator → Type 0 where
    fit_returns : EndsFit returns
    fit_goto : {target : ℕ} → Below 4 target → EndsFit (goto target)
    fit_branch : {address : Option ℕ} {root : Tree} {taken next : ℕ} → OptionFits address → FitTree n root → Below 4 taken → Below 4 next
        → EndsFit (branch address root taken next)
    fit_switch : {address : Option ℕ} {root : Tree} {cases : List Case} → OptionFits address → FitTree n root → Each (λ c. Below 4 c.target) cases
        → EndsFit (switch address root cases)

  pub record BlockFits (b : Block) : Type 0 where
    pub statements : Each StatementFits b.statements
    pub end : EndsFit b.terminator

  -- ---- terminators

  abbrev pub NextFits : Next → Type 0
  NextFits (stops s) = StopFits n s
  NextFits (goes p) = Below 4 (block_of p)

  place_fits : {t : Tree} → FitTree n t → Below 4 (place t)
  place_fits (fit_tree h s c ks) = h.place

  last_fits : (ss : List Statement) → Each StatementFits ss → OptionFits (last_address ss)
  unfolding last_address
  last_fits [] h = tt
  last_fits (s ∷ []) h = h.0.address
  last_fits (s ∷ t ∷ ss) h = last_fits (t ∷ ss) h.1

  address_fits : (at : Option ℕ) (ss : List Statement) → OptionFits at → Each StatementFits ss → OptionFits (address_or at ss)
  address_fits None ss h g = last_fits ss g
  address_fits (Some a) ss h g = h

  case_fits : (cs : List Case) (k : ℕ) → Each (λ c. Below 4 c.target) cs → OptionIs (Below 4) (case_of cs k)
  unfolding case_of
  case_fits [] k h = tt
  case_fits (c ∷ cs) k h = go (eqb c.value k) (case_fits cs k h.1)
    where
      go : (b : Bool) → OptionIs (Below 4) (case_of cs k) → OptionIs (Below 4) (elim b [ true ↦ Some c.target | false ↦ case_of cs k ])
      go true g = h.0
      go false g = g

  left_fits : (at : Option ℕ) (e : End ℕ) → OptionFits at → EndFits n (Below 4) e → NextFits (left_to at e)
  left_fits at (gave b) h g = g
  left_fits at (stopped x) h g = (h, g)

  module _ (E : Env) (env : EnvFits n E) where
    f_taking : {root : Tree} → FitTree n root → (taken next : ℕ) → Below 4 taken → Below 4 next → Fit n (Below 4) (taking E root taken next)
    unfolding taking
    f_taking {root} h taken next p q =
        f_bind n (f_eval n (f_look n E env h)) (λ v g. f_option n (Below 8) (number_in v) (number_fits n v g) (f_fail n (place_fits h)) (λ k _. f_done n (pick (eqb k 0))))
      where
        pick : (b : Bool) → Below 4 (elim b [ true ↦ next | false ↦ taken ])
        pick true = q
        pick false = p

    f_choosing : {root : Tree} → FitTree n root → (cs : List Case) → Each (λ c. Below 4 c.target) cs → Fit n (Below 4) (choosing E root cs)
    unfolding choosing
    f_choosing {root} h cs p =
        f_bind n (f_eval n (f_look n E env h)) (λ v g. f_if n v.known
        (λ _. f_option n (Below 4) (case_of cs (extended v)) (case_fits cs (extended v) p) (f_fail n (residue_fits 64 (read_as (type v.bits true) v.number))) (λ b l. f_done n l))
        (λ _. f_fail n (place_fits h)))

    f_terminate : (ss : List Statement) → Each StatementFits ss → {t : Terminator} → EndsFit t → Fit n NextFits (terminate E ss t)
    unfolding terminate
    f_terminate ss h fit_returns = f_done n tt
    f_terminate ss h (fit_goto l) = f_done n l
    f_terminate ss h (fit_branch {address = at} a r p q) = f_bind n (f_try n (f_taking r _ _ p q)) (λ e g. f_done n (left_fits (address_or at ss) e (address_fits at ss a h) g))
    f_terminate ss h (fit_switch {address = at} a r p) = f_bind n (f_try n (f_choosing r _ p)) (λ e g. f_done n (left_fits (address_or at ss) e (address_fits at ss a h) g))

    f_settle : (b : ℕ) → Below 4 b → (block : Block) → BlockFits block → (k : ℕ) → Fit n NextFits (settle E b block k)
    unfolding settle
    f_settle b l block h k = f_if n (ltb k (length block.statements)) (λ _. f_done n l) (λ _. f_terminate block.statements h.statements h.end)

    pub data StopIs : Option Stop → Type 0 where
      no_stop : StopIs None
      a_stop : {s : Stop} → StopFits n s → StopIs (Some s)

    f_onward : (b : ℕ) → Below 4 b → (block : Block) → BlockFits block → (k : ℕ) {o : Option Stop} → StopIs o → Fit n NextFits (onward E b block k o)
    f_onward b l block h k no_stop = f_settle b l block h (suc k)
    f_onward b l block h k (a_stop g) = f_done n g

    -- ---- statements

    pub record OutcomeFits (o : Outcome) : Type 0 where
      pub did : DidFits n o.0
      pub stop : StopIs o.1

    noted : (x : Note) (p : Pending) → NoteFits n x → PendingFits n p → NoteFits n (note_of x p)
    noted no_note None h g = tt
    noted no_note (Some xs) h g = g
    noted (fields_written a k) p h g = h
    noted (value_written a v) p h g = h
    noted result_unknown p h g = tt
    noted (not_followed xs) p h g = h

    outcome_fits : (at : Option ℕ) (e : End Outcome) → OptionFits at → EndFits n OutcomeFits e → OutcomeFits (outcome_of at e)
    outcome_fits at (gave o) a h = h
    outcome_fits at (stopped x) a h = record { did = record { wrote = tt; note = tt }; stop = a_stop {s = Unknown at x} (a, h) }

    module _ (P : Program) where
      returned_fits : (v : Val) → ValIs v → (b : Bool) (t : List ℕ) → ValIs (elim b [ true ↦ v | false ↦ cast_to v (type_of t) ])
      returned_fits v h true t = h
      returned_fits v h false t = cast_fits (type_fits t) v

      f_returning : {ts : Terms} → FitTerms n ts → Fit n OutcomeFits (returning P ts)
      unfolding returning
      f_returning fit_none = f_done n (record { did = record { wrote = tt; note = tt }; stop = a_stop tt })
      f_returning (fit_more t ts) =
          f_bind n (f_eval n t) (λ v h. f_done n (record { did = record { wrote = tt; note = tt }; stop = a_stop (returned_fits v h (same (get_or P.types P.returns []) (text "void")) (get_or P.types P.returns [])).fits }))

      f_outcome : (at : Option ℕ) → OptionFits at → {t : Term} → FitTerm n t → Fit n OutcomeFits (outcome P E at t)
      unfolding outcome
      f_outcome at a {t} p =
          f_if n (is Return t) (λ _. f_returning (f_kids n p))
          (λ _. f_if n (is_named P t (text "__builtin_unreachable")) (λ _. f_done n (record { did = record { wrote = tt; note = tt }; stop = a_stop a }))
          (λ _. f_if n (is_halted P t)
          (λ _. f_done n (record { did = record { wrote = tt; note = tt }; stop = a_stop (a, (f_node n (f_kid n 0 (f_kids n p))).value) }))
          (λ _. f_bind n (f_execute n E env p) (λ d h. f_done n (record { did = h; stop = no_stop })))))

      f_statement : (b : ℕ) → Below 4 b → (s : Statement) → StatementFits s → Fit n StopIs (run_statement P E b s)
      unfolding run_statement ◌>>=◌
      f_statement b l s h =
          f_act n tt (λ _ _. f_bind n (f_try n (f_outcome s.address h.address (f_look n E env h.root)))
          (λ e g. let o = outcome_fits s.address e h.address g in
          f_act n tt (λ p q. f_act n
          (record { address = h.address; block = l; statement = h.number; wrote = o.did.wrote; note = noted (outcome_of s.address e).0.note p o.did.note q })
          (λ _ _. f_done n o.stop))))

      -- ---- the walk

      abbrev UnitFits : Option (Bool × Act Next) → Type 0
      UnitFits o = OptionIs (λ (u : Bool × Act Next). Fit n NextFits u.1) o

      module _ (blocks : Each BlockFits P.blocks) where
        f_unit : (p : Place) → Below 4 (block_of p) → UnitFits (unit P E p)
        unfolding unit
        f_unit (before b) l = go (slice_get P.blocks b) (each_get BlockFits P.blocks b blocks)
          where
            go : (o : Option Block) → OptionIs BlockFits o → UnitFits (elim o [ None ↦ None | Some block ↦ Some (true, settle E b block 0) ])
            go None h = tt
            go (Some block) h = f_settle b l block h 0
        f_unit (within b k) l = go (slice_get P.blocks b) (each_get BlockFits P.blocks b blocks)
          where
            at : (block : Block) → BlockFits block → (o : Option Statement) → OptionIs StatementFits o
                → UnitFits (elim o [ None ↦ None | Some s ↦ Some (false, run_statement P E b s >>= onward E b block k) ])
            at block h None g = tt
            at block h (Some s) g = f_bind n (f_statement b l s g) (λ x i. f_onward b l block h k i)

            go : (o : Option Block) → OptionIs BlockFits o
                → UnitFits (elim o [ None ↦ None | Some block ↦ elim (slice_get block.statements k) [ None ↦ None | Some s ↦ Some (false, run_statement P E b s >>= onward E b block k) ] ])
            go None h = tt
            go (Some block) h = at block h (slice_get block.statements k) (each_get StatementFits block.statements k h.statements)

        wide : (k : ℕ) → Below 4 k → Below 8 k
        wide k h = omega (arith, h)

        f_walk : (most : ℕ) (p : Place) → Below 4 (block_of p) → Fit n NextFits (walk P E most p)
        unfolding walk
        f_walk zero p l = go (unit P E p)
          where
            go : (o : Option (Bool × Act Next)) → Fit n NextFits (elim o [ None ↦ done (stops (NoBlock (block_of p))) | Some u ↦ done (goes p) ])
            go None = f_done n (wide (block_of p) l)
            go (Some u) = f_done n l
        f_walk (suc most) p l = go (unit P E p) (f_unit p l) (λ q k. f_walk most q k)
          where
            Less : Type 0
            Less = (q : Place) → Below 4 (block_of q) → Fit n NextFits (walk P E most q)

            on : Less → (x : Next) → NextFits x → Fit n NextFits (elim x [ stops s ↦ done (stops s) | goes q ↦ walk P E most q ])
            on ih (stops s) h = f_done n h
            on ih (goes q) h = ih q h

            pays : Less → (u : Bool × Act Next) → Fit n NextFits u.1 → (b : Bool)
                → Fit n NextFits (elim b [ false ↦ done (goes p) | true ↦ u.1 >>= λ x. elim x [ stops s ↦ done (stops s) | goes q ↦ walk P E most q ] ])
            pays ih u h false = f_done n l
            pays ih u h true = f_bind n h (λ x g. on ih x g)

            go : (o : Option (Bool × Act Next)) → UnitFits o → Less
                → Fit n NextFits (elim o [
                  | None ↦ done (stops (NoBlock (block_of p)))
                  | Some u ↦ act (spend_op u.0) (λ paid. elim paid [ false ↦ done (goes p) | true ↦ u.1 >>= λ x. elim x [ stops s ↦ done (stops s) | goes q ↦ walk P E most q ] ])
                ])
            go None h ih = f_done n (wide (block_of p) l)
            go (Some u) h ih = f_act n tt (λ b _. pays ih u h b)

        f_from : (units : ℕ) → Fit n NextFits (walk_from P E units)
        unfolding walk_from
        f_from units = go P.blocks
          where
            go : (bs : List Block) → Fit n NextFits (elim bs [ [] ↦ done (stops NoBlocks) | b ∷ cs ↦ walk P E units (before 0) ])
            go [] = f_done n tt
            go (b ∷ bs) = f_walk units (before 0) (lit< tt)

        stop_fits : (limit : ℕ) → Below 8 limit → (x : Next) → NextFits x → StopFits n (stop_at limit x)
        stop_fits limit l (stops s) h = h
        stop_fits limit l (goes p) h = l

        pub f_all : (limit : ℕ) → Below 8 limit → Fit n (StopFits n) (walk_all P E limit)
        unfolding walk_all
        f_all limit l = f_bind n (f_from limit) (λ x h. f_done n (stop_fits limit l x h))

  -- ---- running

  pub record StateFits (s : State) : Type 0 where
    pub variables : Each (VariableFits n) s.variables
    pub pending : PendingFits n s.pending
    pub steps : Each (StepFits n) s.steps

  found_fits : (x : ℕ) (m : Overlay Val) → Each (VariableFits n) m → OptionIs ValIs (find x m)
  unfolding find
  found_fits x [] h = tt
  found_fits x (p ∷ m) h = go (compare x p.0) (found_fits x m h.1)
    where
      go : (o : Ordering) → OptionIs ValIs (find x m) → OptionIs ValIs (elim o [ Ordering.lt ↦ None | Ordering.eq ↦ Some p.1 | Ordering.gt ↦ find x m ])
      go Ordering.lt g = tt
      go Ordering.eq g = record { fits = h.0.1 }
      go Ordering.gt g = g

  pub stored_fits : (x : ℕ) (v : Val) (m : Overlay Val) → x < n → ValIs v → Each (VariableFits n) m → Each (VariableFits n) (store x v m)
  unfolding store
  stored_fits x v [] l i h = ((l, i.fits), tt)
  stored_fits x v (p ∷ m) l i h = go (compare x p.0) (stored_fits x v m l i h.1)
    where
      go : (o : Ordering) → Each (VariableFits n) (store x v m) → Each (VariableFits n) (elim o [ Ordering.lt ↦ (x, v) ∷ p ∷ m | Ordering.eq ↦ (x, v) ∷ m | Ordering.gt ↦ p ∷ store x v m ])
      go Ordering.lt g = ((l, i.fits), h)
      go Ordering.eq g = ((l, i.fits), h.1)
      go Ordering.gt g = (h.0, g)

  reply_fits : (o : Op) (s : State) → StateFits s → ReplyFits n o (reply o s)
  reply_fits (peek_op a) s h = tt
  reply_fits (poke_op a c) s h = tt
  reply_fits (get_op x) s h = found_fits x s.variables h.variables
  reply_fits (set_op x v) s h = tt
  reply_fits pending_op s h = h.pending
  reply_fits (leave_op p) s h = tt
  reply_fits (spend_op b) s h = tt
  reply_fits (emit_op e) s h = tt

  next_fits : (o : Op) (s : State) → OpFits n o → StateFits s → StateFits (next o s)
  next_fits (peek_op a) s g h = h
  next_fits (poke_op a c) s g h = record { variables = h.variables; pending = h.pending; steps = h.steps }
  next_fits (get_op x) s g h = h
  next_fits (set_op x v) s g h = record { variables = stored_fits x v s.variables g.0 g.1 h.variables; pending = h.pending; steps = h.steps }
  next_fits pending_op s g h = h
  next_fits (leave_op p) s g h = record { variables = h.variables; pending = g; steps = h.steps }
  next_fits (spend_op b) s g h = record { variables = h.variables; pending = h.pending; steps = h.steps }
  next_fits (emit_op e) s g h = record { variables = h.variables; pending = h.pending; steps = each_snoc (StepFits n) s.steps e h.steps g }

  pub record OutFits {A : Type 0} (Q : A → Type 0) (o : Out A) : Type 0 where
    pub end : EndFits n Q o.end
    pub after : StateFits o.after

  module _ (w : World) (fair : (κ : Asked) (q : Question κ) → AnswerFits κ (w κ (cut κ q))) {A : Type 0} (Q : A → Type 0) where
    ran_tree : (t : Act A) (s : State) → All n Q t → StateFits s → OutFits Q (run w t s)
    unfolding run
    ran_tree (done a) s p h = record { end = p; after = h }
    ran_tree (fail x) s p h = record { end = p; after = h }
    ran_tree (ask κ q k) s p h =
        let r = ran_tree (k (w κ (cut κ q))) s (p (w κ (cut κ q)) (fair κ q)) h in
        record { end = r.end; after = r.after }
    ran_tree (act o k) s p h = ran_tree (k (reply o s)) (next o s) (p.1 (reply o s) (reply_fits o s h)) (next_fits o s p.0 h)

  -- ---- variables at the start and at the end

  abbrev pub DeclaredFits : Variable → Type 0
  DeclaredFits v = v.name < n

  set_fits : (types : List (List ℕ)) (vs : List Variable) (args : List Val) (m : Overlay Val) → Each DeclaredFits vs → Each (VariableFits n) m → Each (VariableFits n) (parameters_set types vs args m)
  unfolding parameters_set
  set_fits types [] args m h g = g
  set_fits types (v ∷ vs) [] m h g =
      set_fits types vs [] (store v.name (unknown_val (type_of (get_or types v.type []))) m) h.1 (stored_fits v.name (unknown_val (type_of (get_or types v.type []))) m h.0 (unknown_fits (type_fits (get_or types v.type []))) g)
  set_fits types (v ∷ vs) (a ∷ args) m h g =
      set_fits types vs args (store v.name (cast_to a (type_of (get_or types v.type []))) m) h.1 (stored_fits v.name (cast_to a (type_of (get_or types v.type []))) m h.0 (cast_fits (type_fits (get_or types v.type [])) a) g)

  added_fits : (types : List (List ℕ)) (vs : List Variable) (m : Overlay Val) → Each DeclaredFits vs → Each (VariableFits n) m → Each (VariableFits n) (unset_added types vs m)
  unfolding unset_added
  added_fits types [] m h g = g
  added_fits types (v ∷ vs) m h g =
      let x = unknown_val (type_of (get_or types v.type [])) in
      added_fits types vs (elim (find v.name m) [ None ↦ store v.name x m | Some y ↦ m ]) h.1 (go (find v.name m))
    where
      go : (o : Option Val) → Each (VariableFits n) (elim o [ None ↦ store v.name (unknown_val (type_of (get_or types v.type []))) m | Some y ↦ m ])
      go None = stored_fits v.name (unknown_val (type_of (get_or types v.type []))) m h.0 (unknown_fits (type_fits (get_or types v.type []))) g
      go (Some y) = g

  -- ---- what an evaluation is in

  declared_fits : (types : List (List ℕ)) (vs : List Variable) (x : ℕ) → OptionIs TyIs (declared_in types vs x)
  unfolding declared_in
  declared_fits types [] x = tt
  declared_fits types (v ∷ vs) x = go (declared_in types vs x) (declared_fits types vs x) (eqb v.name x)
    where
      one : (b : Bool) → OptionIs TyIs (elim b [ true ↦ Some (type_of (get_or types v.type [])) | false ↦ None ])
      one true = type_fits (get_or types v.type [])
      one false = tt

      go : (o : Option Ty) → OptionIs TyIs o → (b : Bool) → OptionIs TyIs (elim o [ Some t ↦ Some t | None ↦ elim b [ true ↦ Some (type_of (get_or types v.type [])) | false ↦ None ] ])
      go (Some t) h b = h
      go None h b = one b

  follow_fits : (left name address : ℕ) (vs : List Val) → Fit n (OptionIs ValIs) (follow_at left name address vs)
  unfolding follow_at
  follow_fits zero name address vs = f_done n tt
  follow_fits (suc left) name address vs = f_ask n (λ _ _. f_done n tt)

  env_fits : (P : Program) (depth : ℕ) → EnvFits n (env_of P depth)
  env_fits P depth = record { declared = declared_fits P.types (P.parameters ++ P.locals); follow = follow_fits depth }

  -- ---- the record

  pub record ProgramFits (P : Program) : Type 0 where
    pub blocks : Each BlockFits P.blocks
    pub parameters : Each DeclaredFits P.parameters
    pub locals : Each DeclaredFits P.locals

  ended : (e : End Stop) → EndFits n (StopFits n) e → StopFits n (stop_of e)
  ended (gave s) h = h
  ended (stopped x) h = (tt, h)

  pub ran_in_fits : n ≤ 512 → (w : World) → ((κ : Asked) (q : Question κ) → AnswerFits κ (w κ (cut κ q))) → (P : Program) → ProgramFits P → (l : Limits) → Below 8 l.steps → RanFits n (ran_in w P l)
  unfolding ran_in ran_of acts start
  ran_in_fits few w fair P p l h =
      let begun : StateFits (start P l) = record {
        variables = set_fits P.types P.parameters (map (λ a. known_val a (type 64 true)) l.arguments) [] p.parameters tt;
        pending = tt;
        steps = tt;
      } in
      let o = ran_tree w fair (StopFits n) (acts P l) (start P l) (f_all (env_of P l.depth) (env_fits P l.depth) P p.blocks l.steps h).all begun in
      record {
        few = few;
        steps = o.after.steps;
        stop = ended (run w (acts P l) (start P l)).end o.end;
        variables = added_fits P.types (P.parameters ++ P.locals) (run w (acts P l) (start P l)).after.variables
            (all_append DeclaredFits P.parameters P.locals p.parameters p.locals) o.after.variables;
      }
