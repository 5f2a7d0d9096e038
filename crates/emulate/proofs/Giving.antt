-- What `constant_value` gives, from what the evaluation came to. Assumes nothing.
use mathlib.Core.Path.{◌≡◌, refl, sym, ap, ◌∙◌, subst}
use mathlib.Core.Bool.{Bool, true, false}
use mathlib.Core.List.{List}
use Rattle.std.specs.Prelude.{Option, None, Some, Result, Ok, Err}
use Rattle.std.specs.Bool.{then_some}
use Rattle.std.specs.Result.{IsErrAnd}
use Rattle.std.proofs.lemmas.Result.{err_from_is_err_and}
use Prim.Native.Nat.{ℕ, ◌≤◌, ◌<◌}
use lib.ListN.{length, replicate}
use Rattle.value.specs.declared.Val.{Val}
use Rattle.files.specs.declared.refusal.Refusal.{Refusal}
use Rattle.files.specs.declared.refusal.Refusal.TheVariants.{Workspace}
use Rattle.files.specs.Refusal.{Fault, no_fault, fault_of, routine_fault, constant_fault, constant_refusal}
use Rattle.files.proofs.RefusalLaws.{or_refusal, is_refusal}
use Rattle.definition.specs.Act.{End, gave, stopped}
use Rattle.definition.specs.Run.{address_limit, workspace_needed}
use Rattle.definition.specs.Constant.{constant_run, known_only, constant_value}
use Rattle.definition.specs.Answered.{zeroed, val_or, ConstantAnswered}
use Rattle.definition.proofs.Answered.{constant_refused, constant_by_workspace, constant_by_addresses, constant_given_lem}
use Rattle.stream.specs.Bodies.{why_of}
use Rattle.hosting.specs.declared.Short.{Short}
use Rattle.hosting.specs.declared.Short.TheVariants.{Full, Why}
use Rattle.hosting.specs.Ending.{end_of}
use Rattle.passes.specs.Evaluating.{EvaluatedIf, Evaluates}
use Rattle.emulate.specs.Giving.{answer_of, ConstantGiven}

then_known : (b : Bool) (v : Val) → elim b [ true ↦ Some v | false ↦ None ] ≡ then_some b v
then_known true v = refl
then_known false v = refl

-- of a node that is accepted
pub unrefused : (routine : List ℕ) (node : ℕ) → no_fault ≡ constant_fault routine node → constant_refusal routine node ≡ 0
unrefused routine node h = ap (λ (f : Fault). f.number) (sym h)

-- 1 to 7, 30 and 31, of the routine alone
pub routine_input : (routine : List ℕ) (node : ℕ) (e : Refusal) → routine_fault routine ≡ fault_of e → fault_of e ≡ constant_fault routine node
unfolding constant_fault
routine_input routine node e h = rw h (or_refusal e _)

module _ (routine : List ℕ) (node : ℕ) (workspace₀ : List ℕ) where
  -- ---- an evaluation

  module _ (ok : constant_refusal routine node ≡ 0) (room : workspace_needed ≤ length workspace₀) where
    value_is : (e : End Val) → (constant_run routine node).end ≡ e → length (constant_run routine node).after.memory ≤ address_limit
        → ConstantGiven routine node workspace₀ (Ok (known_only e)) (zeroed workspace₀)
    unfolding constant_value
    value_is e d few =
        let v = val_or (known_only e) in
        constant_given_lem routine node workspace₀ ok room v.known v.signed v.bits v.number few (ap (λ (z : End Val). val_or (known_only z)) (sym d))

    gives : (o : Result Val Short) → EvaluatedIf (constant_run routine node) (end_of o) → ConstantGiven routine node workspace₀ (answer_of o) (zeroed workspace₀)
    gives (Ok v) h = subst (λ (o : Option Val). ConstantGiven routine node workspace₀ (Ok o) (zeroed workspace₀)) (then_known v.known v) (value_is (gave v) h.0 h.1)
    gives (Err Full) h = constant_by_addresses routine node workspace₀ ok room h
    gives (Err (Why r n)) h = value_is (stopped (why_of r n)) h.0 h.1

    pub evaluated : (o : Result Val Short) (r : Result (Option Val) Refusal) (w₁ w₂ : List ℕ) → Evaluates (constant_run routine node) (end_of o) → r ≡ answer_of o → length w₁ ≡ length workspace₀ → w₂ ≡ zeroed w₁
        → ConstantGiven routine node workspace₀ r w₂
    evaluated o r w₁ w₂ e a l z =
        subst (λ (w : List ℕ). ConstantGiven routine node workspace₀ r w) (sym (z ∙ ap (λ (k : ℕ). replicate k 0) l))
        (subst (λ (x : Result (Option Val) Refusal). ConstantGiven routine node workspace₀ x (zeroed workspace₀)) (sym a) (gives o e.comes))

  -- ---- nothing is touched: the exits by `?`

  module _ (r : Result (Option Val) Refusal) (e : Refusal) (left : IsErrAnd r (λ x. x ≡ e)) where
    exits_as : ConstantAnswered routine node workspace₀ (fault_of e).number false false 0 (fault_of e).node workspace₀ → ConstantGiven routine node workspace₀ r workspace₀
    exits_as a = let p = err_from_is_err_and r left in rw (p.1, p.2) a

    -- 1 to 9, 30 and 31
    pub constant_input : fault_of e ≡ constant_fault routine node → ConstantGiven routine node workspace₀ r workspace₀
    constant_input h =
        let n = is_refusal e in
        exits_as (rw (sym h) at (constant_refused routine node workspace₀ n.0 (ap (λ (f : Fault). f.number) (sym h) ∙ n.1)))

    -- 20
    pub constant_20 : constant_refusal routine node ≡ 0 → e ≡ Workspace → length workspace₀ < workspace_needed → ConstantGiven routine node workspace₀ r workspace₀
    constant_20 ok w l = exits_as (rw w (constant_by_workspace routine node workspace₀ ok l))
