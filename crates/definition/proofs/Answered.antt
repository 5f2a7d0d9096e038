-- What an entry gives is what it must, from what the code finds: one law for each way in which it returns. And two runs of which `Answered` holds are as
-- demand 3 says. Assumes nothing.
use mathlib.Core.Path.{◌≡◌, refl, sym, ap, ap₂, ◌∙◌}
use mathlib.Core.Logic.{◌↔◌}
use mathlib.Core.Bool.{Bool, false}
use mathlib.Core.List.{List, ◌++◌}
use Prim.Native.Nat.{ℕ, suc, ◌≤◌, ◌<◌}
use lib.ListN.{length, take, drop}
use lib.Seq.{take_at}
use Rattle.layout.specs.Each.{Each}
use lib.Dec.{lit≤}
use Rattle.files.specs.Refusal.{fault, files_fault, refusal, constant_fault, constant_refusal}
use Rattle.definition.specs.Run.{ran, record_of, Verdict, refused, cleared, accepted, number_for, workspace_needed, address_limit, from_state, verdict, number}
use Rattle.definition.specs.Constant.{constant_run, constant_value, constant_verdict, constant_number}
use Rattle.definition.specs.Answered.{zeroed, Left, Answered, val_of, val_or, ConstantLeft, ConstantAnswered}
use Rattle.definition.specs.World.{world_of}
use Rattle.definition.specs.Record.{questions_in}
use Rattle.definition.specs.TwoWorlds.{Gives}
use Rattle.definition.proofs.TwoWorlds.{two_worlds}
use Rattle.definition.proofs.Verdict.{over, over_buffer, over_length, fits, from_input, small_workspace, from_state_lem, AcceptedRun, accepted_run, constant_from_input, constant_small_workspace, constant_from_state}

-- ---- `run`

module _ (routine world call record₀ workspace₀ : List ℕ) where
  abbrev ends : Verdict
  ends = verdict routine world call (length record₀) (length workspace₀)

  answered_as : (v : Verdict) (l : ℕ) (record₁ workspace₁ : List ℕ) → ends ≡ v → Left routine world call record₀ workspace₀ v l record₁ workspace₁
      → Answered routine world call record₀ workspace₀ (number_for v) l record₁ workspace₁
  unfolding number
  answered_as v l record₁ workspace₁ e h = record { number = ap number_for (sym e); left = rw e h }

  -- 1 to 9, 30 and 31
  pub refused_by_input : (n : ℕ) → refusal routine world call ≡ suc n
      → let f = files_fault routine world call in Answered routine world call record₀ workspace₀ f.number f.node record₀ workspace₀
  refused_by_input n e = let f = files_fault routine world call in answered_as (refused f) f.node record₀ workspace₀ (from_input routine world call _ _ n e) (refl, refl, refl)

  module _ (ok : refusal routine world call ≡ 0) where
    -- 20
    pub refused_by_workspace : length workspace₀ < workspace_needed → Answered routine world call record₀ workspace₀ 20 0 record₀ workspace₀
    refused_by_workspace h = answered_as (refused (fault 20)) 0 record₀ workspace₀ (small_workspace routine world call _ _ ok h) (refl, refl, refl)

    module _ (room : workspace_needed ≤ length workspace₀) where
      abbrev R : List ℕ
      R = record_of routine world call

      ran_to : (v : Verdict) → from_state (length (ran routine world call).memory) (length R) (length record₀) ≡ v → ends ≡ v
      ran_to v e = from_state_lem routine world call _ _ ok room ∙ e

      -- 21
      pub cleared_by_addresses : address_limit < length (ran routine world call).memory
          → Answered routine world call record₀ workspace₀ 21 0 (zeroed record₀) (zeroed workspace₀)
      cleared_by_addresses h = answered_as (cleared 21) 0 _ _ (ran_to (cleared 21) (over _ _ _ h)) (refl, refl, refl)

      module _ (few : length (ran routine world call).memory ≤ address_limit) where
        -- 22
        pub cleared_by_buffer : length record₀ < length R → Answered routine world call record₀ workspace₀ 22 0 (zeroed record₀) (zeroed workspace₀)
        cleared_by_buffer h = answered_as (cleared 22) 0 _ _ (ran_to (cleared 22) (over_buffer _ _ _ few h)) (refl, refl, refl)

        pub cleared_by_length : 4294967295 < length R → Answered routine world call record₀ workspace₀ 22 0 (zeroed record₀) (zeroed workspace₀)
        cleared_by_length h = answered_as (cleared 22) 0 _ _ (ran_to (cleared 22) (over_length _ _ _ few h)) (refl, refl, refl)

        -- 0
        pub ran_whole : length R ≤ length record₀ → length R ≤ 4294967295
            → Answered routine world call record₀ workspace₀ 0 (length R) (R ++ drop (length R) record₀) (zeroed workspace₀)
        ran_whole h k =
            answered_as accepted (length R) _ _ (ran_to accepted (fits _ _ _ (record { few = few; in_buffer = h; in_length = k }))) (refl, refl, refl)

-- ---- `constant_value`

module _ (routine : List ℕ) (node : ℕ) (workspace₀ : List ℕ) where
  constant_as : (v : Verdict) (known signed : Bool) (bits n : ℕ) (workspace₁ : List ℕ) → constant_verdict routine node (length workspace₀) ≡ v
      → ConstantLeft routine node workspace₀ v (val_of known signed bits n) workspace₁
      → ConstantAnswered routine node workspace₀ (number_for v) known signed bits n workspace₁
  unfolding constant_number
  constant_as v known signed bits n workspace₁ e h = record { number = ap number_for (sym e); left = rw e h }

  -- 1 to 7, 30 and 31, and 9
  pub constant_refused : (n : ℕ) → constant_refusal routine node ≡ suc n
      → let f = constant_fault routine node in ConstantAnswered routine node workspace₀ f.number false false 0 f.node workspace₀
  constant_refused n e = let f = constant_fault routine node in constant_as (refused f) false false 0 f.node workspace₀ (constant_from_input routine node _ n e) (refl, refl)

  module _ (ok : constant_refusal routine node ≡ 0) where
    -- 20
    pub constant_by_workspace : length workspace₀ < workspace_needed → ConstantAnswered routine node workspace₀ 20 false false 0 0 workspace₀
    constant_by_workspace h = constant_as (refused (fault 20)) false false 0 0 workspace₀ (constant_small_workspace routine node _ ok h) (refl, refl)

    module _ (room : workspace_needed ≤ length workspace₀) where
      -- 21
      pub constant_by_addresses : address_limit < length (constant_run routine node).after.memory
          → ConstantAnswered routine node workspace₀ 21 false false 0 0 (zeroed workspace₀)
      constant_by_addresses h =
          constant_as (cleared 21) false false 0 0 (zeroed workspace₀) (constant_from_state routine node _ ok room ∙ over _ 0 0 h) (refl, refl)

      -- 0, with a value or none
      pub constant_given_lem : (known signed : Bool) (bits n : ℕ) → length (constant_run routine node).after.memory ≤ address_limit
          → val_of known signed bits n ≡ val_or (constant_value routine node)
          → ConstantAnswered routine node workspace₀ 0 known signed bits n (zeroed workspace₀)
      constant_given_lem known signed bits n few e =
          constant_as accepted known signed bits n (zeroed workspace₀)
          (constant_from_state routine node _ ok room ∙ fits _ 0 0 (record { few = few; in_buffer = lit≤ tt; in_length = lit≤ tt })) (e, refl)

-- ---- demand 3, of what two calls of `run` leave in their buffers

module _ (routine world call record₀ workspace₀ : List ℕ) (l : ℕ) (record₁ workspace₁ : List ℕ) (a : Answered routine world call record₀ workspace₀ 0 l record₁ workspace₁) where
  accepts : AcceptedRun routine world call (length record₀) (length workspace₀)
  accepts = accepted_run routine world call (length record₀) (length workspace₀) (sym a.number)

  left_whole : Left routine world call record₀ workspace₀ accepted l record₁ workspace₁
  left_whole =
      rw (from_state_lem routine world call (length record₀) (length workspace₀) accepts.files accepts.room ∙ fits _ _ _ accepts.state) at a.left

  pub length_left : l ≡ length (record_of routine world call)
  length_left = left_whole.0

  pub record_left : take l record₁ ≡ record_of routine world call
  record_left =
      ap₂ take length_left left_whole.1 ∙ take_at (record_of routine world call) (drop (length (record_of routine world call)) record₀) _ refl

-- two runs that gave 0: their records have one length and the same bytes just where the second world gives what the first record says
pub two_runs : (routine call world₁ world₂ buffer₁ buffer₂ workspace₁ workspace₂ : List ℕ) (l₁ l₂ : ℕ) (record₁ record₂ left₁ left₂ : List ℕ)
    → length buffer₁ ≡ length buffer₂
    → length workspace₁ ≡ length workspace₂
    → Answered routine world₁ call buffer₁ workspace₁ 0 l₁ record₁ left₁
    → Answered routine world₂ call buffer₂ workspace₂ 0 l₂ record₂ left₂
    → ((l₁ ≡ l₂) × (take l₁ record₁ ≡ take l₂ record₂)) ↔ Each (Gives (world_of routine world₂)) (questions_in (take l₁ record₁))
two_runs routine call world₁ world₂ buffer₁ buffer₂ workspace₁ workspace₂ l₁ l₂ record₁ record₂ left₁ left₂ b w a₁ a₂ =
    let p = record_left routine world₁ call buffer₁ workspace₁ l₁ record₁ left₁ a₁ in
    let q = record_left routine world₂ call buffer₂ workspace₂ l₂ record₂ left₂ a₂ in
    let m = length_left routine world₁ call buffer₁ workspace₁ l₁ record₁ left₁ a₁ in
    let n = length_left routine world₂ call buffer₂ workspace₂ l₂ record₂ left₂ a₂ in
    let claim = two_worlds routine call world₁ world₂ (length buffer₁) (length workspace₁) (sym a₁.number)
    (ap₂ (λ (x y : ℕ). number routine world₂ call x y) b w ∙ sym a₂.number) in (
      (λ e. rw p (claim.0 (sym p ∙ e.1 ∙ q))),
      (λ g. let r = claim.1 (rw p at g) in (m ∙ ap length r ∙ sym n, p ∙ r ∙ sym q)),
    )
