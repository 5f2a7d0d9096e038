-- The walk (document 01: "each block and each statement then costs one unit"): it does not end short, each unit is one block entered or one step recorded,
-- and where it stops for want of units, all of them are spent (`walks`). Assumes nothing.
use mathlib.Core.Path.{◌≡◌, refl, sym, ap, ◌∙◌}
use mathlib.Core.Bool.{Bool, true, false}
use mathlib.Core.List.{List, [], ◌∷◌}
use Rattle.std.proofs.lemmas.Option.{same_Some, none-some}
use Rattle.std.specs.Prelude.{Option, None, Some}
use Prim.Native.Nat.{ℕ, zero, suc, ◌+◌, ◌≤◌}
use native.Mathlib.Nat.{le_refl}
use native.Mathlib.Omega.{arith}
use lib.ListN.{length}
use Rattle.value.specs.declared.Val.{Val}
use Rattle.files.specs.Program.{Block, Program}
use Rattle.files.specs.Call.{Limits}
use Rattle.definition.specs.Question.{World, Entry}
use Rattle.definition.specs.Act.{Act, done, End, gave, stopped}
use Rattle.definition.specs.State.{Budget, State, some?, Out, run}
use Rattle.definition.specs.Evaluate.{Env}
use Rattle.definition.specs.Statements.{Stop, Returned, Steps, Unknown, NoBlock, NoBlocks, NoReturn, Halted}
use Rattle.definition.specs.Walk.{Place, before, Next, stops, goes, unit, walk, walk_from, stop_at, walk_all, follow_at, env_of}
use Rattle.definition.specs.Record.{Ran}
use Rattle.definition.specs.Run.{acts, start, stop_of, ran_of, ran_in}
use Rattle.definition.proofs.Follow.{go_on, run_bind}
use Rattle.definition.proofs.Budget.{asked, balanced}
use Rattle.definition.proofs.Fuel.{further, paying, turn, last_turn}
use Rattle.definition.proofs.Every.{Never, EndIs, every_end}
use Rattle.definition.proofs.Evaluation.{Quiet, q_done, q_ask}
use Rattle.definition.proofs.Units.{Own, OwnNext, Records, steps_of, UnitOf, UnitIs, unit_is, Unpaid}

-- as many statements are paid for as steps are recorded
pub record Counted (σ : State) : Type 0 where
  pub same : σ.budget.recorded ≡ length σ.steps

-- where a walk ends: with a stop of its own, or with no unit left
abbrev pub Settled : End Next → State → Type 0
Settled (gave (stops s)) σ = Own s
Settled (gave (goes p)) σ = σ.budget.left ≡ 0
Settled (stopped x) σ = ⊥

pub record Walked (o : Out Next) : Type 0 where
  pub settled : Settled o.end o.after
  pub counted : Counted o.after

counted_after : (n : ℕ) (b : Bool) (σ σ' : State) → Counted σ → Records (steps_of b) (asked (suc n) b σ) σ' → Counted σ'
counted_after n true σ σ' c r = record { same = omega (arith, ap (λ (g : Budget). g.recorded) r.budget, r.steps, c.same) }
counted_after n false σ σ' c r = record { same = omega (arith, ap (λ (g : Budget). g.recorded) r.budget, r.steps, c.same) }

left_after : (n : ℕ) (b : Bool) (σ σ' : State) → Records (steps_of b) (asked (suc n) b σ) σ' → σ'.budget.left ≡ n
left_after n true σ σ' r = ap (λ (g : Budget). g.left) r.budget
left_after n false σ σ' r = ap (λ (g : Budget). g.left) r.budget

module _ (P : Program) (E : Env) (quiet : (name address : ℕ) (vs : List Val) → Quiet (E.follow name address vs)) (w : World) where
  -- with at most m units left
  pub walk_is : (m : ℕ) (p : Place) (σ : State) → σ.budget.left ≤ m → Counted σ → Walked (run w (walk P E m p) σ)
  unfolding walk run
  walk_is zero p σ h c = go (unit P E p)
    where
      go : (o : Option (Bool × Act Next)) → Walked (run w (last_turn P E p o) σ)
      go None = record { settled = tt; counted = c }
      go (Some u) = record { settled = omega (arith, h); counted = c }
  walk_is (suc m) p σ h c = go (unit P E p) (unit_is E quiet P p) (λ q σ' l d. walk_is m q σ' l d)
    where
      Less : Type 0
      Less = (q : Place) (σ' : State) → σ'.budget.left ≤ m → Counted σ' → Walked (run w (walk P E m q) σ')

      on : (e : End Next) (l : List Entry) (σ' : State) → EndIs Never OwnNext e → σ'.budget.left ≤ m → Counted σ' → Less
          → Walked (go_on e l σ' (λ n σ''. run w (further P E m n) σ''))
      on (gave (stops s)) l σ' own k d ih = record { settled = own; counted = d }
      on (gave (goes q)) l σ' own k d ih = let r = ih q σ' k d in record { settled = r.settled; counted = r.counted }
      on (stopped x) l σ' own k d ih = absurd own

      pays : (u : Bool × Act Next) (n : ℕ) → σ.budget.left ≡ n → UnitOf u → Less
          → Walked (run w (paying P E m p u.1 (some? n)) (asked n u.0 σ))
      pays u zero e is ih = record { settled = e; counted = record { same = c.same } }
      pays u (suc n) e is ih =
          let σ₁ = asked (suc n) u.0 σ in
          let r = run w u.1 σ₁ in
          let did = is.records w σ₁ in
          rw run_bind (on r.end r.log r.after (every_end Unpaid w σ₁ is.own)
          (omega (arith, left_after n u.0 σ r.after did, e, h)) (counted_after n u.0 σ r.after c did) ih)

      go : (o : Option (Bool × Act Next)) → UnitIs o → Less
          → Walked (run w (turn P E m p o) σ)
      go None is ih = record { settled = tt; counted = c }
      go (Some u) is ih = pays u σ.budget.left refl is ih

-- ---- the run of a program

-- where a run ends: with a stop, and if that is for want of units, with none left
abbrev pub Stopped : ℕ → End Stop → State → Type 0
Stopped limit (gave (Steps n)) σ = (n ≡ limit) × (σ.budget.left ≡ 0)
Stopped limit (gave (Returned v)) σ = Unit
Stopped limit (gave (Unknown at x)) σ = Unit
Stopped limit (gave (NoBlock b)) σ = Unit
Stopped limit (gave NoBlocks) σ = Unit
Stopped limit (gave (NoReturn at)) σ = Unit
Stopped limit (gave (Halted at target)) σ = Unit
Stopped limit (stopped x) σ = ⊥

pub record Finished (limit : ℕ) (o : Out Stop) : Type 0 where
  pub end : Stopped limit o.end o.after
  pub counted : Counted o.after

own_stop : (limit : ℕ) (s : Stop) (σ : State) → Own s → Stopped limit (gave s) σ
own_stop limit (Steps n) σ h = absurd h
own_stop limit (Returned v) σ h = tt
own_stop limit (Unknown at x) σ h = tt
own_stop limit (NoBlock b) σ h = tt
own_stop limit NoBlocks σ h = tt
own_stop limit (NoReturn at) σ h = tt
own_stop limit (Halted at target) σ h = tt

pub quiet_follow : (left name address : ℕ) (vs : List Val) → Quiet (follow_at left name address vs)
unfolding follow_at
quiet_follow zero name address vs = q_done
quiet_follow (suc left) name address vs = q_ask (λ _. q_done)

module _ (w : World) (P : Program) (l : Limits) where
  abbrev E : Env
  E = env_of P l.depth

  from_is : Walked (run w (walk_from P E l.steps) (start P l))
  unfolding walk_from start run
  from_is = go P.blocks
    where
      go : (bs : List Block) → Walked (run {A = Next} w (elim bs [ [] ↦ done (stops NoBlocks) | b ∷ rest ↦ walk P E l.steps (before 0) ]) (start P l))
      go [] = record { settled = tt; counted = record { same = refl } }
      go (b ∷ rest) = walk_is P E (quiet_follow l.depth) w l.steps (before 0) (start P l) (le_refl l.steps) (record { same = refl })

  -- the walk itself never ends short
  pub finished : Finished l.steps (run w (acts P l) (start P l))
  unfolding acts walk_all run
  finished =
      let r = run w (walk_from P E l.steps) (start P l) in
      rw run_bind (on r.end r.log r.after from_is.settled from_is.counted)
    where
      on : (e : End Next) (es : List Entry) (σ : State) → Settled e σ → Counted σ
          → Finished l.steps (go_on e es σ (λ n σ'. run {A = Stop} w (done (stop_at l.steps n)) σ'))
      on (gave (stops s)) es σ h c = record { end = own_stop l.steps s σ h; counted = c }
      on (gave (goes p)) es σ h c = record { end = (refl, h); counted = c }
      on (stopped x) es σ h c = absurd h

-- ---- what its record says

pub record Walks (limit : ℕ) (r : Ran) : Type 0 where
  -- each statement paid for is one step recorded
  pub steps : r.recorded ≡ length r.steps
  -- blocks entered and steps recorded are the units spent: at most the limit
  pub most : r.entered + r.recorded ≤ limit
  -- "2 Steps" says that all of them are spent
  pub all : (n : ℕ) → r.stop ≡ Steps n → (n ≡ limit) × (r.entered + r.recorded ≡ limit)

abbrev limit_in : Stop → Option ℕ
limit_in (Steps n) = Some n
limit_in (Returned v) = None
limit_in (Unknown at x) = None
limit_in (NoBlock b) = None
limit_in NoBlocks = None
limit_in (NoReturn at) = None
limit_in (Halted at target) = None

all_spent : (limit n : ℕ) (e : End Stop) (σ : State) → Stopped limit e σ → limit_in (stop_of e) ≡ Some n → (n ≡ limit) × (σ.budget.left ≡ 0)
all_spent limit n (gave (Steps m)) σ h e = (sym (same_Some m n e) ∙ h.0, h.1)
all_spent limit n (gave (Returned v)) σ h e = absurd (none-some n e)
all_spent limit n (gave (Unknown at x)) σ h e = absurd (none-some n e)
all_spent limit n (gave (NoBlock b)) σ h e = absurd (none-some n e)
all_spent limit n (gave NoBlocks) σ h e = absurd (none-some n e)
all_spent limit n (gave (NoReturn at)) σ h e = absurd (none-some n e)
all_spent limit n (gave (Halted at target)) σ h e = absurd (none-some n e)
all_spent limit n (stopped x) σ h e = absurd h

pub walks : (w : World) (P : Program) (l : Limits) → Walks l.steps (ran_in w P l)
unfolding ran_in ran_of start
walks w P l =
    let o = run w (acts P l) (start P l) in
    let sum = (balanced w (acts P l) l.steps (start P l).variables).sum in
    record {
      steps = (finished w P l).counted.same;
      most = omega (arith, sum);
      all = λ n e. let h = all_spent l.steps n o.end o.after (finished w P l).end (ap limit_in e) in (h.0, omega (arith, sum, h.1));
    }
