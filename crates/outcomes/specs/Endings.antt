-- How the results of a walk's parts read, and an ending made of another. Assumes nothing.
use Rattle.std.specs.Prelude.{◌≡◌, Bool, true, false, ℕ, Option, None, Some, Result, Ok, Err}
use Rattle.definition.specs.Act.{Act, done, fail, End, gave, stopped, no_note}
use Rattle.definition.specs.Evaluate.{Did, did}
use Rattle.definition.specs.Statements as statements
use Rattle.definition.specs.Walk as walk
use Rattle.std.specs.declared.ops.ControlFlow.{ControlFlow}
use Rattle.std.specs.declared.ops.ControlFlow.TheVariants.{Continue, Break}
use Rattle.hosting.specs.declared.Short.{Short}
use Rattle.hosting.specs.declared.Short.TheVariants.{Full, Why}
use Rattle.hosting.specs.declared.Stop.{Stop}
use Rattle.hosting.specs.Ending.{Ending, ended, short, short_of, did_of}
use Rattle.hosting.specs.Walking.{stop_end}
use Rattle.outcomes.specs.declared.leads.Spot.{Spot}
use Rattle.outcomes.specs.declared.roots.Acts.{Acts}
use Rattle.outcomes.specs.declared.roots.Acts.TheVariants.{Does, Leaves, Gives, Strays, Halts}

-- ---- an ending made of another

abbrev pub act_of : {A : Type 0} → End A → Act A
act_of (gave v) = done v
act_of (stopped y) = fail y

abbrev pub end_end : {A : Type 0} → End A → Ending A
end_end (gave v) = ended v
end_end (stopped y) = short (Some y)

-- something is made of what was given, and nothing done
abbrev pub bind_end : {A B : Type 0} → (A → End B) → Ending A → Ending B
bind_end k (ended v) = end_end (k v)
bind_end k (short y) = short y

-- what ends short is caught
abbrev pub tried_end : {A B : Type 0} → (End A → B) → Ending A → Ending B
tried_end f (ended v) = ended (f (gave v))
tried_end f (short (Some y)) = ended (f (stopped y))
tried_end f (short None) = short None

-- ---- results

-- of a statement at an address
abbrev pub acted : Option ℕ → Acts → statements.Outcome
acted at (Does d) = (did_of d, None)
acted at Leaves = (did no_note, Some (statements.Returned None))
acted at (Gives v) = (did no_note, Some (statements.Returned (Some v)))
acted at Strays = (did no_note, Some (statements.NoReturn at))
acted at (Halts target) = (did no_note, Some (statements.Halted at target))

abbrev pub acts_end : Option ℕ → Result Acts Short → Ending statements.Outcome
acts_end at (Ok a) = ended (acted at a)
acts_end at (Err s) = short (short_of s)

-- what its step tells
abbrev pub did_in : Result Acts Short → Did
did_in (Ok a) = (acted None a).0
did_in (Err s) = did no_note

-- whether it ended short for want of room
abbrev pub full_in : Result Acts Short → Bool
full_in (Ok a) = false
full_in (Err Full) = true
full_in (Err (Why r n)) = false

abbrev pub some_end : Ending statements.Stop → Ending (Option statements.Stop)
some_end (ended s) = ended (Some s)
some_end (short y) = short y

abbrev pub halt_end : ℕ → Option Stop → Ending (Option statements.Stop)
halt_end limit None = ended None
halt_end limit (Some s) = some_end (stop_end limit s)

-- it is the stop of a statement that ended so
pub record HaltIs (at : Option ℕ) (o : Result Acts Short) (r : Option Stop) : Type 0 where
  pub is : (limit : ℕ) → halt_end limit r ≡ tried_end (λ e. (statements.outcome_of at e).1) (acts_end at o)

abbrev pub stops_end : Ending statements.Stop → Ending walk.Next
stops_end (ended s) = ended (walk.stops s)
stops_end (short y) = short y

abbrev pub place_of : Spot → walk.Place
place_of s = elim s.statement [ Some k ↦ walk.within s.block k | None ↦ walk.before s.block ]

abbrev pub next_end : ℕ → ControlFlow Stop Spot → Ending walk.Next
next_end limit (Break s) = stops_end (stop_end limit s)
next_end limit (Continue s) = ended (walk.goes (place_of s))
