-- What every operation keeps, every run keeps. Assumes nothing.
use Rattle.definition.specs.Question.{World, cut}
use Rattle.definition.specs.Act.{Act, done, fail, ask, act, Op}
use Rattle.definition.specs.State.{State, reply, next, run}

abbrev pub Keeps : (State → Type 0) → Type 0
Keeps P = (o : Op) (s : State) → P s → P (next o s)

module _ {A : Type 0} (w : World) {P : State → Type 0} (keeps : Keeps P) where
  pub kept : (t : Act A) (s : State) → P s → P (run w t s).after
  unfolding run
  kept (done a) s p = p
  kept (fail x) s p = p
  kept (ask κ q k) s p = kept (k (w κ (cut κ q))) s p
  kept (act o k) s p = kept (k (reply o s)) (next o s) (keeps o s p)
