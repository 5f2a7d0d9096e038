-- A unit spent on the code's host. Assumes nothing.
use mathlib.Core.Path.{◌≡◌, sym, ap, subst}
use mathlib.Core.Bool.{Bool, true}
use mathlib.Core.List.{List}
use Prim.Native.Nat.{ℕ, suc}
use Rattle.definition.specs.Act.{Act, spend}
use Rattle.definition.specs.Host.{hosted}
use Rattle.definition.specs.State.{some?}
use Rattle.hosting.specs.declared.Counts.{Counts}
use Rattle.hosting.specs.Scene.{Given, Scene}
use Rattle.hosting.specs.Held.{held, code_host}
use Rattle.hosting.specs.Ending.{Ending}
use Rattle.hosting.specs.Runs.{Came, Runs}
use Rattle.hosting.proofs.Running.{host_in}
use Rattle.outcomes.specs.Units.{paid_counts}

pub spend_runs : {A : Type 0} {g : Given} {b : Bool} (k : Scene → Bool → Act A) (n : ℕ) {w o : List ℕ} {a : Counts} {e : Ending A} {w' o' : List ℕ} {a' : Counts}
    → a.tally.left ≡ suc n → Runs g (λ x. k x true) w o (paid_counts b a) e w' o' a' → Runs g (λ x. spend b (k x)) w o a e w' o' a'
unfolding hosted code_host held
spend_runs {A} {g} {b} k n {w} {o} {a} {e} {w'} {o'} {a'} l r = record {
  ready = r.ready;
  came = λ x h. subst (λ (z : Bool). Came (hosted (host_in g x) (k x z) (held w o (paid_counts b a))) e (held w' o' a')) (sym (ap some? l)) (r.came x h);
  tables = r.tables;
}
