-- What stays where the tables do, and variables looked up and set, as runs on the code's host. Assumes nothing.
use mathlib.Core.Path.{◌≡◌, sym, ap₂, subst}
use mathlib.Core.List.{List}
use Rattle.std.specs.Prelude.{Option}
use Prim.Native.Nat.{ℕ}
use Rattle.value.specs.declared.Val.{Val}
use Rattle.memory.specs.Overlay.{find}
use Rattle.definition.specs.Act.{Act, done, get, set, gave, ◌>>=◌}
use Rattle.definition.specs.Host.{hosted}
use Rattle.workspace.specs.Parts.{tables, frame_part, regions_part}
use Rattle.workspace.specs.Variables.{variables_in}
use Rattle.workspace.specs.View.{View, view, Fit, Changes, setting}
use Rattle.index.specs.Regions.{RegionsIndexed}
use Rattle.hosting.specs.declared.Counts.{Counts}
use Rattle.hosting.specs.Scene.{Given, Scene, Ready, Meant, Narrow, SymbolsRead}
use Rattle.hosting.specs.Held.{held, code_host}
use Rattle.hosting.specs.Ending.{Ending, ended}
use Rattle.hosting.specs.Runs.{Came, Runs}

-- ---- what stays where the tables do

pub kept_ready : {g : Given} {w w' : List ℕ} {a a' : Counts} → tables w' ≡ tables w → Fit w' a'.stored → Ready g w a → Ready g w' a'
kept_ready {g} {w} {w'} e f p = record {
  fit = f;
  narrow = subst Narrow (sym e) p.narrow;
  symbols = subst (SymbolsRead g.nodes g.symbols) (sym e) p.symbols;
  regions = subst (λ (t : List ℕ). RegionsIndexed g.regions (regions_part t) g.how.regions) (sym e) p.regions;
}

pub kept_meant : {g : Given} {x : Scene} (w w' : List ℕ) → tables w' ≡ tables w → Meant g x (tables w) → Meant g x (tables w')
kept_meant {g} {x} w w' e m = subst (Meant g x) (sym e) m

-- ---- variables

-- one is looked up
pub get_runs : {A : Type 0} {g : Given} (k : Scene → Option Val → Act A) (n : ℕ) {v : Option Val} {w o : List ℕ} {a : Counts} {e : Ending A} {w' o' : List ℕ} {a' : Counts}
    → v ≡ find n (variables_in (frame_part w)) → Runs g (λ x. k x v) w o a e w' o' a' → Runs g (λ x. get n done >>= k x) w o a e w' o' a'
unfolding hosted code_host held view ◌>>=◌
get_runs {A} {g} k n {v} {w} {o} {a} {e} {w'} {o'} {a'} p r = record {
  ready = r.ready;
  tables = r.tables;
  came = λ x h. subst (λ (z : Option Val). Came (hosted (code_host x.world g.how.second) (k x z) (held w o a)) e (held w' o' a')) p (r.came x h);
}

-- one is set
pub set_runs : {A : Type 0} {g : Given} {n : ℕ} {v : Val} (u : A) {w w' o : List ℕ} {a : Counts} → Changes w (setting n v) w' → Ready g w a → Runs g (λ x. set n v (done u)) w o a (ended u) w' o a
unfolding hosted code_host held
set_runs u {w} {w'} {o} {a} c p = record {
  ready = kept_ready c.tables (c.fit a.stored p.fit) p;
  tables = c.tables;
  came = λ x h. ap₂ (λ (z : View) (q : List ℕ). (gave u, record { view = z; out = o; questions = q; tally = a.tally })) (sym (c.holds a.stored)) (sym c.questions);
}
