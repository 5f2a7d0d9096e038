-- What a run on the code's host comes to. Assumes nothing.
use Rattle.std.specs.Prelude.{◌≡◌, List, ℕ, ◌<◌, length, None, Some}
use Rattle.definition.specs.Act.{Act, End, gave, stopped}
use Rattle.definition.specs.Host.{hosted}
use Rattle.definition.specs.Run.{address_limit}
use Rattle.workspace.specs.Parts.{tables}
use Rattle.hosting.specs.declared.Counts.{Counts}
use Rattle.hosting.specs.Scene.{Given, Scene, Ready, Meant}
use Rattle.hosting.specs.Held.{Held, held, code_host}
use Rattle.hosting.specs.Ending.{Ending, ended, short}

-- how a hosted run ended, and what is held then; where the code has no room left, the run has written over 4,096 addresses
abbrev pub Came : {A : Type 0} → End A × Held → Ending A → Held → Type 0
Came p (ended a) s = p ≡ (gave a, s)
Came p (short (Some y)) s = p ≡ (stopped y, s)
Came p (short None) s = address_limit < length p.1.view.memory

-- what holds unless the code has no room left
abbrev pub Kept : {A : Type 0} → Ending A → Type 0 → Type 0
Kept (ended a) P = P
Kept (short (Some y)) P = P
Kept (short None) P = Unit

-- from the bytes w₀ o₀ and the counts a₀, what m does ends so, with the bytes w o and the counts a, whatever scene the tables tell; they stay
pub record Runs {A : Type 0} (g : Given) (m : Scene → Act A) (w₀ o₀ : List ℕ) (a₀ : Counts) (e : Ending A) (w o : List ℕ) (a : Counts) : Type 0 where
  pub ready : Kept e (Ready g w a)
  pub came : (x : Scene) → Meant g x (tables w₀) → Came (hosted (code_host x.world g.how.second) (m x) (held w₀ o₀ a₀)) e (held w o a)
  pub tables : Kept e (tables w ≡ tables w₀)
