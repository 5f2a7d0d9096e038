-- What is done with the registers as they stand, as a run on the code's host. Assumes nothing.
use Rattle.std.specs.Prelude.{◌≡◌, ℕ, List}
use Rattle.definition.specs.Act.{Act}
use Rattle.workspace.specs.Parts.{tables}
use Rattle.workspace.specs.Post.{Aside}
use Rattle.hosting.specs.declared.How.{How}
use Rattle.hosting.specs.Scene.{Given, Scene, Ready}
use Rattle.hosting.specs.Ending.{Ending}
use Rattle.hosting.specs.Runs.{Runs}
use Rattle.operations.specs.Registers.{counts_in, units_of, how_in}

-- the workspace w is in order for a run that goes as its registers say
pub record ReadyIn (g : How → Given) (w : List ℕ) : Type 0 where
  pub ready : Ready (g (how_in w)) w (counts_in w)

-- from the bytes w₀ o₀, what m does ends so, with the bytes w o; how the run goes stays, and it takes no unit
pub record Goes {A : Type 0} (g : How → Given) (m : Scene → Act A) (w₀ o₀ : List ℕ) (e : Ending A) (w o : List ℕ) : Type 0 where
  pub how : how_in w ≡ how_in w₀
  pub units : units_of (counts_in w) ≡ units_of (counts_in w₀)
  pub runs : (h : How) → how_in w₀ ≡ h → Ready (g h) w₀ (counts_in w₀) → Runs (g h) m w₀ o₀ (counts_in w₀) e w o (counts_in w)

-- the same done with the workspace alone, whatever else is given
pub record Works {A : Type 0} (m : Act A) (w₀ : List ℕ) (e : Ending A) (w : List ℕ) : Type 0 where
  pub goes : (g : How → Given) (o : List ℕ) → Goes g (λ x. m) w₀ o e w o

-- what an evaluation came to is put in the registers, and nothing else changed
pub record Beside (w w' : List ℕ) : Type 0 where
  pub aside : Aside w w'
  pub counts : counts_in w' ≡ counts_in w
  pub how : how_in w' ≡ how_in w

-- what was done from the workspace w₀ took no unit and left w in order, with the same tables
pub record Remains (g : How → Given) (w₀ w : List ℕ) : Type 0 where
  pub how : how_in w ≡ how_in w₀
  pub units : units_of (counts_in w) ≡ units_of (counts_in w₀)
  pub ready : ReadyIn g w
  pub tables : tables w ≡ tables w₀
