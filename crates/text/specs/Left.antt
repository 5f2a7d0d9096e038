-- What is left of the bodies of steps and of variables while they are read. n is how many names there are. Assumes nothing.
use Rattle.std.specs.Prelude.{◌≡◌, List, ℕ, ◌≤◌}
use Rattle.layout.specs.Each.{Each}
use Rattle.value.specs.declared.Val.{Val}
use Rattle.memory.specs.Overlay.{Overlay}
use Rattle.definition.specs.Act.{Step}
use Rattle.definition.specs.Record.{steps_body, variables_body}
use Rattle.text.specs.Fits.{StepFits, VariableFits}

-- what is left of a body: it was written of steps that fit
pub record StepsLeft (n : ℕ) (s : List ℕ) : Type 0 where
  pub few : n ≤ 512
  pub steps : List Step
  pub is : s ≡ steps_body steps
  pub fits : Each (StepFits n) steps

pub record VariablesLeft (n : ℕ) (s : List ℕ) : Type 0 where
  pub few : n ≤ 512
  pub variables : Overlay Val
  pub is : s ≡ variables_body variables
  pub fits : Each (VariableFits n) variables
