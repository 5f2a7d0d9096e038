-- What stands at a node that an operation is given. Assumes nothing.
use Rattle.std.specs.Prelude.{◌≡◌, ℕ, ◌+◌, ◌*◌, ◌<◌, ◌≤◌, List, length}
use Rattle.files.specs.Nodes.{kind_of, ref_of}
use Rattle.hosting.specs.Stands.{Fine}

-- a Var
pub record VarAt (nodes : List ℕ) (n : ℕ) : Type 0 where
  pub fine : Fine nodes n
  pub var : kind_of nodes n ≡ 1

-- a node that refers to a type
pub record TypeAt (nodes : List ℕ) (n : ℕ) : Type 0 where
  pub inside : n * 20 + 20 ≤ length nodes
  pub below : ref_of nodes n < 512
