-- Nodes side by side, and what a step along them gives. Assumes nothing.
use Rattle.std.specs.Prelude.{◌≡◌, ℕ, ◌<◌, ◌≤◌, List, Option, MatchOption}
use Rattle.files.specs.Spells.{Inside, next}
use Rattle.operations.specs.declared.siblings.Siblings.{Siblings}

-- from node n up to node e each node lies inside the body, as does the one past it
pub data Row (b : List ℕ) : ℕ → ℕ → Type 0 where
  row_past : {n e : ℕ} → e ≤ n → Row b n e
  row_node : {n e : ℕ} → Inside b n → Row b (next b n) e → Row b n e

-- a step from s gave the node there and left those past it, or found none left
abbrev pub Steps : Siblings → Option ℕ → Siblings → Type 0
Steps s r t = MatchOption r (s.end ≤ s.at) (λ i. (i ≡ s.at) × (s.at < s.end) × (t.at ≡ next s.nodes.now s.at) × (t.end ≡ s.end) × (t.nodes ≡ s.nodes))
