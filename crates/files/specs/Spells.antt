-- What it is for a node body to spell a tree at a node: what the code that walks the nodes knows of them. `tree_at` gives that tree
-- (proofs/Spelled.antt), and an accepted body spells one at each node (proofs/Forest.antt). Assumes nothing.
use Rattle.std.specs.Prelude.{◌≡◌, true, List, ℕ, suc, ◌+◌, ◌*◌, max, ◌≤◌, length}
use Rattle.files.specs.Nodes.{span_of, placed_ok, fields_ok, trees_ok}
use Rattle.files.specs.Program.{Node, Tree, tree, Trees, nil, cons, node_of}

-- a node counts itself, and what it counts lies in the body
pub record Inside (b : List ℕ) (n : ℕ) : Type 0 where
  pub some : 1 ≤ span_of b n
  pub fits : (n + span_of b n) * 20 ≤ length b

-- the node past n and all under it
abbrev pub next : List ℕ → ℕ → ℕ
next b n = n + span_of b n

-- the body b spells the tree t at node n, and the trees ts side by side from node n up to node e
mutual
  pub data At (b : List ℕ) : ℕ → Tree → Type 0 where
    node_at : {n : ℕ} {d : Node} {ts : Trees} → Inside b n → d ≡ node_of b n → KidsAt b (n + 1) (n + span_of b n) ts → At b n (tree d ts)

  pub data KidsAt (b : List ℕ) : ℕ → ℕ → Trees → Type 0 where
    no_kid : {n e : ℕ} → n ≡ e → KidsAt b n e nil
    a_kid : {n e : ℕ} {t : Tree} {ts : Trees} → n + span_of b n ≤ e → At b n t → KidsAt b (n + span_of b n) e ts → KidsAt b n e (cons t ts)

-- some tree is spelled at node n
pub record Fine (b : List ℕ) (n : ℕ) : Type 0 where
  pub tree : Tree
  pub spells : At b n tree

-- a node body that neither 5 nor 6 refuses, beside so many names and types
pub record Accepted (b : List ℕ) (names types : ℕ) : Type 0 where
  pub fields : fields_ok b names types ≡ true
  pub trees : trees_ok b ≡ true

-- how many trees stand side by side
unfoldable pub size : Trees → ℕ
size nil = 0
size (cons t ts) = suc (size ts)

-- how many nodes the longest chain from parent to child has
unfoldable mutual
  pub height : Tree → ℕ
  height (tree d ts) = suc (heights ts)

  pub heights : Trees → ℕ
  heights nil = 0
  heights (cons t ts) = max (height t) (heights ts)

-- each of the trees may stand under a parent of kind p: "a field node not directly under 17, or another node there" is refused
pub data Under (p : ℕ) : Trees → Type 0 where
  under_none : Under p nil
  under_some : {d : Node} {ts us : Trees} → placed_ok d.kind p ≡ true → Under p us → Under p (cons (tree d ts) us)
