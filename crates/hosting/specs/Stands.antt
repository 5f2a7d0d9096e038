-- What it is for a node body to spell a tree that the machine can evaluate: each node's children are as many as its kind has. Assumes nothing.
use Rattle.std.specs.Prelude.{◌≡◌, List, ℕ, ◌+◌, ◌≤◌, ◌<◌}
use Rattle.files.specs.Nodes.{kind_of, ref_of, width_of, span_of}
use Rattle.files.specs.Program.{Tree, tree, Trees, nil, cons, node_of}
use Rattle.files.specs.Spells.{Inside, next, size}

-- the body b spells the tree t at node n; Shape, the children of a node of a kind; KidsAt and FieldsAt, trees side by side from node n up to node e
mutual
  pub data Stands (b : List ℕ) : ℕ → Tree → Type 0 where
    stands : {n : ℕ} {ts : Trees} → Inside b n → Shape b (kind_of b n) n ts → Stands b n (tree (node_of b n) ts)

  pub data Shape (b : List ℕ) : ℕ → ℕ → Trees → Type 0 where
    a_constant : {n : ℕ} → span_of b n ≡ 1 → width_of b n ≤ 8 → Shape b 0 n nil
    a_var : {n : ℕ} → span_of b n ≡ 1 → ref_of b n < 512 → Shape b 1 n nil
    a_register : {n : ℕ} → span_of b n ≡ 1 → Shape b 2 n nil
    a_text : {n : ℕ} → span_of b n ≡ 1 → Shape b 3 n nil
    a_function : {n : ℕ} → span_of b n ≡ 1 → Shape b 4 n nil
    an_always : {n : ℕ} → span_of b n ≡ 1 → Shape b 5 n nil
    a_never : {n : ℕ} → span_of b n ≡ 1 → Shape b 6 n nil
    a_decided : {n : ℕ} → span_of b n ≡ 1 → Shape b 7 n nil
    a_cast : {n : ℕ} {a : Tree} → ref_of b n < 512 → Stands b (n + 1) a → next b (n + 1) ≡ next b n → Shape b 8 n (cons a nil)
    a_deref : {n : ℕ} {a : Tree} → Stands b (n + 1) a → next b (n + 1) ≡ next b n → Shape b 9 n (cons a nil)
    an_address : {n : ℕ} {a : Tree} → Stands b (n + 1) a → next b (n + 1) ≡ next b n → Shape b 10 n (cons a nil)
    a_ternary : {n : ℕ} {a c d : Tree} → Stands b (n + 1) a → Stands b (next b (n + 1)) c → Stands b (next b (next b (n + 1))) d
        → next b (next b (next b (n + 1))) ≡ next b n → Shape b 11 n (cons a (cons c (cons d nil)))
    a_binary : {n : ℕ} {a c : Tree} → Stands b (n + 1) a → Stands b (next b (n + 1)) c → next b (next b (n + 1)) ≡ next b n → Shape b 12 n (cons a (cons c nil))
    an_assign : {n : ℕ} {a c : Tree} → Stands b (n + 1) a → Stands b (next b (n + 1)) c → next b (next b (n + 1)) ≡ next b n → Shape b 13 n (cons a (cons c nil))
    a_call : {n : ℕ} {a : Tree} {ts : Trees} → Stands b (n + 1) a → KidsAt b (next b (n + 1)) (next b n) ts → size ts ≤ 16 → Shape b 14 n (cons a ts)
    an_intrinsic : {n : ℕ} {ts : Trees} → KidsAt b (n + 1) (next b n) ts → Shape b 15 n ts
    a_leave : {n : ℕ} → span_of b n ≡ 1 → Shape b 16 n nil
    a_give : {n : ℕ} {a : Tree} → 1 < span_of b n → Stands b (n + 1) a → next b (n + 1) ≡ next b n → Shape b 16 n (cons a nil)
    a_struct : {n : ℕ} {ts : Trees} → FieldsAt b (n + 1) (next b n) ts → Shape b 17 n ts
    a_plain : {n : ℕ} → span_of b n ≡ 1 → Shape b 19 n nil

  pub data KidsAt (b : List ℕ) : ℕ → ℕ → Trees → Type 0 where
    no_kid : {n : ℕ} → KidsAt b n n nil
    a_kid : {n e : ℕ} {t : Tree} {ts : Trees} → n < e → Stands b n t → KidsAt b (next b n) e ts → KidsAt b n e (cons t ts)

  pub data FieldsAt (b : List ℕ) : ℕ → ℕ → Trees → Type 0 where
    no_field : {n : ℕ} → FieldsAt b n n nil
    a_field : {n e : ℕ} {t : Tree} {ts : Trees} → n < e → Inside b n → kind_of b n ≡ 18 → ref_of b n < 512 → Stands b (n + 1) t → next b (n + 1) ≡ next b n
        → FieldsAt b (next b n) e ts → FieldsAt b n e (cons (tree (node_of b n) (cons t nil)) ts)

-- a tree stands at node n; trees, or fields, from node n up to node e
pub record Fine (b : List ℕ) (n : ℕ) : Type 0 where
  pub tree : Tree
  pub spells : Stands b n tree
  pub inside : Inside b n

pub record FineKids (b : List ℕ) (n e : ℕ) : Type 0 where
  pub trees : Trees
  pub spells : KidsAt b n e trees

-- with room for each among the 16 values that a call has, k of them taken
pub record FineArgs (b : List ℕ) (n e k : ℕ) : Type 0 where
  pub trees : Trees
  pub spells : KidsAt b n e trees
  pub room : size trees + k ≤ 16

pub record FineFields (b : List ℕ) (n e : ℕ) : Type 0 where
  pub trees : Trees
  pub spells : FieldsAt b n e trees
