-- A routine file as what it stands for: names, types, head, and blocks of statements, each with its tree (document 01, "The files").
-- `program_of` is total: what it gives for a file that is not accepted does not matter. Assumes nothing.
use Rattle.std.specs.Prelude.{true, false, List, [], ◌∷◌, ℕ, zero, suc, ◌+◌, ◌-◌, ◌*◌, ◌/◌, length, get_or, ltb, eqb, Option, None, Some}
use Rattle.layout.specs.Number.{number_at}
use Rattle.files.specs.declared.kinds.Kind.{Kind}
use Rattle.files.specs.declared.kinds.Kind.TheVariants.{Constant, Var, Register, StringLiteral, FunctionName, ConditionTrue, ConditionFalse, ConstantCondition, Cast, Deref, AddressOf, Ternary, Binary, Assign, Call, Intrinsic, Return, StructInit, Field, Plain}
use Rattle.files.specs.FileTable.{body}
use Rattle.files.specs.Nodes.{kind_of, flag_of, ref_of, width_of, span_of, value_of}
use Rattle.files.specs.Blocks.{cases_of}
use Rattle.layout.specs.Format.{number, counted, whole}

-- ---- trees

-- the kinds of nodes, in the order of their numbers
abbrev pub kinds : List Kind
kinds =
    Constant ∷ Var ∷ Register ∷ StringLiteral ∷ FunctionName ∷ ConditionTrue ∷ ConditionFalse ∷ ConstantCondition
    ∷ Cast ∷ Deref ∷ AddressOf ∷ Ternary ∷ Binary ∷ Assign ∷ Call ∷ Intrinsic ∷ Return ∷ StructInit ∷ Field ∷ Plain ∷ []

abbrev pub kind_numbered : ℕ → Kind
kind_numbered k = get_or kinds k Plain

abbrev pub number_of : Kind → ℕ
number_of Constant = 0
number_of Var = 1
number_of Register = 2
number_of StringLiteral = 3
number_of FunctionName = 4
number_of ConditionTrue = 5
number_of ConditionFalse = 6
number_of ConstantCondition = 7
number_of Cast = 8
number_of Deref = 9
number_of AddressOf = 10
number_of Ternary = 11
number_of Binary = 12
number_of Assign = 13
number_of Call = 14
number_of Intrinsic = 15
number_of Return = 16
number_of StructInit = 17
number_of Field = 18
number_of Plain = 19

-- a node with its place among the file's nodes; the kind is a number here
pub record Node : Type 0 where
  pub place : ℕ
  pub kind : ℕ
  pub flag : ℕ
  pub ref : ℕ
  pub width : ℕ
  pub value : ℕ

-- a node with all under it: "children follow their parent"
mutual
  pub data Tree : Type 0 where
    tree : Node → Trees → Tree

  pub data Trees : Type 0 where
    nil : Trees
    cons : Tree → Trees → Trees

abbrev pub place : Tree → ℕ
place (tree d ts) = d.place

-- the node numbered n of a node body
abbrev pub node_of : List ℕ → ℕ → Node
node_of b n = record { place = n; kind = kind_of b n; flag = flag_of b n; ref = ref_of b n; width = width_of b n; value = value_of b n }

-- the tree at node n, and the trees side by side from node n up to node e; the first number bounds how many nodes are read along the way
unfoldable mutual
  pub tree_from : ℕ → List ℕ → ℕ → Tree
  tree_from zero b n = tree (node_of b n) nil
  tree_from (suc f) b n = tree (node_of b n) (trees_from f b (n + 1) (n + span_of b n))

  pub trees_from : ℕ → List ℕ → ℕ → ℕ → Trees
  trees_from zero b n e = nil
  trees_from (suc f) b n e = elim (ltb n e) [ true ↦ cons (tree_from f b n) (trees_from f b (n + span_of b n) e) | false ↦ nil ]

-- on the way from a root to a node each one read has a higher number than the one before
unfoldable pub tree_at : List ℕ → ℕ → Tree
tree_at b n = tree_from (length b) b n

-- ---- blocks and what holds them

pub record Statement : Type 0 where
  pub statement : ℕ
  pub address : Option ℕ
  pub root : Tree

pub record Case : Type 0 where
  pub value : ℕ
  pub target : ℕ

-- the first case of a value, both as 64 bits
unfoldable pub case_of : List Case → ℕ → Option ℕ
case_of [] n = None
case_of (c ∷ cs) n = elim (eqb c.value n) [ true ↦ Some c.target | false ↦ case_of cs n ]

pub data Terminator : Type 0 where
  returns : Terminator
  goto : (target : ℕ) → Terminator
  branch : (address : Option ℕ) → (root : Tree) → (taken next : ℕ) → Terminator
  switch : (address : Option ℕ) → (root : Tree) → List Case → Terminator

pub record Block : Type 0 where
  pub statements : List Statement
  pub terminator : Terminator

-- a parameter or a local: its name's number and its type's
pub record Variable : Type 0 where
  pub name : ℕ
  pub type : ℕ

pub record Program : Type 0 where
  pub names : List (List ℕ)
  pub types : List (List ℕ)
  pub name : ℕ
  pub address : ℕ
  pub returns : ℕ
  pub parameters : List Variable
  pub locals : List Variable
  pub blocks : List Block

-- ---- reading them

-- n things in order, from thing i on
unfoldable pub listed : {A : Type 0} → (ℕ → A) → ℕ → ℕ → List A
listed f i zero = []
listed f i (suc n) = f i ∷ listed f (suc i) n

-- "length u8, bytes", for names and for types
abbrev pub texts_in : List ℕ → List (List ℕ)
texts_in b = whole (counted 1 (number 1)) b

-- "(name u16, type u16) for parameters and then locals", after 13 bytes
abbrev pub variable_at : List ℕ → ℕ → Variable
variable_at b k = record { name = number_at b (k * 4 + 13) 2; type = number_at b (k * 4 + 15) 2 }

-- "address flag u8, address u64"
abbrev pub flagged : ℕ → ℕ → Option ℕ
flagged zero a = None
flagged (suc f) a = Some a

-- "Statements: address flag u8, address u64, root u32"
abbrev pub statement_at : List ℕ → List ℕ → ℕ → Statement
statement_at nodes b k = record {
  statement = k;
  address = flagged (get_or b (k * 13) 0) (number_at b (k * 13 + 1) 8);
  root = tree_at nodes (number_at b (k * 13 + 9) 4);
}

-- "cases of i64 and target u32", the values as 64 bits
abbrev pub case_at : List ℕ → ℕ → ℕ → Case
case_at b i k = record { value = number_at b (i + k * 12) 8; target = number_at b (i + k * 12 + 8) 4 }

-- "terminator u8 (0 Return, 1 Goto, 2 Branch, 3 Switch), address flag u8, address u64, root u32, taken u32 (for Goto its target), next u32, then
-- for Switch `taken` cases", of the block that starts at byte i
abbrev pub terminator_of : List ℕ → List ℕ → ℕ → ℕ → Terminator
terminator_of nodes b i zero = returns
terminator_of nodes b i (suc zero) = goto (number_at b (i + 16) 4)
terminator_of nodes b i (suc (suc zero)) =
    branch (flagged (get_or b (i + 3) 0) (number_at b (i + 4) 8)) (tree_at nodes (number_at b (i + 12) 4)) (number_at b (i + 16) 4) (number_at b (i + 20) 4)
terminator_of nodes b i (suc (suc (suc k))) =
    switch (flagged (get_or b (i + 3) 0) (number_at b (i + 4) 8)) (tree_at nodes (number_at b (i + 12) 4)) (listed (case_at b (i + 24)) 0 (number_at b (i + 16) 4))

-- the block that starts at byte i, its first statement numbered k: "Statements are dealt to blocks in order"
abbrev pub block_at : List ℕ → List ℕ → List ℕ → ℕ → ℕ → Block
block_at nodes statements b i k = record {
  statements = listed (statement_at nodes statements) k (number_at b i 2);
  terminator = terminator_of nodes b i (get_or b (i + 2) 0);
}

-- the blocks from byte i on, at most as many as the first number says
unfoldable pub blocks_from : ℕ → List ℕ → List ℕ → List ℕ → ℕ → ℕ → List Block
blocks_from zero nodes statements b i k = []
blocks_from (suc f) nodes statements b i k =
    elim (ltb i (length b)) [
      | true ↦ block_at nodes statements b i k ∷ blocks_from f nodes statements b (i + (cases_of (get_or b (i + 2) 0) (number_at b (i + 16) 4) + 24)) (k + number_at b i 2)
      | false ↦ []
    ]

-- "Routine, 6 bodies": names, types, head, nodes, statements, blocks.
-- "Head: name u16, address u64, return type u16, parameters u8", then the variables
unfoldable pub program_of : List ℕ → Program
program_of r =
    let head = body r 2 in
    record {
      names = texts_in (body r 0);
      types = texts_in (body r 1);
      name = number_at head 0 2;
      address = number_at head 2 8;
      returns = number_at head 10 2;
      parameters = listed (variable_at head) 0 (get_or head 12 0);
      locals = listed (variable_at head) (get_or head 12 0) ((length head - 13) / 4 - get_or head 12 0);
      blocks = blocks_from (length (body r 5)) (body r 3) (body r 4) (body r 5) 0 0;
    }
