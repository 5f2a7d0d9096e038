-- What refuses the three files, and what a routine and a node of `constant_value`: a number, and the node that it tells (document 01, "From the input";
-- document 02, A1). Assumes nothing.
use Rattle.std.specs.Prelude.{Bool, cond, ◌&&◌, List, [], ◌∷◌, map, ℕ, zero, suc, ◌-◌, ◌/◌, length, leb, Result, Ok, Err}
use Rattle.std.specs.List.{range_with_len}
use Rattle.files.specs.FileTable.{table_ok, body}
use Rattle.files.specs.Names.{names_in, types_in}
use Rattle.files.specs.Head.{head_ok}
use Rattle.files.specs.Nodes.{kind_known, used_ok, unused_ok, trees_ok, root_ok}
use Rattle.files.specs.Blocks.{statements_ok, blocks_in}
use Rattle.files.specs.Call.{call_body_ok}
use Rattle.files.specs.WorldFile.{symbols_ok, regions_in}
use Rattle.files.specs.declared.refusal.Refusal.{Refusal}
use Rattle.files.specs.declared.refusal.Refusal.TheVariants.{RoutineTable, Names, Types, Head, Kind, Barred, Unused, Trees, Blocks, World, Call, Workspace, Addresses, Record}

-- what refuses: its number, 0 where nothing does, and the node that 5, 30 and 31 carry "in place of the 0"
pub record Fault : Type 0 where
  pub number : ℕ
  pub node : ℕ

abbrev pub of_node : ℕ → ℕ → Fault
of_node number node = record { number = number; node = node }

abbrev pub fault : ℕ → Fault
fault number = of_node number 0

abbrev pub no_fault : Fault
no_fault = fault 0

-- "From the input" and "From the state": what each number refuses
abbrev pub fault_of : Refusal → Fault
fault_of RoutineTable = fault 1
fault_of Names = fault 2
fault_of Types = fault 3
fault_of Head = fault 4
fault_of (Kind node) = of_node 5 node
fault_of (Barred node) = of_node 30 node
fault_of (Unused node) = of_node 31 node
fault_of Trees = fault 6
fault_of Blocks = fault 7
fault_of World = fault 8
fault_of Call = fault 9
fault_of Workspace = fault 20
fault_of Addresses = fault 21
fault_of Record = fault 22

-- what a check finds
abbrev pub refused : {A : Type 0} → Result A Refusal → Fault
refused (Ok a) = no_fault
refused (Err r) = fault_of r

-- how many names, and how many types, an accepted body has
abbrev pub names_of : List ℕ → ℕ
names_of b = names_in b - 1

abbrev pub types_of : List ℕ → ℕ
types_of b = types_in b - 1

-- 8 world: "World, 3 bodies: names as in a routine; symbols ..; regions .."
unfoldable pub world_ok : List ℕ → Bool
world_ok w = table_ok 3 w && leb 1 (names_in (body w 0)) && symbols_ok (body w 1) (names_of (body w 0)) && leb 1 (regions_in (body w 2))

-- 9: "call with a wrong table, over its limits or ill-sized"
unfoldable pub call_ok : List ℕ → Bool
call_ok c = table_ok 1 c && call_body_ok (body c 0)

-- the fault of a test that fails
abbrev pub unless : Bool → Fault → Fault
unless ok f = cond ok no_fault f

-- a fault, or where there is none what comes after it
abbrev pub or_else : Fault → Fault → Fault
or_else f g = elim f.number [ zero ↦ g | suc m ↦ f ]

-- the first of them
abbrev pub earliest : List Fault → Fault
earliest [] = no_fault
earliest (f ∷ fs) = or_else f (earliest fs)

-- "30 and 31 are tested after 5 on the same node": what is wrong with node n
unfoldable pub node_fault : List ℕ → ℕ → ℕ → ℕ → Fault
node_fault b names types n =
    earliest
    (unless (kind_known b n) (of_node 5 n)
    ∷ unless (used_ok b names types n) (of_node 30 n)
    ∷ unless (unused_ok b n) (of_node 31 n)
    ∷ [])

-- "the lowest node comes first", of the whole ones
unfoldable pub nodes_fault : List ℕ → ℕ → ℕ → Fault
nodes_fault b names types = earliest (map (node_fault b names types) (range_with_len 0 (length b / 20)))

-- "2 names. 3 types. 4 head", then what is wrong with a node, "then 6": "6 a node body .. 7 statements, blocks, or a root .."
unfoldable pub bodies_fault : List ℕ → List ℕ → List ℕ → List ℕ → List ℕ → List ℕ → Fault
bodies_fault names types head nodes statements blocks =
    earliest
    (unless (leb 1 (names_in names)) (fault 2)
    ∷ unless (leb 1 (types_in types)) (fault 3)
    ∷ unless (head_ok head (names_of names) (types_of types)) (fault 4)
    ∷ nodes_fault nodes (names_of names) (types_of types)
    ∷ unless (trees_ok nodes) (fault 6)
    ∷ unless (statements_ok nodes statements && leb 1 (blocks_in nodes (length statements / 13) blocks)) (fault 7)
    ∷ [])

-- "1 routine table", then what its six bodies are refused by
unfoldable pub routine_fault : List ℕ → Fault
routine_fault r = cond (table_ok 6 r) (bodies_fault (body r 0) (body r 1) (body r 2) (body r 3) (body r 4) (body r 5)) (fault 1)

-- what refuses the routine, then 8 for the world and 9 for the call
unfoldable pub files_fault : List ℕ → List ℕ → List ℕ → Fault
files_fault r w c = earliest (routine_fault r ∷ unless (world_ok w) (fault 8) ∷ unless (call_ok c) (fault 9) ∷ [])

-- what refuses the routine, then 9 for "a `constant_value` node as in 7"
unfoldable pub constant_fault : List ℕ → ℕ → Fault
constant_fault r n = earliest (routine_fault r ∷ unless (root_ok (body r 3) n) (fault 9) ∷ [])

-- their numbers
abbrev pub routine_refusal : List ℕ → ℕ
routine_refusal r = (routine_fault r).number

abbrev pub refusal : List ℕ → List ℕ → List ℕ → ℕ
refusal r w c = (files_fault r w c).number

abbrev pub constant_refusal : List ℕ → ℕ → ℕ
constant_refusal r n = (constant_fault r n).number
