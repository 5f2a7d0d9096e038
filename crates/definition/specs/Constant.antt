-- `constant_value`: "a node number gives a known value or none, defaults as limits". It "has a workspace and no record, and meets 20 and 21 too".
-- Assumes nothing.
use Rattle.std.specs.Prelude.{true, false, List, [], ℕ, zero, suc, length, ltb, Option, None, Some}
use Rattle.value.specs.declared.Val.{Val}
use Rattle.files.specs.Call.{usual}
use Rattle.files.specs.FileTable.{body}
use Rattle.files.specs.Program.{Program, program_of, tree_at}
use Rattle.files.specs.Refusal.{fault, constant_fault}
use Rattle.definition.specs.Question.{World, address_of, size_of, read_at, call_to}
use Rattle.definition.specs.Act.{End, gave, stopped}
use Rattle.definition.specs.State.{fresh, Out, run}
use Rattle.definition.specs.Term.{eval}
use Rattle.definition.specs.Evaluate.{Env, look}
use Rattle.definition.specs.Walk.{follow_at}
use Rattle.definition.specs.Run.{Verdict, refused, from_state, workspace_needed, number_for}

-- the Rust's `Nothing`: a world that answers none
abbrev pub nothing : World
nothing address_of n = None
nothing size_of n = None
nothing read_at q = []
nothing call_to q = tt

-- no variable is declared, and no call is asked: "As deep as calls go, so none is followed"
abbrev pub constant_env : Program → Env
constant_env P = record { types = P.types; declared = λ x. None; follow = follow_at 0 }

unfoldable pub constant_run : (routine : List ℕ) → (node : ℕ) → Out Val
constant_run routine n = run nothing (eval (look (constant_env (program_of routine)) (tree_at (body routine 3) n))) (fresh usual.steps [])

abbrev pub known_only : End Val → Option Val
known_only (stopped x) = None
known_only (gave v) = elim v.known [ true ↦ Some v | false ↦ None ]

unfoldable pub constant_value : (routine : List ℕ) → (node : ℕ) → Option Val
constant_value routine n = known_only (constant_run routine n).end

-- 1 to 7, 30 and 31 as for a run, 9 for a node "as in 7", then 20 and 21: no record, so no 22
unfoldable pub constant_verdict : (routine : List ℕ) → (node workspace : ℕ) → Verdict
constant_verdict routine n workspace =
    let f = constant_fault routine n in
    elim f.number [
      | suc m ↦ refused f
      | zero ↦ elim (ltb workspace workspace_needed) [
        | true ↦ refused (fault 20)
        | false ↦ from_state (length (constant_run routine n).after.memory) 0 0
      ]
    ]

unfoldable pub constant_number : (routine : List ℕ) → (node workspace : ℕ) → ℕ
constant_number routine n workspace = number_for (constant_verdict routine n workspace)
