-- The call file (document 01, "The files"): the limits of a run, and its arguments. Assumes nothing.
use Rattle.std.specs.Prelude.{Bool, ◌&&◌, List, [], ℕ, ◌+◌, ◌-◌, ◌*◌, ◌/◌, ◌%◌, length, leb, eqb}
use Rattle.layout.specs.Number.{number_at}
use Rattle.files.specs.FileTable.{body}
use Rattle.files.specs.Program.{listed}

pub record Limits : Type 0 where
  pub steps : ℕ
  pub depth : ℕ
  pub arguments : List ℕ

-- "steps u32 (to 1,000,000), depth u32 (to 255), up to 16 arguments u64": 8 bytes, then 8 for each argument
unfoldable pub call_body_ok : List ℕ → Bool
call_body_ok b =
    leb 8 (length b) && leb (length b) (8 + 16 * 8) && eqb (length b % 8) 0 && leb (number_at b 0 4) 1_000_000 && leb (number_at b 4 4) 255

abbrev pub argument_at : List ℕ → ℕ → ℕ
argument_at b k = number_at b (k * 8 + 8) 8

-- what a call's body gives
abbrev pub limits_in : List ℕ → Limits
limits_in b = record { steps = number_at b 0 4; depth = number_at b 4 4; arguments = listed (argument_at b) 0 ((length b - 8) / 8) }

-- "Call, 1 body"
unfoldable pub limits_of : List ℕ → Limits
limits_of c = limits_in (body c 0)

-- "`Limits` defaults: 10,000 and 8"
abbrev pub usual : Limits
usual = record { steps = 10_000; depth = 8; arguments = [] }
