-- The rules of the kinds as the code has them. Assumes nothing.
use Rattle.std.specs.Prelude.{Bool, cond, ℕ, zero, suc}
use Rattle.files.specs.declared.kinds.Refers.{Refers}
use Rattle.files.specs.declared.kinds.Refers.TheVariants.{Nothing, ToName, ToType, ToIndex}
use Rattle.files.specs.declared.kinds.Rule.{Rule as Row}
use Rattle.files.specs.Nodes.{Rule}

-- what a reference is, by its number in a rule
abbrev pub refers_number : Refers → ℕ
refers_number Nothing = 0
refers_number ToName = 1
refers_number ToType = 2
refers_number ToIndex = 3

abbrev pub refers_numbered : ℕ → Refers
refers_numbered zero = Nothing
refers_numbered (suc zero) = ToName
refers_numbered (suc (suc zero)) = ToType
refers_numbered (suc (suc (suc k))) = ToIndex

-- a rule as the code has it
abbrev pub row : Rule → Row
row r = record { flag = r.flag; refers = refers_numbered r.ref; narrow = r.narrow; wide = r.wide; value = r.value; few = r.few; many = r.many }

-- a parent's kind, as far as its children's places ask: a StructInit, or none
abbrev pub parent_of : Bool → ℕ
parent_of in_struct = cond in_struct 17 20
