-- What the definitions of the files share. Assumes nothing.
use Rattle.std.specs.Prelude.{ℕ, zero, suc, ◌-◌, Bool, true, false, List, take, drop, Option, None, Some}

-- n where the test holds, else 0
abbrev pub only : Bool → ℕ → ℕ
only true n = n
only false n = 0

-- the bytes from a place to before another
abbrev pub part : ℕ → ℕ → List ℕ → List ℕ
part a e s = take (e - a) (drop a s)

-- how many there are, by 1 more than that, where 0 says that they are refused
abbrev pub one_less : ℕ → Option ℕ
one_less zero = None
one_less (suc n) = Some n
