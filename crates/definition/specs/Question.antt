-- What a run asks of its world (the Rust's `World`), and what a world answers. Assumes nothing.
use Rattle.std.specs.Prelude.{List, map, ℕ, ◌%◌, ◌^◌, take, Option}
use Rattle.value.specs.declared.Val.{Val}

-- "kind u8 (1 `address_of`, 2 `size_of`, 3 `read`, 4 `call`)"
pub data Asked : Type 0 where
  address_of size_of read_at call_to : Asked

-- so many bytes from an address on
pub record Span : Type 0 where
  pub address : ℕ
  pub size : ℕ

pub record Calling : Type 0 where
  pub name : ℕ
  pub address : ℕ
  pub depth : ℕ
  pub values : List Val

-- names are numbers of the routine's names
abbrev pub Question : Asked → Type 0
Question address_of = ℕ
Question size_of = ℕ
Question read_at = Span
Question call_to = Calling

-- `read`'s bytes are none where there is no answer; "`World::call` answers none"
abbrev pub Answer : Asked → Type 0
Answer address_of = Option ℕ
Answer size_of = Option ℕ
Answer read_at = List ℕ
Answer call_to = Unit {0}

abbrev pub World : Type 0
World = (κ : Asked) → Question κ → Answer κ

-- a question with the answer given
abbrev pub Entry : Type 0
Entry = (κ : Asked) × (Question κ × Answer κ)

-- ---- a question as its fields in the record hold it: what a run asks. Every question of an accepted file's run fits its fields and is asked as it is

abbrev pub cut_val : Val → Val
cut_val v = record { known = v.known; signed = v.signed; bits = v.bits % 256 ^ 4; number = v.number % 256 ^ 8 }

unfoldable pub cut : (κ : Asked) → Question κ → Question κ
cut address_of n = n % 256 ^ 2
cut size_of n = n % 256 ^ 2
cut read_at q = record { address = q.address % 256 ^ 8; size = q.size % 256 ^ 1 }
cut call_to q = record {
  name = q.name % 256 ^ 2;
  address = q.address % 256 ^ 8;
  depth = q.depth % 256 ^ 4;
  values = take 255 (map cut_val q.values);
}
