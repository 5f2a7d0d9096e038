-- How values, questions and answers stand in a record (document 01, "The record"), and the fields that a world gives to a question. Assumes nothing.
use Rattle.std.specs.Prelude.{false, List, ℕ, zero, suc, length, Option, None, Some}
use Rattle.value.specs.declared.Val.{Val}
use Rattle.layout.specs.Format.{Format, number, then, pair, via, times, counted}
use Rattle.value.specs.Encoding.{val}
use Rattle.definition.specs.Question.{Asked, address_of, size_of, read_at, call_to, Span, Calling, Question, Answer, World, Entry}

-- ---- values, and what may be absent

-- "Unused fields are 0": where there is no value
abbrev pub no_val : Val
no_val = record { known = false; signed = false; bits = 0; number = 0 }

-- "flag u8", then a u64: both 0 for none
abbrev pub flag_and_number : Option ℕ → ℕ × ℕ
flag_and_number None = (0, 0)
flag_and_number (Some n) = (1, n)

-- ---- questions: "kind u8 (1 `address_of`, 2 `size_of`, 3 `read`, 4 `call`)"

abbrev pub code_of : Asked → ℕ
code_of address_of = 1
code_of size_of = 2
code_of read_at = 3
code_of call_to = 4

abbrev pub asked_of : ℕ → Asked
asked_of zero = call_to
asked_of (suc zero) = address_of
asked_of (suc (suc zero)) = size_of
asked_of (suc (suc (suc zero))) = read_at
asked_of (suc (suc (suc (suc n)))) = call_to

abbrev pub asked : Format Asked
asked = via code_of asked_of (number 1)

abbrev pub from_span : Span → ℕ × ℕ
from_span q = (q.address, q.size)

abbrev pub to_span : ℕ × ℕ → Span
to_span p = record { address = p.0; size = p.1 }

abbrev pub from_calling : Calling → ℕ × (ℕ × (ℕ × List Val))
from_calling q = (q.name, (q.address, (q.depth, q.values)))

abbrev pub to_calling : ℕ × (ℕ × (ℕ × List Val)) → Calling
to_calling p = record { name = p.0; address = p.1.0; depth = p.1.1.0; values = p.1.1.1 }

-- "1 and 2: name u16", "3: address u64, length u8", "4: name u16, address u64, depth u32, count u8, values"
abbrev pub question : (κ : Asked) → Format (Question κ)
question address_of = number 2
question size_of = number 2
question read_at = via from_span to_span (pair (number 8) (number 1))
question call_to = via from_calling to_calling (pair (number 2) (pair (number 8) (pair (number 4) (counted 1 val))))

-- ---- answers, as they stand in the question

-- "flag and number for kinds 1 and 2 (both 0 for none), count and bytes for kind 3, and flag 0 for kind 4"
abbrev pub Fields : Asked → Type 0
Fields address_of = ℕ × ℕ
Fields size_of = ℕ × ℕ
Fields read_at = ℕ × List ℕ
Fields call_to = ℕ

abbrev pub fields_of : (κ : Asked) → Answer κ → Fields κ
fields_of address_of a = flag_and_number a
fields_of size_of a = flag_and_number a
fields_of read_at bytes = (length bytes, bytes)
fields_of call_to a = 0

-- "1 and 2: .. answer flag u8, u64", "3: .. answered count u8, bytes", "4: .. answer flag u8"
abbrev pub fields : (κ : Asked) → Format (Fields κ)
fields address_of = pair (number 1) (number 8)
fields size_of = pair (number 1) (number 8)
fields read_at = then (number 1) (λ count. times count (number 1))
fields call_to = number 1

-- a question with its answer as both are written
abbrev pub Written : Type 0
Written = (κ : Asked) × (Question κ × Fields κ)

abbrev pub written : Entry → Written
written e = (e.0, (e.1.0, fields_of e.0 e.1.1))

abbrev pub entry : Format Written
entry = then asked (λ κ. pair (question κ) (fields κ))

-- what a world gives to a question, in the same fields
abbrev pub given : World → (κ : Asked) → Question κ → Fields κ
given w κ q = fields_of κ (w κ q)
