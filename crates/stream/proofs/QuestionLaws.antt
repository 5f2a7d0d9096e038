-- The bytes of a question with its answer: their groups and their lengths. Assumes nothing.
use mathlib.Core.Path.{◌≡◌, refl, sym, ap, ap₂, ◌∙◌}
use mathlib.Core.List.{List, ◌∷◌, ◌++◌}
use Rattle.std.specs.Prelude.{Option}
use Prim.Native.Nat.{ℕ, zero, suc, ◌+◌, ◌*◌, ◌/◌, ◌%◌, ◌≤◌}
use native.Mathlib.Omega.{arith}
use lib.ListN.{length, take, length-append}
use lib.Seq.{sets, length-take-le}
use Rattle.value.specs.declared.Val.{Val}
use Rattle.layout.specs.Number.{le, put_number}
use Rattle.layout.specs.Format.{number, writes}
use Rattle.layout.proofs.NumberLaws.{length_le}
use Rattle.value.specs.Encoding.{val}
use Rattle.definition.specs.Fields.{code_of}
use Rattle.stream.specs.declared.Symbol.{Symbol}
use Rattle.stream.specs.declared.Symbol.TheVariants.{AddressOf, SizeOf}
use Rattle.stream.specs.Pieces.{asked_by, question_bytes, symbol_entry, read_entry, call_entry, call_bytes}
use Rattle.stream.specs.Groups.{flagged_bytes, span_bytes, callee_bytes}
use Rattle.stream.proofs.StoreLaws.{two_stored}

-- ---- kinds 1 and 2

symbol_bytes : (kind : Symbol) (name : ℕ) (o : Option ℕ) → le 1 (code_of (asked_by kind)) ++ le 2 name ++ flagged_bytes o ≡ question_bytes (symbol_entry kind name o)
unfolding question_bytes flagged_bytes
symbol_bytes AddressOf name o = refl
symbol_bytes SizeOf name o = refl

pub length_symbol : (kind : Symbol) (name : ℕ) (o : Option ℕ) → length (question_bytes (symbol_entry kind name o)) ≡ 12
unfolding question_bytes
length_symbol AddressOf name o = refl
length_symbol SizeOf name o = refl

pub symbol_stored : (s t u w : List ℕ) (at k : ℕ) (kind : Symbol) (name : ℕ) (o : Option ℕ) → k ≡ code_of (asked_by kind)
    → t ≡ put_number s at 1 k → u ≡ put_number t (at + 1) 2 name → w ≡ sets u (at + 3) (flagged_bytes o) → w ≡ sets s at (question_bytes (symbol_entry kind name o))
unfolding put_number
symbol_stored s t u w at k kind name o e p q r =
    two_stored (le 1 k ++ le 2 name) (flagged_bytes o) s u w at (at + 3) (two_stored (le 1 k) (le 2 name) s t u at (at + 1) p q refl) r refl
    ∙ ap (λ (c : ℕ). sets s at (le 1 c ++ le 2 name ++ flagged_bytes o)) e
    ∙ ap (sets s at) (symbol_bytes kind name o)

-- ---- kind 3

-- bytes written one by one are the bytes
le_bytes : (k n : ℕ) → writes (number 1) (le k n) ≡ le k n
le_bytes zero n = refl
le_bytes (suc k) n = λ i. let e : n % 256 % 256 ≡ n % 256 = omega arith in e i ∷ le_bytes k (n / 256) i

read_bytes : (address size count number : ℕ) → span_bytes address size ++ le 1 count ++ le count number ≡ question_bytes (read_entry address size count number)
unfolding question_bytes span_bytes
read_bytes address size count number = rw (length_le count number, le_bytes count number)

pub length_read : (address size count number : ℕ) → length (question_bytes (read_entry address size count number)) ≡ 11 + count
unfolding span_bytes
length_read address size count number = sym (ap length (read_bytes address size count number)) ∙ omega (arith, length_le count number)

pub span_stored : (s t u w : List ℕ) (at k address size : ℕ) → k ≡ 3 → t ≡ put_number s at 1 k → u ≡ put_number t (at + 1) 8 address → w ≡ put_number u (at + 9) 1 size
    → w ≡ sets s at (span_bytes address size)
unfolding put_number span_bytes
span_stored s t u w at k address size e p q r =
    two_stored (le 1 k ++ le 8 address) (le 1 size) s u w at (at + 9) (two_stored (le 1 k) (le 8 address) s t u at (at + 1) p q refl) r refl
    ∙ ap (λ (c : ℕ). sets s at (le 1 c ++ le 8 address ++ le 1 size)) e

pub read_stored : (s t u w : List ℕ) (at address size count number : ℕ) → t ≡ sets s at (span_bytes address size) → u ≡ put_number t (at + 10) 1 count
    → w ≡ sets u (at + 11) (le count number) → w ≡ sets s at (question_bytes (read_entry address size count number))
unfolding put_number span_bytes
read_stored s t u w at address size count number p q r =
    two_stored (span_bytes address size ++ le 1 count) (le count number) s u w at (at + 11)
    (two_stored (span_bytes address size) (le 1 count) s t u at (at + 10) p q refl) r refl
    ∙ ap (sets s at) (read_bytes address size count number)

-- ---- kind 4

pub callee_stored : (s t u w x : List ℕ) (at k name address depth : ℕ) → k ≡ 4 → t ≡ put_number s at 1 k → u ≡ put_number t (at + 1) 2 name
    → w ≡ put_number u (at + 3) 8 address → x ≡ put_number w (at + 11) 4 depth → x ≡ sets s at (callee_bytes name address depth)
unfolding put_number callee_bytes
callee_stored s t u w x at k name address depth f p q r e =
    two_stored (le 1 k ++ le 2 name ++ le 8 address) (le 4 depth) s w x at (at + 11)
    (two_stored (le 1 k ++ le 2 name) (le 8 address) s u w at (at + 3) (two_stored (le 1 k) (le 2 name) s t u at (at + 1) p q refl) r refl) e refl
    ∙ ap (λ (c : ℕ). sets s at (le 1 c ++ le 2 name ++ le 8 address ++ le 4 depth)) f

pub length_call : (name address depth count : ℕ) (values : List ℕ) → 14 * count ≤ length values
    → length (call_bytes name address depth count (take (14 * count) values)) ≡ 17 + 14 * count
unfolding call_bytes
length_call name address depth count values h =
    omega (arith, length-append (take (14 * count) values) (le 1 0), length-take-le (14 * count) values h)

pub call_stored : (s t u w x : List ℕ) (at name address depth count : ℕ) (values : List ℕ) → 14 * count ≤ length values
    → t ≡ sets s at (callee_bytes name address depth) → u ≡ put_number t (at + 15) 1 count → w ≡ sets u (at + 16) (take (14 * count) values)
    → x ≡ put_number w (at + 16 + 14 * count) 1 0 → x ≡ sets s at (call_bytes name address depth count (take (14 * count) values))
unfolding put_number callee_bytes call_bytes
call_stored s t u w x at name address depth count values h p q r e =
    let v = take (14 * count) values in
    let l : length v ≡ 14 * count = length-take-le (14 * count) values h in
    two_stored (callee_bytes name address depth) (le 1 count ++ (v ++ le 1 0)) s t x at (at + 15) p
    (two_stored (le 1 count) (v ++ le 1 0) t u x (at + 15) (at + 16) q (two_stored v (le 1 0) u w x (at + 16) (at + 16 + 14 * count) r e (omega arith)) (omega arith)) refl

-- values given as the bytes that they are
pub call_bytes_lem : (name address depth count : ℕ) (bytes : List ℕ) (vs : List Val) → length vs ≡ count → bytes ≡ writes val vs
    → call_bytes name address depth count bytes ≡ question_bytes (call_entry name address depth vs)
unfolding question_bytes call_bytes
call_bytes_lem name address depth count bytes vs l e = sym (ap₂ (call_bytes name address depth) l (sym e))
