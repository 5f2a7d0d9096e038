-- Numbers in bytes, once over how many. Assumes nothing.
use mathlib.Core.Path.{◌≡◌, refl, sym, ap, ap₂, ◌∙◌}
use mathlib.Core.List.{List, [], ◌∷◌, ◌++◌}
use Prim.Native.Nat.{ℕ, zero, suc, ◌+◌, ◌*◌, ◌/◌, ◌%◌, ◌^◌, ◌≤◌, ◌<◌}
use native.Mathlib.Nat.{pow-suc, pow-zero, div-lt_iff_lt-mul, div-div-eq-div-mul, div-one, mul_comm, mul_assoc, suc-add, zero-add, le_trans, pow-le-pow_right}
use native.Mathlib.Omega.{arith}
use lib.Dec.{lit<}
use lib.ListN.{length, take, drop, replicate, get_or, length-take, length-drop}
use Rattle.std.specs.Int.{byte_at, byte_worth, bytes_low_first, sum_through}
use Rattle.std.specs.List.{slice_index}
use lib.Seq.{take-suc, take-add, drop-drop, drop-cons, sets, length-take-le}
use Rattle.layout.specs.Each.{Bytes}
use Rattle.layout.specs.Number.{le, num, number_at, put_number}
use Rattle.layout.proofs.StoreLaws.{byte_of, sets_append}

pub length_le : (k n : ℕ) → length (le k n) ≡ k
length_le zero n = refl
length_le (suc k) n = ap suc (length_le k (n / 256))

pub num_le : (k n : ℕ) → n < 256 ^ k → num (le k n) ≡ n
num_le zero n h = omega (arith, rw pow-zero at h)
num_le (suc k) n h =
    let e : num (le k (n / 256)) ≡ n / 256 = num_le k (n / 256) ((div-lt_iff_lt-mul (lit< tt)).1 (rw pow-suc at h)) in
    omega arith

pub num_lt : (bs : List ℕ) → num bs < 256 ^ length bs
num_lt [] = rw pow-zero (lit< tt)
num_lt (b ∷ bs) = rw pow-suc (omega (arith, num_lt bs))

-- a number in j + k bytes is its low j bytes, then the others
pub le_add : (j k n : ℕ) → le (j + k) n ≡ le j n ++ le k (n / 256 ^ j)
le_add zero k n = rw (zero-add, pow-zero, div-one)
le_add (suc j) k n =
    rw suc-add
    (ap (λ (l : List ℕ). n % 256 ∷ l)
    (le_add j k (n / 256) ∙ ap (λ (x : ℕ). le j (n / 256) ++ le k x) (div-div-eq-div-mul n 256 (256 ^ j) ∙ ap (λ (x : ℕ). n / x) (mul_comm 256 (256 ^ j) ∙ sym (pow-suc 256 j)))))

pub num_append : (xs ys : List ℕ) → num (xs ++ ys) ≡ num xs + 256 ^ length xs * num ys
num_append [] ys = rw (pow-zero) (omega arith)
num_append (x ∷ xs) ys =
    let e : 256 ^ suc (length xs) * num ys ≡ 256 * (256 ^ length xs * num ys) =
    ap (λ (q : ℕ). q * num ys) (pow-suc 256 (length xs) ∙ mul_comm (256 ^ length xs) 256) ∙ mul_assoc 256 (256 ^ length xs) (num ys) in
    omega (arith, e, num_append xs ys)

-- the number of j + k bytes, of its two parts
pub number_at_add : (s : List ℕ) (i j k : ℕ) → i + j ≤ length s → number_at s i (j + k) ≡ number_at s i j + 256 ^ j * number_at s (i + j) k
unfolding number_at
number_at_add s i j k h =
    let e : length (take j (drop i s)) ≡ j = length-take-le j (drop i s) (rw length-drop (omega arith)) in
    rw (take-add, num_append, e, drop-drop)

-- one byte
pub number_at_one : (s : List ℕ) (i : ℕ) → i < length s → get_or s i 0 < 256 → number_at s i 1 ≡ get_or s i 0
unfolding number_at
number_at_one s i h b = rw (drop-cons s i 0 h) (omega (arith, b))

-- a number of k bytes is below 256 ^ k
pub num_take_lt : (k : ℕ) (bs : List ℕ) → num (take k bs) < 256 ^ k
num_take_lt k bs =
    le_trans (num_lt (take k bs)) (pow-le-pow_right (lit< tt) (rw length-take (omega arith)))

pub number_at_lt : (s : List ℕ) (i k : ℕ) → number_at s i k < 256 ^ k
unfolding number_at
number_at_lt s i k = num_take_lt k (drop i s)

-- bytes read as a number are the bytes when written again
pub le_num : (k : ℕ) (bs : List ℕ) → length bs ≡ k → Bytes bs → le k (num bs) ≡ bs
le_num zero [] h all = refl
le_num zero (b ∷ bs) h all = absurd (omega arith)
le_num (suc k) [] h all = absurd (omega arith)
le_num (suc k) (b ∷ bs) h all =
    let l : b < 256 = all.0 in
    let x : (b % 256 + 256 * num bs) % 256 ≡ b = omega arith in
    let y : (b % 256 + 256 * num bs) / 256 ≡ num bs = omega arith in
    let z : le k (num bs) ≡ bs = le_num k bs (omega arith) all.1 in
    rw (x, y, z)

-- one byte more of a number
num_more : (s : List ℕ) (k : ℕ) → k < length s → Bytes s → num (take (suc k) s) ≡ num (take k s) + 256 ^ k * get_or s k 0
num_more s k h all =
    let n : length (take k s) ≡ k = length-take-le k s (omega arith) in
    let b : num (get_or s k 0 ∷ []) ≡ get_or s k 0 = omega (arith, byte_of s k all) in
    rw (take-suc s k 0 h, num_append, n, b)

-- std's `from_le_bytes`: the first bytes as a number
pub num_from : (s : List ℕ) (k : ℕ) → k < length s → Bytes s → sum_through (λ i. byte_worth i (slice_index s i)) k ≡ num (take (suc k) s)
num_from s zero h all = sym (num_more s 0 h all ∙ rw (pow-zero) (omega arith))
num_from s (suc k) h all =
    omega (arith, num_from s k (omega arith) all, num_more s (suc k) h all, mul_comm (256 ^ suc k) (get_or s (suc k) 0))

-- zeros above a number
pub num_above : (s : List ℕ) (m : ℕ) → num (s ++ replicate m 0) ≡ num s
num_above [] zero = refl
num_above [] (suc m) = omega (arith, num_above [] m)
num_above (b ∷ s) m = ap (λ (n : ℕ). b % 256 + 256 * n) (num_above s m)

byte_from : (i n : ℕ) → byte_at i n ≡ n / 256 ^ i % 256
byte_from zero n = rw (pow-zero, div-one)
byte_from (suc i) n = refl

-- std's `to_le_bytes`: the lowest byte first
pub le_from : (k i n : ℕ) → bytes_low_first i k n ≡ le k (n / 256 ^ i)
le_from zero i n = refl
le_from (suc k) i n =
    ap₂ (λ (b : ℕ) (l : List ℕ). b ∷ l) (byte_from i n) (le_from k (suc i) n ∙ ap (le k) (ap (λ (x : ℕ). n / x) (pow-suc 256 i) ∙ sym (div-div-eq-div-mul n (256 ^ i) 256)))

pub take_le : (j k n : ℕ) → j ≤ k → take j (le k n) ≡ le j n
take_le zero k n h = refl
take_le (suc j) zero n h = absurd (omega arith)
take_le (suc j) (suc k) n h = ap (λ (l : List ℕ). n % 256 ∷ l) (take_le j k (n / 256) (omega arith))

-- a number read, and one stored, in two parts
pub get_parts : (j k : ℕ) (s : List ℕ) (i a b : ℕ) → i + j ≤ length s → a ≡ number_at s i j → b ≡ number_at s (i + j) k → a + 256 ^ j * b ≡ number_at s i (j + k)
get_parts j k s i a b h p q =
    ap (λ (x : ℕ). x + 256 ^ j * b) p ∙ ap (λ (x : ℕ). number_at s i j + 256 ^ j * x) q ∙ sym (number_at_add s i j k h)

pub put_parts : (j k : ℕ) (s t u : List ℕ) (i v : ℕ) → t ≡ put_number s i j v → u ≡ put_number t (i + j) k (v / 256 ^ j) → u ≡ put_number s i (j + k) v
unfolding put_number
put_parts j k s t u i v p q =
    let e : sets s i (le (j + k) v) ≡ sets (sets s i (le j v)) (i + j) (le k (v / 256 ^ j)) = rw (le_add, sets_append, length_le) in
    q ∙ ap (λ (l : List ℕ). sets l (i + j) (le k (v / 256 ^ j))) p ∙ sym e
