-- Digits counted, and written from the right: one law each over the base. Assumes nothing.
use mathlib.Core.Path.{◌≡◌, refl, sym, ap, ap₂, ◌∙◌}
use mathlib.Core.Bool.{Bool, true, false}
use mathlib.Core.List.{List, [], ◌∷◌, ◌++◌, append_assoc, append-nil}
use Prim.Native.Nat.{ℕ, zero, suc, ◌+◌, ◌-◌, ◌*◌, ◌/◌, ◌%◌, ◌^◌, ◌≤◌, ◌<◌}
use native.Mathlib.Nat.{pow-zero, pow-suc, mul-one, mul_assoc, div-lt_iff_lt-mul, le-div_iff_mul-le, one-le-pow, mul-le-mul_left, lt_of_lt_of_le, mod-eq_of_lt, div-eq_of_lt, zero-div, zero-mod, add-zero, zero-add}
use native.Mathlib.Omega.{arith}
use borrow.Author.Tests.{le-ltb, lt-ltb, ltb-true, ltb-false}
use lib.Dec.{ltb}
use lib.ListN.{length, set, replicate, length-append, length-set}
use lib.Seq.{sets}
use Rattle.layout.proofs.StoreLaws.{sets_append}
use Rattle.stream.proofs.RecordLaws.{sets_swap}
use Rattle.definition.specs.Numerals.{digit, digits, padded}
use Rattle.text.specs.Put.{last_digits}
use Rattle.text.specs.Pushed.{Pushed}
use Rattle.text.specs.declared.line.Line.{Line}

-- ---- one turn

pub digits_more : (k base n : ℕ) → base ≤ n → digits (suc k) base n ≡ digits k base (n / base) ++ (digit (n % base) ∷ [])
unfolding digits
digits_more k base n h =
    ap (λ (t : Bool). elim t [ true ↦ digit n ∷ [] | false ↦ digits k base (n / base) ++ (digit (n % base) ∷ []) ]) (le-ltb n base h)

pub digits_last : (k base n : ℕ) → n < base → digits (suc k) base n ≡ digit n ∷ []
unfolding digits
digits_last k base n h =
    ap (λ (t : Bool). elim t [ true ↦ digit n ∷ [] | false ↦ digits k base (n / base) ++ (digit (n % base) ∷ []) ]) (lt-ltb n base h)

-- ---- counted

smaller : (k base n : ℕ) → 2 ≤ base → base ≤ n → n < 2 ^ suc k → n / base < 2 ^ k
smaller k base n b h l =
    (div-lt_iff_lt-mul {k = base} {x = n} {y = 2 ^ k} (omega arith)).1 (lt_of_lt_of_le (rw pow-suc at l) (mul-le-mul_left (2 ^ k) b))

pub digits_count : (f base n k : ℕ) → 2 ≤ base → base ^ k ≤ n → n < base * base ^ k → k < f → length (digits f base n) ≡ suc k
digits_count zero base n k b p q h = absurd (omega arith)
digits_count (suc f) base n zero b p q h = ap length (digits_last f base n (rw (pow-zero, mul-one) at q))
digits_count (suc f) base n (suc k) b p q h =
    let some : 0 < base = omega arith in
    let low : base ^ k ≤ n / base = (le-div_iff_mul-le some).1 (rw pow-suc at p) in
    let high : n / base < base * base ^ k = (div-lt_iff_lt-mul some).1 (rw (mul_assoc base (base ^ k) base) (rw pow-suc at q)) in
    let one : 1 * base ≤ n = (le-div_iff_mul-le some).0 (omega (arith, low, one-le-pow k base some)) in
    ap length (digits_more f base n (omega (arith, one)))
    ∙ length-append (digits f base (n / base)) (digit (n % base) ∷ [])
    ∙ omega (arith, digits_count f base (n / base) k b low high (omega arith))

-- ---- written from the right

pub length_last : (k base n : ℕ) → length (last_digits k base n) ≡ k
unfolding last_digits
length_last zero base n = refl
length_last (suc k) base n =
    length-append (last_digits k base (n / base)) (digit (n % base) ∷ []) ∙ omega (arith, length_last k base (n / base))

pub last_more : (s : List ℕ) (at left base rest : ℕ) → 0 < left
    → sets (set s (at + (left - 1)) (digit (rest % base))) at (last_digits (left - 1) base (rest / base)) ≡ sets s at (last_digits left base rest)
unfolding last_digits
last_more s at zero base rest h = absurd (omega arith)
last_more s at (suc left) base rest h =
    let xs = last_digits left base (rest / base) in
    let d = digit (rest % base) in
    let l : length xs ≡ left = length_last left base (rest / base) in
    let e : suc left - 1 ≡ left = omega arith in
    rw e
    (sym (sets_swap xs (d ∷ []) s at (at + left) (omega arith))
    ∙ ap (λ (k : ℕ). set (sets s at xs) (at + k) d) (sym l)
    ∙ sym (sets_append xs (d ∷ []) s at))

-- a line in whose buffer, behind what is written, x stands once the rest stands there
pub record Filled (a : Line) (x : List ℕ) (b : Line) (rest : List ℕ) : Type 0 where
  pub same_reference : b.out.ghost_name ≡ a.out.ghost_name
  pub place : b.at ≡ a.at
  pub same : sets b.out.now a.at rest ≡ sets a.out.now a.at x
  pub room : length b.out.now ≡ length a.out.now

pub filled_all : {a : Line} {x : List ℕ} → Filled a x a x
filled_all = record { same_reference = refl; place = refl; same = refl; room = refl }

-- a turn
pub filled_more : {a b c : Line} {x : List ℕ} (left base rest : ℕ) {d : ℕ} → 0 < left → d ≡ digit (rest % base) → Filled a x b (last_digits left base rest)
    → c.out.ghost_name ≡ b.out.ghost_name → c.out.now ≡ set b.out.now (b.at + (left - 1)) d → c.at ≡ b.at
    → Filled a x c (last_digits (left - 1) base (rest / base))
filled_more {a} {b} {c} left base rest {d} h e f n p q = record {
  same_reference = n ∙ f.same_reference;
  place = q ∙ f.place;
  same =
      ap (λ (l : List ℕ). sets l a.at (last_digits (left - 1) base (rest / base))) p
      ∙ ap₂ (λ (i y : ℕ). sets (set b.out.now (i + (left - 1)) y) a.at (last_digits (left - 1) base (rest / base))) f.place e
      ∙ last_more b.out.now a.at left base rest h
      ∙ f.same;
  room = ap length p ∙ length-set b.out.now (b.at + (left - 1)) d ∙ f.room;
}

-- the end
pub filled_end : {a b c : Line} (left base rest count number : ℕ) → left ≤ 0 → Filled a (last_digits count base number) b (last_digits left base rest)
    → c.out.ghost_name ≡ b.out.ghost_name → c.out.now ≡ b.out.now → c.at ≡ b.at + count → Pushed a c (last_digits count base number)
unfolding last_digits
filled_end {a} {b} {c} left base rest count number h f n p q =
    let z : left ≡ 0 = omega arith in
    record {
      same_reference = n ∙ f.same_reference;
      put = record {
        same = p ∙ ap (λ (k : ℕ). sets b.out.now a.at (last_digits k base rest)) (sym z) ∙ f.same;
        end = omega (arith, q, f.place, length_last count base number);
        room = ap length p ∙ f.room;
      };
    }

-- ---- which digits those are

abbrev nought : List ℕ
nought = 48 ∷ []

zeros_end : (j : ℕ) → replicate j 48 ++ nought ≡ 48 ∷ replicate j 48
zeros_end zero = refl
zeros_end (suc j) = ap (λ (l : List ℕ). 48 ∷ l) (zeros_end j)

zeros : (base : ℕ) → 2 ≤ base → (j : ℕ) → last_digits j base 0 ≡ replicate j 48
unfolding last_digits
zeros base b zero = refl
zeros base b (suc j) =
    ap₂ (λ (q m : ℕ). last_digits j base q ++ (digit m ∷ [])) (zero-div base) (zero-mod base)
    ∙ ap (λ (l : List ℕ). l ++ nought) (zeros base b j)
    ∙ zeros_end j

-- with zeros in front
module _ (base : ℕ) (b : 2 ≤ base) where
  abbrev Are : (k n : ℕ) → Type 0
  Are k n = (j : ℕ) → last_digits (j + length (digits k base n)) base n ≡ replicate j 48 ++ digits k base n

  one : (k n : ℕ) → n < base → Are (suc k) n
  unfolding last_digits
  one k n h j =
      let d = digits_last k base n h in
      let e : j + length (digits (suc k) base n) ≡ suc j = omega (arith, ap length d) in
      ap (λ (m : ℕ). last_digits m base n) e
      ∙ ap₂ (λ (q m : ℕ). last_digits j base q ++ (digit m ∷ [])) (div-eq_of_lt h) (mod-eq_of_lt h)
      ∙ ap (λ (l : List ℕ). l ++ (digit n ∷ [])) (zeros base b j)
      ∙ ap (λ (l : List ℕ). replicate j 48 ++ l) (sym d)

  more : (k n : ℕ) → base ≤ n → Are k (n / base) → Are (suc k) n
  unfolding last_digits
  more k n h so j =
      let d = digits_more k base n h in
      let f = digit (n % base) ∷ [] in
      let r = digits k base (n / base) in
      let e : j + length (digits (suc k) base n) ≡ suc (j + length r) = omega (arith, ap length d, length-append r f) in
      ap (λ (m : ℕ). last_digits m base n) e
      ∙ ap (λ (l : List ℕ). l ++ f) (so j)
      ∙ append_assoc (replicate j 48) r f
      ∙ ap (λ (l : List ℕ). replicate j 48 ++ l) (sym d)

  none : (n : ℕ) → n ≡ 0 → Are zero n
  unfolding digits
  none n e j =
      ap₂ (λ (m q : ℕ). last_digits m base q) (add-zero j) e ∙ zeros base b j ∙ sym (append-nil (replicate j 48))

  pub digits_are : (k n : ℕ) → n < 2 ^ k → Are k n
  digits_are zero n l = none n (omega arith)
  digits_are (suc k) n l = go (ltb n base) refl (λ h. digits_are k (n / base) (smaller k base n b h l))
    where
      go : (t : Bool) → ltb n base ≡ t → (base ≤ n → Are k (n / base)) → Are (suc k) n
      go true e so = one k n (ltb-true n base e)
      go false e so = let h = ltb-false n base e in more k n h (so h)

-- ---- a number whose digits were counted

module _ (number : ℕ) {count : ℕ} (h : number < 2 ^ 64) where
  pub digits_put : (base : ℕ) → 2 ≤ base → count ≡ length (digits 64 base number) → last_digits count base number ≡ digits 64 base number
  digits_put base b e =
      ap (λ (k : ℕ). last_digits k base number) (e ∙ sym (zero-add (length (digits 64 base number)))) ∙ digits_are base b 64 number h 0

  pub padded_put : count ≡ 8 - length (digits 64 16 number) + length (digits 64 16 number) → last_digits count 16 number ≡ padded (digits 64 16 number)
  padded_put e = ap (λ (k : ℕ). last_digits k 16 number) e ∙ digits_are 16 (omega arith) 64 number h (8 - length (digits 64 16 number))
