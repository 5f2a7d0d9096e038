-- What the turns of a load find. Assumes nothing.
use Rattle.std.proofs.Common.{◌≡◌, ℕ, zero, suc, ◌+◌, ◌-◌, ◌*◌, ◌/◌, ◌%◌, ◌^◌, ◌<◌, ◌≤◌, List, [], ◌∷◌, drop, sym, refl, ap, ◌∙◌, mod-eq_of_lt, mul_comm, mul-le-mul_left, pow-suc, add-zero, add-one, arith, lit<, shl_exact}
use Rattle.std.specs.Prelude.{Option, None, Some, Bool, false, true}
use Rattle.std.specs.Option.{is_some, option_or}
use mir.Val.{bool_byte}
use native.Mathlib.Nat.{mod-one, pow-le-pow_right, lt_of_lt_of_le}
use lib.Pow.{mod-pow-add}
use Rattle.layout.specs.Number.{le, num}
use Rattle.memory.specs.Overlay.{Overlay, Cell, Ascending, to_byte, find, rank, byte_or, gather, load}
use Rattle.memory.specs.Post.{Untouched}
use Rattle.memory.proofs.OverlayLaws.{below, equal, above, compared, rank_zero, rank_found, rank_lost}

-- ---- the image's answer

pub rest_is : (n v : ℕ) → le (n - 1) (v / 256) ≡ drop 1 (le n v)
rest_is zero v = refl
rest_is (suc n) v = let e : suc n - 1 ≡ n = omega arith in rw e

-- ---- the next byte

-- one of the run's own, or else the image's first
pub next_byte : (o f own : Option ℕ) (image : List ℕ) → own ≡ o → f ≡ byte_or None image → option_or own f ≡ byte_or o image
next_byte o f own image e h = ap (λ (x : Option ℕ). option_or x f) e ∙ same o
  where
    same : (o : Option ℕ) → option_or o f ≡ byte_or o image
    same None = h
    same (Some b) = refl

-- the rank of the address after one, from its own
abbrev After : ℕ → ℕ → ℕ → Type 0
After a i r = (a + 1 ≡ 2 ^ 64 → r ≡ 0) × (a + 1 < 2 ^ 64 → r ≡ i)

pub one_or_none : (b : Bool) → bool_byte b ≤ 1
one_or_none false = omega arith
one_or_none true = omega arith

-- an entry at the address is one more
next_rank : (a : ℕ) (m : Overlay Cell) → Ascending m → (o : Option Cell) → find a m ≡ o → rank a m + bool_byte (is_some (to_byte o)) ≡ rank (suc a) m
next_rank a m s None f = add-zero (rank a m) ∙ sym (rank_lost a m f)
next_rank a m s (Some b) f =
    let there : find a m ≡ None → ⊥ = λ n. let z : ◌≡◌ {A = ℕ} 0 1 = cc (f, n) in omega arith in
    add-one (rank a m) ∙ sym (rank_found a m s there)

pub after : (m : Overlay Cell) → Ascending m → (a i r : ℕ) → a < 2 ^ 64 → i ≡ rank a m → (own : Option ℕ) → own ≡ to_byte (find a m)
    → (known : Bool) → known ≡ is_some own → After a (i + bool_byte known) r → r ≡ rank ((a + 1) % 2 ^ 64) m
after m s a i r h e own f known g w =
    let k : i + bool_byte known ≡ rank (suc a) m = rw (e, g, f) (next_rank a m s (find a m) refl) in
    elim (compared (a + 1) (2 ^ 64)) [
      | below l c ↦ w.1 l ∙ k ∙ ap (λ (x : ℕ). rank x m) (omega arith)
      | equal l c ↦ w.0 l ∙ sym (rank_zero m) ∙ ap (λ (x : ℕ). rank x m) (omega arith)
      | above l c ↦ absurd (omega arith)
    ]

-- ---- a number of i bytes with one more above them

power : (i : ℕ) → 2 ^ (8 * i) ≡ 256 ^ i
power zero = refl
power (suc i) =
    let e : 8 * suc i ≡ suc (suc (suc (suc (suc (suc (suc (suc (8 * i)))))))) = omega arith in
    ap (λ (k : ℕ). 2 ^ k) e ∙ omega (arith, power i)

-- a number of k bytes shifted past j bytes, where a word has them all
pub shifted : (j k n : ℕ) → n < 256 ^ k → j + k ≤ 8 → n * 2 ^ (8 * j) % 2 ^ 64 ≡ 256 ^ j * n
shifted j k n h l =
    shl_exact (8 * k) (8 * j) 64 (rw power h) (omega arith) ∙ mul_comm n (2 ^ (8 * j)) ∙ ap (λ (m : ℕ). m * n) (power j)

pub joined_lt : (i v b : ℕ) → v < 256 ^ i → b < 256 → v + 256 ^ i * b < 256 ^ suc i
joined_lt i v b h l = rw pow-suc (omega (arith, mul-le-mul_left (256 ^ i) (le_pred b l)))
  where
    le_pred : (b : ℕ) → b < 256 → b ≤ 255
    le_pred b l = omega arith

-- ---- loading

-- a first byte, and the number of the others
abbrev joined : Option ℕ → Option ℕ → Option ℕ
joined None o = None
joined (Some b) None = None
joined (Some b) (Some v) = Some (b % 256 + 256 * v)

abbrev numbered : Option (List ℕ) → Option ℕ
numbered g = elim g [ None ↦ None | Some bs ↦ Some (num bs) ]

joined_is : (o : Option ℕ) (g : Option (List ℕ))
    → numbered (elim o [ None ↦ None | Some b ↦ elim g [ None ↦ None | Some bs ↦ Some (b ∷ bs) ] ]) ≡ joined o (numbered g)
joined_is None g = refl
joined_is (Some b) None = refl
joined_is (Some b) (Some bs) = refl

pub load_suc : (m : Overlay Cell) (image : List ℕ) (a n : ℕ) → load m image a (suc n) ≡ joined (byte_or (to_byte (find (a % 2 ^ 64) m)) image) (load m (drop 1 image) (suc a) n)
unfolding load gather
load_suc m image a n = joined_is (byte_or (to_byte (find (a % 2 ^ 64) m)) image) (gather m (drop 1 image) (suc a) n)

-- a number below, and p times the one that is still to load
abbrev pub plus : ℕ → ℕ → Option ℕ → Option ℕ
plus v p None = None
plus v p (Some x) = Some (v + p * x)

plus_next : (v i b : ℕ) (o : Option ℕ) → b < 256 → plus v (256 ^ i) (joined (Some b) o) ≡ plus (v + 256 ^ i * b) (256 ^ suc i) o
plus_next v i b None l = refl
plus_next v i b (Some x) l =
    let e : b % 256 ≡ b = mod-eq_of_lt l in
    ap Some (rw (e, pow-suc) (omega arith))

module _ (m : Overlay Cell) (image : List ℕ) (a n i v here : ℕ) (h : i < n) (e : here ≡ (a + i) % 2 ^ 64) where
  turn : (o : Option ℕ) → byte_or (to_byte (find here m)) image ≡ o → load m image (a + i) (n - i) ≡ joined o (load m (drop 1 image) (suc (a + i)) (n - (i + 1)))
  turn o f =
      let k : n - i ≡ suc (n - (i + 1)) = omega arith in
      let g : byte_or (to_byte (find ((a + i) % 2 ^ 64) m)) image ≡ o = rw (← e) f in
      rw k (load_suc m image (a + i) (n - (i + 1)) ∙ ap (λ (x : Option ℕ). joined x (load m (drop 1 image) (suc (a + i)) (n - (i + 1)))) g)

  pub load_turn : (image' : List ℕ) (v' b : ℕ) → b < 256 → byte_or (to_byte (find here m)) image ≡ Some b → v' ≡ v + 256 ^ i * b → image' ≡ drop 1 image
      → plus v' (256 ^ (i + 1)) (load m image' (a + (i + 1)) (n - (i + 1))) ≡ plus v (256 ^ i) (load m image (a + i) (n - i))
  load_turn image' v' b l f g k =
      let x : a + (i + 1) ≡ suc (a + i) = omega arith in
      let p : 256 ^ (i + 1) ≡ 256 ^ suc i = ap (λ (j : ℕ). 256 ^ j) (add-one i) in
      rw (g, k, x, p) (sym (ap (plus v (256 ^ i)) (turn (Some b) f) ∙ plus_next v i b (load m (drop 1 image) (suc (a + i)) (n - (i + 1))) l))

  pub load_stop : byte_or (to_byte (find here m)) image ≡ None → plus v (256 ^ i) (load m image (a + i) (n - i)) ≡ None
  load_stop f = ap (plus v (256 ^ i)) (turn None f)

pub load_last : (m : Overlay Cell) (image : List ℕ) (a n v p : ℕ) → n ≡ 0 → plus v p (load m image a n) ≡ Some v
unfolding load gather
load_last m image a zero v p h = ap Some (omega arith)
load_last m image a (suc n) v p h = absurd (omega arith)

-- ---- the image's own bytes, where the overlay has none

pub load_untouched : (n : ℕ) (m : Overlay Cell) (image : List ℕ) (a b : ℕ) → Untouched m a n → load m image a n ≡ load [] image b n
unfolding load gather find
load_untouched zero m image a b none_there = refl
load_untouched (suc n) m image a b none_there =
    let z : a + 0 ≡ a = omega arith in
    let here : find (a % 2 ^ 64) m ≡ None = rw z at (none_there 0 (omega arith)) in
    let rest : Untouched m (suc a) n =
    λ k h. let e : a + suc k ≡ suc a + k = omega arith in rw e at (none_there (suc k) (omega arith)) in
    load_suc m image a n
    ∙ ap (λ (o : Option Cell). joined (byte_or (to_byte o) image) (load m (drop 1 image) (suc a) n)) here
    ∙ ap (joined (byte_or None image)) (load_untouched n m (drop 1 image) (suc a) (suc b) rest)
    ∙ sym (load_suc [] image b n)

pub image_short : (n c v a : ℕ) → c < n → load [] (le c v) a n ≡ None
unfolding find
image_short zero c v a h = absurd (omega arith)
image_short (suc n) zero v a h = load_suc [] [] a n
image_short (suc n) (suc c) v a h =
    load_suc [] (le (suc c) v) a n ∙ ap (joined (Some (v % 256))) (image_short n c (v / 256) (suc a) (omega arith))

pub image_full : (n c v a : ℕ) → n ≤ c → load [] (le c v) a n ≡ Some (num (le n v))
unfolding load gather find
image_full zero c v a h = refl
image_full (suc n) zero v a h = absurd (omega arith)
image_full (suc n) (suc c) v a h =
    load_suc [] (le (suc c) v) a n ∙ ap (joined (Some (v % 256))) (image_full n c (v / 256) (suc a) (omega arith))

pub low_bytes : (n v : ℕ) → num (le n v) ≡ v % 2 ^ (8 * n)
low_bytes zero v = sym (mod-one v)
low_bytes (suc n) v =
    let e : 8 * suc n ≡ 8 * n + 8 = omega arith in
    rw e (omega (arith, low_bytes n (v / 256), mod-pow-add v (8 * n) 8))

-- a word has no more than eight
pub all_bytes : (n v : ℕ) → v < 2 ^ 64 → 8 ≤ n → v ≡ num (le n v)
all_bytes n v h l =
    sym (low_bytes n v ∙ mod-eq_of_lt (lt_of_lt_of_le h (pow-le-pow_right {n = 2} (lit< tt) {i = 64} {j = 8 * n} (omega arith))))
