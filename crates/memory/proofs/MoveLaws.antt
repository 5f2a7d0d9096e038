-- Bytes moved within a list: turn by turn, through a lent part, and what stays where it is. Assumes nothing.
use Rattle.std.proofs.Common.{◌≡◌, ℕ, suc, ◌+◌, ◌-◌, ◌<◌, ◌≤◌, List, [], ◌∷◌, ◌++◌, length, get_or, take, drop, set, sym, refl, ap, ◌∙◌, subst, suc-add, zero-add, add-one, arith, length-drop, take-append-drop, length-take, length-take-le, get_or-drop, take_all, drop-cons, get_or-set_other, take-suc, drop-drop, take_at, take-add}
use lib.Seq.{sets, sets-eq, set_comm}
use Rattle.std.specs.List.{copy_within}
use borrow.Rule.Slice.PartMut.{mid_of, put_mid}
use Rattle.std.proofs.lemmas.List.{drop-take}
use Rattle.layout.proofs.StoreLaws.{sets_append, put_sets, take_sets, drop_sets, drop_sets_at}

-- ---- bytes move up by g, the last first

set_sets : (vs l : List ℕ) (k i v : ℕ) → i < k → set (sets l k vs) i v ≡ sets (set l i v) k vs
set_sets [] l k i v h = refl
set_sets (a ∷ vs) l k i v h =
    set_sets vs (set l k a) (suc k) i v (omega arith) ∙ ap (λ (t : List ℕ). sets t (suc k) vs) (set_comm l k i a v (λ e. omega arith))

get_d_sets_below : (vs l : List ℕ) (k i : ℕ) → i < k → get_or (sets l k vs) i 0 ≡ get_or l i 0
get_d_sets_below [] l k i h = refl
get_d_sets_below (a ∷ vs) l k i h = get_d_sets_below vs (set l k a) (suc k) i (omega arith) ∙ get_or-set_other l k i a 0 (λ e. omega arith)

-- s with its bytes from k up to n moved up by g
abbrev pub raised : List ℕ → ℕ → ℕ → ℕ → List ℕ
raised s g k n = sets s (k + g) (take (n - k) (drop k s))

raised_suc : (s : List ℕ) (g j n : ℕ) → j < n → j < length s → set (raised s g (suc j) n) (j + g) (get_or (raised s g (suc j) n) j 0) ≡ raised s g j n
raised_suc s g j n h l =
    let vs : List ℕ = take (n - suc j) (drop (suc j) s) in
    let e : n - j ≡ suc (n - suc j) = omega arith in
    rw (get_d_sets_below vs s (suc j + g) j (omega arith), set_sets vs s (suc j + g) (j + g) (get_or s j 0) (omega arith), e, drop-cons s j 0 l, suc-add)

pub raised_more : (s : List ℕ) (g k n : ℕ) → 0 < k → k ≤ n → n ≤ length s → set (raised s g k n) (k - 1 + g) (get_or (raised s g k n) (k - 1) 0) ≡ raised s g (k - 1) n
raised_more s g k n p h l =
    let e : k ≡ suc (k - 1) = omega arith in
    subst (λ (x : ℕ). set (raised s g x n) (k - 1 + g) (get_or (raised s g x n) (k - 1) 0) ≡ raised s g (k - 1) n) (sym e)
    (raised_suc s g (k - 1) n (omega arith) (omega arith))

-- ---- bytes come down from g, the first first

get_d_sets_above : (vs l : List ℕ) (k i : ℕ) → k + length vs ≤ i → get_or (sets l k vs) i 0 ≡ get_or l i 0
get_d_sets_above [] l k i h = refl
get_d_sets_above (a ∷ vs) l k i h = get_d_sets_above vs (set l k a) (suc k) i (omega arith) ∙ get_or-set_other l k i a 0 (λ e. omega arith)

-- s with k bytes from g on moved to its front
abbrev pub lowered : List ℕ → ℕ → ℕ → List ℕ
lowered s g k = sets s 0 (take k (drop g s))

pub lowered_more : (s : List ℕ) (g k : ℕ) → k + g < length s → set (lowered s g k) k (get_or (lowered s g k) (k + g) 0) ≡ lowered s g (k + 1)
lowered_more s g k h =
    let t : List ℕ = drop g s in
    let lt : k < length t = rw length-drop (omega arith) in
    let l : length (take k t) ≡ k = length-take-le k t (omega arith) in
    let x : get_or (lowered s g k) (k + g) 0 ≡ get_or t k 0 = get_d_sets_above (take k t) s 0 (k + g) (omega arith) ∙ ap (λ (i : ℕ). get_or s i 0) (omega arith) ∙ sym (get_or-drop g s k 0) in
    let a : sets s 0 (take k t ++ (get_or t k 0 ∷ [])) ≡ set (lowered s g k) k (get_or t k 0) =
    sets_append (take k t) (get_or t k 0 ∷ []) s 0 ∙ ap (λ (i : ℕ). set (lowered s g k) i (get_or t k 0)) (zero-add (length (take k t)) ∙ l) in
    rw x (sym a ∙ ap (sets s 0) (sym (take-suc t k 0 lt)) ∙ ap (λ (i : ℕ). sets s 0 (take i t)) (sym (add-one k)))

-- ---- through the rest of the list from a on, which is lent

module _ (s : List ℕ) (a g n : ℕ) (fits : a + g + n ≤ length s) where
  abbrev rest : List ℕ
  rest = mid_of a (length s - a) s

  rest_is : rest ≡ drop a s
  rest_is = take_all (length s - a) (drop a s) (omega (arith, length-drop a s))

  length_rest : length rest ≡ length s - a
  length_rest = ap length rest_is ∙ length-drop a s

  pub slid_up : (t : List ℕ) (b : ℕ) → a + g ≡ b → t ≡ sets rest g (take n rest) → put_mid a (length s - a) s t ≡ sets s b (take n (drop a s))
  slid_up t b k e =
      ap (put_mid a (length s - a) s) e
      ∙ put_sets (take n rest) s a (length s - a) g (omega (arith, length_rest, length-take n rest))
      ∙ rw (k, rest_is)

  pub slid_down : (t : List ℕ) (b : ℕ) → a + g ≡ b → t ≡ sets rest 0 (take n (drop g rest)) → put_mid a (length s - a) s t ≡ sets s a (take n (drop b s))
  slid_down t b k e =
      let vs : List ℕ = take n (drop g rest) in
      let z : a + 0 ≡ a = omega arith in
      let d : drop g rest ≡ drop b s = ap (drop g) rest_is ∙ drop-drop g a s ∙ ap (λ (i : ℕ). drop i s) k in
      ap (put_mid a (length s - a) s) e
      ∙ put_sets vs s a (length s - a) 0 (omega (arith, length_rest, length-take n (drop g rest), length-drop g rest))
      ∙ rw (z, d)

-- ---- copied by the library, or where they are

pub moved : (s : List ℕ) (a b n e : ℕ) → b + n ≡ e → e ≤ length s → a + n ≤ length s → copy_within s b e a ≡ sets s a (take n (drop b s))
moved s a b n e h f g =
    let vs : List ℕ = take n (drop b s) in
    let l : length vs ≡ n = length-take-le n (drop b s) (rw length-drop (omega arith)) in
    let k : e - b ≡ n = omega arith in
    rw k (sym (sets-eq vs s a (omega arith) ∙ ap (λ (i : ℕ). take a s ++ vs ++ drop (a + i) s) l))

pub unmoved : (s : List ℕ) (b n : ℕ) → b + n ≤ length s → s ≡ sets s b (take n (drop b s))
unmoved s b n h =
    let vs : List ℕ = take n (drop b s) in
    let l : length vs ≡ n = length-take-le n (drop b s) (rw length-drop (omega arith)) in
    sym (sets-eq vs s b (omega arith) ∙ ap (λ (i : ℕ). take b s ++ vs ++ drop (b + i) s) l ∙ ap (λ (t : List ℕ). t ++ drop (b + n) s) (sym (take-add b n s)) ∙ take-append-drop (b + n) s)

-- ---- what is stored at i, and what stays below and above

pub part_at : (s vs : List ℕ) (i n : ℕ) → length vs ≡ n → i + n ≤ length s → take n (drop i (sets s i vs)) ≡ vs
part_at s vs i n l h =
    ap (take n) (drop_sets_at vs s i (omega arith)) ∙ take_at vs (drop (i + length vs) s) n l

pub part_above : (s vs : List ℕ) (i a n : ℕ) → i + length vs ≤ a → take n (drop a (sets s i vs)) ≡ take n (drop a s)
part_above s vs i a n h = ap (take n) (drop_sets vs s i a h)

pub part_below : (s vs : List ℕ) (i a n : ℕ) → a + n ≤ i → take n (drop a (sets s i vs)) ≡ take n (drop a s)
part_below s vs i a n h =
    sym (drop-take a n (sets s i vs)) ∙ ap (drop a) (take_sets vs s i (a + n) h) ∙ drop-take a n s
