-- Finding and storing, by rank; an ascending list stays so; a run of bytes takes the place of the entries that have its addresses. Assumes nothing.
use Rattle.std.proofs.Common.{◌≡◌, ℕ, zero, suc, ◌+◌, ◌%◌, ◌^◌, ◌<◌, ◌≤◌, List, [], ◌∷◌, ◌++◌, length, get_or, take, drop, sym, refl, ap, ◌∙◌, suc-le-suc, le_trans, le_of_suc-le-suc, add-zero, add-suc, mod-eq_of_lt, suc-add, arith}
use Rattle.std.specs.Prelude.{None, Some}
use Prim.Native.Nat.compare
use Prim.Native.Nat.{Ordering}
use Prim.Native.Nat.{compare}
use Rattle.layout.specs.Each.{Each}
use Rattle.memory.specs.Overlay.{Overlay, find, store, stores, run_of, rank, Ascending}

-- how two numbers compare, with what it says
pub data Compared (a b : ℕ) : Type 0 where
  below : a < b → compare a b ≡ Ordering.lt → Compared a b
  equal : a ≡ b → compare a b ≡ Ordering.eq → Compared a b
  above : b < a → compare a b ≡ Ordering.gt → Compared a b

up : {a b : ℕ} → Compared a b → Compared (suc a) (suc b)
up {a} {b} (below h e) = below (omega arith) (compare.suc-suc a b ∙ e)
up {a} {b} (equal h e) = equal (ap suc h) (compare.suc-suc a b ∙ e)
up {a} {b} (above h e) = above (omega arith) (compare.suc-suc a b ∙ e)

pub compared : (a b : ℕ) → Compared a b
compared zero zero = equal refl compare.zero-zero
compared zero (suc b) = below (omega arith) (compare.zero-suc b)
compared (suc a) zero = above (omega arith) (compare.suc-zero a)
compared (suc a) (suc b) = up (compared a b)

module _ {C : Type 0} where
  -- how an address compares with that of the first entry, with what it says
  pub data First (a : ℕ) (p : ℕ × C) (m : Overlay C) : Type 0 where
    less : a < p.0 → rank a (p ∷ m) ≡ 0 → find a (p ∷ m) ≡ None → ((c : C) → store a c (p ∷ m) ≡ (a, c) ∷ p ∷ m) → First a p m
    same : a ≡ p.0 → rank a (p ∷ m) ≡ 0 → find a (p ∷ m) ≡ Some p.1 → ((c : C) → store a c (p ∷ m) ≡ (a, c) ∷ m) → First a p m
    more : p.0 < a → rank a (p ∷ m) ≡ suc (rank a m) → find a (p ∷ m) ≡ find a m → ((c : C) → store a c (p ∷ m) ≡ p ∷ store a c m) → First a p m

  pub first : (a : ℕ) (p : ℕ × C) (m : Overlay C) → First a p m
  unfolding find store
  first a p m =
      elim (compared a p.0) [
        | below h e ↦ less h (rw (e, rank)) (rw (e, find)) (λ c. rw (e, store))
        | equal h e ↦ same h (rw (e, rank)) (rw (e, find)) (λ c. rw (e, store))
        | above h e ↦ more h (rw (e, rank)) (rw (e, find)) (λ c. rw (e, store))
      ]

  -- the address of entry i
  abbrev pub key : Overlay C → ℕ → C → ℕ
  key m i d = (get_or m i (0, d)).0

  pub rank_below : (a : ℕ) (d : C) (m : Overlay C) (i : ℕ) → i < length m → a ≤ key m i d → rank a m ≤ i
  rank_below a d [] i h l = absurd (omega arith)
  rank_below a d (p ∷ m) zero h l = elim (first a p m) [ less k r f s ↦ omega arith | same k r f s ↦ omega arith | more k r f s ↦ absurd (omega arith) ]
  rank_below a d (p ∷ m) (suc i) h l =
      elim (first a p m) [ less k r f s ↦ omega arith | same k r f s ↦ omega arith | more k r f s ↦ rw r (suc-le-suc (rank_below a d m i (le_of_suc-le-suc h) l)) ]

  pub each_at : (P : ℕ × C → Type 0) (d : ℕ × C) (m : Overlay C) (i : ℕ) → i < length m → Each P m → P (get_or m i d)
  each_at P d [] i h all = absurd (omega arith)
  each_at P d (p ∷ m) zero h all = all.0
  each_at P d (p ∷ m) (suc i) h all = each_at P d m i (le_of_suc-le-suc h) all.1

  pub rank_above : (a : ℕ) (d : C) (m : Overlay C) → Ascending m → (i : ℕ) → i < length m → key m i d < a → i < rank a m
  rank_above a d [] s i h l = absurd (omega arith)
  rank_above a d (p ∷ m) s zero h l = elim (first a p m) [ less k r f t ↦ absurd (omega arith) | same k r f t ↦ absurd (omega arith) | more k r f t ↦ omega arith ]
  rank_above a d (p ∷ m) s (suc i) h l =
      let q : p.0 < key m i d = each_at (λ q. p.0 < q.0) (0, d) m i (le_of_suc-le-suc h) s.0 in
      elim (first a p m) [ less k r f t ↦ absurd (omega arith) | same k r f t ↦ absurd (omega arith) | more k r f t ↦ rw r (suc-le-suc (rank_above a d m s.1 i (le_of_suc-le-suc h) l)) ]

  pub rank_most : (a : ℕ) (m : Overlay C) → rank a m ≤ length m
  rank_most a [] = omega arith
  rank_most a (p ∷ m) = elim (first a p m) [ less k r f s ↦ omega arith | same k r f s ↦ omega arith | more k r f s ↦ rw r (suc-le-suc (rank_most a m)) ]

  -- the address stands at its rank
  pub record Stands (a : ℕ) (d : C) (m : Overlay C) : Type 0 where
    pub there : rank a m < length m
    pub is : key m (rank a m) d ≡ a

  stands_tail : {a : ℕ} {d : C} {p : ℕ × C} {m : Overlay C} → rank a (p ∷ m) ≡ suc (rank a m) → Stands a d (p ∷ m) → Stands a d m
  stands_tail r h = record { there = le_of_suc-le-suc (rw r at h.there); is = rw r at h.is }

  stands_cons : {a : ℕ} {d : C} {p : ℕ × C} {m : Overlay C} → rank a (p ∷ m) ≡ suc (rank a m) → Stands a d m → Stands a d (p ∷ m)
  stands_cons r h = record { there = rw r (suc-le-suc h.there); is = rw r h.is }

  stands_not : {a : ℕ} {d : C} {p : ℕ × C} {m : Overlay C} → rank a (p ∷ m) ≡ 0 → a < p.0 → Stands a d (p ∷ m) → ⊥
  stands_not r l h = omega (arith, rw r at h.is)

  stands_first : {a : ℕ} {d : C} {p : ℕ × C} {m : Overlay C} → rank a (p ∷ m) ≡ 0 → a ≡ p.0 → Stands a d (p ∷ m)
  stands_first r e = record { there = omega arith; is = rw r (sym e) }

  -- an address that stands at its rank is found there
  pub find_at : (a : ℕ) (d : C) (m : Overlay C) → Stands a d m → find a m ≡ Some (get_or m (rank a m) (0, d)).1
  find_at a d [] h = absurd (omega arith)
  find_at a d (p ∷ m) h =
      elim (first a p m) [ less k r f s ↦ absurd (stands_not r k h) | same k r f s ↦ rw (f, r) | more k r f s ↦ rw (f, r) (find_at a d m (stands_tail r h)) ]

  -- an address that does not is not found
  pub find_none : (a : ℕ) (d : C) (m : Overlay C) → (Stands a d m → ⊥) → find a m ≡ None
  unfolding find store
  find_none a d [] n = refl
  find_none a d (p ∷ m) n =
      elim (first a p m) [ less k r f s ↦ f | same k r f s ↦ absurd (n (stands_first r k)) | more k r f s ↦ f ∙ find_none a d m (λ h. n (stands_cons r h)) ]

  -- storing keeps the order
  each_store : (b a : ℕ) (c : C) (m : Overlay C) → b < a → Each (λ q. b < q.0) m → Each (λ q. b < q.0) (store a c m)
  unfolding find store
  each_store b a c [] h all = (h, tt)
  each_store b a c (p ∷ m) h all =
      elim (first a p m) [ less k r f s ↦ rw (s c) (h, all) | same k r f s ↦ rw (s c) (h, all.1) | more k r f s ↦ rw (s c) (all.0, each_store b a c m h all.1) ]

  each_more : (b a : ℕ) (m : Overlay C) → b < a → Each (λ q. a < q.0) m → Each (λ q. b < q.0) m
  each_more b a [] h all = tt
  each_more b a (p ∷ m) h all = (omega (arith, all.0), each_more b a m h all.1)

  pub ascending_store : (a : ℕ) (c : C) (m : Overlay C) → Ascending m → Ascending (store a c m)
  unfolding find store
  ascending_store a c [] s = (tt, tt)
  ascending_store a c (p ∷ m) s =
      elim (first a p m) [
        | less k r f t ↦ rw (t c) ((k, each_more a p.0 m k s.0), s)
        | same k r f t ↦ rw (t c, k) s
        | more k r f t ↦ rw (t c) (each_store p.0 a c m k s.0, ascending_store a c m s.1)
      ]

  pub length_store : (a : ℕ) (c : C) (m : Overlay C) → length m ≤ length (store a c m)
  unfolding find store
  length_store a c [] = omega arith
  length_store a c (p ∷ m) =
      elim (first a p m) [ less k r f s ↦ rw (s c) (omega arith) | same k r f s ↦ rw (s c) (omega arith) | more k r f s ↦ rw (s c) (suc-le-suc (length_store a c m)) ]

  -- ---- the rank of the next address, and of a later one

  rank_all : (b : ℕ) (m : Overlay C) → Each (λ q. b ≤ q.0) m → rank b m ≡ 0
  rank_all b [] all = refl
  rank_all b (p ∷ m) all = elim (first b p m) [ less k r f s ↦ r | same k r f s ↦ r | more k r f s ↦ absurd (omega (arith, all.0)) ]

  pub rank_zero : (m : Overlay C) → rank 0 m ≡ 0
  rank_zero [] = refl
  rank_zero (p ∷ m) = elim (first 0 p m) [ less k r f s ↦ r | same k r f s ↦ r | more k r f s ↦ absurd (omega arith) ]

  pub rank_mono : (a b : ℕ) (m : Overlay C) → a ≤ b → rank a m ≤ rank b m
  rank_mono a b [] h = omega arith
  rank_mono a b (p ∷ m) h =
      elim (first a p m) [
        | less k r f s ↦ omega arith
        | same k r f s ↦ omega arith
        | more k r f s ↦ elim (first b p m) [ less l q g t ↦ absurd (omega arith) | same l q g t ↦ absurd (omega arith) | more l q g t ↦ rw (r, q) (suc-le-suc (rank_mono a b m h)) ]
      ]

  -- the first entry comes before a later address, or does not
  rank_past : (b : ℕ) (p : ℕ × C) (m : Overlay C) → p.0 < b → rank b (p ∷ m) ≡ suc (rank b m)
  rank_past b p m h = elim (first b p m) [ less k r f s ↦ absurd (omega arith) | same k r f s ↦ absurd (omega arith) | more k r f s ↦ r ]

  rank_not_past : (b : ℕ) (p : ℕ × C) (m : Overlay C) → b ≤ p.0 → rank b (p ∷ m) ≡ 0
  rank_not_past b p m h = elim (first b p m) [ less k r f s ↦ r | same k r f s ↦ r | more k r f s ↦ absurd (omega arith) ]

  each_later : (a b : ℕ) (m : Overlay C) → b ≤ suc a → Each (λ q. a < q.0) m → Each (λ q. b ≤ q.0) m
  each_later a b [] h all = tt
  each_later a b (p ∷ m) h all = (omega (arith, all.0), each_later a b m h all.1)

  pub rank_found : (a : ℕ) (m : Overlay C) → Ascending m → (find a m ≡ None → ⊥) → rank (suc a) m ≡ suc (rank a m)
  unfolding find
  rank_found a [] s n = absurd (n refl)
  rank_found a (p ∷ m) s n =
      elim (first a p m) [
        | less k r f t ↦ absurd (n f)
        | same k r f t ↦ rank_past (suc a) p m (omega arith) ∙ ap suc (rank_all (suc a) m (each_later p.0 (suc a) m (omega arith) s.0) ∙ sym r)
        | more k r f t ↦ rank_past (suc a) p m (omega arith) ∙ ap suc (rank_found a m s.1 (λ e. n (f ∙ e))) ∙ ap suc (sym r)
      ]

  pub rank_lost : (a : ℕ) (m : Overlay C) → find a m ≡ None → rank (suc a) m ≡ rank a m
  rank_lost a [] n = refl
  rank_lost a (p ∷ m) n =
      elim (first a p m) [
        | less k r f t ↦ rank_not_past (suc a) p m (omega arith) ∙ sym r
        | same k r f t ↦ absurd (let z : ◌≡◌ {A = ℕ} 0 1 = cc in omega arith)
        | more k r f t ↦ rank_past (suc a) p m (omega arith) ∙ ap suc (rank_lost a m (sym f ∙ n)) ∙ sym r
      ]

  -- ---- storing from an address on

  pub ascending_stores : (cs : List C) (a : ℕ) (m : Overlay C) → Ascending m → Ascending (stores a cs m)
  unfolding stores
  ascending_stores [] a m s = s
  ascending_stores (c ∷ cs) a m s = ascending_stores cs (suc a) (store (a % 2 ^ 64) c m) (ascending_store (a % 2 ^ 64) c m s)

  pub length_stores : (cs : List C) (a : ℕ) (m : Overlay C) → length m ≤ length (stores a cs m)
  unfolding stores
  length_stores [] a m = omega arith
  length_stores (c ∷ cs) a m = le_trans (length_store (a % 2 ^ 64) c m) (length_stores cs (suc a) (store (a % 2 ^ 64) c m))

  pub stores_one : (a : ℕ) (c : C) (m : Overlay C) → a < 2 ^ 64 → stores a (c ∷ []) m ≡ store a c m
  unfolding stores
  stores_one a c m h = ap (λ (x : ℕ). store x c m) (mod-eq_of_lt h)

  stores_next : (a : ℕ) (c : C) (cs : List C) (m : Overlay C) → a + length (c ∷ cs) ≤ 2 ^ 64 → stores a (c ∷ cs) m ≡ stores (suc a) cs (store a c m)
  unfolding stores
  stores_next a c cs m h =
      let e : a % 2 ^ 64 ≡ a = mod-eq_of_lt (omega arith) in
      ap (λ (x : ℕ). stores (suc a) cs (store x c m)) e

  -- an entry before them all stays the first
  stores_past : (cs : List C) (a : ℕ) (p : ℕ × C) (m : Overlay C) → p.0 < a → a + length cs ≤ 2 ^ 64 → stores a cs (p ∷ m) ≡ p ∷ stores a cs m
  unfolding stores
  stores_past [] a p m h w = refl
  stores_past (c ∷ cs) a p m h w =
      elim (first a p m) [
        | less k r f s ↦ absurd (omega arith)
        | same k r f s ↦ absurd (omega arith)
        | more k r f s ↦
            stores_next a c cs (p ∷ m) w
            ∙ ap (stores (suc a) cs) (s c)
            ∙ stores_past cs (suc a) p (store a c m) (omega arith) (omega arith)
            ∙ ap (λ (l : Overlay C). p ∷ l) (sym (stores_next a c cs m w))
      ]

  -- where no entry comes before them, they come first, and then the entries past them
  stores_first : (cs : List C) (a : ℕ) (m : Overlay C) → Ascending m → Each (λ q. a ≤ q.0) m → a + length cs ≤ 2 ^ 64 → stores a cs m ≡ run_of a cs ++ drop (rank (a + length cs) m) m
  unfolding stores store
  stores_first [] a m s all w = ap (λ (n : ℕ). drop n m) (sym (ap (λ (x : ℕ). rank x m) (add-zero a) ∙ rank_all a m all))
  stores_first (c ∷ cs) a [] s all w =
      stores_next a c cs [] w
      ∙ stores_past cs (suc a) (a, c) [] (omega arith) (omega arith)
      ∙ ap (λ (l : Overlay C). (a, c) ∷ l) (stores_first cs (suc a) [] tt tt (omega arith))
  stores_first (c ∷ cs) a (p ∷ m) s all w =
      let e : suc a + length cs ≡ a + suc (length cs) = suc-add a (length cs) ∙ sym (add-suc a (length cs)) in
      let put : (l : Overlay C) → Ascending l → Each (λ q. suc a ≤ q.0) l → stores (suc a) cs ((a, c) ∷ l) ≡ (a, c) ∷ (run_of (suc a) cs ++ drop (rank (a + suc (length cs)) l) l) =
      λ l sl al. stores_past cs (suc a) (a, c) l (omega arith) (omega arith) ∙ ap (λ (x : Overlay C). (a, c) ∷ x) (stores_first cs (suc a) l sl al (omega arith) ∙ ap (λ (x : ℕ). run_of (suc a) cs ++ drop (rank x l) l) e) in
      elim (first a p m) [
        | less k r f t ↦
            stores_next a c cs (p ∷ m) w ∙ ap (stores (suc a) cs) (t c) ∙ put (p ∷ m) s (k, each_later p.0 (suc a) m (omega arith) s.0)
        | same k r f t ↦
            stores_next a c cs (p ∷ m) w
            ∙ ap (stores (suc a) cs) (t c)
            ∙ put m s.1 (each_later p.0 (suc a) m (omega arith) s.0)
            ∙ ap (λ (x : ℕ). (a, c) ∷ (run_of (suc a) cs ++ drop x (p ∷ m))) (sym (rank_past (a + suc (length cs)) p m (omega arith)))
        | more k r f t ↦ absurd (omega (arith, all.0))
      ]

  -- the run of addresses takes the place of the entries that have them
  pub stores_run : (cs : List C) (a : ℕ) (m : Overlay C) → Ascending m → a + length cs ≤ 2 ^ 64 → stores a cs m ≡ take (rank a m) m ++ (run_of a cs ++ drop (rank (a + length cs) m) m)
  stores_run cs a [] s w = stores_first cs a [] tt tt w
  stores_run cs a (p ∷ m) s w =
      elim (compared a p.0) [
        | below h e ↦ stores_first cs a (p ∷ m) s (omega arith, each_later p.0 a m (omega arith) s.0) w ∙ rw (rank_not_past a p m (omega arith))
        | equal h e ↦ stores_first cs a (p ∷ m) s (omega arith, each_later p.0 a m (omega arith) s.0) w ∙ rw (rank_not_past a p m (omega arith))
        | above h e ↦
            stores_past cs a p m h w
            ∙ ap (λ (l : Overlay C). p ∷ l) (stores_run cs a m s.1 w)
            ∙ rw (rank_past a p m h, rank_past (a + length cs) p m (omega arith))
      ]
