-- Entries of one size, once over the size and what an entry says: entry i is at i * k, and entries go in between others. Assumes nothing.
use Rattle.std.proofs.Common.{◌≡◌, ℕ, zero, suc, ◌+◌, ◌*◌, ◌<◌, ◌≤◌, List, [], ◌∷◌, ◌++◌, length, get_or, take, drop, sym, refl, ap, ◌∙◌, ap₂, le_of_suc-le-suc, suc-mul, add_comm, suc-add, zero-add, zero-mul, arith, length-append, length-drop, take-append-drop, length-take-le, drop-drop, take_at, take-add, drop_at}
use lib.Seq.{take-append-le, drop-append-le}
use Rattle.layout.specs.Each.{Bytes}
use Rattle.layout.specs.Number.{num}
use Rattle.layout.specs.Format.{Format, number, pair, writes, reads}
use Rattle.layout.proofs.NumberLaws.{length_le, le_num}
use Rattle.layout.proofs.StoreLaws.{each_take, each_drop}
use Rattle.layout.proofs.FormatLaws.{length_reads}

-- a format of k bytes
pub record Sized {A : Type 0} (F : Format A) (k : ℕ) : Type 0 where
  pub long : (a : A) → length (F.write a) ≡ k
  pub rest : (s : List ℕ) → (F.read s).1 ≡ drop k s
  -- only the k bytes count, and they are written again
  pub front : (s t : List ℕ) → k ≤ length s → (F.read (s ++ t)).0 ≡ (F.read s).0
  pub again : (s : List ℕ) → k ≤ length s → Bytes s → F.write (F.read s).0 ≡ take k s

pub number_sized : (k : ℕ) → Sized (number k) k
number_sized k = record {
  long = length_le k;
  rest = λ s. refl;
  front = λ s t h. ap num (take-append-le k s t h);
  again = λ s h all. le_num k (take k s) (length-take-le k s h) (each_take k s all);
}

pub pair_sized : {A B : Type 0} {F : Format A} {G : Format B} {j k : ℕ} → Sized F j → Sized G k → Sized (pair F G) (j + k)
pair_sized {F = F} {G = G} {j = j} {k = k} f g = record {
  long = λ p. length-append (F.write p.0) (G.write p.1) ∙ ap₂ ◌+◌ (f.long p.0) (g.long p.1);
  rest = λ s. g.rest (F.read s).1 ∙ ap (drop k) (f.rest s) ∙ drop-drop k j s;
  front = λ s t h.
      let x : (F.read (s ++ t)).1 ≡ drop j s ++ t = f.rest (s ++ t) ∙ drop-append-le j s t (omega arith) in
      let y : (G.read (F.read (s ++ t)).1).0 ≡ (G.read (F.read s).1).0 =
      ap (λ (l : List ℕ). (G.read l).0) x ∙ g.front (drop j s) t (rw length-drop (omega arith)) ∙ ap (λ (l : List ℕ). (G.read l).0) (sym (f.rest s)) in
      λ i. (f.front s t (omega arith) i, y i);
  again = λ s h all.
      ap₂ (λ (x y : List ℕ). x ++ y) (f.again s (omega arith) all)
      (ap (λ (l : List ℕ). G.write (G.read l).0) (f.rest s) ∙ g.again (drop j s) (rw length-drop (omega arith)) (each_drop j s all))
      ∙ sym (take-add j k s);
}

module _ {A : Type 0} {F : Format A} {k : ℕ} (z : Sized F k) where
  pub length_writes : (es : List A) → length (writes F es) ≡ length es * k
  length_writes [] = sym (zero-mul k)
  length_writes (e ∷ es) = rw (length-append, suc-mul, length_writes es, z.long e) (add_comm k (length es * k))

  -- the first m entries, and those after them
  pub reads_add : (m n : ℕ) (s : List ℕ) → (reads F (m + n) s).0 ≡ (reads F m s).0 ++ (reads F n (drop (m * k) s)).0
  reads_add zero n s = rw (zero-add, zero-mul)
  reads_add (suc m) n s =
      rw suc-add
      (ap (λ (l : List A). (F.read s).0 ∷ l) (reads_add m n (F.read s).1 ∙ rw (z.rest s, drop-drop, suc-mul, add_comm)))

  -- entry i is what the bytes from i * k on say
  pub reads_at : (n : ℕ) (s : List ℕ) (i : ℕ) (d : A) → i < n → get_or (reads F n s).0 i d ≡ (F.read (drop (i * k) s)).0
  reads_at zero s i d h = absurd (omega arith)
  reads_at (suc n) s zero d h = rw zero-mul
  reads_at (suc n) s (suc i) d h = reads_at n (F.read s).1 i d (le_of_suc-le-suc h) ∙ rw (z.rest s, drop-drop, suc-mul, add_comm)

  -- only the bytes of the entries count
  pub reads_front : (n : ℕ) (s t : List ℕ) → n * k ≤ length s → (reads F n (s ++ t)).0 ≡ (reads F n s).0
  reads_front zero s t h = refl
  reads_front (suc n) s t h =
      let g : n * k + k ≤ length s = rw suc-mul at h in
      let b : n * k ≤ length (drop k s) = rw length-drop (omega arith) in
      let r : (F.read (s ++ t)).1 ≡ drop k s ++ t = z.rest (s ++ t) ∙ drop-append-le k s t (omega arith) in
      ap₂ (λ (x : A) (l : List A). x ∷ l) (z.front s t (omega arith)) (ap (λ (l : List ℕ). (reads F n l).0) r ∙ reads_front n (drop k s) t b ∙ ap (λ (l : List ℕ). (reads F n l).0) (sym (z.rest s)))

  pub reads_take : (n m : ℕ) (s : List ℕ) → n * k ≤ m → m ≤ length s → (reads F n (take m s)).0 ≡ (reads F n s).0
  reads_take n m s h l =
      sym (reads_front n (take m s) (drop m s) (rw (length-take-le m s l) h)) ∙ ap (λ (x : List ℕ). (reads F n x).0) (take-append-drop m s)

  pub take_reads : (m n : ℕ) (s : List ℕ) → take m (reads F (m + n) s).0 ≡ (reads F m s).0
  take_reads m n s = rw reads_add (take_at (reads F m s).0 (reads F n (drop (m * k) s)).0 m (length_reads F m s))

  pub drop_reads : (m n : ℕ) (s : List ℕ) → drop m (reads F (m + n) s).0 ≡ (reads F n (drop (m * k) s)).0
  drop_reads m n s = rw reads_add (drop_at (reads F m s).0 (reads F n (drop (m * k) s)).0 m (length_reads F m s))

  -- entries read are the bytes when written again
  pub writes_reads : (n : ℕ) (s : List ℕ) → n * k ≤ length s → Bytes s → writes F (reads F n s).0 ≡ take (n * k) s
  writes_reads zero s h all = rw zero-mul
  writes_reads (suc n) s h all =
      let q : n * k + k ≤ length s = rw suc-mul at h in
      let b : writes F (reads F n (drop k s)).0 ≡ take (n * k) (drop k s) = writes_reads n (drop k s) (rw length-drop (omega arith)) (each_drop k s all) in
      rw (z.rest s, b, z.again s (omega arith) all, suc-mul, add_comm (n * k) k, take-add)
