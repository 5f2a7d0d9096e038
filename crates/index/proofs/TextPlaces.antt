-- Where the texts of an accepted body of names or types stand, and what they are. Assumes nothing.
use mathlib.Core.Path.{◌≡◌, sym, ap, ◌∙◌}
use mathlib.Core.Bool.{Bool, true, ◌&&◌}
use mathlib.Core.List.{List, []}
use Prim.Native.Nat.{ℕ, zero, suc, ◌+◌, ◌-◌, ◌≤◌, ◌<◌}
use native.Mathlib.Nat.{add-zero}
use native.Mathlib.Omega.{arith}
use borrow.Author.Tests.{ltb-true, leb-true}
use lib.Dec.{leb, ltb}
use lib.ListN.{length, take, drop, get_or, length-drop}
use lib.Seq.{drop-drop}
use Rattle.layout.specs.Each.{Bytes}
use Rattle.layout.specs.Number.{num, number_at}
use Rattle.layout.specs.Format.{Format, number, counted, reads}
use Rattle.layout.proofs.NumberLaws.{number_at_one}
use Rattle.layout.proofs.StoreLaws.{each_drop}
use Rattle.files.specs.Bytes.{only, part}
use Rattle.files.specs.Items.{Items, read_from}
use Rattle.files.specs.Names.{printable, before, Last, last, name_at, name_items, names_in, type_at, type_items, types_in}
use Rattle.files.specs.Refusal.{names_of, types_of}
use Rattle.files.specs.Program.{texts_in}
use Rattle.index.specs.Places.{place_from, text_size}
use Rattle.index.specs.Texts.{text_count, Texts}
use Rattle.index.proofs.PlaceLaws.{place_suc, place_mono, place_strict}
use Rattle.std.proofs.lemmas.Bool.{and_parts}
use Rattle.files.proofs.BoolLaws.{only_there}
use Rattle.index.proofs.ItemLaws.{state_from, reached, ended, finishes}
use Rattle.index.proofs.BodyLaws.{whole_length, whole_at, reads_rest, reads_bytes}

-- ---- the format of a text

abbrev pub text_format : Format (List ℕ)
text_format = counted 1 (number 1)

pub text_some : (b : List ℕ) (i : ℕ) → 1 ≤ text_size b i
text_some b i = omega arith

pub text_moves : (b : List ℕ) (i : ℕ) → (text_format.read (drop i b)).1 ≡ drop (i + text_size b i) b
unfolding number_at
text_moves b i =
    let n = num (take 1 (drop i b)) in
    reads_rest n (drop 1 (drop i b)) ∙ drop-drop n 1 (drop i b) ∙ drop-drop (1 + n) i b ∙ ap (λ (k : ℕ). drop (i + k) b) (omega arith)

-- ---- a body that its texts fill

module _ (b : List ℕ) (all : Texts b) (k : ℕ) (h : k < text_count b) where
  -- each lies inside
  pub text_inside : place_from (text_size b) 0 k + text_size b (place_from (text_size b) 0 k) ≤ length b
  text_inside = omega (arith, place_mono (text_size b) 0 (suc k) (text_count b) h, place_suc (text_size b) 0 k, all.full)

  -- and is its bytes
  pub text_bytes : Bytes b → let i = place_from (text_size b) 0 k in get_or (texts_in b) k [] ≡ take (number_at b i 1) (drop (i + 1) b)
  unfolding number_at text_count
  text_bytes bytes =
      let i = place_from (text_size b) 0 k in
      let n = num (take 1 (drop i b)) in
      let e : drop 1 (drop i b) ≡ drop (i + 1) b = drop-drop 1 i b in
      let l : n ≤ length (drop (i + 1) b) = rw length-drop (omega (arith, text_inside)) in
      whole_at text_format b (text_size b) (text_moves b) (text_some b) (text_count b) k [] all.full h
      ∙ ap (λ (s : List ℕ). (reads (number 1) n s).0) e
      ∙ reads_bytes n (drop (i + 1) b) l (each_drop (i + 1) b bytes)

-- ---- a reading that accepts a body of texts

module _ {S : Type 0} (R : Items S) (s : S) (b : List ℕ)
    (sized : (t : S) (i : ℕ) → i < length b → (R.item t i ≡ 0 → ⊥) → R.item t i ≡ text_size b i)
    (fits : (t : S) (i : ℕ) → i < length b → (R.item t i ≡ 0 → ⊥) → i + text_size b i ≤ length b)
    (h : 1 ≤ read_from R (length b) s 0) where
  texts_end : (n : ℕ) × (place_from (text_size b) 0 n ≡ length b)
  unfolding read_from
  texts_end = finishes R (length b) (text_size b) sized (suc (length b)) s 0 fits (omega arith) h

  texts_item : (k : ℕ) → place_from (text_size b) 0 k < length b → R.item (state_from R (text_size b) s 0 k) (place_from (text_size b) 0 k) ≡ 0 → ⊥
  unfolding read_from
  texts_item k l = reached R (length b) (text_size b) sized (suc (length b)) k s 0 h l

  texts_number : (n : ℕ) → place_from (text_size b) 0 n ≡ length b → text_count b ≡ n
  unfolding text_count
  texts_number n e = whole_length text_format b (text_size b) (text_moves b) (text_some b) n e

  texts_few : ((k : ℕ) → place_from (text_size b) 0 k < length b → k < 512) → (n : ℕ) → place_from (text_size b) 0 n ≡ length b → n ≤ 512
  texts_few few zero e = omega arith
  texts_few few (suc n) e = few n (omega (arith, place_strict (text_size b) (text_some b) 0 n (suc n) (omega arith), e))

  accepted_texts : ((k : ℕ) → place_from (text_size b) 0 k < length b → k < 512) → length b < 65536 → Texts b
  accepted_texts few short =
      let n = texts_end in
      let e = texts_number n.0 n.1 in
      record { full = rw e n.1; few = rw e (texts_few few n.0 n.1); short = short }

  accepted_count : ((k : ℕ) → R.last (state_from R (text_size b) s 0 k) ≡ k + 1) → text_count b ≡ read_from R (length b) s 0 - 1
  unfolding read_from
  accepted_count counts =
      let n = texts_end in
      let e = ended R (length b) (text_size b) sized (suc (length b)) n.0 s 0 (text_some b) h n.1 ∙ counts n.0 in
      texts_number n.0 n.1 ∙ omega (arith, e)

-- ---- names

-- what the test of a name shows
pub record Named (b : List ℕ) (s : Last) (i : ℕ) : Type 0 where
  pub few : s.count < 512
  pub inside : i + 1 + get_or b i 0 ≤ length b
  pub short : get_or b i 0 ≤ 64
  pub after : before (part s.from s.to b) (part (i + 1) (i + 1 + get_or b i 0) b) ≡ true
  pub sized : name_at b s i ≡ text_size b i

pub named : (b : List ℕ) (s : Last) (i : ℕ) → i < length b → (name_at b s i ≡ 0 → ⊥) → Named b s i
unfolding name_at
named b s i h n =
    let k = get_or b i 0 in
    let t₁ = ltb s.count 512 in
    let t₂ = leb 1 k in
    let t₃ = leb k 64 in
    let t₄ = leb k (length b - (i + 1)) in
    let t₅ = printable 0x21 0x7e (part (i + 1) (i + 1 + k) b) in
    let t₆ = before (part s.from s.to b) (part (i + 1) (i + 1 + k) b) in
    let a : (t₁ && t₂ && t₃ && t₄ && t₅ && t₆) ≡ true = (only_there (t₁ && t₂ && t₃ && t₄ && t₅ && t₆) (k + 1) n).0 in
    let a₄ = (and_parts (t₁ && t₂ && t₃ && t₄) t₅ (and_parts (t₁ && t₂ && t₃ && t₄ && t₅) t₆ a).0).0 in
    let a₃ = (and_parts (t₁ && t₂ && t₃) t₄ a₄).0 in
    let l₃ : k ≤ 64 = leb-true k 64 (and_parts (t₁ && t₂) t₃ a₃).1 in
    record {
      few = ltb-true s.count 512 (and_parts t₁ t₂ (and_parts (t₁ && t₂) t₃ a₃).0).0;
      inside = omega (arith, leb-true k (length b - (i + 1)) (and_parts (t₁ && t₂ && t₃) t₄ a₄).1, h);
      short = l₃;
      after = (and_parts (t₁ && t₂ && t₃ && t₄ && t₅) t₆ a).1;
      sized = ap (λ (t : Bool). only t (k + 1)) a ∙ ap (λ (m : ℕ). m + 1) (sym (number_at_one b i h (omega (arith, l₃))));
    }

name_sized : (b : List ℕ) (s : Last) (i : ℕ) → i < length b → (name_at b s i ≡ 0 → ⊥) → name_at b s i ≡ text_size b i
name_sized b s i h n = (named b s i h n).sized

text_fits : (b : List ℕ) (i : ℕ) → i < length b → get_or b i 0 ≤ 64 → i + 1 + get_or b i 0 ≤ length b → i + text_size b i ≤ length b
text_fits b i h l g = omega (arith, number_at_one b i h (omega (arith, l)), g)

name_fits : (b : List ℕ) (s : Last) (i : ℕ) → i < length b → (name_at b s i ≡ 0 → ⊥) → i + text_size b i ≤ length b
name_fits b s i h n = let f = named b s i h n in text_fits b i h f.short f.inside

-- names before this one
name_count : (b : List ℕ) (s : Last) (i k : ℕ) → (state_from (name_items b) (text_size b) s i k).count ≡ s.count + k
name_count b s i zero = sym (add-zero s.count)
name_count b s i (suc k) = name_count b (last (s.count + 1) (i + 1) (i + text_size b i)) (i + text_size b i) k ∙ omega arith

module _ (b : List ℕ) (h : 1 ≤ names_in b) where
  -- name k, with the state that its test was given
  pub name_at_lem : (k : ℕ) → place_from (text_size b) 0 k < length b → Named b (state_from (name_items b) (text_size b) (last 0 0 0) 0 k) (place_from (text_size b) 0 k)
  unfolding names_in
  name_at_lem k l =
      named b (state_from (name_items b) (text_size b) (last 0 0 0) 0 k) (place_from (text_size b) 0 k) l
      (texts_item (name_items b) (last 0 0 0) b (name_sized b) (name_fits b) h k l)

  -- an accepted body of names is its texts
  pub names_texts : length b < 65536 → Texts b
  unfolding names_in
  names_texts =
      accepted_texts (name_items b) (last 0 0 0) b (name_sized b) (name_fits b) h
      (λ k l. omega (arith, (name_at_lem k l).few, name_count b (last 0 0 0) 0 k))

  -- as many as the check counts
  pub names_count : text_count b ≡ names_of b
  unfolding names_in
  names_count =
      accepted_count (name_items b) (last 0 0 0) b (name_sized b) (name_fits b) h
      (λ k. omega (arith, name_count b (last 0 0 0) 0 k))

-- ---- types

module _ (b : List ℕ) (n i : ℕ) (h : i < length b) (some : type_at b n i ≡ 0 → ⊥) where
  typed : (n < 512) × (get_or b i 0 ≤ 64) × (i + 1 + get_or b i 0 ≤ length b) × (type_at b n i ≡ get_or b i 0 + 1)
  unfolding type_at
  typed =
      let k = get_or b i 0 in
      let t₁ = ltb n 512 in
      let t₂ = leb k 64 in
      let t₃ = leb k (length b - (i + 1)) in
      let t₄ = printable 0x20 0x7e (part (i + 1) (i + 1 + k) b) in
      let a : (t₁ && t₂ && t₃ && t₄) ≡ true = (only_there (t₁ && t₂ && t₃ && t₄) (k + 1) some).0 in
      let a₃ = (and_parts (t₁ && t₂ && t₃) t₄ a).0 in
      let a₂ = (and_parts (t₁ && t₂) t₃ a₃).0 in
      (ltb-true n 512 (and_parts t₁ t₂ a₂).0, leb-true k 64 (and_parts t₁ t₂ a₂).1, omega (arith, leb-true k (length b - (i + 1)) (and_parts (t₁ && t₂) t₃ a₃).1, h), ap (λ (t : Bool). only t (k + 1)) a)

  type_sized : type_at b n i ≡ text_size b i
  type_sized = omega (arith, typed.3, number_at_one b i h (omega (arith, typed.1)))

  type_fits : i + text_size b i ≤ length b
  type_fits = text_fits b i h typed.1 typed.2

type_count : (b : List ℕ) (n i k : ℕ) → state_from (type_items b) (text_size b) n i k ≡ n + k
type_count b n i zero = sym (add-zero n)
type_count b n i (suc k) = type_count b (n + 1) (i + text_size b i) k ∙ omega arith

module _ (b : List ℕ) (h : 1 ≤ types_in b) where
  types_few : (k : ℕ) → place_from (text_size b) 0 k < length b → k < 512
  unfolding types_in
  types_few k l =
      let n = state_from (type_items b) (text_size b) 0 0 k in
      omega (arith, (typed b n (place_from (text_size b) 0 k) l (texts_item (type_items b) 0 b (type_sized b) (type_fits b) h k l)).0, type_count b 0 0 k)

  pub types_texts : length b < 65536 → Texts b
  unfolding types_in
  types_texts = accepted_texts (type_items b) 0 b (type_sized b) (type_fits b) h types_few

  pub types_count : text_count b ≡ types_of b
  unfolding types_in
  types_count = accepted_count (type_items b) 0 b (type_sized b) (type_fits b) h (λ k. omega (arith, type_count b 0 0 k))
