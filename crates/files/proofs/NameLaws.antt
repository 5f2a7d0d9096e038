-- What the tests of a text, of a name and of a type show. Assumes nothing.
use mathlib.Core.Path.{◌≡◌, refl, sym, ◌∙◌}
use mathlib.Core.Bool.{Bool, true, false, not, ◌&&◌, ◌||◌, and-true}
use mathlib.Core.List.{List, []}
use Prim.Native.Nat.{ℕ, suc, ◌+◌, ◌-◌, ◌≤◌, ◌<◌}
use native.Mathlib.Numerals.{add-one}
use native.Mathlib.Omega.{arith}
use borrow.Author.Tests.{le-leb, lt-ltb, le-ltb, ltb-true, ltb-false, eq-eqb, ne_eqb}
use lib.Dec.{ltb, leb}
use lib.ListN.{length, get_or, drop, drop_of_length-le, length-take, length-drop}
use lib.Seq.{drop-cons}
use Rattle.std.specs.Prelude.{None, Some}
use Rattle.files.specs.Bytes.{part, one_less}
use Rattle.files.specs.Names.{printable, before, last, name_at, name_items, names_in, type_at, type_items, types_in, text_at, text_items, counted}
use Rattle.files.specs.Refusal.{names_of, types_of}
use Rattle.files.specs.declared.names.Texts.{Texts}
use Rattle.files.specs.declared.names.TheConstants.Texts.{NAMES, TYPES}
use Rattle.files.proofs.ItemLaws.{same_read, one_less_none, one_less_some}

-- at a place of a loop over the bytes: the answer b is that of those before and of what is left of the text
module _ (lo hi : ℕ) (s : List ℕ) (i : ℕ) (b ok : Bool) (e : b ≡ (ok && printable lo hi (drop i s))) where
  pub printable_end : length s ≤ i → ok ≡ b
  unfolding printable
  printable_end h = sym (e ∙ rw (drop_of_length-le s h, and-true ok))

  pub printable_on : i < length s → b ≡ (ok && leb lo (get_or s i 0) && leb (get_or s i 0) hi && printable lo hi (drop (i + 1) s))
  unfolding printable
  printable_on h = e ∙ rw (add-one, drop-cons s i 0 h) (go ok _ _ _)
    where
      go : (z x y r : Bool) → (z && (x && y && r)) ≡ (z && x && y && r)
      go true x y r = refl
      go false x y r = refl

-- at a place of a loop over two texts: the answer b is what is left of both
module _ (s t : List ℕ) (i : ℕ) (b : Bool) (e : b ≡ before (drop i s) (drop i t)) where
  pub before_end : i ≡ length s → ltb (length s) (length t) ≡ b
  unfolding before
  before_end h = let l : length s ≤ i = omega (arith, h) in rw (sym h) (sym (e ∙ rw (drop_of_length-le s l) (go (ltb i (length t)) refl)))
    where
      go : (b : Bool) → ltb i (length t) ≡ b → before [] (drop i t) ≡ b
      go true e = rw (drop-cons t i 0 (ltb-true _ _ e))
      go false e = rw (drop_of_length-le t (ltb-false _ _ e))

  pub before_longer : i < length s → length t ≤ i → false ≡ b
  unfolding before
  before_longer h l = sym (e ∙ rw (drop-cons s i 0 h, drop_of_length-le t l))

  pub before_less : i < length s → i < length t → get_or s i 0 < get_or t i 0 → true ≡ b
  unfolding before
  before_less h g l = sym (e ∙ rw (drop-cons s i 0 h, drop-cons t i 0 g, lt-ltb _ _ l))

  pub before_more : i < length s → i < length t → get_or t i 0 < get_or s i 0 → false ≡ b
  unfolding before
  before_more h g l =
      sym (e ∙ rw (drop-cons s i 0 h, drop-cons t i 0 g, le-ltb (get_or s i 0) (get_or t i 0) (omega arith), ne_eqb (get_or s i 0) (get_or t i 0) (λ e. omega arith)))

  pub before_on : i < length s → i < length t → get_or t i 0 ≤ get_or s i 0 → get_or s i 0 ≤ get_or t i 0 → b ≡ before (drop (i + 1) s) (drop (i + 1) t)
  unfolding before
  before_on h g l u =
      e ∙ rw (add-one, drop-cons s i 0 h, drop-cons t i 0 g, le-ltb (get_or s i 0) (get_or t i 0) l, eq-eqb (get_or s i 0) (get_or t i 0) (omega arith))

-- ---- a text

pub length_part : (b : List ℕ) (i k : ℕ) → k ≤ length b - i → length (part i (i + k) b) ≡ k
length_part b i k h = omega (arith, length-take (i + k - i) (drop i b), length-drop i b)

pub text_good : (t : Texts) (b : List ℕ) (n : ℕ) (prior : List ℕ) (i k : ℕ) → k ≡ get_or b i 0 → n < 512 → t.shortest ≤ k → k ≤ 64 → k ≤ length b - (i + 1)
    → printable t.lowest 0x7e (part (i + 1) (i + 1 + k) b) ≡ true → (t.ascend ≡ true → before prior (part (i + 1) (i + 1 + k) b) ≡ true) → text_at t b n prior i ≡ k + 1
unfolding text_at
text_good t b n prior i k e h₁ h₂ h₃ h₄ h₅ h₆ =
    simp (← e, lt-ltb _ _ h₁, le-leb _ _ h₂, le-leb _ _ h₃, le-leb _ _ h₄, h₅, ordered t.ascend _ h₆)
  where
    ordered : (a p : Bool) → (a ≡ true → p ≡ true) → (not a || p) ≡ true
    ordered true p h = h refl
    ordered false p h = refl

-- ---- names and types are such texts

pub counted_names : (b : List ℕ) → counted NAMES b ≡ names_in b
unfolding counted names_in text_at name_at
counted_names b = same_read (text_items NAMES b) (name_items b) (λ s. s) (λ s i. refl) (λ s i k. refl) (λ s. refl) (length b) (last 0 0 0)

pub counted_types : (b : List ℕ) → counted TYPES b ≡ types_in b
unfolding counted types_in text_at type_at
counted_types b = same_read (text_items TYPES b) (type_items b) (λ s. s.count) (λ s i. simp (le-leb 0 (get_or b i 0) (omega arith), and-true)) (λ s i k. refl) (λ s. refl) (length b) (last 0 0 0)

more_than : (n t : ℕ) → t ≡ suc n → (leb 1 t ≡ true) × (t - 1 ≡ n)
more_than n t e = (le-leb 1 t (omega arith), omega arith)

pub no_names : (b : List ℕ) → None ≡ one_less (counted NAMES b) → names_in b ≡ 0
no_names b e = sym (counted_names b) ∙ one_less_none _ e

pub some_names : (b : List ℕ) (n : ℕ) → Some n ≡ one_less (counted NAMES b) → (leb 1 (names_in b) ≡ true) × (names_of b ≡ n)
some_names b n e = more_than n (names_in b) (sym (counted_names b) ∙ one_less_some n _ e)

pub no_types : (b : List ℕ) → None ≡ one_less (counted TYPES b) → types_in b ≡ 0
no_types b e = sym (counted_types b) ∙ one_less_none _ e

pub some_types : (b : List ℕ) (n : ℕ) → Some n ≡ one_less (counted TYPES b) → (leb 1 (types_in b) ≡ true) × (types_of b ≡ n)
some_types b n e = more_than n (types_in b) (sym (counted_types b) ∙ one_less_some n _ e)
