-- The number of the name that has a text: names ascend, so no two have the same. Assumes nothing.
use mathlib.Core.Path.{◌≡◌, refl, sym, ap, ap₂, subst, ◌∙◌}
use mathlib.Core.Bool.{Bool, true, false, ◌&&◌, true≢false}
use mathlib.Core.List.{List, [], ◌∷◌}
use Rattle.std.specs.Prelude.{Option, None, Some, MatchOption}
use Rattle.std.specs.List.{AllWithin, HoldsAt}
use Prim.Native.Nat.{ℕ, ◌≤◌, ◌<◌}
use native.Mathlib.Omega.{arith}
use borrow.Author.Tests.{eq-eqb, ne_eqb, eqb-true}
use mir.Syntax.{w8}
use mir.Val.{Fits}
use lib.Dec.{eqb}
use lib.ListN.{length, get_or, get_or-eq_default}
use Rattle.layout.specs.Text.{same}
use Rattle.layout.proofs.StoreLaws.{each_byte}
use Rattle.files.specs.Names.{names_in}
use Rattle.files.specs.Program.{texts_in}
use Rattle.memory.proofs.OverlayLaws.{below, equal, above, compared}
use Rattle.index.specs.Texts.{text_count}
use Rattle.index.proofs.NameOrder.{before_differs}
use Rattle.index.proofs.AscendingNames.{names_ascend}
use Rattle.setup.specs.Post.{Finds}

same_is : (a b : List ℕ) → same a b ≡ true → a ≡ b
same_is [] [] h = refl
same_is [] (y ∷ ys) h = absurd (true≢false (sym h))
same_is (x ∷ xs) [] h = absurd (true≢false (sym h))
same_is (x ∷ xs) (y ∷ ys) h = go (eqb x y) refl h (same_is xs ys)
  where
    go : (t : Bool) → eqb x y ≡ t → (t && same xs ys) ≡ true → (same xs ys ≡ true → xs ≡ ys) → (x ∷ xs) ≡ (y ∷ ys)
    go true e g f = ap₂ ◌∷◌ (eqb-true x y e) (f g)
    go false e g f = absurd (true≢false (sym g))

empty_differs : (a b : List ℕ) → a ≡ [] → 1 ≤ length b → same a b ≡ false
empty_differs a [] e h = absurd (omega arith)
empty_differs a (y ∷ ys) e h = ap (λ (l : List ℕ). same l (y ∷ ys)) e

either_way : {P : Type 0} (a b : ℕ) → (a ≤ b → P) → (b < a → P) → P
either_way a b f g = elim (compared a b) [ below l o ↦ f (omega arith) | equal l o ↦ f (omega arith) | above l o ↦ g l ]

-- the text of a name is the one that is looked for, or not
abbrev pub Hits : List ℕ → List ℕ → Type 0
Hits wanted t = same t wanted ≡ true

abbrev pub Misses : List ℕ → List ℕ → Type 0
Misses wanted t = same t wanted ≡ false

-- past the last text there is none
pub no_text : (b : List ℕ) (k : ℕ) → text_count b ≤ k → get_or (texts_in b) k [] ≡ []
unfolding text_count
no_text b k h = get_or-eq_default (texts_in b) [] h

past : (names wanted : List ℕ) (k : ℕ) → 1 ≤ length wanted → text_count names ≤ k → Misses wanted (get_or (texts_in names) k [])
past names wanted k some m = empty_differs _ wanted (no_text names k m) some

module _ {names wanted : List ℕ} (good : 1 ≤ names_in names) (short : length names < 65536) (bytes : (i : ℕ) → Fits w8 (get_or names i 0)) (some : 1 ≤ length wanted) where
  -- the first name that has the text is the only one
  pub found_name : (r : Option ℕ)
      → MatchOption r (AllWithin (Misses wanted) (texts_in names) 0 (text_count names)) (λ x. (x < text_count names) × HoldsAt (Hits wanted) (texts_in names) x × AllWithin (Misses wanted) (texts_in names) 0 x)
      → Finds names wanted r
  found_name None h = record { is = λ k l. either_way (text_count names) k (λ m. past names wanted k some m) (λ m. h k [] (omega arith) m) }
  found_name (Some x) h = record {
    is = λ k l. elim (compared k x) [
      | below g o ↦ h.2 k [] (omega arith) g ∙ sym (ne_eqb k x (λ q. omega arith))
      | equal g o ↦ ap (λ (i : ℕ). same (get_or (texts_in names) i []) wanted) g ∙ h.1 [] ∙ sym (eq-eqb k x g)
      | above g o ↦ after k g ∙ sym (ne_eqb k x (λ q. omega arith))
    ];
  }
    where
      is_wanted : get_or (texts_in names) x [] ≡ wanted
      is_wanted = same_is _ _ (h.1 [])

      after : (k : ℕ) → x < k → Misses wanted (get_or (texts_in names) k [])
      after k g =
          either_way (text_count names) k
          (λ m. past names wanted k some m)
          (λ m. subst (λ (w : List ℕ). same (get_or (texts_in names) k []) w ≡ false) is_wanted
          (before_differs _ _ (names_ascend names good short (each_byte names (λ i. (bytes i).fits)) x k g m)).1)
