-- The variables that are set, by their slots: found, set, in order, and one slot after the other. Assumes nothing.
use mathlib.Core.Path.{◌≡◌, refl, sym, ap, ap₂, ◌∙◌}
use mathlib.Core.List.{[], ◌∷◌, ◌++◌}
use Rattle.std.specs.Prelude.{Option, None, Some}
use Prim.Native.Nat.{ℕ, zero, suc, ◌+◌, ◌≤◌, ◌<◌}
use native.Mathlib.Nat.{add-suc, suc-add, add-zero}
use native.Mathlib.Omega.{arith}
use Rattle.layout.specs.Each.{Each}
use Rattle.memory.specs.Overlay.{Overlay, find, store}
use Rattle.memory.proofs.OverlayLaws.{below, equal, above, compared, less, same, more, first}
use Rattle.workspace.specs.Variables.{those, entry_if}

module _ {A : Type 0} where
  -- all names of those from x on are at least x
  those_above : (slot : ℕ → Option A) (y x n : ℕ) → y < x → Each (λ q. y < q.0) (those slot x n)
  unfolding those
  those_above slot y x zero h = tt
  those_above slot y x (suc n) h = go (slot x) (those_above slot y (suc x) n (omega arith))
    where
      go : (o : Option A) → Each (λ q. y < q.0) (those slot (suc x) n) → Each (λ q. y < q.0) (entry_if x o (those slot (suc x) n))
      go None all = all
      go (Some a) all = (h, all)

  -- ---- found

  find_less : (y : ℕ) (m : Overlay A) → Each (λ q. y < q.0) m → find y m ≡ None
  unfolding find
  find_less y [] h = refl
  find_less y (p ∷ m) h = elim (first y p m) [ less k r f s ↦ f | same k r f s ↦ absurd (omega arith) | more k r f s ↦ absurd (omega arith) ]

  pub those_find : (slot : ℕ → Option A) (y x n : ℕ) → x ≤ y → y < x + n → find y (those slot x n) ≡ slot y
  unfolding those
  those_find slot y x zero h l = absurd (omega arith)
  those_find slot y x (suc n) h l = go (slot x) refl (λ k. those_find slot y (suc x) n k (omega arith))
    where
      go : (o : Option A) → slot x ≡ o → (x < y → find y (those slot (suc x) n) ≡ slot y) → find y (entry_if x o (those slot (suc x) n)) ≡ slot y
      go None e later =
          elim (compared y x) [
            | below k z ↦ absurd (omega arith)
            | equal k z ↦ find_less y (those slot (suc x) n) (those_above slot y (suc x) n (omega arith)) ∙ sym e ∙ ap slot (sym k)
            | above k z ↦ later k
          ]
      go (Some a) e later =
          elim (first y (x, a) (those slot (suc x) n)) [ less k r f s ↦ absurd (omega arith) | same k r f s ↦ f ∙ sym e ∙ ap slot (sym k) | more k r f s ↦ f ∙ later k ]

  -- ---- set

  store_less : (y : ℕ) (b : A) (m : Overlay A) → Each (λ q. y < q.0) m → store y b m ≡ (y, b) ∷ m
  unfolding store
  store_less y b [] h = refl
  store_less y b (p ∷ m) h = elim (first y p m) [ less k r f s ↦ s b | same k r f s ↦ absurd (omega arith) | more k r f s ↦ absurd (omega arith) ]

  module _ (slot slot' : ℕ → Option A) (y : ℕ) (b : A) (here : slot' y ≡ Some b) (others : (z : ℕ) → (z ≡ y → ⊥) → slot' z ≡ slot z) where
    those_after : (x n : ℕ) → y < x → those slot' x n ≡ those slot x n
    unfolding those
    those_after x zero h = refl
    those_after x (suc n) h = ap₂ (entry_if x) (others x (λ e. omega arith)) (those_after (suc x) n (omega arith))

    pub those_store : (x n : ℕ) → x ≤ y → y < x + n → those slot' x n ≡ store y b (those slot x n)
    unfolding those
    those_store x zero h l = absurd (omega arith)
    those_store x (suc n) h l =
        elim (compared y x) [
          | below k z ↦ absurd (omega arith)
          | equal k z ↦ ap₂ (entry_if x) (ap slot' (sym k) ∙ here) (those_after (suc x) n (omega arith)) ∙ ap (λ (i : ℕ). (i, b) ∷ those slot (suc x) n) (sym k) ∙ at k (slot x)
          | above k z ↦ ap₂ (entry_if x) (others x (λ e. omega arith)) (those_store (suc x) n (omega arith) (omega arith)) ∙ past k (slot x)
        ]
      where
        at : y ≡ x → (o : Option A) → (y, b) ∷ those slot (suc x) n ≡ store y b (entry_if x o (those slot (suc x) n))
        at k None = sym (store_less y b (those slot (suc x) n) (those_above slot y (suc x) n (omega arith)))
        at k (Some a) = elim (first y (x, a) (those slot (suc x) n)) [ less q r f s ↦ absurd (omega arith) | same q r f s ↦ sym (s b) | more q r f s ↦ absurd (omega arith) ]

        past : x < y → (o : Option A) → entry_if x o (store y b (those slot (suc x) n)) ≡ store y b (entry_if x o (those slot (suc x) n))
        past k None = refl
        past k (Some a) = elim (first y (x, a) (those slot (suc x) n)) [ less q r f s ↦ absurd (omega arith) | same q r f s ↦ absurd (omega arith) | more q r f s ↦ sym (s b) ]

  -- ---- all unset, or one more

  pub those_none : (slot : ℕ → Option A) (x n : ℕ) → ((z : ℕ) → slot z ≡ None) → those slot x n ≡ []
  unfolding those
  those_none slot x zero e = refl
  those_none slot x (suc n) e = ap₂ (entry_if x) (e x) (those_none slot (suc x) n e)

  pub those_more : (slot : ℕ → Option A) (x n : ℕ) → those slot x (suc n) ≡ those slot x n ++ entry_if (x + n) (slot (x + n)) []
  unfolding those
  those_more slot x zero = rw add-zero
  those_more slot x (suc n) =
      ap (entry_if x (slot x)) (those_more slot (suc x) n)
      ∙ go (slot x) (those slot (suc x) n) (entry_if (suc x + n) (slot (suc x + n)) [])
      ∙ ap (λ (z : ℕ). entry_if x (slot x) (those slot (suc x) n) ++ entry_if z (slot z) []) (suc-add x n ∙ sym (add-suc x n))
    where
      go : (o : Option A) (l m : Overlay A) → entry_if x o (l ++ m) ≡ entry_if x o l ++ m
      go None l m = refl
      go (Some a) l m = refl
