-- Kinds and their numbers. Assumes nothing.
use mathlib.Core.Path.{◌≡◌, refl, sym, ap, ◌∙◌}
use mathlib.Core.Bool.{Bool, true, false}
use Prim.Native.Nat.{ℕ, zero, suc, ◌≤◌, ◌<◌}
use native.Mathlib.Omega.{arith}
use lib.Dec.{eqb, ltb}
use mathlib.Core.Logic.{◌⊎◌, inl, inr}
use lib.ListN.{length, get_or, get_or-eq_default}
use borrow.Author.Tests.{ltb-true, ltb-false, eqb-true, ne_eqb, eqb-false}
use Rattle.std.specs.Prelude.{Option, None, Some, Ok, Err, ok_or, slice_get, unwrap_or}
use Rattle.std.specs.Result.{result_unwrap_or}
use Rattle.std.proofs.lemmas.Option.{slice_get_cases, slice_get_within, get_or_from_slice_get, unwrap_or-slice_get}
use Rattle.layout.proofs.ArmLaws.{NoneBelow}
use Rattle.files.specs.Items.{every}
use Rattle.files.specs.Nodes.{rules, no_rule, rule_of, ref_below, placed_ok, count_ok}
use Rattle.files.specs.Program.{kinds, kind_numbered, number_of}
use Rattle.files.specs.Rules.{refers_number, refers_numbered, parent_of}
use Rattle.files.specs.declared.kinds.Kind.{Kind}
use Rattle.files.specs.declared.kinds.Kind.TheVariants.{Plain}
use Rattle.files.proofs.ItemLaws.{every_at}

pub numbered : (k : ℕ) → k < 20 → number_of (kind_numbered k) ≡ k
unfolding every
numbered k h = eqb-true _ _ (every_at (λ j. eqb (number_of (kind_numbered j)) j) 20 k refl h)

pub past_kinds : (k : ℕ) → 20 ≤ k → kind_numbered k ≡ Plain
past_kinds k h = get_or-eq_default kinds Plain {n = k} h

-- a kind that a node is found to have, but for a plain statement, which numbers past the last are taken for
pub is_kind : (k : ℕ) (κ : Kind) → kind_numbered k ≡ κ → (κ ≡ Plain → ⊥) → k ≡ number_of κ
is_kind k κ e n = go (ltb k 20) refl
  where
    go : (t : Bool) → ltb k 20 ≡ t → k ≡ number_of κ
    go true p = sym (numbered k (ltb-true k 20 p)) ∙ ap number_of e
    go false p = absurd (n (sym e ∙ past_kinds k (ltb-false k 20 p)))

module _ (k : ℕ) where
  pub same_test : (j : ℕ) → j < 19 → eqb (number_of (kind_numbered k)) j ≡ eqb k j
  same_test j h = go (ltb k 20) refl
    where
      go : (t : Bool) → ltb k 20 ≡ t → eqb (number_of (kind_numbered k)) j ≡ eqb k j
      go true p = rw (numbered k (ltb-true k 20 p))
      go false p = let l = ltb-false k 20 p in
          rw (past_kinds k l, ne_eqb 19 j (λ z. omega arith), ne_eqb k j (λ z. omega arith))

  pub same_rule : rule_of (number_of (kind_numbered k)) ≡ rule_of k
  unfolding rule_of
  same_rule = go (ltb k 20) refl
    where
      go : (t : Bool) → ltb k 20 ≡ t → rule_of (number_of (kind_numbered k)) ≡ rule_of k
      go true p = rw (numbered k (ltb-true k 20 p))
      go false p = let l = ltb-false k 20 p in rw (past_kinds k l) (sym (get_or-eq_default rules no_rule {n = k} l))

  pub same_placed : (parent : ℕ) → placed_ok (number_of (kind_numbered k)) parent ≡ placed_ok k parent
  same_placed parent = rw (same_test 18 (omega arith))

  pub same_count : (c : ℕ) → count_ok (number_of (kind_numbered k)) c ≡ count_ok k c
  same_count c = rw same_rule

-- ---- a number that is a kind's, and one that is none's

-- what is tried from a number is a kind, or an error
pub kind_there : {E : Type 0} (k : ℕ) (κ : Kind) (e : E) → Ok κ ≡ ok_or (slice_get kinds k) e → (k < 20) × (number_of κ ≡ k)
kind_there k κ e h = go (slice_get kinds k) refl h
  where
    go : (o : Option Kind) → slice_get kinds k ≡ o → Ok κ ≡ ok_or o e → (k < 20) × (number_of κ ≡ k)
    go None p q = absurd (cc)
    go (Some j) p q =
        let l : k < 20 = slice_get_within kinds k j p in
        let same : κ ≡ j = cc in
        (l, ap number_of (same ∙ sym (get_or_from_slice_get kinds k j Plain p)) ∙ numbered k l)

-- a number of which no kind is got is past them
pub kind_missing : {E : Type 0} (k : ℕ) (e x : E) → Err x ≡ ok_or (slice_get kinds k) e → 20 ≤ k
kind_missing k e x h = go (slice_get_cases kinds k).1
  where
    go : ((κ : Kind) × (k < length kinds) × (slice_get kinds k ≡ Some κ) × (get_or kinds k κ ≡ κ)) ⊎ ((length kinds ≤ k) × (slice_get kinds k ≡ None)) → 20 ≤ k
    go (inl i) = let s : Err x ≡ Ok i.0 = rw i.2 at h in absurd (cc)
    go (inr i) = i.0

pub kind_or_plain : {E : Type 0} (k : ℕ) (e : E) → result_unwrap_or (ok_or (slice_get kinds k) e) Plain ≡ kind_numbered k
kind_or_plain k e = go (slice_get kinds k) ∙ unwrap_or-slice_get kinds k Plain
  where
    go : (o : Option Kind) → result_unwrap_or (ok_or o e) Plain ≡ unwrap_or o Plain
    go None = refl
    go (Some j) = refl

-- ---- what a reference is

pub same_bound : (r names types : ℕ) → ref_below (refers_number (refers_numbered r)) names types ≡ ref_below r names types
same_bound zero names types = refl
same_bound (suc zero) names types = refl
same_bound (suc (suc zero)) names types = refl
same_bound (suc (suc (suc k))) names types = rw (ne_eqb (suc (suc (suc k))) 0 (λ z. omega arith), ne_eqb (suc (suc (suc k))) 1 (λ z. omega arith), ne_eqb (suc (suc (suc k))) 2 (λ z. omega arith))

-- ---- what a test of a node's kind says of its number

module _ {κ : Kind} (k : ℕ) (e : κ ≡ kind_numbered k) (t : Bool) where
  pub placed_as : (parent : ℕ) → t ≡ placed_ok (number_of κ) parent → t ≡ placed_ok k parent
  placed_as parent h = h ∙ ap (λ (j : Kind). placed_ok (number_of j) parent) e ∙ same_placed k parent

  pub counted_as : (c : ℕ) → t ≡ count_ok (number_of κ) c → t ≡ count_ok k c
  counted_as c h = h ∙ ap (λ (j : Kind). count_ok (number_of j) c) e ∙ same_count k c

  pub parent_as : t ≡ eqb (number_of κ) 17 → eqb (parent_of t) 17 ≡ eqb k 17
  parent_as h = go t ∙ h ∙ ap (λ (j : Kind). eqb (number_of j) 17) e ∙ same_test k 17 (omega arith)
    where
      go : (u : Bool) → eqb (parent_of u) 17 ≡ u
      go true = refl
      go false = refl

-- ---- what a caller's tests of a node show

-- it is of a kind
pub of_kind : {k j : ℕ} {t : Bool} → t ≡ eqb k j → t ≡ true → k ≡ j
of_kind {k} {j} e h = eqb-true k j (sym e ∙ h)

-- it is of no such kind
pub no_such : {k j : ℕ} {t : Bool} → t ≡ eqb k j → t ≡ false → k ≡ j → ⊥
no_such {k} {j} e h = eqb-false k j (sym e ∙ h)

-- it was found among the kinds: the number that it has
pub found : {k : ℕ} (κ : Kind) → number_of κ < 19 → κ ≡ kind_numbered k → k ≡ number_of κ
found {k} κ h e = is_kind k κ (sym e) (λ p. omega (arith, ap number_of p))

-- a plain statement is past the others
pub plain_past : {k : ℕ} → Plain ≡ kind_numbered k → 19 ≤ k
plain_past {k} e = go (ltb k 20) refl
  where
    go : (t : Bool) → ltb k 20 ≡ t → 19 ≤ k
    go true p = let n : 19 ≡ k = ap number_of e ∙ numbered k (ltb-true k 20 p) in omega arith
    go false p = let l = ltb-false k 20 p in omega (arith, l)

-- a number that is not below another is none of those below it
pub none_above : (n k : ℕ) → n ≤ k → NoneBelow n k
none_above zero k h = tt
none_above (suc n) k h = (none_above n k (omega arith), λ e. omega (arith, e))
