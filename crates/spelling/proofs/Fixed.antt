-- A word of a fixed width by its name, with or without `u` before it, or any other word. Assumes nothing.
use Rattle.std.proofs.Common.{◌≡◌, ◌≢◌, refl, sym, ap, ◌∙◌, ℕ, ◌+◌, Bool, true, false, cond, not, ◌&&◌, ◌||◌, List, [], ◌∷◌, length, take, drop, eqb, ne_eqb}
use Prim.Native.String.{String}
use denote.Ref.{Bor}
use Rattle.std.specs.Prelude.{Option, None, Some, is_some, unwrap_or, MatchOption}
use Rattle.std.specs.Cmp.Lexicographic.{pointwise}
use Rattle.std.proofs.lemmas.Bool.Decides.{Decides-eqb}
use Rattle.std.proofs.lemmas.Slice.Eq.{bytes_eq-Decides, strip_prefix_is}
use Rattle.layout.specs.Text.{text, same}
use Rattle.layout.proofs.TextLaws.{slices_same}
use Rattle.value.specs.declared.Ty.{Ty}
use Rattle.value.specs.Value.{type}
use Rattle.spelling.specs.Spelling.{is, fixed_bits, signed_word, unsigned_word}

-- a word that is the one of a text
told : (w : List ℕ) (word : String) → same w (text word) ≡ true → w ≡ text word
told w word h = (bytes_eq-Decides w (text word)).0 (slices_same w (text word) ∙ h)

pub flipped : (t s : Bool) → t ≡ not s → s ≡ not t
flipped true true e = e
flipped true false e = refl
flipped false true e = refl
flipped false false e = e

module _ (u : Bool) where
  abbrev pub fixed_type : (signed : Bool) → Option ℕ → Ty
  fixed_type s (Some bits) = type bits s
  fixed_type s None = type 64 (not u)

  pub size : (w : List ℕ) → same w (text "size_t") ≡ true → type 64 false ≡ unsigned_word u w
  unfolding unsigned_word is
  size w h = sym (ap (unsigned_word u) (told w "size_t" h))

  pub signed_size : (w : List ℕ) → same w (text "ssize_t") ≡ true → type 64 true ≡ unsigned_word u w
  unfolding unsigned_word signed_word is
  signed_size w h = sym (ap (unsigned_word u) (told w "ssize_t" h))

  unsigned_tests : (a b c d e : Bool)
      → cond a (type 8 false) (cond b (type 16 false) (cond c (type 32 false) (cond (d || e) (type 64 false) (type 64 (not u)))))
      ≡ fixed_type false (cond a (Some 8) (cond b (Some 16) (cond c (Some 32) (cond (e || d) (Some 64) None))))
  unsigned_tests true b c d e = refl
  unsigned_tests false true c d e = refl
  unsigned_tests false false true d e = refl
  unsigned_tests false false false true true = refl
  unsigned_tests false false false true false = refl
  unsigned_tests false false false false true = refl
  unsigned_tests false false false false false = refl

  behind_u : (name : List ℕ) → unsigned_word u (117 ∷ name) ≡ fixed_type false (fixed_bits name)
  unfolding unsigned_word signed_word is
  behind_u name = unsigned_tests (same name (text "int8_t")) (same name (text "int16_t")) (same name (text "int32_t")) (same name (text "intptr_t")) (same name (text "int64_t"))

  other_tests : (a b c d e : Bool)
      → cond a (type 8 true) (cond b (type 16 true) (cond c (type 32 true) (cond (d || e || false) (type 64 true) (type 64 (not u)))))
      ≡ fixed_type true (cond a (Some 8) (cond b (Some 16) (cond c (Some 32) (cond (d || e) (Some 64) None))))
  other_tests true b c d e = refl
  other_tests false true c d e = refl
  other_tests false false true d e = refl
  other_tests false false false true e = refl
  other_tests false false false false true = refl
  other_tests false false false false false = refl

  signed_tests : (k s t : Bool) → k ≡ false → s ≡ false → t ≡ false → (v w x y z a b c d e : Bool)
      → cond (k && v) (type 8 false) (cond (k && w) (type 16 false) (cond (k && x) (type 32 false) (cond (s || (k && y) || (k && z)) (type 64 false)
      (cond a (type 8 true) (cond b (type 16 true) (cond c (type 32 true) (cond (d || e || t) (type 64 true) (type 64 (not u)))))))))
      ≡ fixed_type true (cond a (Some 8) (cond b (Some 16) (cond c (Some 32) (cond (d || e) (Some 64) None))))
  signed_tests k s t p q r v w x y z a b c d e = rw (p, q, r) (other_tests a b c d e)

  no_u : (w : List ℕ) → same w (text "size_t") ≡ false → same w (text "ssize_t") ≡ false → ((rest : List ℕ) → w ≢ 117 ∷ rest) → unsigned_word u w ≡ fixed_type true (fixed_bits w)
  unfolding unsigned_word signed_word is
  no_u [] p q h = refl
  no_u (c ∷ n) p q h =
      signed_tests (eqb c 117) (same (c ∷ n) (text "size_t")) (same (c ∷ n) (text "ssize_t")) (ne_eqb c 117 (λ e. h n (ap (λ (k : ℕ). k ∷ n) e))) p q
      (same n (text "int8_t")) (same n (text "int16_t")) (same n (text "int32_t")) (same n (text "intptr_t")) (same n (text "int64_t"))
      (same (c ∷ n) (text "int8_t")) (same (c ∷ n) (text "int16_t")) (same (c ∷ n) (text "int32_t")) (same (c ∷ n) (text "int64_t")) (same (c ∷ n) (text "intptr_t"))

  -- what `strip_prefix` says of `u`
  abbrev pub Behind : List ℕ → Option (Bor (List ℕ)) → Type 0
  Behind w o =
      MatchOption o (pointwise eqb (take 1 w) (117 ∷ []) ≡ false)
      (λ x. (pointwise eqb (take 1 w) (117 ∷ []) ≡ true) × (x.now ≡ drop 1 w) × (length x.now + 1 ≡ length w))

  -- by what stands behind `u`, if it stands there
  pub fixed : (w : Bor (List ℕ)) (o : Option (Bor (List ℕ))) → Behind w.now o → same w.now (text "size_t") ≡ false → same w.now (text "ssize_t") ≡ false
      → (name : Bor (List ℕ)) → name ≡ unwrap_or o w → (bits : Option ℕ) → bits ≡ fixed_bits name.now → fixed_type (not (is_some o)) bits ≡ unsigned_word u w.now
  fixed w o m p q name f bits e = ap (fixed_type (not (is_some o))) (e ∙ ap (λ (x : Bor (List ℕ)). fixed_bits x.now) f) ∙ sym (go o m)
    where
      go : (o : Option (Bor (List ℕ))) → Behind w.now o → unsigned_word u w.now ≡ fixed_type (not (is_some o)) (fixed_bits (unwrap_or o w).now)
      go None m = no_u w.now p q (strip_prefix_is Decides-eqb w.now (117 ∷ []) None m)
      go (Some x) m = ap (unsigned_word u) (strip_prefix_is Decides-eqb w.now (117 ∷ []) (Some x) m) ∙ behind_u x.now
