-- How the index of texts grows, and what it tells. Assumes nothing.
use mathlib.Core.Path.{◌≡◌, refl, sym, ap, subst, ◌∙◌}
use mathlib.Core.List.{List, [], ◌∷◌}
use Prim.Native.Nat.{ℕ, suc, ◌+◌, ◌-◌, ◌*◌, ◌≤◌, ◌<◌}
use native.Mathlib.Nat.{le_antisymm}
use native.Mathlib.Omega.{arith}
use mir.Syntax.{w8}
use mir.Val.{Fits}
use lib.ListN.{length, take, drop, get_or, length-drop}
use lib.Seq.{length-take-le}
use Rattle.layout.specs.Number.{number_at, put_number}
use Rattle.layout.proofs.StoreLaws.{each_byte}
use Rattle.layout.specs.Each.{Bytes}
use Rattle.files.specs.Program.{texts_in}
use Rattle.index.specs.Places.{place_from, text_size}
use Rattle.index.specs.Texts.{texts_room, text_count, Texts, TextsIndexed, TextAt}
use Rattle.index.proofs.PlaceLaws.{place_mono, place_next}
use Rattle.index.proofs.EntryLaws.{Entries, length_put, entries_more}
use Rattle.index.proofs.TextPlaces.{text_inside, text_bytes}
use Rattle.index.proofs.TextRest.{left_one, left_none}

-- the first texts are in the part, and the next one, of those that are left, starts at a place
pub record Filling (b part rest : List ℕ) (at count : ℕ) : Type 0 where
  pub here : at ≡ place_from (text_size b) 0 count
  pub most : count ≤ text_count b
  pub left : texts_in rest ≡ drop count (texts_in b)
  pub room : texts_room ≤ length part
  pub entries : Entries part (λ k. k * 2) (λ k x. x ≡ place_from (text_size b) 0 k) count

text_long : (b : List ℕ) (k : ℕ) → Texts b → k < text_count b → Bytes b → length (get_or (texts_in b) k []) ≡ number_at b (place_from (text_size b) 0 k) 1
text_long b k all h bytes =
    let i = place_from (text_size b) 0 k in
    ap length (text_bytes b all k h bytes) ∙ length-take-le (number_at b i 1) (drop (i + 1) b) (rw length-drop (omega (arith, text_inside b all k h)))

module _ {b part rest : List ℕ} {at count : ℕ} (all : Texts b) (so : Filling b part rest at count) where
  -- a turn
  module _ {t : List ℕ} (rest' : List ℕ) (next : texts_in rest ≡ t ∷ texts_in rest') where
    one_more : (count < text_count b) × (get_or (texts_in b) count [] ≡ t) × (drop (suc count) (texts_in b) ≡ texts_in rest')
    unfolding text_count
    one_more = left_one (texts_in b) count (sym so.left ∙ next)

    pub texts_few : count < 512
    texts_few = omega (arith, one_more.0, all.few)

    module _ (bytes : (i : ℕ) → Fits w8 (get_or b i 0)) where
      long : length t ≡ number_at b at 1
      long = ap length (sym one_more.1) ∙ text_long b count all one_more.0 (each_byte b (λ i. (bytes i).fits)) ∙ ap (λ (i : ℕ). number_at b i 1) (sym so.here)

      pub text_fits : at + length t + 1 < 65536
      text_fits = omega (arith, long, text_inside b all count one_more.0, ap (λ (i : ℕ). i + text_size b i) so.here, all.short)

      pub text_filled : {part' : List ℕ} → part' ≡ put_number part (count * 2) 2 at → Filling b part' rest' (at + (length t + 1)) (count + 1)
      text_filled e = record {
        here = omega (arith, long, place_next (text_size b) 0 count, ap (λ (i : ℕ). i + text_size b i) so.here);
        most = omega (arith, one_more.0);
        left = sym one_more.2 ∙ ap (λ (m : ℕ). drop m (texts_in b)) suc_is;
        room = omega (arith, ap length e ∙ length_put part (count * 2) 2 at, so.room);
        entries = subst (λ (s : List ℕ). Entries s (λ k. k * 2) (λ k x. x ≡ place_from (text_size b) 0 k) (count + 1)) (sym e)
            (entries_more part (λ k. k * 2) (λ k x. x ≡ place_from (text_size b) 0 k) count so.entries (count * 2) (λ k g. omega arith) at refl
            (omega (arith, texts_few, so.room)) (omega (arith, text_fits)) so.here);
      }
        where
          suc_is : suc count ≡ count + 1
          suc_is = omega arith

  -- the end
  pub texts_filled : texts_in rest ≡ [] → (count ≡ text_count b) × TextsIndexed b part
  unfolding text_count
  texts_filled h =
      let n : count ≡ text_count b = le_antisymm so.most (left_none (texts_in b) count (sym so.left ∙ h)).0 in
      (n, record { texts = all; room = omega (arith, all.few, so.room); at = rw n at so.entries })

pub texts_none : {b part rest : List ℕ} → texts_room ≤ length part → texts_in rest ≡ texts_in b → Filling b part rest 0 0
unfolding place_from
texts_none room left = record { here = refl; most = omega arith; left = left; room = room; entries = λ k h. absurd (omega arith) }

-- ---- a text that the index finds

module _ {b part : List ℕ} {k at : ℕ} (all : TextsIndexed b part) (h : k < text_count b) (e : at ≡ number_at part (k * 2) 2) where
  pub text_there : at + (number_at b at 1 + 1) ≤ length b
  text_there = subst (λ (i : ℕ). i + text_size b i ≤ length b) (sym (e ∙ all.at k h)) (text_inside b all.texts k h)

pub text_read : {b : List ℕ} {at n : ℕ} → at + text_size b at ≤ length b → ((i : ℕ) → Fits w8 (get_or b i 0)) → n ≡ number_at b at 1 → TextAt b at (take (at + 1 + n - (at + 1)) (drop (at + 1) b))
text_read {b} {at} {n} inside bytes g =
    let q : at + 1 + n - (at + 1) ≡ number_at b at 1 = omega (arith, g) in
    record {
      size = ap (λ (m : ℕ). length (take m (drop (at + 1) b))) q ∙ length-take-le (number_at b at 1) (drop (at + 1) b) (rw length-drop (omega (arith, inside)));
      is = λ k all h p.
          ap (λ (m : ℕ). take m (drop (at + 1) b)) q ∙ ap (λ (i : ℕ). take (number_at b i 1) (drop (i + 1) b)) p ∙ sym (text_bytes b all k h (each_byte b (λ i. (bytes i).fits)));
    }

-- ---- texts that are passed by

module _ (b : List ℕ) (at i steps : ℕ) (h : i < steps) {p : ℕ} (e : p ≡ place_from (text_size b) at i) where
  pub skip_inside : place_from (text_size b) at steps ≤ length b → p + text_size b p ≤ length b
  skip_inside l = omega (arith, l, ap (λ (j : ℕ). j + text_size b j) e, place_next (text_size b) at i, place_mono (text_size b) at (i + 1) steps (omega arith))

  pub skip_next : {n : ℕ} → n ≡ number_at b p 1 → p + n + 1 ≡ place_from (text_size b) at (i + 1)
  skip_next {n} g = omega (arith, g, ap (λ (j : ℕ). j + text_size b j) e, place_next (text_size b) at i)
