-- How the index of symbols grows, name by name of the routine. Assumes nothing.
use mathlib.Core.Path.{◌≡◌, refl, sym, ap, subst, ◌∙◌}
use mathlib.Core.List.{List, [], ◌∷◌}
use Rattle.std.specs.Prelude.{Option}
use Prim.Native.Nat.{ℕ, suc, ◌+◌, ◌*◌, ◌≤◌, ◌<◌}
use native.Mathlib.Omega.{arith}
use mir.Syntax.{w8}
use mir.Val.{Fits}
use lib.ListN.{length, get_or, drop}
use Rattle.layout.specs.Number.{put_number}
use Rattle.layout.proofs.StoreLaws.{each_byte}
use Rattle.files.specs.Names.{names_in}
use Rattle.files.specs.Program.{texts_in}
use Rattle.index.specs.declared.symbols.Cursor.{Cursor}
use Rattle.index.specs.Places.{place_from}
use Rattle.index.specs.Texts.{text_count}
use Rattle.index.specs.Symbols.{symbols_room, symbol_named, entry_symbol, SymbolsIndexed, Symbols, name_of, entry_of, Passed, Standing, Sought}
use Rattle.index.proofs.EntryLaws.{Entries, length_put, entries_more}
use Rattle.index.proofs.TextPlaces.{names_texts}
use Rattle.index.proofs.TextRest.{left_one, left_none}
use Rattle.index.proofs.NameOrder.{before_trans}
use Rattle.index.proofs.AscendingNames.{names_ascend}

-- what an entry of name k has to be
abbrev pub Entry : (R W S : List ℕ) → ℕ → ℕ → Type 0
Entry R W S k x = (x * 11 ≤ length S) × (entry_symbol S x ≡ symbol_named R W S k)

-- the first names have their entries, and the others are left; the search stands where each of these can still find its symbol
pub record Merging (R W S part : List ℕ) (cursor : Cursor) (rest : List ℕ) (count : ℕ) : Type 0 where
  pub left : texts_in rest ≡ drop count (texts_in R)
  pub room : symbols_room ≤ length part
  pub standing : Standing W S cursor.symbol cursor.name cursor.at
  pub passed : (m : ℕ) → count ≤ m → m < text_count R → Passed W S cursor.symbol (get_or (texts_in R) m [])
  pub entries : Entries part (λ k. k * 2) (Entry R W S) count

pub merge_none : {R W S part rest : List ℕ} {count : ℕ} → symbols_room ≤ length part → texts_in rest ≡ texts_in R → count ≡ 0 → Merging R W S part (record { symbol = 0; name = 0; at = 0 }) rest count
unfolding place_from
merge_none {R} {W} {S} {part} {rest} room left none = subst (Merging R W S part (record { symbol = 0; name = 0; at = 0 }) rest) (sym none) (record {
  left = left;
  room = room;
  standing = record { here = refl; below = λ h. omega arith; most = omega arith };
  passed = λ m l h. record { each = λ k g. absurd (omega arith) };
  entries = λ k h. absurd (omega arith);
})

-- the default cursor is where the search starts
pub starts : (c : Cursor) → c.symbol ≡ 0 × (c.name ≡ 0 × c.at ≡ 0) → c ≡ record { symbol = 0; name = 0; at = 0 }
starts c h =
    ap (λ (n : ℕ). record { symbol = n; name = c.name; at = c.at }) h.0
    ∙ ap (λ (n : ℕ). record { symbol = 0; name = n; at = c.at }) h.1.0
    ∙ ap (λ (n : ℕ). record { symbol = 0; name = 0; at = n }) h.1.1

module _ {R W S part rest : List ℕ} {cursor : Cursor} {count : ℕ} (names : 1 ≤ names_in R) (short : length R < 65536) (so : Merging R W S part cursor rest count) where
  few : text_count R ≤ 512
  few = (names_texts R names short).few

  module _ {t : List ℕ} (rest' : List ℕ) {j : ℕ} (next : texts_in rest ≡ t ∷ texts_in rest') (now : j ≡ count) where
    one_more : (count < text_count R) × (get_or (texts_in R) count [] ≡ t) × (drop (suc count) (texts_in R) ≡ texts_in rest')
    unfolding text_count
    one_more = left_one (texts_in R) count (sym so.left ∙ next)

    pub merge_room : j * 2 + 2 ≤ length part
    merge_room = omega (arith, now, one_more.0, few, so.room)

    pub merge_few : j < 512
    merge_few = omega (arith, now, one_more.0, few)

    its_name : t ≡ get_or (texts_in R) count []
    its_name = sym one_more.1

    pub merge_passed : Passed W S cursor.symbol t
    merge_passed = subst (Passed W S cursor.symbol) one_more.1 (so.passed count (omega arith) one_more.0)

    pub merge_more : {part' : List ℕ} {cursor' : Cursor} {k : Option ℕ} {x count' : ℕ} → ((i : ℕ) → Fits w8 (get_or R i 0)) → Symbols W S → Sought W S t cursor' k → x ≡ entry_of k
        → part' ≡ put_number part (j * 2) 2 x → count' ≡ count + 1 → Merging R W S part' cursor' rest' count'
    merge_more {part'} {cursor'} {k} {x} {count'} bytes ok found ex e after = subst (Merging R W S part' cursor' rest') (sym after) (record {
      left = sym one_more.2 ∙ ap (λ (m : ℕ). drop m (texts_in R)) suc_is;
      room = omega (arith, ap length e ∙ length_put part (j * 2) 2 x, so.room);
      standing = found.standing;
      passed = λ m l g. record {
        each = λ k j. before_trans (name_of W S k) t (get_or (texts_in R) m []) (found.passed.each k j)
            (rw its_name (names_ascend R names short (each_byte R (λ i. (bytes i).fits)) count m (omega arith) g));
      };
      entries = subst (λ (s : List ℕ). Entries s (λ k. k * 2) (Entry R W S) (count + 1)) (sym e)
          (entries_more part (λ k. k * 2) (Entry R W S) count so.entries (j * 2) (λ k g. omega (arith, now)) x (ap (λ (m : ℕ). m * 2) now) merge_room
          (omega (arith, ex, found.inside, ok.few)) (omega (arith, ex, found.inside), rw ex (rw its_name at found.tells)));
    })
      where
        suc_is : suc count ≡ count + 1
        suc_is = omega arith

  pub merge_done : texts_in rest ≡ [] → SymbolsIndexed R W S part
  unfolding text_count
  merge_done h =
      let n : text_count R ≤ count = (left_none (texts_in R) count (sym so.left ∙ h)).0 in
      record {
        inside = λ k l. record { room = omega (arith, few, so.room); inside = (so.entries k (omega (arith, n))).0 };
        tells = λ k l. (so.entries k (omega (arith, n))).1;
      }
