-- The names of an accepted body ascend, and so do the names of a world's symbols. Assumes nothing.
use mathlib.Core.Path.{◌≡◌, refl, sym, ap, ap₂, ◌∙◌}
use mathlib.Core.Bool.{true}
use mathlib.Core.List.{List, []}
use Prim.Native.Nat.{ℕ, zero, suc, ◌+◌, ◌-◌, ◌*◌, ◌/◌, ◌%◌, ◌≤◌, ◌<◌}
use native.Mathlib.Nat.{not-suc-le-zero, eq-or-lt_of_le, le_of_suc-le-suc}
use mathlib.Core.Logic.{⊎_elim}
use native.Mathlib.Omega.{arith}
use borrow.Author.Tests.{leb-true, ltb-true, eqb-true}
use lib.Dec.{leb, ltb, eqb}
use lib.ListN.{length, take, drop, get_or}
use Rattle.layout.specs.Each.{Bytes}
use Rattle.layout.specs.Number.{number_at}
use Rattle.layout.proofs.NumberLaws.{number_at_one}
use Rattle.files.specs.Bytes.{part}
use Rattle.files.specs.Items.{every}
use Rattle.files.specs.Names.{before, Last, last, name_items, names_in}
use Rattle.files.specs.WorldFile.{least_name, symbol_ok, symbols_ok}
use Rattle.files.specs.Program.{texts_in}
use Rattle.index.specs.Places.{place_from, text_size}
use Rattle.index.specs.Texts.{text_count}
use Rattle.index.proofs.PlaceLaws.{place_strict}
use Rattle.std.proofs.lemmas.Bool.{and_parts}
use Rattle.files.proofs.ItemLaws.{every_at}
use Rattle.index.proofs.ItemLaws.{state_from}
use Rattle.index.proofs.TextPlaces.{text_some, text_bytes, name_at_lem, names_texts}
use Rattle.index.proofs.NameOrder.{before_trans}

-- ---- names

-- the state before a name tells where the one before it is
name_from : (b : List ℕ) (s : Last) (i k : ℕ) → (state_from (name_items b) (text_size b) s i (suc k)).from ≡ place_from (text_size b) i k + 1
unfolding place_from
name_from b s i zero = refl
name_from b s i (suc k) = name_from b (last (s.count + 1) (i + 1) (i + text_size b i)) (i + text_size b i) k

name_to : (b : List ℕ) (s : Last) (i k : ℕ) → (state_from (name_items b) (text_size b) s i (suc k)).to ≡ place_from (text_size b) i k + text_size b (place_from (text_size b) i k)
unfolding place_from
name_to b s i zero = refl
name_to b s i (suc k) = name_to b (last (s.count + 1) (i + 1) (i + text_size b i)) (i + text_size b i) k

module _ (b : List ℕ) (h : 1 ≤ names_in b) (short : length b < 65536) (bytes : Bytes b) where
  names_next : (k : ℕ) → suc k < text_count b → before (get_or (texts_in b) k []) (get_or (texts_in b) (suc k) []) ≡ true
  names_next k l =
      let all = names_texts b h short in
      let p = place_from (text_size b) 0 k in
      let i = place_from (text_size b) 0 (suc k) in
      let inside : i < length b = omega (arith, place_strict (text_size b) (text_some b) 0 (suc k) (text_count b) l, all.full) in
      let named = name_at_lem b h (suc k) inside in
      let s = state_from (name_items b) (text_size b) (last 0 0 0) 0 (suc k) in
      let one : number_at b i 1 ≡ get_or b i 0 = number_at_one b i inside (omega (arith, named.short)) in
      let n₁ : p + text_size b p - (p + 1) ≡ number_at b p 1 = omega arith in
      let n₂ : i + 1 + get_or b i 0 - (i + 1) ≡ number_at b i 1 = omega (arith, one) in
      let e₁ : part s.from s.to b ≡ get_or (texts_in b) k [] =
      ap₂ (λ (x y : ℕ). part x y b) (name_from b (last 0 0 0) 0 k) (name_to b (last 0 0 0) 0 k)
      ∙ ap (λ (x : ℕ). take x (drop (p + 1) b)) n₁ ∙ sym (text_bytes b all k (omega arith) bytes) in
      let e₂ : part (i + 1) (i + 1 + get_or b i 0) b ≡ get_or (texts_in b) (suc k) [] =
      ap (λ (x : ℕ). take x (drop (i + 1) b)) n₂ ∙ sym (text_bytes b all (suc k) l bytes) in
      ap₂ before (sym e₁) (sym e₂) ∙ named.after

  pub names_ascend : (j k : ℕ) → j < k → k < text_count b → before (get_or (texts_in b) j []) (get_or (texts_in b) k []) ≡ true
  names_ascend j zero l g = absurd (not-suc-le-zero l)
  names_ascend j (suc k) l g = ⊎_elim (λ e. go e) (λ m. before_trans _ _ _ (names_ascend j k m (omega arith)) (names_next k g)) (eq-or-lt_of_le (le_of_suc-le-suc l))
    where
      go : j ≡ k → before (get_or (texts_in b) j []) (get_or (texts_in b) (suc k) []) ≡ true
      go e = rw e (names_next k g)

-- ---- symbols

module _ (S : List ℕ) (names : ℕ) (h : symbols_ok S names ≡ true) where
  pub symbols_whole : length S % 11 ≡ 0
  unfolding symbols_ok
  symbols_whole = eqb-true (length S % 11) 0 (and_parts (eqb (length S % 11) 0) (every (length S / 11) (symbol_ok S names)) h).0

  symbol_good : (k : ℕ) → k < length S / 11 → symbol_ok S names k ≡ true
  unfolding symbols_ok
  symbol_good k l = every_at (symbol_ok S names) (length S / 11) k (and_parts (eqb (length S % 11) 0) (every (length S / 11) (symbol_ok S names)) h).1 l

  -- a symbol's name is one of the world's
  pub symbol_named_lem : (k : ℕ) → k < length S / 11 → number_at S (k * 11) 2 < names
  symbol_named_lem k l = ltb-true _ _ (and_parts (leb (least_name S k) (number_at S (k * 11) 2)) (ltb (number_at S (k * 11) 2) names) (symbol_good k l)).1

  symbol_next : (k : ℕ) → suc k < length S / 11 → number_at S (k * 11) 2 < number_at S (suc k * 11) 2
  unfolding least_name
  symbol_next k l =
      let n = number_at S (suc k * 11) 2 in
      omega (arith, leb-true (number_at S (k * 11) 2 + 1) n (and_parts (leb (number_at S (k * 11) 2 + 1) n) (ltb n names) (symbol_good (suc k) l)).0)

  pub symbols_ascend : (j k : ℕ) → j < k → k < length S / 11 → number_at S (j * 11) 2 < number_at S (k * 11) 2
  symbols_ascend j zero l g = absurd (not-suc-le-zero l)
  symbols_ascend j (suc k) l g = ⊎_elim (λ e. go e) (λ m. omega (arith, symbols_ascend j k m (omega arith), symbol_next k g)) (eq-or-lt_of_le (le_of_suc-le-suc l))
    where
      go : j ≡ k → number_at S (j * 11) 2 < number_at S (suc k * 11) 2
      go e = rw e (symbol_next k g)
