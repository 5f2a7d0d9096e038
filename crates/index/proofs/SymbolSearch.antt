-- The symbol of a name, found by going on from the symbol of the name before it. Assumes nothing.
use mathlib.Core.Path.{◌≡◌, refl, sym, ap, ap₂, subst, ◌∙◌}
use mathlib.Core.Bool.{Bool, true, false}
use mathlib.Core.List.{List, [], ◌∷◌}
use Rattle.std.specs.Prelude.{None, Some}
use mathlib.Core.Logic.{⊎_elim}
use Prim.Native.Nat.{ℕ, zero, suc, ◌+◌, ◌-◌, ◌*◌, ◌/◌, ◌%◌, ◌≤◌, ◌<◌}
use native.Mathlib.Nat.{not-suc-le-zero, eq-or-lt_of_le}
use native.Mathlib.Omega.{arith}
use mir.Syntax.{w8}
use mir.Val.{Fits}
use borrow.Author.Tests.{ltb-true, ltb-false}
use lib.Dec.{ltb}
use lib.ListN.{length, take, drop, get_or}
use lib.Seq.{drop-drop}
use Rattle.layout.specs.Number.{num, number_at}
use Rattle.layout.specs.Format.{whole}
use Rattle.layout.specs.Text.{same}
use Rattle.layout.proofs.StoreLaws.{each_byte}
use Rattle.files.specs.Names.{before}
use Rattle.files.specs.Refusal.{names_of}
use Rattle.files.specs.Program.{texts_in}
use Rattle.files.specs.World.{Symbol, symbol, symbol_of}
use Rattle.std.specs.Cmp.Lexicographic.{slice_cmp}
use Rattle.std.specs.Ordering.{nat_cmp}
use Rattle.std.specs.declared.cmp.Ordering.{Ordering}
use Rattle.std.specs.declared.cmp.Ordering.TheVariants.{Less, Equal, Greater}
use Rattle.index.specs.Places.{place_from, text_size}
use Rattle.index.specs.Texts.{text_count, Texts, TextAt}
use Rattle.index.specs.Symbols.{symbol_at, Symbols, name_of, Passed, Standing, Sought}
use Rattle.index.proofs.PlaceLaws.{place_add, place_mono, place_even}
use Rattle.index.proofs.BodyLaws.{whole_length, whole_at, drop_to}
use Rattle.index.proofs.TextPlaces.{text_inside, names_texts, names_count}
use Rattle.index.proofs.NameOrder.{told_less, told_equal, told_greater, before_differs, before_trans, before_flip}
use Rattle.index.proofs.AscendingNames.{names_ascend, symbols_whole, symbol_named_lem, symbols_ascend}

-- ---- the symbols of a body

symbol_moves : (S : List ℕ) (i : ℕ) → (symbol.read (drop i S)).1 ≡ drop (i + 11) S
symbol_moves S i = ap (λ (s : List ℕ). drop 8 (drop 1 s)) (drop-drop 2 i S) ∙ ap (drop 8) (drop_to S 1 (i + 2) (i + 3) (omega arith)) ∙ drop_to S 8 (i + 3) (i + 11) (omega arith)

module _ (S : List ℕ) (h : length S % 11 ≡ 0) where
  symbols_full : place_from (λ _. 11) 0 (length S / 11) ≡ length S
  symbols_full = place_even 11 0 (length S / 11) ∙ omega (arith, h)

  symbols_length : length (whole symbol S) ≡ length S / 11
  symbols_length = whole_length symbol S (λ _. 11) (symbol_moves S) (λ i. omega arith) (length S / 11) symbols_full

  symbol_at_lem : (k : ℕ) (d : Symbol) → k < length S / 11 → get_or (whole symbol S) k d ≡ symbol_at S k
  unfolding number_at
  symbol_at_lem k d l =
      let e : place_from (λ _. 11) 0 k ≡ k * 11 = place_even 11 0 k ∙ omega arith in
      let e₂ : drop 2 (drop (k * 11) S) ≡ drop (k * 11 + 2) S = drop-drop 2 (k * 11) S in
      let e₃ : drop 1 (drop 2 (drop (k * 11) S)) ≡ drop (k * 11 + 3) S = ap (drop 1) e₂ ∙ drop_to S 1 (k * 11 + 2) (k * 11 + 3) (omega arith) in
      whole_at symbol S (λ _. 11) (symbol_moves S) (λ i. omega arith) (length S / 11) k d symbols_full l
      ∙ ap (λ (i : ℕ). (symbol.read (drop i S)).0) e
      ∙ ap₂ (λ (s t : List ℕ). (num (take 2 (drop (k * 11) S)), (num (take 1 s), num (take 8 t)))) e₂ e₃

-- ---- the first symbol of a name

module _ (names : List (List ℕ)) (name : List ℕ) (d : Symbol) where
  symbol_miss : (s : Symbol) (ss : List Symbol) → same (get_or names s.0 []) name ≡ false → symbol_of names (s ∷ ss) name ≡ symbol_of names ss name
  unfolding symbol_of
  symbol_miss s ss e = rw (e, symbol_of)

  symbol_hit : (s : Symbol) (ss : List Symbol) → same (get_or names s.0 []) name ≡ true → symbol_of names (s ∷ ss) name ≡ Some s
  unfolding symbol_of
  symbol_hit s ss e = rw (e, symbol_of)

  symbol_found : (ss : List Symbol) (k : ℕ) → k < length ss → ((j : ℕ) → j < k → same (get_or names (get_or ss j d).0 []) name ≡ false)
      → same (get_or names (get_or ss k d).0 []) name ≡ true → symbol_of names ss name ≡ Some (get_or ss k d)
  symbol_found [] k l h e = absurd (not-suc-le-zero l)
  symbol_found (s ∷ ss) zero l h e = symbol_hit s ss e
  symbol_found (s ∷ ss) (suc k) l h e = symbol_miss s ss (h 0 (omega arith)) ∙ symbol_found ss k (omega arith) (λ j g. h (suc j) (omega arith)) e

  symbol_missing : (ss : List Symbol) → ((j : ℕ) → j < length ss → same (get_or names (get_or ss j d).0 []) name ≡ false) → symbol_of names ss name ≡ None
  unfolding symbol_of
  symbol_missing [] h = refl
  symbol_missing (s ∷ ss) h = symbol_miss s ss (h 0 (omega arith)) ∙ symbol_missing ss (λ j g. h (suc j) (omega arith))

-- the same over the bytes
module _ (W S name : List ℕ) (h : length S % 11 ≡ 0) where
  nothing : Symbol
  nothing = (0, (0, 0))

  other : (k : ℕ) → k < length S / 11 → same (name_of W S k) name ≡ false → same (get_or (texts_in W) (get_or (whole symbol S) k nothing).0 []) name ≡ false
  other k l e = ap (λ (s : Symbol). same (get_or (texts_in W) s.0 []) name) (symbol_at_lem S h k nothing l) ∙ e

  pub first_symbol : (k : ℕ) → k < length S / 11 → ((j : ℕ) → j < k → same (name_of W S j) name ≡ false) → same (name_of W S k) name ≡ true
      → symbol_of (texts_in W) (whole symbol S) name ≡ Some (symbol_at S k)
  first_symbol k l g e =
      symbol_found (texts_in W) name nothing (whole symbol S) k (rw (symbols_length S h) l) (λ j m. other j (omega arith) (g j m))
      (ap (λ (s : Symbol). same (get_or (texts_in W) s.0 []) name) (symbol_at_lem S h k nothing l) ∙ e)
      ∙ ap (λ (s : Symbol). Some s) (symbol_at_lem S h k nothing l)

  pub no_symbol : ((j : ℕ) → j < length S / 11 → same (name_of W S j) name ≡ false) → symbol_of (texts_in W) (whole symbol S) name ≡ None
  no_symbol g = symbol_missing (texts_in W) name nothing (whole symbol S) (λ j m. other j (rw (symbols_length S h) at m) (g j (rw (symbols_length S h) at m)))

-- ---- a turn of the search

passed_more : (W S name : List ℕ) (n : ℕ) → Passed W S n name → before (name_of W S n) name ≡ true → Passed W S (n + 1) name
passed_more W S name n all e = record { each = λ k h. go k h (ltb k n) refl }
  where
    go : (k : ℕ) → k < n + 1 → (t : Bool) → ltb k n ≡ t → before (name_of W S k) name ≡ true
    go k h true p = all.each k (ltb-true k n p)
    go k h false p = let q : k ≡ n = omega (arith, ltb-false k n p) in rw q e

module _ {W S : List ℕ} (ok : Symbols W S) where
  whole_symbols : length S % 11 ≡ 0
  whole_symbols = symbols_whole S (names_of W) ok.good

  texts : Texts W
  texts = names_texts W ok.names ok.short

  name_below : (k : ℕ) → k < length S / 11 → number_at S (k * 11) 2 < text_count W
  name_below k l = omega (arith, symbol_named_lem S (names_of W) ok.good k l, names_count W ok.names)

  names_pass : ((i : ℕ) → Fits w8 (get_or W i 0)) → (j k : ℕ) → j < k → k < length S / 11 → before (name_of W S j) (name_of W S k) ≡ true
  names_pass bytes j k l g =
      names_ascend W ok.names ok.short (each_byte W (λ i. (bytes i).fits)) (number_at S (j * 11) 2) (number_at S (k * 11) 2)
      (symbols_ascend S (names_of W) ok.good j k l g) (name_below k g)

  module _ {symbol number at : ℕ} (so : Standing W S symbol number at) where
    module _ {w : ℕ} (h : symbol < length S / 11) (e : w ≡ number_at S (symbol * 11) 2) where
      pub seek_named : number ≤ w
      seek_named = omega (arith, e, so.below (omega (arith, h)))

      there : place_from (text_size W) at (w - number) ≡ place_from (text_size W) 0 w
      there =
          let q : number + (w - number) ≡ w = omega (arith, seek_named) in
          ap (λ (i : ℕ). place_from (text_size W) i (w - number)) so.here ∙ place_add (text_size W) 0 number (w - number) ∙ ap (place_from (text_size W) 0) q

      wanted : w < text_count W
      wanted = omega (arith, e, name_below symbol h)

      pub seek_skip : place_from (text_size W) at (w - number) ≤ length W
      seek_skip = omega (arith, there, place_mono (text_size W) 0 w (text_count W) (omega (arith, wanted)), texts.full)

      module _ {at' : ℕ} (g : at' ≡ place_from (text_size W) at (w - number)) where
        pub seek_inside : at' + text_size W at' ≤ length W
        seek_inside = subst (λ (i : ℕ). i + text_size W i ≤ length W) (sym (g ∙ there)) (text_inside W texts w wanted)

        standing : Standing W S symbol w at'
        standing = record { here = g ∙ there; below = λ m. omega (arith, e); most = so.most }

        pub seek_stands : Standing W S (symbol + 1) w at'
        seek_stands = record {
          here = g ∙ there;
          below = λ m. omega (arith, e, symbols_ascend S (names_of W) ok.good symbol (symbol + 1) (omega arith) (omega (arith, whole_symbols, m)));
          most = omega (arith, h);
        }

        module _ {t name : List ℕ} {r : Ordering} (here : TextAt W at' t) (passed : Passed W S symbol name) (o : r ≡ slice_cmp nat_cmp t name) where
          its_name : t ≡ name_of W S symbol
          its_name = here.is w texts wanted (g ∙ there) ∙ ap (λ (n : ℕ). get_or (texts_in W) n []) e

          order : r ≡ slice_cmp nat_cmp (name_of W S symbol) name
          order = o ∙ ap (λ (s : List ℕ). slice_cmp nat_cmp s name) its_name

          pub seek_passes : r ≡ Less → Passed W S (symbol + 1) name
          seek_passes z = passed_more W S name symbol passed (told_less (name_of W S symbol) name r order z)

          pub seek_equal : {k : ℕ} → k ≡ symbol → r ≡ Equal → Sought W S name (record { symbol = k; name = w; at = at' }) (Some symbol)
          seek_equal {k} stands z = subst (λ (j : ℕ). Sought W S name (record { symbol = j; name = w; at = at' }) (Some symbol)) (sym stands) (record {
            standing = standing;
            passed = passed;
            inside = omega (arith, h);
            tells = sym (first_symbol W S name whole_symbols symbol h (λ j l. (before_differs (name_of W S j) name (passed.each j l)).0) (told_equal (name_of W S symbol) name r order z));
          })

          pub seek_greater : ((i : ℕ) → Fits w8 (get_or W i 0)) → {k : ℕ} → k ≡ symbol → r ≡ Greater → Sought W S name (record { symbol = k; name = w; at = at' }) None
          seek_greater bytes {k} stands z = subst (λ (j : ℕ). Sought W S name (record { symbol = j; name = w; at = at' }) None) (sym stands) (record {
            standing = standing;
            passed = passed;
            inside = omega arith;
            tells = sym (no_symbol W S name whole_symbols (λ j l. past j l (ltb j symbol) refl));
          })
            where
              after : before name (name_of W S symbol) ≡ true
              after = let f = told_greater (name_of W S symbol) name r order z in before_flip (name_of W S symbol) name f.0 f.1

              past : (j : ℕ) → j < length S / 11 → (u : Bool) → ltb j symbol ≡ u → same (name_of W S j) name ≡ false
              past j l true p = (before_differs (name_of W S j) name (passed.each j (ltb-true j symbol p))).0
              past j l false p =
                  ⊎_elim
                  (λ q. rw (← q) (before_differs name (name_of W S symbol) after).1)
                  (λ m. (before_differs name (name_of W S j) (before_trans name (name_of W S symbol) (name_of W S j) after (names_pass bytes symbol j m l))).1)
                  (eq-or-lt_of_le (ltb-false j symbol p))

    -- past the last symbol
    pub seek_end : {name : List ℕ} {k : ℕ} → length S / 11 ≤ symbol → k ≡ symbol → Passed W S symbol name → Sought W S name (record { symbol = k; name = number; at = at }) None
    seek_end {name} {k} l stands passed = subst (λ (j : ℕ). Sought W S name (record { symbol = j; name = number; at = at }) None) (sym stands) (record {
      standing = so;
      passed = passed;
      inside = omega arith;
      tells = sym (no_symbol W S name whole_symbols (λ j m. (before_differs (name_of W S j) name (passed.each j (omega (arith, l, m)))).0));
    })
