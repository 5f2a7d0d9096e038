-- How long names are, the texts of those that were read, and names with commas between them. Assumes nothing.
use mathlib.Core.Path.{◌≡◌, ap, ap₂, ◌∙◌, subst}
use mathlib.Core.List.{List, [], ◌∷◌, ◌++◌, append-nil}
use Prim.Native.Nat.{ℕ, zero, suc, ◌+◌, ◌-◌, ◌*◌, ◌≤◌, ◌<◌}
use native.Mathlib.Omega.{arith}
use lib.ListN.{length, get_or, length-append}
use Rattle.layout.specs.Each.{Each}
use Rattle.layout.specs.Text.{text}
use Rattle.layout.proofs.FormatLaws.{Below, number_sound, counted_sound, every_fits}
use Rattle.files.specs.Program.{texts_in}
use Rattle.layout.specs.Number.{number_at}
use Rattle.definition.specs.Listing.{name_text, commas}
use Rattle.value.specs.declared.Val.{Val}
use Rattle.text.specs.Pushed.{Room, Pushed}
use Rattle.text.specs.declared.line.Line.{Line}
use Rattle.text.specs.declared.bodies.Names.{Names}
use Rattle.text.specs.declared.bodies.Name.{Name}
use Rattle.text.specs.Read.{names_in}
use Rattle.text.specs.Lines.{commaed, header_text, variable_line}
use Rattle.text.proofs.PutLaws.{Left, left_all, left_more, left_none, pushed_as, pushed_then, room_as, room_then}

short : (xs : List (List ℕ)) (k : ℕ) → Each (λ (x : List ℕ). Below 1 (length x) × Each (Below 1) x) xs → length (get_or xs k []) ≤ 255
short [] k h = omega arith
short (x ∷ xs) zero h = omega (arith, h.0.0)
short (x ∷ xs) (suc k) h = short xs k h.1

-- a name's length is a byte
pub name_short : (b : List ℕ) (k : ℕ) → length (get_or (texts_in b) k []) ≤ 255
name_short b k = short (texts_in b) k (every_fits (counted_sound (number_sound 1) 1) (length b) b)

-- the text of a name that was read
pub name_read : (x : Name) {names : Names} {k : ℕ} → (x.names ≡ names) × (x.number ≡ k) → name_text (texts_in x.names.body.now) x.number ≡ name_text (texts_in names.body.now) k
name_read x e = ap₂ (λ (n : Names) (i : ℕ). name_text (texts_in n.body.now) i) e.0 e.1

-- and the lines that begin with it
pub header_read : (x : Name) {names : Names} {k a b : ℕ} → (x.names ≡ names) × (x.number ≡ k) → a ≡ b → header_text (texts_in x.names.body.now) x.number a ≡ header_text (texts_in names.body.now) k b
header_read x {names} {k} {a} e f = ap₂ (λ (n : Names) (i : ℕ). header_text (texts_in n.body.now) i a) e.0 e.1 ∙ ap (header_text (texts_in names.body.now) k) f

pub variable_read : (x : Name) {names : Names} {k : ℕ} {v w : Val} → (x.names ≡ names) × (x.number ≡ k) → v ≡ w
    → variable_line (texts_in x.names.body.now) (x.number, v) ≡ variable_line (texts_in names.body.now) (k, w)
variable_read x {names} {k} {v} e f =
    ap₂ (λ (n : Names) (i : ℕ). variable_line (texts_in n.body.now) (i, v)) e.0 e.1 ∙ ap (λ (u : Val). variable_line (texts_in names.body.now) (k, u)) f

-- ---- names with commas between them

module _ (names : List (List ℕ)) where
  -- a comma before each
  abbrev pub more : List ℕ → List ℕ
  more [] = []
  more (x ∷ xs) = text ", " ++ (name_text names x ++ more xs)

  commas_more : (x : ℕ) (xs : List ℕ) → name_text names x ++ more xs ≡ commas names x xs
  commas_more x [] = append-nil (name_text names x)
  commas_more x (y ∷ ys) = ap (λ (l : List ℕ). name_text names x ++ (text ", " ++ l)) (commas_more y ys)

  module _ (s : List ℕ) where
    first_more : (count : ℕ) → 1 ≤ count → name_text names (number_at s 63 2) ++ more (names_in s 65 (count - 1)) ≡ commaed names (names_in s 63 count)
    unfolding names_in
    first_more zero h = absurd (omega arith)
    first_more (suc n) h =
        let e : suc n - 1 ≡ n = omega arith in
        ap (λ (k : ℕ). name_text names (number_at s 63 2) ++ more (names_in s 65 k)) e ∙ commas_more (number_at s 63 2) (names_in s 65 n)

    next_more : (i n : ℕ) → 0 < n → more (names_in s i n) ≡ (text ", " ++ name_text names (number_at s i 2)) ++ more (names_in s (i + 2) (n - 1))
    unfolding names_in
    next_more i zero h = absurd (omega arith)
    next_more i (suc n) h =
        let e : n ≡ suc n - 1 = omega arith in
        ap (λ (k : ℕ). text ", " ++ (name_text names (number_at s i 2) ++ more (names_in s (i + 2) k))) e

    -- names that are still to be put, behind the first
    module _ (count : ℕ) (a : Line) where
      abbrev pub NamesLeft : Line → ℕ → Type 0
      NamesLeft b k = Left a (more (names_in s 65 (count - 1))) b (more (names_in s (63 + k * 2) (count - k)))

      next : {b : Line} (k : ℕ) → k < count → NamesLeft b k
          → Left a (more (names_in s 65 (count - 1))) b ((text ", " ++ name_text names (number_at s (63 + k * 2) 2)) ++ more (names_in s (63 + k * 2 + 2) (count - k - 1)))
      next {b} k h l =
          subst (λ (r : List ℕ). Left a (more (names_in s 65 (count - 1))) b r) (next_more (63 + k * 2) (count - k) (omega arith)) l

      pub names_room : {b : Line} (k : ℕ) → k < count → NamesLeft b k → Room b (text ", " ++ name_text names (number_at s (63 + k * 2) 2))
      names_room k h l =
          let x = text ", " ++ name_text names (number_at s (63 + k * 2) 2) in
          omega (arith, (next k h l).fits, length-append x (more (names_in s (63 + k * 2 + 2) (count - k - 1))))

      pub names_next : {b c d : Line} (k : ℕ) → k < count → NamesLeft b k → Pushed b c (text ", ") → Pushed c d (name_text names (number_at s (63 + k * 2) 2)) → NamesLeft d (k + 1)
      names_next {b} {c} {d} k h l p q =
          let i : 63 + k * 2 + 2 ≡ 63 + (k + 1) * 2 = omega arith in
          let n : count - k - 1 ≡ count - (k + 1) = omega arith in
          let m = left_more (next k h l) (pushed_then p q) in
          subst (λ (r : List ℕ). Left a (more (names_in s 65 (count - 1))) d r) (ap₂ (λ (x y : ℕ). more (names_in s x y)) i n) m

      -- all of them
      pub names_last : {old b : Line} (k : ℕ) → 1 ≤ count → Pushed old a (name_text names (number_at s 63 2)) → count ≤ k
          → NamesLeft b k → Pushed old b (commaed names (names_in s 63 count))
      unfolding names_in
      names_last {b = b} k o p h l =
          let z : count - k ≡ 0 = omega arith in
          let q = left_none (subst (λ (n : ℕ). Left a (more (names_in s 65 (count - 1))) b (more (names_in s (63 + k * 2) n))) z l) in
          pushed_as (pushed_then p q) (first_more count o)

    -- the first of them, and what is left then
    module _ (count : ℕ) where
      pub first_room : (old : Line) → 1 ≤ count → Room old (commaed names (names_in s 63 count)) → Room old (name_text names (number_at s 63 2))
      first_room old o h =
          omega (arith, h, ap length (first_more count o), length-append (name_text names (number_at s 63 2)) (more (names_in s 65 (count - 1))))

      pub names_left : {old a : Line} → 1 ≤ count → Room old (commaed names (names_in s 63 count)) → Pushed old a (name_text names (number_at s 63 2)) → NamesLeft count a a 1
      names_left {old} o h p = left_all (room_then (more (names_in s 65 (count - 1))) p (room_as old (first_more count o) h))
