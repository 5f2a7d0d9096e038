-- Names and types (document 01, "The files"). Each gives 1 more than their count, and 0 for a body that is refused. Assumes nothing.
use Rattle.std.specs.Prelude.{Bool, true, false, not, ◌&&◌, ◌||◌, List, [], ◌∷◌, ℕ, ◌+◌, ◌-◌, length, get_or, leb, ltb, eqb}
use Rattle.files.specs.Bytes.{only, part}
use Rattle.files.specs.Items.{Items, read_from}
use Rattle.files.specs.declared.names.Texts.{Texts}

-- each byte is from lo to hi
unfoldable pub printable : ℕ → ℕ → List ℕ → Bool
printable lo hi [] = true
printable lo hi (x ∷ xs) = leb lo x && leb x hi && printable lo hi xs

-- "strictly ascending as bytes, a name before any longer one that it begins"
unfoldable pub before : List ℕ → List ℕ → Bool
before [] [] = false
before [] (y ∷ ys) = true
before (x ∷ xs) [] = false
before (x ∷ xs) (y ∷ ys) = ltb x y || (eqb x y && before xs ys)

-- how many came, and where the last one's bytes start and end
pub record Last : Type 0 where
  pub count : ℕ
  pub from : ℕ
  pub to : ℕ

abbrev pub last : ℕ → ℕ → ℕ → Last
last n p q = record { count = n; from = p; to = q }

-- "Names, at most 512: length u8 (1 to 64), bytes 0x21 to 0x7e, strictly ascending"
unfoldable pub name_at : List ℕ → Last → ℕ → ℕ
name_at b s i =
    let k = get_or b i 0 in
    only (ltb s.count 512 && leb 1 k && leb k 64 && leb k (length b - (i + 1)) && printable 0x21 0x7e (part (i + 1) (i + 1 + k) b)
    && before (part s.from s.to b) (part (i + 1) (i + 1 + k) b)) (k + 1)

abbrev pub name_items : List ℕ → Items Last
name_items b = record {
  item = name_at b;
  next = λ s i k. last (s.count + 1) (i + 1) (i + k);
  last = λ s. s.count + 1;
}

unfoldable pub names_in : List ℕ → ℕ
names_in b = read_from (name_items b) (length b) (last 0 0 0) 0

-- "Types, at most 512: length u8 (0 to 64), bytes 0x20 to 0x7e"
unfoldable pub type_at : List ℕ → ℕ → ℕ → ℕ
type_at b n i =
    let k = get_or b i 0 in
    only (ltb n 512 && leb k 64 && leb k (length b - (i + 1)) && printable 0x20 0x7e (part (i + 1) (i + 1 + k) b)) (k + 1)

abbrev pub type_items : List ℕ → Items ℕ
type_items b = record { item = type_at b; next = λ n i k. n + 1; last = λ n. n + 1 }

unfoldable pub types_in : List ℕ → ℕ
types_in b = read_from (type_items b) (length b) 0 0

-- both in one, as the code reads them (proofs/NameLaws.antt: `counted_names`, `counted_types`): the length of the text at i with its length byte, where n came
-- before it and the last one is `prior`
unfoldable pub text_at : Texts → List ℕ → ℕ → List ℕ → ℕ → ℕ
text_at t b n prior i =
    let k = get_or b i 0 in
    only (ltb n 512 && leb t.shortest k && leb k 64 && leb k (length b - (i + 1)) && printable t.lowest 0x7e (part (i + 1) (i + 1 + k) b)
    && (not t.ascend || before prior (part (i + 1) (i + 1 + k) b))) (k + 1)

abbrev pub text_items : Texts → List ℕ → Items Last
text_items t b = record {
  item = λ s i. text_at t b s.count (part s.from s.to b) i;
  next = λ s i k. last (s.count + 1) (i + 1) (i + k);
  last = λ s. s.count + 1;
}

unfoldable pub counted : Texts → List ℕ → ℕ
counted t b = read_from (text_items t b) (length b) (last 0 0 0) 0
