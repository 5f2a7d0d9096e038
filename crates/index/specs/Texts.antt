-- The index of a body of names or of types: for each text, in two bytes, the place of its length byte. Assumes nothing.
use Rattle.std.specs.Prelude.{◌≡◌, List, [], ℕ, ◌*◌, ◌≤◌, ◌<◌, length, get_or}
use Rattle.layout.specs.Number.{number_at}
use Rattle.files.specs.Program.{texts_in}
use Rattle.index.specs.Places.{place_from, text_size}

-- the bytes of the index: two for each of at most 512 texts
abbrev pub texts_room : ℕ
texts_room = 1024

unfoldable pub text_count : List ℕ → ℕ
text_count b = length (texts_in b)

-- "at most 512": the texts of an accepted body fill it
pub record Texts (b : List ℕ) : Type 0 where
  pub full : place_from (text_size b) 0 (text_count b) ≡ length b
  pub few : text_count b ≤ 512
  pub short : length b < 65536

-- the part tells where each text of the body starts
pub record TextsIndexed (b part : List ℕ) : Type 0 where
  pub texts : Texts b
  pub room : text_count b * 2 ≤ length part
  pub at : (k : ℕ) → k < text_count b → number_at part (k * 2) 2 ≡ place_from (text_size b) 0 k

-- a text has the length told before it, and is text k if it starts where that does
pub record TextAt (b : List ℕ) (i : ℕ) (t : List ℕ) : Type 0 where
  pub size : length t ≡ number_at b i 1
  pub is : (k : ℕ) → Texts b → k < text_count b → i ≡ place_from (text_size b) 0 k → t ≡ get_or (texts_in b) k []
