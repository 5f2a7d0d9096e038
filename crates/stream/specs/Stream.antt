-- A stream of pieces in a part of the record buffer: steps, or questions. "Each body written through its own part of the record buffer". A piece is
-- written only where it fits wholly behind the cursor; the cursor goes on all the same, so that a pass can only count. Assumes nothing.
use Rattle.std.specs.Prelude.{◌≡◌, Bool, true, false, cond, ◌&&◌, List, ◌++◌, ℕ, ◌+◌, ◌-◌, ◌^◌, ◌≤◌, ◌<◌, min, length, drop, leb}
use Rattle.std.proofs.lemmas.List.Edits.{sets}

-- the part after a piece: with the piece at the cursor if the stream is on and the piece fits, else as it was
unfoldable pub placed : Bool → List ℕ → ℕ → List ℕ → List ℕ
placed on out at piece = cond (on && leb (at + length piece) (length out)) (sets out at piece) out

-- the most that a cursor of 64 bits tells: there it stays
abbrev pub most : ℕ
most = 2 ^ 64 - 1

-- the cursor after a piece of n bytes
unfoldable pub advanced : ℕ → ℕ → ℕ
advanced at n = min (at + n) most

-- one thing where a test holds, and another where it doesn't
abbrev pub When : Bool → Type 0 → Type 0 → Type 0
When true P Q = P
When false P Q = Q

-- what a writer of a piece does: out and at become out' and at'
pub record Sent (on : Bool) (out : List ℕ) (at : ℕ) (piece out' : List ℕ) (at' : ℕ) : Type 0 where
  pub part : out' ≡ placed on out at piece
  pub cursor : at' ≡ advanced at (length piece)

-- ---- a stream so far: `bytes` is all that was sent

-- where the cursor stands, in a pass that counts too
pub record Counted (at : ℕ) (bytes : List ℕ) : Type 0 where
  pub cursor : at ≡ min (length bytes) most

-- the part was `old` and is `out`: if what was sent fits, it stands there, and then the old bytes. No claim otherwise
pub record Streamed (old out : List ℕ) (at : ℕ) (bytes : List ℕ) : Type 0 where
  pub counted : Counted at bytes
  pub room : length old < most
  pub begun : length bytes ≤ length old → out ≡ bytes ++ drop (length bytes) old
