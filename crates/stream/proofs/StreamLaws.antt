-- Streams grow by one piece after the other (`streamed_more`, `counted_more`), and what stands in the part in the end. Assumes nothing.
use mathlib.Core.Path.{◌≡◌, refl, sym, ap, ◌∙◌}
use mathlib.Core.Bool.{Bool, true, false, cond, ◌&&◌, false≢true}
use mathlib.Core.List.{List, [], ◌∷◌, ◌++◌, map, append_assoc, append-nil}
use Prim.Native.Nat.{ℕ, ◌+◌, ◌-◌, ◌≤◌, ◌<◌}
use native.Mathlib.Omega.{arith}
use lib.ListN.{length, drop, length-append, length-drop}
use lib.Seq.{sets, sets-eq, length-sets, take_at, drop-drop, drop-append-add}
use lib.Dec.{leb}
use borrow.Author.Tests.{le-leb, lt-leb, leb-true, leb-false}
use Rattle.layout.specs.Format.{Format, writes}
use Rattle.stream.specs.Stream.{placed, When, advanced, most, Sent, Counted, Streamed}

-- ---- one piece

pub placed_off : (out : List ℕ) (at : ℕ) (piece : List ℕ) → placed false out at piece ≡ out
unfolding placed
placed_off out at piece = refl

pub placed_fits : (out : List ℕ) (at : ℕ) (piece : List ℕ) → at + length piece ≤ length out → placed true out at piece ≡ sets out at piece
unfolding placed
placed_fits out at piece h = rw (le-leb (at + length piece) (length out) h)

pub length_placed : (on : Bool) (out : List ℕ) (at : ℕ) (piece : List ℕ) → length (placed on out at piece) ≡ length out
unfolding placed
length_placed on out at piece = go (on && leb (at + length piece) (length out))
  where
    go : (b : Bool) → length (cond b (sets out at piece) out) ≡ length out
    go true = length-sets out at piece
    go false = refl

-- the code: a piece that is put where there is room
pub when_room : (b : Bool) (P Q : Type 0) → b ≡ true → P → When b P Q
when_room true P Q e p = p
when_room false P Q e p = absurd (false≢true e)

pub sent : (on : Bool) (out piece out' : List ℕ) (at n r : ℕ) {P : Type 0} → length piece ≡ n → (r ≡ advanced at n) × When (on && leb (at + n) (length out)) P (out' ≡ out)
    → (P → out' ≡ sets out at piece) → Sent on out at piece out' r
unfolding placed
sent on out piece out' at n r {P} l w put = record {
  part = go (on && leb (at + n) (length out)) w.1 ∙ ap (λ (k : ℕ). cond (on && leb (at + k) (length out)) (sets out at piece) out) (sym l);
  cursor = w.0 ∙ ap (advanced at) (sym l);
}
  where
    go : (b : Bool) → When b P (out' ≡ out) → out' ≡ cond b (sets out at piece) out
    go true p = put p
    go false q = q

-- its test
same_test : (a b : Bool) → (a ≡ true → b ≡ true) → (a ≡ false → b ≡ false) → a ≡ b
same_test true b h k = sym (h refl)
same_test false b h k = sym (k refl)

pub no_room : (on : Bool) (at n l : ℕ) → l < n → false ≡ (on && leb (at + n) l)
no_room true at n l h = sym (lt-leb (at + n) l (omega arith))
no_room false at n l h = refl

pub room : (on : Bool) (at n l : ℕ) → n ≤ l → (on && leb at (l - n)) ≡ (on && leb (at + n) l)
room false at n l h = refl
room true at n l h =
    same_test (leb at (l - n)) (leb (at + n) l)
    (λ e. le-leb (at + n) l (let f : at ≤ l - n = leb-true at (l - n) e in omega arith))
    (λ e. lt-leb (at + n) l (let f : l - n < at = leb-false at (l - n) e in omega arith))

-- ---- a pass that counts

pub counted_start : Counted 0 []
counted_start = record { cursor = omega arith }

pub counted_more : {at : ℕ} {bytes : List ℕ} (piece : List ℕ) → Counted at bytes → Counted (advanced at (length piece)) (bytes ++ piece)
unfolding advanced
counted_more {at} {bytes} piece c = record { cursor = omega (arith, length-append bytes piece) }

-- ---- a pass that writes

pub streamed_start : (old : List ℕ) → length old < most → Streamed old old 0 []
streamed_start old h = record { counted = counted_start; room = h; begun = λ _. refl }

-- one more piece behind what stands there
put_behind : (old bytes piece : List ℕ) → length bytes + length piece ≤ length old
    → sets (bytes ++ drop (length bytes) old) (length bytes) piece ≡ bytes ++ piece ++ drop (length (bytes ++ piece)) old
put_behind old bytes piece h =
    let n = length bytes in
    let l : length (bytes ++ drop n old) ≡ length old = simp (length-append, length-drop) (omega arith) in
    sets-eq piece (bytes ++ drop n old) n (omega arith)
    ∙ rw (take_at bytes (drop n old) n refl, drop-append-add bytes (drop n old) (length piece), drop-drop, length-append)

pub streamed_more : {old out bytes : List ℕ} {at : ℕ} (piece : List ℕ) → Streamed old out at bytes → Streamed old (placed true out at piece) (advanced at (length piece)) (bytes ++ piece)
streamed_more {old} {out} {bytes} {at} piece s = record {
  counted = counted_more piece s.counted;
  room = s.room;
  begun = λ h.
      let k : length bytes + length piece ≤ length old = omega (arith, length-append bytes piece) in
      let e : at ≡ length bytes = omega arith in
      let b : out ≡ bytes ++ drop (length bytes) old = s.begun (omega arith) in
      let l : length out ≡ length old = ap length b ∙ simp (length-append, length-drop) (omega arith) in
      placed_fits out at piece (omega arith)
      ∙ ap (λ (i : ℕ). sets out i piece) e
      ∙ ap (λ (o : List ℕ). sets o (length bytes) piece) b
      ∙ put_behind old bytes piece k;
}

-- ---- a body of one format: one piece more

pub writes_more : {A B : Type 0} (F : Format B) (f : A → B) (xs : List A) (x : A) → writes F (map f (xs ++ x ∷ [])) ≡ writes F (map f xs) ++ F.write (f x)
writes_more F f [] x = append-nil (F.write (f x))
writes_more F f (y ∷ xs) x = ap (λ (r : List ℕ). F.write (f y) ++ r) (writes_more F f xs x) ∙ sym (append_assoc (F.write (f y)) (writes F (map f xs)) (F.write (f x)))
