-- Texts appended one behind the other. Assumes nothing.
use mathlib.Core.Path.{◌≡◌, refl, sym, ap, ap₂, ◌∙◌, subst}
use mathlib.Core.List.{List, [], ◌++◌, append_assoc}
use Prim.Native.Nat.{ℕ, ◌+◌, ◌-◌, ◌≤◌}
use native.Mathlib.Nat.{add-zero}
use native.Mathlib.Omega.{arith}
use lib.ListN.{length, take, drop, length-append}
use lib.Seq.{sets, sets-eq, length-sets, drop-drop}
use borrow.Rule.Slice.PartMut.{put_mid}
use Rattle.layout.proofs.StoreLaws.{sets_append}
use Rattle.text.specs.Put.{Put}
use Rattle.text.specs.Pushed.{Room, Pushed}
use Rattle.text.specs.declared.line.Line.{Line}

-- what is copied to a place
pub put_copied : (s from x : List ℕ) (at : ℕ) → at + length from ≤ length s → x ≡ from → Put s at from (put_mid at (at + length from - at) s x) (at + length from)
put_copied s from x at h e =
    let k : at + length from - at ≡ length from = omega arith in
    let d = drop-drop (length from) at s in
    let f : put_mid at (at + length from - at) s x ≡ sets s at from =
    rw (e, k, d) (sym (sets-eq from s at h ∙ append_assoc (take at s) from (drop (at + length from) s))) in
    record { same = f; end = refl; room = ap length f ∙ length-sets s at from }

-- two texts
put_then : {s t u x y : List ℕ} {at m r : ℕ} → Put s at x t m → Put t m y u r → Put s at (x ++ y) u r
put_then {s} {t} {u} {x} {y} {at} {m} {r} p q = record {
  same =
      q.same
      ∙ ap₂ (λ (l : List ℕ) (k : ℕ). sets l k y) p.same p.end
      ∙ sym (sets_append x y s at);
  end = omega (arith, p.end, q.end, length-append x y);
  room = q.room ∙ p.room;
}

pub pushed_then : {a b c : Line} {x y : List ℕ} → Pushed a b x → Pushed b c y → Pushed a c (x ++ y)
pushed_then p q = record { same_reference = q.same_reference ∙ p.same_reference; put = put_then p.put q.put }

-- another text, if it is the same
pub pushed_as : {a b : Line} {x y : List ℕ} → Pushed a b x → x ≡ y → Pushed a b y
pushed_as {a} {b} p e = subst (λ (l : List ℕ). Pushed a b l) e p

-- the text of something, if it is the same
pub pushed_of : {a b : Line} {X : Type 0} (f : X → List ℕ) {x y : X} → y ≡ x → Pushed a b (f x) → Pushed a b (f y)
pushed_of f e p = pushed_as p (ap f (sym e))

-- ---- room

pub room_as : (a : Line) {x y : List ℕ} → x ≡ y → Room a y → Room a x
room_as a {x} {y} e h = omega (arith, ap length e, h)

-- for the first of two texts
pub room_first : (a : Line) (x y : List ℕ) → Room a (x ++ y) → Room a x
room_first a x y h = omega (arith, h, length-append x y)

-- behind a text that was appended
pub room_then : {a b : Line} {x : List ℕ} (y : List ℕ) → Pushed a b x → Room a (x ++ y) → Room b y
room_then {a} {b} {x} y p h = omega (arith, h, length-append x y, p.put.end, p.put.room)

-- ---- a whole line

-- in a line that is empty yet
pub room_new : (a : Line) (x : List ℕ) {s : List ℕ} → (a.out.now ≡ s) × (a.at ≡ 0) → 8192 ≤ length s → length x ≤ 8192 → Room a x
room_new a x e h l = omega (arith, ap length e.0, e.1, h, l)

-- the buffer of a line that began empty
pub put_whole : {a b : Line} {s t x : List ℕ} {r : ℕ} → Pushed a b x → (a.out.now ≡ s) × (a.at ≡ 0) → t ≡ b.out.now → r ≡ b.at → length x ≤ 8192 → Put s 0 x t r × (r ≤ 8192)
put_whole {a} {b} {s} {t} {x} {r} p e f g l =
    let end : r ≡ 0 + length x = omega (arith, g, p.put.end, e.1) in (
      record {
        same = f ∙ p.put.same ∙ ap₂ (λ (l : List ℕ) (k : ℕ). sets l k x) e.0 e.1;
        end = end;
        room = ap length f ∙ p.put.room ∙ ap length e.0;
      },
      omega (arith, end, l),
    )

-- ---- what is still to be appended: with it behind what is there already, the line is as it is to be

pub record Left (a : Line) (x : List ℕ) (b : Line) (rest : List ℕ) : Type 0 where
  pub same_reference : b.out.ghost_name ≡ a.out.ghost_name
  pub same : sets b.out.now b.at rest ≡ sets a.out.now a.at x
  pub end : b.at + length rest ≡ a.at + length x
  pub room : length b.out.now ≡ length a.out.now
  pub fits : Room b rest

pub left_all : {a : Line} {x : List ℕ} → Room a x → Left a x a x
left_all h = record { same_reference = refl; same = refl; end = refl; room = refl; fits = h }

pub left_more : {a b c : Line} {x y rest : List ℕ} → Left a x b (y ++ rest) → Pushed b c y → Left a x c rest
left_more {a} {b} {c} {x} {y} {rest} l p = record {
  same_reference = p.same_reference ∙ l.same_reference;
  same = ap₂ (λ (q : List ℕ) (k : ℕ). sets q k rest) p.put.same p.put.end ∙ sym (sets_append y rest b.out.now b.at) ∙ l.same;
  end = omega (arith, p.put.end, l.end, length-append y rest);
  room = p.put.room ∙ l.room;
  fits = room_then rest p l.fits;
}

pub left_none : {a b : Line} {x : List ℕ} → Left a x b [] → Pushed a b x
left_none {a} {b} l = record { same_reference = l.same_reference; put = record { same = l.same; end = sym (add-zero b.at) ∙ l.end; room = l.room } }
