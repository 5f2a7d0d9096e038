-- How the index of blocks grows, and what it tells. Assumes nothing.
use mathlib.Core.Path.{◌≡◌, refl, sym, ap, subst, ◌∙◌}
use mathlib.Core.List.{List}
use Rattle.std.specs.Prelude.{Some}
use Prim.Native.Nat.{ℕ, ◌+◌, ◌*◌, ◌≤◌, ◌<◌}
use native.Mathlib.Nat.{le_antisymm}
use native.Mathlib.Numerals.{add-one}
use native.Mathlib.Omega.{arith}
use lib.ListN.{length, get_or}
use Rattle.layout.specs.Number.{number_at, put_number}
use Rattle.files.specs.Blocks.{cases_of}
use Rattle.index.specs.Places.{place_from, block_size}
use Rattle.index.specs.declared.blocks.Place.{Place}
use Rattle.index.specs.declared.blocks.Places.{Places}
use Rattle.index.specs.Blocks.{blocks_room, block_start, first_from, block_first, BlockInside, Blocks, Stands, Steps, BlocksIndexed, Placed}
use Rattle.index.proofs.PlaceLaws.{place_next}
use Rattle.index.proofs.EntryLaws.{Entries, length_put, entries_kept, entries_more}
use Rattle.index.proofs.BlockPlaces.{first_suc, block_before}

start_next : (b : List ℕ) (k : ℕ) → block_start b (k + 1) ≡ block_start b k + block_size b (block_start b k)
unfolding block_start
start_next b k = place_next (block_size b) 0 k

first_next : (b : List ℕ) (k : ℕ) → block_first b (k + 1) ≡ block_first b k + number_at b (block_start b k) 2
unfolding block_start block_first
first_next b k = rw add-one (first_suc b 0 0 k)

-- ---- from block to block

module _ {b : List ℕ} {p : Place} (so : Stands b p) (h : p.start < length b) where
  before : block_start b so.number < length b
  before = subst (λ (i : ℕ). i < length b) so.start h

  pub stands_inside : BlockInside b p.start
  stands_inside = subst (λ (i : ℕ). BlockInside b i) (sym so.start) (so.blocks.inside so.number before)

  pub stands_few : p.first < 65536
  stands_few = omega (arith, so.first, so.blocks.dealt so.number before)

  pub stands_on : {s f n m : ℕ} → m ≡ cases_of (get_or b (p.start + 2) 0) (number_at b (p.start + 16) 4) → n ≡ number_at b p.start 2 → s ≡ p.start + 24 + m → f ≡ p.first + n → Stands b (record { start = s; first = f })
  stands_on {s} em en es ef =
      let past : s ≡ p.start + block_size b p.start = omega (arith, es, em) in
      record {
        blocks = so.blocks;
        number = so.number + 1;
        start = past ∙ ap (λ (i : ℕ). i + block_size b i) so.start ∙ sym (start_next b so.number);
        first = omega (arith, ef, en, so.first, first_next b so.number, ap (λ (i : ℕ). number_at b i 2) so.start);
        most = omega (arith, past, stands_inside.inside);
      }

-- the first blocks are in the part, and the iterator stands at the next
pub record Filling (b part : List ℕ) (s : Places) (count : ℕ) : Type 0 where
  pub body : s.blocks.now ≡ b
  pub blocks : Blocks b
  pub here : s.next.start ≡ block_start b count
  pub dealt : s.next.first ≡ block_first b count
  pub most : s.next.start ≤ length b
  pub few : count * 24 ≤ s.next.start
  pub room : blocks_room ≤ length part
  pub starts : Entries part (λ k. k * 4) (λ k x. x ≡ block_start b k) count
  pub firsts : Entries part (λ k. k * 4 + 2) (λ k x. x ≡ block_first b k) count

module _ {b part : List ℕ} {s : Places} {count : ℕ} (so : Filling b part s count) where
  pub blocks_stand : Stands s.blocks.now s.next
  blocks_stand = rw so.body (record { blocks = so.blocks; number = count; start = so.here; first = so.dealt; most = so.most })

  -- a turn
  module _ {p : Place} {t : Places} (st : Steps s (Some p) t) where
    lower : s.next.start < length b
    lower = subst (λ (l : List ℕ). s.next.start < length l) so.body st.1

    inside : s.next.start + block_size b s.next.start ≤ length b
    inside = (subst (λ (l : List ℕ). BlockInside l s.next.start) so.body (stands_inside blocks_stand st.1)).inside

    its_start : p.start ≡ s.next.start
    its_start = ap (λ (q : Place). q.start) st.0

    its_first : p.first ≡ s.next.first
    its_first = ap (λ (q : Place). q.first) st.0

    block_room : count * 4 + 4 ≤ length part
    block_room = omega (arith, inside, so.few, so.room, so.blocks.short)

    pub block_filled : {part' part'' : List ℕ} → part' ≡ put_number part (count * 4) 2 p.start → part'' ≡ put_number part' (count * 4 + 2) 2 p.first → Filling b part'' t (count + 1)
    block_filled {part'} {part''} e' e'' =
        let l' : length part' ≡ length part = ap length e' ∙ length_put part (count * 4) 2 p.start in
        let size : t.next.start ≡ s.next.start + block_size b s.next.start = st.2 ∙ ap (λ (l : List ℕ). s.next.start + block_size l s.next.start) so.body in
        let dealt : t.next.first ≡ s.next.first + number_at b s.next.start 2 = st.3 ∙ ap (λ (l : List ℕ). s.next.first + number_at l s.next.start 2) so.body in
        let starts' : Entries part' (λ k. k * 4) (λ k x. x ≡ block_start b k) (count + 1) =
        subst (λ (l : List ℕ). Entries l (λ k. k * 4) (λ k x. x ≡ block_start b k) (count + 1)) (sym e')
        (entries_more part (λ k. k * 4) (λ k x. x ≡ block_start b k) count so.starts (count * 4) (λ k g. omega arith) p.start refl (omega (arith, block_room))
        (omega (arith, its_start, lower, so.blocks.short)) (its_start ∙ so.here)) in
        let firsts' : Entries part' (λ k. k * 4 + 2) (λ k x. x ≡ block_first b k) count =
        subst (λ (l : List ℕ). Entries l (λ k. k * 4 + 2) (λ k x. x ≡ block_first b k) count) (sym e')
        (entries_kept part (λ k. k * 4 + 2) (λ k x. x ≡ block_first b k) count so.firsts (count * 4) (λ k g. omega arith) 2 p.start) in
        record {
          body = ap (λ v. v.now) st.4 ∙ so.body;
          blocks = so.blocks;
          here = size ∙ ap (λ (i : ℕ). i + block_size b i) so.here ∙ sym (start_next b count);
          dealt = omega (arith, dealt, so.dealt, first_next b count, ap (λ (i : ℕ). number_at b i 2) so.here);
          most = omega (arith, size, inside);
          few = omega (arith, size, so.few);
          room = omega (arith, ap length e'' ∙ length_put part' (count * 4 + 2) 2 p.first, l', so.room);
          starts = subst (λ (l : List ℕ). Entries l (λ k. k * 4) (λ k x. x ≡ block_start b k) (count + 1)) (sym e'')
              (entries_kept part' (λ k. k * 4) (λ k x. x ≡ block_start b k) (count + 1) starts' (count * 4 + 2) (λ k g. omega arith) 2 p.first);
          firsts = subst (λ (l : List ℕ). Entries l (λ k. k * 4 + 2) (λ k x. x ≡ block_first b k) (count + 1)) (sym e'')
              (entries_more part' (λ k. k * 4 + 2) (λ k x. x ≡ block_first b k) count firsts' (count * 4 + 2) (λ k g. omega arith) p.first refl (omega (arith, block_room, l'))
              (omega (arith, its_first, so.dealt, so.blocks.dealt count (subst (λ (j : ℕ). j < length b) so.here lower))) (its_first ∙ so.dealt));
        }

  -- the end
  pub blocks_filled : length s.blocks.now ≤ s.next.start → BlocksIndexed b part count
  blocks_filled h =
      let e : length s.blocks.now ≡ length b = ap length so.body in
      let full : block_start b count ≡ length b = le_antisymm (omega (arith, so.here, so.most)) (omega (arith, so.here, h, e)) in
      record { blocks = so.blocks; full = full; room = omega (arith, so.few, so.most, so.room, so.blocks.short); starts = so.starts; firsts = so.firsts }

pub blocks_none : {b part : List ℕ} {s : Places} → Blocks b → s.blocks.now ≡ b → s.next.start ≡ 0 → s.next.first ≡ 0 → blocks_room ≤ length part → Filling b part s 0
unfolding block_start block_first place_from first_from
blocks_none all body start first room = record {
  body = body;
  blocks = all;
  here = start;
  dealt = first;
  most = omega (arith, start);
  few = omega arith;
  room = room;
  starts = λ k h. absurd (omega arith);
  firsts = λ k h. absurd (omega arith);
}

-- ---- a block that the index finds

pub block_placed : {part : List ℕ} {k s f : ℕ} → s ≡ number_at part (k * 4) 2 → f ≡ number_at part (k * 4 + 2) 2 → Placed part k (record { start = s; first = f })
block_placed {part} {k} p q = record {
  is = λ b n all h. let e = p ∙ all.starts k h in
      record { start = e; first = q ∙ all.firsts k h; inside = subst (λ (i : ℕ). BlockInside b i) (sym e) (all.blocks.inside k (block_before b n k all.full h)) };
}
