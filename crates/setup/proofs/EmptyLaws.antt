-- A workspace cleared from the variables on, whatever it held. Assumes nothing.
use mathlib.Core.Path.{◌≡◌, sym, ap, subst, ◌∙◌}
use mathlib.Core.List.{List}
use Rattle.std.specs.Prelude.{None}
use Prim.Native.Nat.{ℕ, ◌+◌, ◌≤◌}
use native.Mathlib.Omega.{arith}
use lib.ListN.{length, take, drop, replicate, length-replicate, length-drop}
use lib.Seq.{length-take-le}
use borrow.Rule.Slice.PartMut.{put_mid, mid_of, same_len_mid, drop_put}
use Rattle.layout.proofs.StoreLaws.{mid_put, part_take, all_take, all_drop}
use Rattle.workspace.specs.Parts.{part, workspace_size, frame_place, frame_size, note_size, registers_size, tables_place, tables_size, declared_size, frame_part, note_part, tables, declared_part}
use Rattle.workspace.specs.Types.{declared_at}
use Rattle.workspace.specs.View.{view, fresh, Fit}
use Rattle.workspace.proofs.PartLaws.{part_part}
use Rattle.workspace.proofs.ClearLaws.{Zeros, zeros_replicate, declared_none, fresh_parts}
use Rattle.setup.specs.Post.{Empties}

-- the bytes before the tables
abbrev lent : ℕ
lent = frame_size + note_size + registers_size

module _ (k : ℕ) (w s : List ℕ) (least : lent ≤ k) (most : frame_place + k ≤ workspace_size) (room : workspace_size ≤ length w) (e : s ≡ replicate (length (mid_of frame_place k w)) 0) where
  abbrev after : List ℕ
  after = put_mid frame_place k w s

  same : length s ≡ length (mid_of frame_place k w)
  same = ap length e ∙ length-replicate (length (mid_of frame_place k w)) 0

  pub bytes : length s ≡ k
  bytes = same ∙ length-take-le k (drop frame_place w) (rw length-drop (omega arith))

  pub cleared_size : length after ≡ length w
  cleared_size = same_len_mid frame_place k w s same

  zero_part : (i n : ℕ) → i + n ≤ k → Zeros (part (frame_place + i) n after)
  zero_part i n l =
      let z : Zeros s = subst Zeros (sym e) (zeros_replicate (length (mid_of frame_place k w))) in
      let here : part i n s ≡ part (frame_place + i) n after = sym (ap (part i n) (mid_put frame_place k w s (omega arith) bytes)) ∙ part_part frame_place k i n after l in
      subst Zeros here (all_take (λ b. b ≡ 0) n (drop i s) (all_drop (λ b. b ≡ 0) i s z))

  pub cleared_fresh : (view after 0 ≡ fresh) × Fit after 0
  unfolding frame_part note_part
  cleared_fresh = fresh_parts after (omega (arith, cleared_size)) (zero_part 0 frame_size (omega arith)) (zero_part frame_size note_size (omega arith))

  pub cleared_names : lent + declared_size ≤ k → (x : ℕ) → declared_at (tables after) x ≡ None
  unfolding tables declared_part
  cleared_names l x = declared_none (tables after) x (subst Zeros (sym (part_take 0 declared_size tables_size (drop tables_place after) (omega arith))) (zero_part lent declared_size l))

pub empties : (w s : List ℕ) → workspace_size ≤ length w → s ≡ replicate (length (mid_of frame_place lent w)) 0 → Empties w (put_mid frame_place lent w s)
unfolding tables
empties w s room e =
    let f = cleared_fresh lent w s (omega arith) (omega arith) room e in
    record {
      holds = f.0;
      fit = f.1;
      tables = ap (take tables_size) (drop_put frame_place tables_place w s (omega arith) (omega arith) (bytes lent w s (omega arith) (omega arith) room e));
      size = cleared_size lent w s (omega arith) (omega arith) room e;
    }
