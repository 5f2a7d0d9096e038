-- The indexes and the questions, each lent as a part of the workspace and given back. Assumes nothing.
use mathlib.Core.Path.{◌≡◌, sym, ap, ◌∙◌}
use mathlib.Core.List.{List, ◌++◌}
use Prim.Native.Nat.{ℕ, ◌+◌, ◌-◌, ◌*◌, ◌≤◌}
use native.Mathlib.Omega.{arith}
use lib.ListN.{length, take, drop, length-drop}
use lib.Seq.{take-take, take_all, drop-drop, drop_at, length-take-le}
use borrow.Rule.Slice.PartMut.{put_mid, mid_of, take_put, same_len_mid}
use Rattle.layout.specs.Number.{number_at}
use Rattle.layout.proofs.StoreLaws.{mid_put}
use Rattle.workspace.specs.Parts.{part, workspace_size, registers_place, registers_size, registers_part, tables_place, tables_size, tables, questions_place, questions_part, declared_size, types_place, types_size, symbols_place, symbols_size, regions_place, regions_size, blocks_place, blocks_size, declared_part, types_part, symbols_part, regions_part, blocks_part}
use Rattle.workspace.specs.Types.{type_of_code, type_if_code, declared_at, type_at, pointee_at}
use Rattle.workspace.specs.Post.{Kept, SameTypes, Fills, PutsQuestions}
use Rattle.workspace.proofs.PartLaws.{part_part, part_front, part_back}
use Rattle.workspace.proofs.TableLaws.{kept}

-- ---- what is lent

pub symbols_lent : (w : List ℕ) → mid_of (tables_place + symbols_place) symbols_size w ≡ symbols_part (tables w)
unfolding symbols_part tables
symbols_lent w = sym (part_part tables_place tables_size symbols_place symbols_size w (omega arith))

pub regions_lent : (w : List ℕ) → mid_of (tables_place + regions_place) regions_size w ≡ regions_part (tables w)
unfolding regions_part tables
regions_lent w = sym (part_part tables_place tables_size regions_place regions_size w (omega arith))

pub blocks_lent : (w : List ℕ) → mid_of (tables_place + blocks_place) blocks_size w ≡ blocks_part (tables w)
unfolding blocks_part tables
blocks_lent w = sym (part_part tables_place tables_size blocks_place blocks_size w (omega arith))

pub questions_lent : (w : List ℕ) → mid_of questions_place (length w - questions_place) w ≡ questions_part w
unfolding questions_part
questions_lent w = take_all (length w - questions_place) (drop questions_place w) (omega (arith, length-drop questions_place w))

-- ---- a part from place i on given back

module _ (w s : List ℕ) (i k : ℕ) (room : i + k ≤ length w) (same : length s ≡ length (mid_of i k w)) where
  abbrev back : List ℕ
  back = put_mid i k w s

  size : length s ≡ k
  size = same ∙ length-take-le k (drop i w) (rw length-drop (omega arith))

  front_back : take i back ≡ take i w
  front_back = take_put i k w s (omega arith)

  behind_back : drop (i + k) back ≡ drop (i + k) w
  behind_back =
      sym (drop-drop k i back)
      ∙ ap (drop k) (drop_at (take i w) (s ++ drop k (drop i w)) i (length-take-le i w (omega arith)))
      ∙ drop_at s (drop k (drop i w)) k size
      ∙ drop-drop k i w

  length_back : length back ≡ length w
  length_back = same_len_mid i k w s same

  kept_back : tables_place ≤ i → Kept w back
  kept_back h = kept w back (sym (take-take tables_place i back (omega arith)) ∙ ap (take tables_place) front_back ∙ take-take tables_place i w (omega arith)) length_back

-- ---- a part of the tables

module _ (w s : List ℕ) (a k : ℕ) (room : workspace_size ≤ length w) (inside : a + k ≤ tables_size) (same : length s ≡ length (mid_of (tables_place + a) k w)) where
  abbrev after : List ℕ
  after = put_mid (tables_place + a) k w s

  room_back : tables_place + a + k ≤ length w
  room_back = omega arith

  tables_kept : Kept w after
  tables_kept = kept_back w s (tables_place + a) k room_back same (omega arith)

  here_back : part a k (tables after) ≡ s
  unfolding tables
  here_back = part_part tables_place tables_size a k after inside ∙ mid_put (tables_place + a) k w s (omega arith) (size w s (tables_place + a) k room_back same)

  before_back : (b n : ℕ) → b + n ≤ a → part b n (tables after) ≡ part b n (tables w)
  unfolding tables
  before_back b n h =
      part_part tables_place tables_size b n after (omega arith)
      ∙ part_front (tables_place + b) n (tables_place + a) w after (omega arith) (front_back w s (tables_place + a) k room_back same)
      ∙ sym (part_part tables_place tables_size b n w (omega arith))

  after_back : (b n : ℕ) → a + k ≤ b → b + n ≤ tables_size → part b n (tables after) ≡ part b n (tables w)
  unfolding tables
  after_back b n h l =
      part_part tables_place tables_size b n after l
      ∙ part_back (tables_place + b) n (tables_place + a + k) w after (omega arith) (behind_back w s (tables_place + a) k room_back same)
      ∙ sym (part_part tables_place tables_size b n w l)

  types_back : symbols_place ≤ a → SameTypes (tables w) (tables after)
  unfolding declared_at type_at pointee_at declared_part types_part
  types_back h =
      let d : declared_part (tables after) ≡ declared_part (tables w) = before_back 0 declared_size (omega arith) in
      let t : types_part (tables after) ≡ types_part (tables w) = before_back types_place types_size (omega arith) in
      record {
        declared = λ x. ap (λ (l : List ℕ). type_if_code (number_at l x 1)) d;
        types = λ i. ap (λ (l : List ℕ). type_of_code (number_at l (i * 2) 1)) t;
        pointees = λ i. ap (λ (l : List ℕ). type_if_code (number_at l (i * 2 + 1) 1)) t;
      }

module _ (w s : List ℕ) (room : workspace_size ≤ length w) where
  pub symbols_back : length s ≡ length (mid_of (tables_place + symbols_place) symbols_size w) → Fills w s (regions_part (tables w)) (blocks_part (tables w)) (put_mid (tables_place + symbols_place) symbols_size w s)
  unfolding symbols_part regions_part blocks_part
  symbols_back h = record {
    kept = tables_kept w s symbols_place symbols_size room (omega arith) h;
    same = types_back w s symbols_place symbols_size room (omega arith) h (omega arith);
    symbols = here_back w s symbols_place symbols_size room (omega arith) h;
    regions = after_back w s symbols_place symbols_size room (omega arith) h regions_place regions_size (omega arith) (omega arith);
    blocks = after_back w s symbols_place symbols_size room (omega arith) h blocks_place blocks_size (omega arith) (omega arith);
  }

  pub regions_back : length s ≡ length (mid_of (tables_place + regions_place) regions_size w) → Fills w (symbols_part (tables w)) s (blocks_part (tables w)) (put_mid (tables_place + regions_place) regions_size w s)
  unfolding symbols_part regions_part blocks_part
  regions_back h = record {
    kept = tables_kept w s regions_place regions_size room (omega arith) h;
    same = types_back w s regions_place regions_size room (omega arith) h (omega arith);
    symbols = before_back w s regions_place regions_size room (omega arith) h symbols_place symbols_size (omega arith);
    regions = here_back w s regions_place regions_size room (omega arith) h;
    blocks = after_back w s regions_place regions_size room (omega arith) h blocks_place blocks_size (omega arith) (omega arith);
  }

  pub blocks_back : length s ≡ length (mid_of (tables_place + blocks_place) blocks_size w) → Fills w (symbols_part (tables w)) (regions_part (tables w)) s (put_mid (tables_place + blocks_place) blocks_size w s)
  unfolding symbols_part regions_part blocks_part
  blocks_back h = record {
    kept = tables_kept w s blocks_place blocks_size room (omega arith) h;
    same = types_back w s blocks_place blocks_size room (omega arith) h (omega arith);
    symbols = before_back w s blocks_place blocks_size room (omega arith) h symbols_place symbols_size (omega arith);
    regions = before_back w s blocks_place blocks_size room (omega arith) h regions_place regions_size (omega arith);
    blocks = here_back w s blocks_place blocks_size room (omega arith) h;
  }

-- ---- the questions

pub questions_back : (w s : List ℕ) → workspace_size ≤ length w → length s ≡ length (mid_of questions_place (length w - questions_place) w)
    → PutsQuestions w s (put_mid questions_place (length w - questions_place) w s)
unfolding questions_part tables registers_part
questions_back w s room same =
    let k = length w - questions_place in
    let fits : questions_place + k ≤ length w = omega arith in
    let after = put_mid questions_place k w s in
    let front : take questions_place after ≡ take questions_place w = front_back w s questions_place k fits same in
    let long : length after ≡ length w = length_back w s questions_place k fits same in
    record {
      kept = kept_back w s questions_place k fits same (omega arith);
      tables = part_front tables_place tables_size questions_place w after (omega arith) front;
      registers = part_front registers_place registers_size questions_place w after (omega arith) front;
      questions = sym (take_all k (drop questions_place after) (omega (arith, length-drop questions_place after, long))) ∙ mid_put questions_place k w s (omega arith) (size w s questions_place k fits same);
    }
