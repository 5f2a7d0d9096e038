-- A body stored through its own part of the record buffer is stored in the buffer. Assumes nothing.
use mathlib.Core.Path.{◌≡◌, refl, sym, ap, ◌∙◌}
use mathlib.Core.List.{List, [], ◌∷◌, ◌++◌}
use Prim.Native.Nat.{ℕ, ◌+◌, ◌-◌, ◌*◌, ◌≤◌}
use native.Mathlib.Nat.{zero-add, add-zero}
use native.Mathlib.Omega.{arith}
use lib.ListN.{length, drop, length-drop}
use lib.Seq.{sets, sets-eq, length-take-le}
use borrow.Rule.Slice.PartMut.{mid_of, put_mid}
use Rattle.layout.proofs.StoreLaws.{put_sets}
use Rattle.memory.specs.Overlay.{Overlay, Cell}
use Rattle.memory.proofs.PartLaws.{length_entries}
use Rattle.memory.specs.Entries.{entry, memory_body}
use Rattle.definition.specs.Record.{stop_body, counts_body, variables_body}
use Rattle.workspace.specs.Parts.{frame_part, memory_part}
use Rattle.workspace.specs.Variables as frame
use Rattle.workspace.specs.View.{view}
use Rattle.workspace.proofs.CopyLaws.{length_body}
use Rattle.stream.specs.declared.StopPiece.{StopPiece}
use Rattle.stream.specs.declared.Lengths.{Lengths}
use Rattle.stream.specs.Bodies.{stop_size, counts_size, stop_place, counts_place, steps_place, stop_bytes, stop_from, pairs_of, lengths_of}
use Rattle.definition.proofs.Record.{stop_length, counts_length}
use Rattle.hosting.specs.declared.Stop.{Stop}
use Rattle.outcomes.specs.Telling.{Tells}
use Rattle.passes.specs.Writing.{PutsStop}

-- ---- at the front of a part

pub fixed_stored : (s x vs : List ℕ) (a k : ℕ) → a + k ≤ length s → length vs ≤ k → x ≡ sets (mid_of a k s) 0 vs → put_mid a k s x ≡ sets s a vs
fixed_stored s x vs a k h l e =
    let m : length (mid_of a k s) ≡ k = length-take-le k (drop a s) (rw length-drop (omega arith)) in
    ap (put_mid a k s) e ∙ put_sets vs s a k 0 (omega arith) ∙ rw add-zero

-- a part that goes to the end
pub length_part : (s : List ℕ) (a : ℕ) → a ≤ length s → length (mid_of a (length s - a) s) ≡ length s - a
length_part s a h = length-take-le (length s - a) (drop a s) (rw length-drop (omega arith))

pub rest_stored : (s x b : List ℕ) (v n : ℕ) → n ≡ length b → v + n ≤ length s → x ≡ b ++ drop n (mid_of v (length s - v) s) → put_mid v (length s - v) s x ≡ sets s v b
rest_stored s x b v n l h e =
    let m = length_part s v (omega arith) in
    let f : sets (mid_of v (length s - v) s) 0 b ≡ b ++ drop n (mid_of v (length s - v) s) = sets-eq b (mid_of v (length s - v) s) 0 (omega arith) ∙ rw (zero-add, l) in
    fixed_stored s x b v (length s - v) (omega arith) (omega arith) (e ∙ sym f)

-- ---- the bodies of fixed length

pub stop_put : (s x : List ℕ) (limit : ℕ) (stop : Stop) (p : StopPiece) → steps_place ≤ length s → Tells limit stop p → x ≡ sets (mid_of stop_place stop_size s) 0 (stop_bytes (stop_from p)) → PutsStop limit stop s (put_mid stop_place stop_size s x)
stop_put s x limit stop p h t e = record {
  bytes = λ b q. fixed_stored s x (stop_body b) stop_place stop_size (omega arith) (omega (arith, stop_length b)) (e ∙ ap (sets (mid_of stop_place stop_size s) 0) (t.bytes b q));
}

pub counts_put : (s x : List ℕ) (entered recorded : ℕ) → steps_place ≤ length s → x ≡ sets (mid_of counts_place counts_size s) 0 (counts_body entered recorded) → put_mid counts_place counts_size s x ≡ sets s counts_place (counts_body entered recorded)
counts_put s x entered recorded h e = fixed_stored s x (counts_body entered recorded) counts_place counts_size (omega arith) (omega (arith, counts_length entered recorded)) e

length_pairs : (l : Lengths) → length (pairs_of stop_place (lengths_of l)) ≡ stop_place
unfolding pairs_of
length_pairs l = refl

pub pairs_put : (s x : List ℕ) (l : Lengths) → steps_place ≤ length s → x ≡ sets (mid_of 0 stop_place s) 0 (pairs_of stop_place (lengths_of l)) → put_mid 0 stop_place s x ≡ sets s 0 (pairs_of stop_place (lengths_of l))
pairs_put s x l h e = fixed_stored s x (pairs_of stop_place (lengths_of l)) 0 stop_place (omega arith) (omega (arith, length_pairs l)) e

-- ---- variables and memory

pub length_memory : (m : Overlay Cell) → length (memory_body m) ≡ length m * 9
unfolding entry
length_memory [] = refl
length_memory (p ∷ m) = omega (arith, length_memory m)

-- as many entries as are stored
pub length_stored : (w : List ℕ) (n : ℕ) → length (view w n).memory ≡ n
unfolding view
length_stored w n = length_entries (memory_part w) n

pub variables_room : (s w : List ℕ) (v stored : ℕ) → v + length (view w stored).variables * 16 ≤ length s → length (frame.variables_in (frame_part w)) * 16 ≤ length (mid_of v (length s - v) s)
unfolding view
variables_room s w v stored h = omega (arith, length_part s v (omega arith))

pub variables_put : (s x w : List ℕ) (v stored : ℕ) → v + length (view w stored).variables * 16 ≤ length s
    → x ≡ variables_body (frame.variables_in (frame_part w)) ++ drop (length (frame.variables_in (frame_part w)) * 16) (mid_of v (length s - v) s)
    → put_mid v (length s - v) s x ≡ sets s v (variables_body (view w stored).variables)
unfolding view
variables_put s x w v stored h e =
    let m = frame.variables_in (frame_part w) in
    rest_stored s x (variables_body m) v (length m * 16) (sym (length_body m)) h e

pub memory_put : (s x w : List ℕ) (v stored : ℕ) → v + stored * 9 ≤ length s → x ≡ memory_body (view w stored).memory ++ drop (stored * 9) (mid_of v (length s - v) s)
    → put_mid v (length s - v) s x ≡ sets s v (memory_body (view w stored).memory)
memory_put s x w v stored h e =
    let m = (view w stored).memory in
    let l : stored * 9 ≡ length (memory_body m) = omega (arith, length_memory m, length_stored w stored) in
    rest_stored s x (memory_body m) v (stored * 9) l h e
