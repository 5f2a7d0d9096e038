-- The tables of a workspace: read, and after a code is put. What changes as a routine runs stands before them. Assumes nothing.
use mathlib.Core.Path.{◌≡◌, sym, ap, ap₂, ◌∙◌}
use mathlib.Core.List.{List, [], ◌∷◌}
use Rattle.std.specs.Prelude.{Option, Some}
use Prim.Native.Nat.{ℕ, ◌+◌, ◌*◌, ◌%◌, ◌≤◌, ◌<◌}
use native.Mathlib.Nat.{zero-add, add-zero}
use native.Mathlib.Numerals.{add-one}
use native.Mathlib.Omega.{arith}
use lib.ListN.{length, take, drop, length-drop}
use lib.Seq.{sets, length-sets, take-take, length-take-le}
use Rattle.layout.specs.Number.{le, number_at, put_number}
use Rattle.layout.proofs.StoreLaws.{take_sets, number_above}
use Rattle.value.specs.declared.Ty.{Ty}
use Rattle.memory.proofs.OverlayLaws.{below, equal, above, compared}
use Rattle.workspace.specs.Parts.{part, workspace_size, memory_size, frame_place, frame_size, note_place, note_size, tables_place, tables_size, memory_part, frame_part, note_part, tables, declared_size, types_place, types_size, symbols_place, symbols_size, regions_place, regions_size, blocks_place, blocks_size, declared_part, types_part, symbols_part, regions_part, blocks_part}
use Rattle.workspace.specs.Variables.{name_limit}
use Rattle.workspace.specs.Types.{type_limit, code_of, code_if, type_of_code, type_if_code, declared_at, type_at, pointee_at, Coded, CodedIf}
use Rattle.workspace.specs.View.{view}
use Rattle.workspace.specs.Post.{Kept, SameIndexes, Declares, PutsType}
use Rattle.workspace.proofs.PartLaws.{part_front, part_sets, part_below, take_sets_in, number_part, number_stored, number_below}
use Rattle.workspace.proofs.CodeLaws.{code_small, code_back, if_small, if_back}

-- ---- what stands before the tables

pub kept : (w w' : List ℕ) → take tables_place w' ≡ take tables_place w → length w' ≡ length w → Kept w w'
unfolding view memory_part frame_part note_part
kept w w' e size =
    let m : take memory_size w' ≡ take memory_size w = sym (take-take memory_size tables_place w' (omega arith)) ∙ ap (take memory_size) e ∙ take-take memory_size tables_place w (omega arith) in
    let f : part frame_place frame_size w' ≡ part frame_place frame_size w = part_front frame_place frame_size tables_place w w' (omega arith) e in
    let n : part note_place note_size w' ≡ part note_place note_size w = part_front note_place note_size tables_place w w' (omega arith) e in
    record {
      holds = λ stored. rw (m, f, n);
      fit = λ stored h. record { room = omega (arith, h.room, size); sorted = rw m h.sorted; few = rw n h.few };
      size = size;
    }

-- ---- codes read

module _ (w : List ℕ) where
  table_number : (i k : ℕ) → i + k ≤ tables_size → number_at (tables w) i k ≡ number_at w (tables_place + i) k
  unfolding tables
  table_number i k h = number_part w tables_place tables_size i k h

  declared_number : (x : ℕ) → x < name_limit → number_at (declared_part (tables w)) x 1 ≡ number_at w (tables_place + x) 1
  unfolding declared_part
  declared_number x h = number_part (tables w) 0 declared_size x 1 (omega arith) ∙ rw zero-add (table_number x 1 (omega arith))

  types_number : (d : ℕ) → d < types_size → number_at (types_part (tables w)) d 1 ≡ number_at w (tables_place + (types_place + d)) 1
  unfolding types_part
  types_number d h = number_part (tables w) types_place types_size d 1 (omega arith) ∙ table_number (types_place + d) 1 (omega arith)

  pub reads_declared : (x : ℕ) (r : Option Ty) → x < name_limit → r ≡ type_if_code (number_at w (tables_place + x) 1) → r ≡ declared_at (tables w) x
  unfolding declared_at
  reads_declared x r h e = e ∙ sym (ap type_if_code (declared_number x h))

  pub reads_type : (i c : ℕ) (t : Ty) → i < type_limit → c ≡ number_at w (tables_place + types_place + i * 2) 1 → t ≡ type_of_code c → t ≡ type_at (tables w) i
  unfolding type_at
  reads_type i c t h e p =
      let k : tables_place + (types_place + i * 2) ≡ tables_place + types_place + i * 2 = omega arith in
      p ∙ ap type_of_code (e ∙ sym (types_number (i * 2) (omega arith) ∙ ap (λ (j : ℕ). number_at w j 1) k))

  pub reads_pointee : (i : ℕ) (r : Option Ty) → i < type_limit → r ≡ type_if_code (number_at w (tables_place + types_place + i * 2 + 1) 1) → r ≡ pointee_at (tables w) i
  unfolding pointee_at
  reads_pointee i r h e =
      let k : tables_place + (types_place + (i * 2 + 1)) ≡ tables_place + types_place + i * 2 + 1 = omega arith in
      e ∙ sym (ap type_if_code (types_number (i * 2 + 1) (omega arith) ∙ ap (λ (j : ℕ). number_at w j 1) k))

-- ---- a code put in the tables t

module _ (t vs : List ℕ) (i : ℕ) where
  in_declared : i + length vs ≤ declared_size → declared_part (sets t i vs) ≡ sets (declared_part t) i vs
  unfolding declared_part
  in_declared h = take_sets_in vs t i declared_size h

  past_declared : declared_size ≤ i → declared_part (sets t i vs) ≡ declared_part t
  unfolding declared_part
  past_declared h = take_sets vs t i declared_size h

  before_types : i + length vs ≤ types_place → types_part (sets t i vs) ≡ types_part t
  unfolding types_part
  before_types h = part_below types_place types_size i t vs h

  in_types : types_place ≤ length t → i + length vs ≤ types_size → types_part (sets t (types_place + i) vs) ≡ sets (types_part t) i vs
  unfolding types_part
  in_types h l = part_sets types_place types_size i t vs h l

  before_indexes : i + length vs ≤ symbols_place → SameIndexes t (sets t i vs)
  unfolding symbols_part regions_part blocks_part
  before_indexes h = record {
    symbols = part_below symbols_place symbols_size i t vs (omega arith);
    regions = part_below regions_place regions_size i t vs (omega arith);
    blocks = part_below blocks_place blocks_size i t vs (omega arith);
  }

-- stored in the tables of a workspace
module _ (w vs : List ℕ) (i : ℕ) (room : workspace_size ≤ length w) where
  tables_stored : i + length vs ≤ tables_size → tables (sets w (tables_place + i) vs) ≡ sets (tables w) i vs
  unfolding tables
  tables_stored h = part_sets tables_place tables_size i w vs (omega arith) h

  tables_kept : Kept w (sets w (tables_place + i) vs)
  tables_kept = kept w (sets w (tables_place + i) vs) (take_sets vs w (tables_place + i) tables_place (omega arith)) (length-sets w (tables_place + i) vs)

length_tables : (w : List ℕ) → workspace_size ≤ length w → length (tables w) ≡ tables_size
unfolding tables
length_tables w h = length-take-le tables_size (drop tables_place w) (rw length-drop (omega arith))

-- ---- a name declared

module _ (t : List ℕ) (x c : ℕ) (room : declared_size ≤ length t) (few : x < name_limit) where
  declared_here : c < 256 → declared_at (sets t x (le 1 c)) x ≡ type_if_code c
  unfolding declared_at declared_part number_at
  declared_here small =
      let l : x + 1 ≤ length (declared_part t) = rw (length-take-le declared_size t room) (omega arith) in
      let n : c % 256 % 256 + 256 * 0 ≡ c = omega arith in
      ap (λ (s : List ℕ). type_if_code (number_at s x 1)) (in_declared t (le 1 c) x (omega arith))
      ∙ ap (λ (k : ℕ). type_if_code (number_at (sets (declared_part t) x (le 1 c)) k 1)) (sym (add-zero x))
      ∙ ap type_if_code (number_stored (declared_part t) (le 1 c) x 0 1 l (omega arith) ∙ n)

  declared_else : (y : ℕ) → (y ≡ x → ⊥) → declared_at (sets t x (le 1 c)) y ≡ declared_at t y
  unfolding declared_at
  declared_else y d =
      let e = in_declared t (le 1 c) x (omega arith) in
      ap (λ (s : List ℕ). type_if_code (number_at s y 1)) e ∙ ap type_if_code (elim (compared y x) [
        | below k z ↦ number_above (declared_part t) (le 1 c) x y 1 (omega arith)
        | equal k z ↦ absurd (d k)
        | above k z ↦ number_below (declared_part t) (le 1 c) x y 1 (omega arith)
      ])

pub declares : (w : List ℕ) (x c : ℕ) (t : Ty) → workspace_size ≤ length w → x < name_limit → Coded t → c ≡ code_of t → Declares w x t (put_number w (tables_place + x) 1 c)
unfolding put_number type_at pointee_at code_if
declares w x c t room few h p =
    let s = sets w (tables_place + x) (le 1 c) in
    let b : tables s ≡ sets (tables w) x (le 1 c) = tables_stored w (le 1 c) x room (omega arith) in
    let l : declared_size ≤ length (tables w) = omega (arith, length_tables w room) in
    let k : types_part (tables s) ≡ types_part (tables w) = ap types_part b ∙ before_types (tables w) (le 1 c) x (omega arith) in
    let small : c < 256 = omega (arith, p, code_small t h) in
    record {
      kept = tables_kept w (le 1 c) x room;
      here = ap (λ (z : List ℕ). declared_at z x) b ∙ declared_here (tables w) x c l few small ∙ ap type_if_code p ∙ if_back (Some t) h;
      others = λ y d. ap (λ (z : List ℕ). declared_at z y) b ∙ declared_else (tables w) x c l few y d;
      types = λ i. ap (λ (z : List ℕ). type_of_code (number_at z (i * 2) 1)) k;
      pointees = λ i. ap (λ (z : List ℕ). type_if_code (number_at z (i * 2 + 1) 1)) k;
      indexes = rw b (before_indexes (tables w) (le 1 c) x (omega arith));
    }

-- ---- a type put, with what it points at

module _ (t : List ℕ) (i c d : ℕ) (room : symbols_place ≤ length t) (few : i < type_limit) where
  abbrev codes : List ℕ
  codes = c % 256 ∷ d % 256 ∷ []

  abbrev put : List ℕ
  put = sets t (types_place + i * 2) codes

  codes_fit : i * 2 + 2 ≤ length (types_part t)
  unfolding types_part
  codes_fit = rw (length-take-le types_size (drop types_place t) (rw length-drop (omega arith))) (omega arith)

  types_put : types_part put ≡ sets (types_part t) (i * 2) codes
  types_put = in_types t codes (i * 2) (omega arith) (omega arith)

  type_here : c < 256 → type_at put i ≡ type_of_code c
  unfolding type_at number_at
  type_here small =
      let n : c % 256 % 256 + 256 * 0 ≡ c = omega arith in
      ap (λ (s : List ℕ). type_of_code (number_at s (i * 2) 1)) types_put
      ∙ ap (λ (k : ℕ). type_of_code (number_at (sets (types_part t) (i * 2) codes) k 1)) (sym (add-zero (i * 2)))
      ∙ ap type_of_code (number_stored (types_part t) codes (i * 2) 0 1 codes_fit (omega arith) ∙ n)

  pointee_here : d < 256 → pointee_at put i ≡ type_if_code d
  unfolding pointee_at number_at
  pointee_here small =
      let n : d % 256 % 256 + 256 * 0 ≡ d = omega arith in
      ap (λ (s : List ℕ). type_if_code (number_at s (i * 2 + 1) 1)) types_put
      ∙ ap type_if_code (number_stored (types_part t) codes (i * 2) 1 1 codes_fit (omega arith) ∙ n)

  code_else : (j k : ℕ) → (j ≡ i → ⊥) → k < 2 → number_at (types_part put) (j * 2 + k) 1 ≡ number_at (types_part t) (j * 2 + k) 1
  code_else j k z h =
      ap (λ (s : List ℕ). number_at s (j * 2 + k) 1) types_put ∙ elim (compared j i) [
        | below q e ↦ number_above (types_part t) codes (i * 2) (j * 2 + k) 1 (omega arith)
        | equal q e ↦ absurd (z q)
        | above q e ↦ number_below (types_part t) codes (i * 2) (j * 2 + k) 1 (omega arith)
      ]

pub puts_type : (w v w' : List ℕ) (i c d : ℕ) (t : Ty) (o : Option Ty) → workspace_size ≤ length w → i < type_limit → Coded t → CodedIf o → c ≡ code_of t → d ≡ code_if o
    → v ≡ put_number w (tables_place + types_place + i * 2) 1 c → w' ≡ put_number v (tables_place + types_place + i * 2 + 1) 1 d → PutsType w i t o w'
unfolding put_number type_at pointee_at declared_at
puts_type w v w' i c d t o room few h g p q e f =
    let vs = c % 256 ∷ d % 256 ∷ [] in
    let j : tables_place + types_place + i * 2 ≡ tables_place + (types_place + i * 2) = omega arith in
    let s = sets w (tables_place + (types_place + i * 2)) vs in
    let z : w' ≡ s = f ∙ ap₂ (λ (l : List ℕ) (k : ℕ). sets l k (le 1 d)) e (add-one (tables_place + types_place + i * 2)) ∙ ap (λ (k : ℕ). sets w k vs) j in
    let b : tables s ≡ sets (tables w) (types_place + i * 2) vs = tables_stored w vs (types_place + i * 2) room (omega arith) in
    let l : symbols_place ≤ length (tables w) = omega (arith, length_tables w room) in
    rw z (record {
      kept = tables_kept w vs (types_place + i * 2) room;
      here = ap (λ (y : List ℕ). type_at y i) b ∙ type_here (tables w) i c d l few (omega (arith, p, code_small t h)) ∙ ap type_of_code p ∙ code_back t h;
      there = ap (λ (y : List ℕ). pointee_at y i) b ∙ pointee_here (tables w) i c d l few (omega (arith, q, if_small o g)) ∙ ap type_if_code q ∙ if_back o g;
      types = λ k n. ap (λ (y : List ℕ). type_at y k) b ∙ ap type_of_code (rw add-zero at (code_else (tables w) i c d l few k 0 n (omega arith)));
      pointees = λ k n. ap (λ (y : List ℕ). pointee_at y k) b ∙ ap type_if_code (code_else (tables w) i c d l few k 1 n (omega arith));
      declared = λ x. ap (λ (y : List ℕ). declared_at y x) b ∙ ap (λ (y : List ℕ). type_if_code (number_at y x 1)) (past_declared (tables w) vs (types_place + i * 2) (omega arith));
      indexes = rw b (before_indexes (tables w) vs (types_place + i * 2) (omega arith));
    })
