-- Parts of a workspace that are zero throughout: nothing is set, stored, noted or declared. Assumes nothing.
use mathlib.Core.Path.{◌≡◌, refl}
use mathlib.Core.List.{List, [], ◌∷◌}
use Rattle.std.specs.Prelude.{None}
use Prim.Native.Nat.{ℕ, zero, suc, ◌*◌, ◌≤◌}
use native.Mathlib.Omega.{arith}
use lib.ListN.{length, drop, replicate}
use lib.Seq.{length-take-le}
use Rattle.layout.specs.Each.{Each}
use Rattle.layout.specs.Number.{num, number_at}
use Rattle.layout.proofs.StoreLaws.{all_take, all_drop}
use Rattle.memory.specs.Entries.{Sorted, entries, row_of, first}
use Rattle.workspace.specs.Parts.{part, workspace_size, memory_size, memory_part, frame_part, note_part, declared_part}
use Rattle.workspace.specs.Variables.{slot_size, name_limit, slot_at, variables_in}
use Rattle.workspace.specs.Note.{pending_in}
use Rattle.workspace.specs.Types.{declared_at}
use Rattle.workspace.specs.View.{view, fresh, Fit}
use Rattle.workspace.proofs.VariableLaws.{those_none}
use Rattle.workspace.proofs.CodeLaws.{no_code}

abbrev pub Zeros : List ℕ → Type 0
Zeros s = Each (λ b. b ≡ 0) s

pub zeros_replicate : (n : ℕ) → Zeros (replicate n 0)
zeros_replicate zero = tt
zeros_replicate (suc n) = (refl, zeros_replicate n)

zeros_num : (s : List ℕ) → Zeros s → num s ≡ 0
zeros_num [] z = refl
zeros_num (b ∷ s) z = omega (arith, z.0, zeros_num s z.1)

zeros_number : (s : List ℕ) (i k : ℕ) → Zeros s → number_at s i k ≡ 0
unfolding number_at
zeros_number s i k z = zeros_num (part i k s) (all_take (λ b. b ≡ 0) k (drop i s) (all_drop (λ b. b ≡ 0) i s z))

slot_none : (f : List ℕ) (x : ℕ) → Zeros f → slot_at f x ≡ None
unfolding slot_at
slot_none f x z = rw (zeros_number f (x * slot_size) 1 z, slot_at)

variables_none : (f : List ℕ) → Zeros f → variables_in f ≡ []
unfolding variables_in
variables_none f z = those_none (slot_at f) 0 name_limit (λ x. slot_none f x z)

pending_none : (p : List ℕ) → Zeros p → pending_in p ≡ None
unfolding pending_in
pending_none p z = rw (zeros_number p 0 1 z, pending_in)

pub declared_none : (t : List ℕ) (x : ℕ) → Zeros (declared_part t) → declared_at t x ≡ None
unfolding declared_at
declared_none t x z = no_code (number_at (declared_part t) x 1) (zeros_number (declared_part t) x 1 z)

entries_none : (s : List ℕ) → entries s 0 ≡ []
unfolding entries row_of
entries_none s = refl

sorted_none : (s : List ℕ) → memory_size ≤ length s → Sorted s 0
unfolding first
sorted_none s h = record { room = h; placed = omega arith; ascending = rw (entries_none s) tt }

-- whatever stands where memory is
pub fresh_parts : (w : List ℕ) → workspace_size ≤ length w → Zeros (frame_part w) → Zeros (note_part w) → (view w 0 ≡ fresh) × Fit w 0
unfolding view memory_part
fresh_parts w room frame note =
    let f : variables_in (frame_part w) ≡ [] = variables_none (frame_part w) frame in
    let p : pending_in (note_part w) ≡ None = pending_none (note_part w) note in
    let l : length (memory_part w) ≡ memory_size = length-take-le memory_size w (omega arith) in
    (rw (f, p, entries_none (memory_part w)), record { room = room; sorted = sorted_none (memory_part w) (omega (arith, l)); few = rw p (omega arith) })
