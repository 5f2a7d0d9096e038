-- The workspace's length, where it is ready and after a call. Assumes nothing.
use mathlib.Core.Path.{◌≡◌}
use mathlib.Core.List.{List}
use Prim.Native.Nat.{ℕ, ◌≤◌}
use native.Mathlib.Omega.{arith}
use lib.ListN.{length}
use Rattle.workspace.specs.Parts.{workspace_size}
use Rattle.hosting.specs.declared.How.{How}
use Rattle.hosting.specs.Scene.{Given}
use Rattle.operations.specs.Going.{ReadyIn}

pub room_in : {g : How → Given} {w : List ℕ} → ReadyIn g w → workspace_size ≤ length w
room_in p = p.ready.fit.room

pub room_after : {g : How → Given} (w w' : List ℕ) → ReadyIn g w → length w' ≡ length w → workspace_size ≤ length w'
room_after w w' p e = omega (arith, p.ready.fit.room, e)
