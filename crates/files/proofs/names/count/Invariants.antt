-- The last text ends where the next one starts.
use mathlib.Core.Path.{◌≡◌}
use Prim.Native.Nat.{◌≤◌, ◌-◌}
use lib.ListN.{length}
use Rattle.files.specs.Bytes.{part}
use Rattle.files.specs.Items.{read_from}
use Rattle.files.specs.Names.{last, text_items, counted}
use Rattle.files.proofs.names.count.Given as goal

abbrev pub invariant-loop-i : goal.invariant-loop-i
invariant-loop-i l = record {
  counts : counted l.texts l.b ≡ read_from (text_items l.texts l.b) (length l.b) (last l.n (l.i - length l.prior) l.i) l.i;
  prior : l.prior ≡ part (l.i - length l.prior) l.i l.b;
  within : l.i ≤ length l.b;
  few : l.n ≤ l.i;
}

abbrev pub decreases-loop-i : goal.decreases-loop-i
decreases-loop-i l = length l.b - l.i
