-- The units of a walk as the code counts them. Assumes nothing.
use Rattle.std.specs.Prelude.{Bool, ◌+◌, ◌^◌, ◌<◌}
use Rattle.hosting.specs.declared.Tally.{Tally}
use Rattle.hosting.specs.declared.Counts.{Counts}
use Rattle.hosting.specs.Held.{paid_tally}

-- those left and those spent can be counted
pub record Balanced (t : Tally) : Type 0 where
  pub fits : t.left + t.entered + t.steps < 2 ^ 64

-- one is spent, on a block or on a statement
abbrev pub paid_counts : Bool → Counts → Counts
paid_counts block a = record { stored = a.stored; tally = paid_tally a.tally.left block a.tally }
