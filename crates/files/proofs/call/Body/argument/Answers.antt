use mathlib.Core.Path.{sym, ◌∙◌}
use Prim.Native.Nat.{◌-◌, ◌/◌}
use native.Mathlib.Nat.{zero-add}
use lib.ListN.{length}
use Rattle.files.specs.Call.{argument_at}
use Rattle.files.proofs.ListedLaws.{length_listed, get_d_listed}
use Rattle.files.proofs.call.Body.argument.Goals as goal

pub returns : goal.returns
returns c = let k = c.args.k in
    let b = c.args.self.bytes.now in
    c.get.ensures.number ∙ sym (get_d_listed (argument_at b) 0 ((length b - 8) / 8) k 0 (rw length_listed at c.requires) ∙ rw zero-add)
