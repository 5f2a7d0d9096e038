use Rattle.layout.proofs.StoreLaws.{part_stored}
use Rattle.std.proofs.Common.{arith, ◌∙◌, ap}
use Rattle.std.proofs.lemmas.List.Edits.{sets}
use Rattle.stream.proofs.put_bytes.Goals as goal

pub returns : goal.returns
returns c = part_stored c.args.part.now c.copy_from_slice.new.self c.args.at c.args.n (omega arith) (omega arith) ∙ ap (sets c.args.part.now c.args.at) c.copy_from_slice.ensures.after
