use Rattle.memory.proofs.RunLaws.{put_beside}
use Rattle.memory.proofs.put_beside.Goals as goal

pub returns : goal.returns
returns c = put_beside c.args.part.now c.put_run.new.part c.put.new.s c.args.count c.requires.sorted.0 c.args.span c.args.run.address c.args.run.number c.args.run.bytes c.args.to c.requires.sorted.1
    c.requires.unmoved c.put_run.ensures c.put.ensures
