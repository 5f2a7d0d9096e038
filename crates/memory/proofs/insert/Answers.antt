use Rattle.std.proofs.Common.{refl}
use Rattle.memory.proofs.RunLaws.{too_many, spliced}
use Rattle.memory.proofs.insert.Goals as goal

pub returns-then-next-gt-LIMIT : goal.returns-then-next-gt-LIMIT
returns-then-next-gt-LIMIT c = (too_many c.args.part.now c.args.count c.requires.0 c.args.span c.args.run.address c.args.run.number c.args.run.bytes c.requires.1 c.args.run.no_wrap c.if-next-gt-LIMIT.true, refl)

pub returns : goal.returns
returns c = let r = c.args.run in
    spliced c.args.part.now c.slide_both.new.part c.put_run.new.part c.put.new.s c.args.count c.requires.0 c.args.span r.address r.number r.bytes
    (record { span = c.requires.1; some_bytes = r.some; no_wrap = r.no_wrap; few = c.if-next-gt-LIMIT.false })
    c.first_of-first.result c.place-to.result c.first_of-first.ensures c.place-to.ensures c.slide_both.auto.part c.slide_both.ensures.0 c.slide_both.ensures.1 c.put_run.ensures c.put.ensures
