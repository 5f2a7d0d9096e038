use borrow.Author.Rules.{rules}
use Rattle.text.proofs.PutLaws.{pushed_as, room_new, put_whole}
use Rattle.text.proofs.Short.{variable_short}
use Rattle.text.proofs.NameLaws.{variable_read}
use Rattle.text.proofs.variable_line.Goals as goal

pub variable-requires : goal.variable-requires
variable-requires c = room_new c.new-line.result _ c.new-line.ensures.empty c.requires (variable_short c.name.result.names.body.now (c.name.result.number, c.value.result))

pub returns : goal.returns
returns c =
    put_whole (pushed_as c.variable.ensures (variable_read c.name.result c.name.ensures c.value.ensures)) c.new-line.ensures.empty (search rules) c.len.ensures
    (variable_short c.args.variable.names.body.now _)
