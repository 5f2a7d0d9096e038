use borrow.Author.Rules.{rules}
use Rattle.text.proofs.PutLaws.{pushed_as, room_new, put_whole}
use Rattle.text.proofs.Short.{header_short}
use Rattle.text.proofs.NameLaws.{header_read}
use Rattle.text.proofs.header.Goals as goal

pub header-requires : goal.header-requires
header-requires c = room_new c.new-line.result _ c.new-line.ensures.empty c.requires (header_short c.name.result.names.body.now c.name.result.number c.address.result)

pub returns : goal.returns
returns c =
    put_whole (pushed_as c.header.ensures (header_read c.name.result c.name.ensures c.address.ensures)) c.new-line.ensures.empty (search rules) c.len.ensures (header_short c.args.head.names.body.now _ _)
