use Rattle.layout.specs.Each.{Bytes}
use Rattle.layout.proofs.StoreLaws.{each_byte}
use Rattle.workspace.proofs.NoteLaws.{names_there}
use borrow.Author.Rules.{rules}
use Rattle.workspace.proofs.note.names.Goals as goal

pub returns : goal.returns
returns c = let w = c.args.ws.now in
    let all : Bytes w = each_byte w (λ i. (c.type_inv.ws i).fits) in
    search (rules, names_there, all)
