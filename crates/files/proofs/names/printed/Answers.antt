use borrow.Author.Rules.{rules}
use Rattle.files.proofs.NameLaws.{printable_on, printable_end}
use Rattle.files.proofs.names.printed.Goals as goal

pub loop-i-preserved : goal.loop-i-preserved
loop-i-preserved c = search (rules, printable_on)

pub returns : goal.returns
returns c = search (rules, printable_end)
