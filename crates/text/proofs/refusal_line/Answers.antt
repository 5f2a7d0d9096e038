use mathlib.Core.List.{◌++◌}
use Rattle.layout.specs.Text.{text}
use Rattle.definition.specs.Numerals.{decimal}
use borrow.Author.Rules.{rules}
use Rattle.text.proofs.PutLaws.{room_new, put_whole}
use Rattle.text.proofs.Short.{refusal_short}
use Rattle.text.proofs.refusal_line.Goals as goal

pub refusal-requires : goal.refusal-requires
refusal-requires c = room_new c.new-line.result (text "; refused " ++ (decimal c.args.number ++ text "\n")) c.new-line.ensures.empty c.requires (refusal_short c.args.number)

pub returns : goal.returns
returns c = put_whole c.refusal.ensures c.new-line.ensures.empty (search rules) c.len.ensures (refusal_short c.args.number)
