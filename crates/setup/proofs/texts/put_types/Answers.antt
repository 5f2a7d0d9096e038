-- `put_types` meets its contract. Assumes nothing.
use Rattle.std.proofs.Common.{rules}
use Rattle.setup.proofs.TypeLaws.{coded_type}
use Rattle.setup.proofs.SpellLaws.{coded_pointee, spell_text, spell_rest}
use Rattle.setup.proofs.texts.put_types.Goals as goal

pub put_type-requires : goal.put_type-requires
put_type-requires c = (search rules, search rules, coded_type c.in-Some.text.now c.type_of.ensures, coded_pointee c.in-Some.text.now c.points_at.ensures)

pub loop-i-preserved : goal.loop-i-preserved
loop-i-preserved c = spell_text c.loop-i.invariant c.type_of.ensures c.points_at.ensures c.put_type.ensures (search rules)

pub returns-in-None : goal.returns-in-None
returns-in-None c = spell_rest c.loop-i.invariant c.in-None.ensures.steps.0 c.put_unspelled.ensures
