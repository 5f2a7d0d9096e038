-- `put_unspelled` meets its contract. Assumes nothing.
use Rattle.std.proofs.Common.{[], rules}
use Rattle.setup.proofs.TypeLaws.{coded_type}
use Rattle.setup.proofs.SpellLaws.{unspelled_more}
use Rattle.setup.proofs.texts.put_unspelled.Goals as goal

pub put_type-requires : goal.put_type-requires
put_type-requires c = (search rules, search rules, coded_type [] c.type_of-ty.ensures, tt)

pub loop-i-preserved : goal.loop-i-preserved
loop-i-preserved c = unspelled_more (search rules) c.loop-i.invariant c.type_of-ty.ensures c.put_type.ensures
