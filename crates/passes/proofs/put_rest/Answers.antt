use Rattle.passes.proofs.Completing.{laid, completes}
use Rattle.passes.proofs.Files.{all_fine}
use Rattle.passes.proofs.put_rest.Goals as goal

pub put_bodies-requires : goal.put_bodies-requires
put_bodies-requires c = laid _ _ _ _ _ _ _ _ _ (all_fine c.args.files) c.put_questions-at.ensures c.requires.exact

pub returns : goal.returns
returns c = completes _ _ _ _ _ c.requires.ended _ _ _ _ _ _ c.requires.exact _ _ c.limits.ensures.0 c.questions_place-q.ensures c.put_questions-at.ensures c.put_bodies.ensures
