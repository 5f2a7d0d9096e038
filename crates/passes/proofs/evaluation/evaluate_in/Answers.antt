use native.Mathlib.Omega.{arith}
use Rattle.setup.proofs.Rooting.{constant_stands}
use Rattle.operations.proofs.Entering.{enters_ready}
use Rattle.passes.proofs.Constancy.{eval_ready, eval_fine, evaluates}
use Rattle.passes.proofs.evaluation.evaluate_in.Goals as goal

pub eval-requires : goal.eval-requires
eval-requires c = record { ready_in = enters_ready c.enter.ensures (eval_ready c.nodes-nodes.ensures c.no_counts-at.ensures c.requires.constant_tabled); fine = eval_fine _ c.nodes-nodes.ensures (constant_stands _ _ c.requires.constant_accepted) }

pub returns : goal.returns
returns c = evaluates _ _ _ _ _ _ _ _ _ _ _ (omega arith) (omega arith) c.nodes-nodes.ensures c.no_counts-at.ensures (constant_stands _ _ c.requires.constant_accepted) c.requires.constant_tabled c.enter.ensures c.eval.ensures
