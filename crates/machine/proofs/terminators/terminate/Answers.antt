use Rattle.machine.proofs.TerminatorLaws.{branch_stands, switch_stands, terminates_return, terminates_goto, terminates_branch, terminates_switch}
use Rattle.hosting.proofs.Shapes.{fine}
use borrow.Author.Rules.{rules}
use Rattle.machine.proofs.terminators.terminate.Goals as goal

pub eval-e-requires-clause-fine : goal.eval-e-requires-clause-fine
eval-e-requires-clause-fine c = fine (branch_stands c.requires.placing c.terminator_at-t.ensures c.in-Branch.is)

pub eval-e-requires-in-Switch-clause-fine : goal.eval-e-requires-in-Switch-clause-fine
eval-e-requires-in-Switch-clause-fine c = fine (switch_stands c.requires.placing c.terminator_at-t.ensures c.in-Switch.is)

pub returns-in-Return : goal.returns-in-Return
returns-in-Return c = search (rules, terminates_return)

pub returns-in-Goto : goal.returns-in-Goto
returns-in-Goto c = search (rules, terminates_goto)

pub returns-in-Branch : goal.returns-in-Branch
returns-in-Branch c = terminates_branch c.terminator_at-t.ensures c.requires.placing c.eval-e.ensures c.lead_on.ensures c.in-Branch.is (search rules)

pub returns-in-Switch : goal.returns-in-Switch
returns-in-Switch c = terminates_switch c.terminator_at-t.ensures c.requires.placing c.eval-e-in-Switch.ensures c.lead_on-in-Switch.ensures c.in-Switch.is (search rules)
