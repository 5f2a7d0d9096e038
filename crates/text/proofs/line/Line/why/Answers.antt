use Rattle.text.proofs.PutLaws.{pushed_of, pushed_then}
use Rattle.text.specs.Told.{why_said}
use Rattle.text.proofs.line.Line.why.Goals as goal

pub returns-in-BranchUnknown : goal.returns-in-BranchUnknown
returns-in-BranchUnknown c = pushed_of why_said c.in-BranchUnknown.is (pushed_then c.text.ensures (pushed_then c.node.ensures c.text-in-BranchUnknown.ensures))

pub returns-in-SwitchUnknown : goal.returns-in-SwitchUnknown
returns-in-SwitchUnknown c = pushed_of why_said c.in-SwitchUnknown.is (pushed_then c.text-in-SwitchUnknown.ensures (pushed_then c.node-in-SwitchUnknown.ensures c.text-in-SwitchUnknown-2.ensures))

pub returns-in-UnknownAddress : goal.returns-in-UnknownAddress
returns-in-UnknownAddress c = pushed_of why_said c.in-UnknownAddress.is (pushed_then c.text-in-UnknownAddress.ensures (pushed_then c.node-in-UnknownAddress.ensures c.text-in-UnknownAddress-2.ensures))

pub returns-in-NoWidth : goal.returns-in-NoWidth
returns-in-NoWidth c = pushed_of why_said c.in-NoWidth.is (pushed_then c.text-in-NoWidth.ensures (pushed_then c.name.ensures c.text-in-NoWidth-2.ensures))
