use Rattle.std.proofs.Common.{ap, ◌∙◌}
use Rattle.definition.specs.Act.{branch_unknown, switch_unknown, no_case, struct_to, unknown_address, unknown_value, no_width, store_to}
use Rattle.definition.specs.Listing.{why_text}
use Rattle.files.specs.Program.{texts_in}
use Rattle.text.proofs.StopText.{why_is, width_is}
use Rattle.text.proofs.bodies.StopBytes.why.Goals as goal

pub returns-in-BranchUnknown : goal.returns-in-BranchUnknown
returns-in-BranchUnknown c = ap (why_text (texts_in c.args.self.names.body.now)) (ap branch_unknown c.node.ensures ∙ why_is c.args.self.bytes.now c.reason.ensures c.in-BranchUnknown.is)

pub returns-in-SwitchUnknown : goal.returns-in-SwitchUnknown
returns-in-SwitchUnknown c = ap (why_text (texts_in c.args.self.names.body.now)) (ap switch_unknown c.node-in-SwitchUnknown.ensures ∙ why_is c.args.self.bytes.now c.reason.ensures c.in-SwitchUnknown.is)

pub returns-in-NoCase : goal.returns-in-NoCase
returns-in-NoCase c = ap (why_text (texts_in c.args.self.names.body.now)) (ap no_case c.number.ensures ∙ why_is c.args.self.bytes.now c.reason.ensures c.in-NoCase.is)

pub returns-in-StructTo : goal.returns-in-StructTo
returns-in-StructTo c = ap (why_text (texts_in c.args.self.names.body.now)) (ap struct_to c.node-in-StructTo.ensures ∙ why_is c.args.self.bytes.now c.reason.ensures c.in-StructTo.is)

pub returns-in-UnknownAddress : goal.returns-in-UnknownAddress
returns-in-UnknownAddress c = ap (why_text (texts_in c.args.self.names.body.now)) (ap unknown_address c.node-in-UnknownAddress.ensures ∙ why_is c.args.self.bytes.now c.reason.ensures c.in-UnknownAddress.is)

pub returns-in-UnknownValue : goal.returns-in-UnknownValue
returns-in-UnknownValue c = ap (why_text (texts_in c.args.self.names.body.now)) (ap unknown_value c.number-in-UnknownValue.ensures ∙ why_is c.args.self.bytes.now c.reason.ensures c.in-UnknownValue.is)

pub returns-in-NoWidth : goal.returns-in-NoWidth
returns-in-NoWidth c = ap (why_text (texts_in c.args.self.names.body.now)) (ap no_width c.get.ensures.number ∙ why_is c.args.self.bytes.now c.reason.ensures c.in-NoWidth.is)

pub returns-in-StoreTo : goal.returns-in-StoreTo
returns-in-StoreTo c = ap (why_text (texts_in c.args.self.names.body.now)) (ap store_to c.node-in-StoreTo.ensures ∙ why_is c.args.self.bytes.now c.reason.ensures c.in-StoreTo.is)

pub returns-in-ByZero : goal.returns-in-ByZero
returns-in-ByZero c = ap (why_text (texts_in c.args.self.names.body.now)) (why_is c.args.self.bytes.now c.reason.ensures c.in-ByZero.is)

pub invariant_of-result : goal.invariant_of-result
invariant_of-result c = record { there = rw c.get.ensures.number (c.args.self.there.named (width_is c.args.self.bytes.now c.reason.ensures c.in-NoWidth.is)) }
