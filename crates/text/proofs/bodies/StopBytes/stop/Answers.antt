use Rattle.std.proofs.Common.{ap, ap₂, ◌∙◌}
use Rattle.std.specs.Prelude.{List, [], ◌++◌, ℕ, Option, Some}
use Rattle.value.specs.declared.Val.{Val}
use Rattle.definition.specs.Statements as stop
use Rattle.definition.specs.Listing.{stopped_text, stop_text}
use Rattle.files.specs.Program.{texts_in}
use Rattle.text.proofs.StopText.{stop_is}
use Rattle.text.proofs.bodies.StopBytes.stop.Goals as goal

pub returns-in-Returned : goal.returns-in-Returned
returns-in-Returned c = ap (stop_text (texts_in c.args.self.names.body.now)) (ap (λ (v : Val). stop.Returned (Some v)) c.get_val.ensures ∙ stop_is c.args.self.bytes.now c.kind.ensures c.in-Returned.is)

pub returns-in-ReturnedNothing : goal.returns-in-ReturnedNothing
returns-in-ReturnedNothing c = ap (stop_text (texts_in c.args.self.names.body.now)) (stop_is c.args.self.bytes.now c.kind.ensures c.in-ReturnedNothing.is)

pub returns-in-Steps : goal.returns-in-Steps
returns-in-Steps c = ap (stop_text (texts_in c.args.self.names.body.now)) (ap stop.Steps c.number.ensures ∙ stop_is c.args.self.bytes.now c.kind.ensures c.in-Steps.is)

pub returns-in-Unknown : goal.returns-in-Unknown
returns-in-Unknown c =
    ap₂ (λ (address : Option ℕ) (x : List ℕ). stopped_text [] address ++ x) c.address.ensures c.why.ensures
    ∙ ap (stop_text (texts_in c.args.self.names.body.now)) (stop_is c.args.self.bytes.now c.kind.ensures c.in-Unknown.is)

pub returns-in-NoBlock : goal.returns-in-NoBlock
returns-in-NoBlock c = ap (stop_text (texts_in c.args.self.names.body.now)) (ap stop.NoBlock c.number-in-NoBlock.ensures ∙ stop_is c.args.self.bytes.now c.kind.ensures c.in-NoBlock.is)

pub returns-in-NoBlocks : goal.returns-in-NoBlocks
returns-in-NoBlocks c = ap (stop_text (texts_in c.args.self.names.body.now)) (stop_is c.args.self.bytes.now c.kind.ensures c.in-NoBlocks.is)

pub returns-in-NoReturn : goal.returns-in-NoReturn
returns-in-NoReturn c = ap (stop_text (texts_in c.args.self.names.body.now)) (ap stop.NoReturn c.address-in-NoReturn.ensures ∙ stop_is c.args.self.bytes.now c.kind.ensures c.in-NoReturn.is)

pub returns-in-Halted : goal.returns-in-Halted
returns-in-Halted c = ap (stop_text (texts_in c.args.self.names.body.now)) (ap₂ stop.Halted c.address-in-Halted.ensures c.number-in-Halted.ensures ∙ stop_is c.args.self.bytes.now c.kind.ensures c.in-Halted.is)
