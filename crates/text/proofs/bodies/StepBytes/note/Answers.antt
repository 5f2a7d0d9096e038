use Rattle.std.proofs.Common.{ap₂, ◌∙◌}
use Rattle.definition.specs.Act.{fields_written, value_written}
use Rattle.text.proofs.StepText.{note_is, followed_is}
use Rattle.text.proofs.bodies.StepBytes.note.Goals as goal

pub returns-in-Nothing : goal.returns-in-Nothing
returns-in-Nothing c = note_is c.args.self.bytes.now c.note_kind.ensures c.in-Nothing.is

pub returns-in-Fields : goal.returns-in-Fields
returns-in-Fields c = ap₂ fields_written c.get.ensures.number c.get-in-Fields.ensures.number ∙ note_is c.args.self.bytes.now c.note_kind.ensures c.in-Fields.is

pub returns-in-Written : goal.returns-in-Written
returns-in-Written c = ap₂ value_written c.get-in-Written.ensures.number c.get_val.ensures ∙ note_is c.args.self.bytes.now c.note_kind.ensures c.in-Written.is

pub returns-in-Unknown : goal.returns-in-Unknown
returns-in-Unknown c = note_is c.args.self.bytes.now c.note_kind.ensures c.in-Unknown.is

pub returns-in-NotFollowed : goal.returns-in-NotFollowed
returns-in-NotFollowed c = followed_is c.args.self.bytes.now c.note_kind.ensures c.in-NotFollowed.is
