use Rattle.files.specs.Program.{texts_in}
use Rattle.layout.specs.Number.{number_at}
use Rattle.text.proofs.NameLaws.{NamesLeft}
use Rattle.text.proofs.line.Line.taken.Given as goal

-- with the names that are left appended behind those that are there, all are
abbrev pub invariant-loop-k : goal.invariant-loop-k
invariant-loop-k l = NamesLeft (texts_in l.step.names.body.now) l.step.bytes.now (number_at l.step.bytes.now 61 2) l.initial.self l.self l.k
