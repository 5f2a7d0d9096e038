use Rattle.text.proofs.PutLaws.{pushed_as, pushed_then}
use mathlib.Core.Path.{ap, sym}
use mathlib.Core.List.{[]}
use Rattle.definition.specs.Listing.{stopped_text}
use Rattle.text.proofs.line.Line.stopped.Goals as goal

pub returns : goal.returns
returns c = pushed_as (pushed_then c.text-2.ensures (pushed_then c.hexadecimal.ensures c.text-3.ensures)) (ap (stopped_text []) (sym c.in-Some.is))
