use Rattle.std.proofs.Common.{◌≡◌}
use Rattle.std.specs.Slice.Iter.{chunks_exact_rest, chunks_exact_size}
use Rattle.index.specs.Texts.{text_count}
use Rattle.text.specs.Left.{VariablesLeft}
use Rattle.listing.proofs.run.Printer.variables.Given as goal

abbrev pub invariant-loop-bytes : goal.invariant-loop-bytes
invariant-loop-bytes g l = VariablesLeft (text_count l.names.body.now) (chunks_exact_rest l.bytes-iterator) × (chunks_exact_size l.bytes-iterator ≡ 16)
