use borrow.Author.Rules.{rules}
use Rattle.text.proofs.PutLaws.{pushed_as, room_as, room_new, put_whole}
use Rattle.text.proofs.Short.{stop_line_short}
use mathlib.Core.Path.{ap}
use mathlib.Core.List.{List, ◌++◌}
use Prim.Native.Nat.{ℕ}
use Rattle.layout.specs.Text.{text}
use Rattle.files.specs.Program.{texts_in}
use Rattle.text.specs.Read.{stop_in}
use Rattle.text.specs.Lines.{stop_line}
use Rattle.text.proofs.stop_line.Goals as goal

pub stop_line-requires : goal.stop_line-requires
unfolding stop_line
stop_line-requires c =
    room_as c.new-line.result (ap (λ (x : List ℕ). text "; " ++ (x ++ text "\n")) c.stop.ensures)
    (room_new c.new-line.result (stop_line (texts_in c.args.stop.names.body.now) (stop_in c.args.stop.bytes.now)) c.new-line.ensures.empty c.requires (stop_line_short c.args.stop.names.body.now (stop_in c.args.stop.bytes.now)))

pub returns : goal.returns
unfolding stop_line
returns c =
    put_whole (pushed_as c.stop_line.ensures (ap (λ (x : List ℕ). text "; " ++ (x ++ text "\n")) c.stop.ensures)) c.new-line.ensures.empty (search rules) c.len.ensures
    (stop_line_short c.args.stop.names.body.now _)
