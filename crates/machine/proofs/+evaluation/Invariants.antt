-- The measures of the cycle, and how far each loop has come. Assumes nothing.
use Rattle.operations.proofs.Rows.{Over}
use Rattle.machine.proofs.Operands.{BinarySoFar, TernarySoFar}
use Rattle.machine.proofs.Ranks.{left}
use Rattle.machine.proofs.SiblingArgs.{ArgsSoFar}
use Rattle.machine.proofs.SiblingFields.{FieldsSoFar}
use Rattle.machine.proofs.Siblings.{KidsSoFar}
use lib.ListN.{length}
use mathlib.Core.Path.{◌≡◌}
use Rattle.machine.proofs.+evaluation.Given as goal

abbrev pub decreases-args : goal.decreases-args
decreases-args l = left l.ws.now l.reads.now.nodes.now l.n 4

abbrev pub decreases-assign : goal.decreases-assign
decreases-assign l = left l.ws.now l.reads.now.nodes.now l.n 0

abbrev pub decreases-assign_struct : goal.decreases-assign_struct
decreases-assign_struct l = left l.ws.now l.reads.now.nodes.now l.left 0

abbrev pub decreases-assign_val : goal.decreases-assign_val
decreases-assign_val l = left l.ws.now l.reads.now.nodes.now l.left 0

abbrev pub decreases-assigned : goal.decreases-assigned
decreases-assigned l = left l.ws.now l.reads.now.nodes.now l.n 2

abbrev pub decreases-binary : goal.decreases-binary
decreases-binary l = left l.ws.now l.reads.now.nodes.now l.n 0

abbrev pub decreases-call : goal.decreases-call
decreases-call l = left l.ws.now l.reads.now.nodes.now l.n 0

abbrev pub decreases-cast : goal.decreases-cast
decreases-cast l = left l.ws.now l.reads.now.nodes.now l.n 0

abbrev pub decreases-deref : goal.decreases-deref
decreases-deref l = left l.ws.now l.reads.now.nodes.now l.n 0

abbrev pub decreases-evaluate : goal.decreases-evaluate
decreases-evaluate l = left l.ws.now l.reads.now.nodes.now l.n 3

abbrev pub decreases-intrinsic : goal.decreases-intrinsic
decreases-intrinsic l = left l.ws.now l.reads.now.nodes.now l.n 0

abbrev pub decreases-kids : goal.decreases-kids
decreases-kids l = left l.ws.now l.reads.now.nodes.now l.n 4

abbrev pub decreases-operand : goal.decreases-operand
decreases-operand l = left l.ws.now l.reads.now.nodes.now l.n 4

abbrev pub decreases-returned : goal.decreases-returned
decreases-returned l = left l.ws.now l.reads.now.nodes.now l.n 0

abbrev pub decreases-store_fields : goal.decreases-store_fields
decreases-store_fields l = left l.ws.now l.reads.now.nodes.now l.n 0

abbrev pub decreases-store_struct : goal.decreases-store_struct
decreases-store_struct l = left l.ws.now l.reads.now.nodes.now l.right 0

abbrev pub decreases-ternary : goal.decreases-ternary
decreases-ternary l = left l.ws.now l.reads.now.nodes.now l.n 0

abbrev pub invariant-args-loop-i : goal.invariant-args-loop-i
invariant-args-loop-i l = Over l.reads.nodes.now l.end (λ i. ArgsSoFar l.reads.nodes.now l.reads.symbols.now l.reads.regions.now l.n l.end l.initial.ws l.initial.out l.initial.vals i l.j l.ws l.out l.vals) l.i-iterator × (length l.ws ≡ length l.initial.ws) × (length l.out ≡ length l.initial.out)

abbrev pub invariant-binary-loop-round : goal.invariant-binary-loop-round
invariant-binary-loop-round l = BinarySoFar l.reads.nodes.now l.reads.symbols.now l.reads.regions.now l.n l.initial.ws l.initial.out l._round l.i l.l l.r l.ws l.out × (length l.ws ≡ length l.initial.ws) × (length l.out ≡ length l.initial.out)

abbrev pub invariant-kids-loop-i : goal.invariant-kids-loop-i
invariant-kids-loop-i l = Over l.reads.nodes.now l.end (λ i. KidsSoFar l.reads.nodes.now l.reads.symbols.now l.reads.regions.now l.n l.end l.initial.ws l.initial.out i l.ws l.out) l.i-iterator × (length l.ws ≡ length l.initial.ws) × (length l.out ≡ length l.initial.out)

abbrev pub invariant-store_fields-loop-i : goal.invariant-store_fields-loop-i
invariant-store_fields-loop-i l = Over l.reads.nodes.now l.end (λ i. FieldsSoFar l.reads.nodes.now l.reads.symbols.now l.reads.regions.now l.n l.end l.address l.initial.ws l.initial.out i l.ws l.out) l.i-iterator × (length l.ws ≡ length l.initial.ws) × (length l.out ≡ length l.initial.out)

abbrev pub invariant-ternary-loop-round : goal.invariant-ternary-loop-round
invariant-ternary-loop-round l = TernarySoFar l.reads.nodes.now l.reads.symbols.now l.reads.regions.now l.n l.initial.ws l.initial.out l._round l.i l.condition l.then l.ws l.out × (length l.ws ≡ length l.initial.ws) × (length l.out ≡ length l.initial.out)
