use mathlib.Core.Path.{◌≡◌, sym, ◌∙◌, refl}
use native.Mathlib.Omega.{arith}
use Prim.Native.Nat.{◌+◌}
use lib.ListN.{length}
use Rattle.files.specs.Bytes.{part}
use Rattle.files.proofs.NameLaws.{length_part, text_good}
use Rattle.files.proofs.names.text_at.Goals as goal
use Rattle.files.proofs.names.text_at.Goals.{else-texts-via-then-texts+else-not-precedes, else-texts-via-else-texts}

pub returns-clause-text : goal.returns-clause-text
returns-clause-text c =
    let k = c.from-k.result in
    let b = c.args.b.now in
    let e : length (part (c.args.i + 1) (c.args.i + 1 + k) b) ≡ k = length_part b (c.args.i + 1) k (omega arith) in
    rw e (
      text_good _ _ _ _ _ k c.from-k.ensures (omega arith) (omega arith) (omega arith) (omega arith) (sym c.printed.ensures ∙ c.if-not-printed.false)
          (elim c.else-texts.branch [
            | else-texts-via-then-texts+else-not-precedes w ↦ λ a. sym w.precedes.ensures ∙ w.if-not-precedes.false
            | else-texts-via-else-texts w ↦ λ a. absurd (cc (a, w.if-texts.false))
          ]),
      refl,
    )
