use Rattle.std.proofs.Common.{rules, tests, arith, ℕ, ◌≡◌, ◌+◌, ◌-◌, ap, sym, ◌∙◌, refl, false, add-one}
use lib.Dec.{eqb}
use Rattle.files.specs.Nodes.{kind_of, trees}
use Rattle.files.specs.Program.{number_of}
use Rattle.files.specs.Rules.{parent_of}
use Rattle.files.proofs.ItemLaws.{one_less_none, one_less_some, none_less}
use Rattle.files.proofs.KindLaws.{placed_as, counted_as, parent_as}
use Rattle.files.proofs.TreeLaws.{same_parent, trees_odd, trees_uncounted, trees_on, no_kids}
use Rattle.files.proofs.trees.+count.Goals as goal
use Rattle.files.proofs.trees.+count.Goals.{then-has_kids+in_ok-kids, else-has_kids}

pub returns-then-not-is_placed : goal.returns-then-not-is_placed
returns-then-not-is_placed t c =
    let k = kind_of c.args.b.now c.loop-at.at in
    none_less _ (trees_odd _ _ _ _ _ _ _ c.loop-at.invariant.0 _ c.span-span.ensures.0 _ refl c.loop-at-test.true _ (placed_as k c.kind-kind.ensures _ _ c.is_placed.ensures) c.if-not-is_placed.true)

pub returns-in_err-kids : goal.returns-in_err-kids
returns-in_err-kids t c =
    let b = c.args.b.now in
    let k = kind_of b c.loop-at.at in
    let e : c.eq.result ≡ eqb (number_of c.kind-kind.result) 17 = search (rules, tests) in
    let none = same_parent b (c.args.depth - 1) k (parent_of c.eq.result) (c.loop-at.at + 1) (c.loop-at.at + c.span-span.result) 0 (sym (parent_as k c.kind-kind.ensures c.eq.result e)) ∙ one_less_none _ c.in_err-kids.ensures in
    rw c.from_residual.ensures
    (none_less _ (trees_uncounted _ _ _ _ _ _ _ c.loop-at.invariant.0 _ c.span-span.ensures.0 _ refl c.loop-at-test.true c.requires.1 c.if-depth-lt1.false c.if-span-lt1.false c.if-e-at.false _ (placed_as k c.kind-kind.ensures _ _ c.is_placed.ensures) c.if-not-is_placed.false 0 (sym none) false refl refl))

pub returns-then-not-is_counted : goal.returns-then-not-is_counted
returns-then-not-is_counted t c =
    let b = c.args.b.now in
    let k = kind_of b c.loop-at.at in
    let kids : c.if-has_kids.kids + 1 ≡ trees b (c.args.depth - 1) k (c.loop-at.at + 1) (c.loop-at.at + c.span-span.result) 0 = elim c.if-has_kids.branch [
      | then-has_kids+in_ok-kids w ↦
          let e : w.eq.result ≡ eqb (number_of c.kind-kind.result) 17 = search (rules, tests) in
          rw (w.kids-is, add-one) (sym (one_less_some _ _ w.in_ok-kids.ensures)) ∙ same_parent b _ (parent_of w.eq.result) k _ _ _ (parent_as k c.kind-kind.ensures w.eq.result e)
      | else-has_kids w ↦ no_kids _ _ _ _ _ _ w.if-has_kids.false (ap (λ (x : ℕ). x + 1) w.kids-is)
    ] in
    none_less _ (trees_uncounted _ _ _ _ _ _ _ c.loop-at.invariant.0 _ c.span-span.ensures.0 _ refl c.loop-at-test.true c.requires.1 c.if-depth-lt1.false c.if-span-lt1.false c.if-e-at.false _ (placed_as k c.kind-kind.ensures _ _ c.is_placed.ensures) c.if-not-is_placed.false _ kids _ (counted_as k c.kind-kind.ensures _ _ c.is_counted.ensures) c.if-not-is_counted.true)

pub loop-at-preserved : goal.loop-at-preserved
loop-at-preserved t c =
    let b = c.args.b.now in
    let k = kind_of b c.loop-at.at in
    let kids : c.if-has_kids.kids + 1 ≡ trees b (c.args.depth - 1) k (c.loop-at.at + 1) (c.loop-at.at + c.span-span.result) 0 = elim c.if-has_kids.branch [
      | then-has_kids+in_ok-kids w ↦
          let e : w.eq.result ≡ eqb (number_of c.kind-kind.result) 17 = search (rules, tests) in
          rw (w.kids-is, add-one) (sym (one_less_some _ _ w.in_ok-kids.ensures)) ∙ same_parent b _ (parent_of w.eq.result) k _ _ _ (parent_as k c.kind-kind.ensures w.eq.result e)
      | else-has_kids w ↦ no_kids _ _ _ _ _ _ w.if-has_kids.false (ap (λ (x : ℕ). x + 1) w.kids-is)
    ] in
    (trees_on _ _ _ _ _ _ _ c.loop-at.invariant.0 _ c.span-span.ensures.0 _ refl c.loop-at-test.true c.requires.1 c.if-depth-lt1.false c.if-span-lt1.false c.if-e-at.false _ (placed_as k c.kind-kind.ensures _ _ c.is_placed.ensures) c.if-not-is_placed.false _ kids _ (counted_as k c.kind-kind.ensures _ _ c.is_counted.ensures) c.if-not-is_counted.false, omega arith)
