use Rattle.std.proofs.Common.{rules, refl}
use Rattle.files.proofs.KindLaws.{of_kind, no_such}
use Rattle.operations.proofs.Taking.{follows_none, follows_limit, follows_asked}
use Rattle.operations.proofs.calls.follow.Goals as goal

pub returns-then-not-is : goal.returns-then-not-is
returns-then-not-is c = follows_none refl (no_such c.is.ensures c.if-not-is.true)

pub returns-then-deepest : goal.returns-then-deepest
returns-then-deepest c = follows_limit refl (of_kind c.is.ensures c.if-not-is.false) c.word-deepest.ensures c.if-deepest.true

pub returns : goal.returns
returns c = follows_asked refl (of_kind c.is.ensures c.if-not-is.false) c.word-deepest.ensures c.if-deepest.false c.requires.count_bound
    c.reference-name.ensures.0 c.reference-name.ensures.1 c.value-address.ensures (search rules) (c.send.ensures _ (record { sent = λ p q at next on h. search rules }))
