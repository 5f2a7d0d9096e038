-- `fill_symbols` meets its contract. The loop's invariant: the entries made are right, and the search stands where each later name can still find its symbol.
-- Assumes nothing.
use Rattle.std.proofs.Common.{◌≡◌, ◌+◌, ◌<◌, ◌^◌, length, refl, ap, ◌∙◌, inl, arith, rules}
use Rattle.files.specs.Program.{texts_in}
use Rattle.index.specs.Texts.{text_count}
use Rattle.index.proofs.TextPlaces.{names_texts}
use Rattle.index.proofs.SymbolMerge.{starts, merge_none, merge_passed, merge_room, merge_few, merge_more}
use Rattle.index.proofs.symbols.fill_symbols.Goals as goal
use Rattle.index.proofs.symbols.fill_symbols.Goals.{After-into_iter-k-iterator}

pub texts-requires : goal.texts-requires
texts-requires c = search (rules, names_texts)

start : (c : After-into_iter-k-iterator) → c.into_iter-k-iterator.result.count ≡ 0
start c = ap (λ s. s.count) c.into_iter-k-iterator.ensures.into_iter_gives ∙ c.enumerate-k-items.ensures.count

whole : (c : After-into_iter-k-iterator) → texts_in c.into_iter-k-iterator.result.iter.rest.now ≡ texts_in c.args.routine_names.now
whole c =
    ap (λ s. texts_in s.iter.rest.now) c.into_iter-k-iterator.ensures.into_iter_gives ∙ ap (λ s. texts_in s.rest.now) c.enumerate-k-items.ensures.source
    ∙ c.texts.ensures

pub loop-k-init-derived : goal.loop-k-init-derived
unfolding text_count
loop-k-init-derived c =
    let i = (goal.at.loop-k-init-derived c).After-into_iter-k-iterator in
    let it = c.into_iter-k-iterator.result in
    let few = (names_texts c.args.routine_names.now c.requires.0 c.requires.1.0).few in
    let fits : it.count + length (texts_in it.iter.rest.now) < 2 ^ 64 = omega (arith, few, start i, ap length (whole i)) in
    ((tt, tt, inl fits), tt)

pub loop-k-init : goal.loop-k-init
loop-k-init c = let i = (goal.at.loop-k-init c).After-into_iter-k-iterator in rw (starts _ c.default-cursor.ensures) (merge_none c.requires.1.1.1 (whole i) (start i), refl)

pub seek-found-requires : goal.seek-found-requires
seek-found-requires c = (
  c.requires.1.1.0,
  (c.loop-k.invariant.0.standing, merge_passed c.requires.0 c.requires.1.0 c.loop-k.invariant.0 c.next.new.self.iter.rest.now c.in-Some.ensures.steps.0 c.in-Some.ensures.steps.1),
)

pub overflow_mul-k : goal.overflow_mul-k
overflow_mul-k c =
    let few = merge_few c.requires.0 c.requires.1.0 c.loop-k.invariant.0 c.next.new.self.iter.rest.now c.in-Some.ensures.steps.0 c.in-Some.ensures.steps.1 in
    search rules

pub put-requires-clause-inside : goal.put-requires-clause-inside
put-requires-clause-inside c = merge_room c.requires.0 c.requires.1.0 c.loop-k.invariant.0 c.next.new.self.iter.rest.now c.in-Some.ensures.steps.0 c.in-Some.ensures.steps.1

pub loop-k-preserved : goal.loop-k-preserved
loop-k-preserved c = (
  merge_more c.requires.0 c.requires.1.0 c.loop-k.invariant.0 c.next.new.self.iter.rest.now c.in-Some.ensures.steps.0 c.in-Some.ensures.steps.1 (search rules)
      c.requires.1.1.0 c.seek-found.ensures c.entry_of.ensures c.put.ensures c.in-Some.ensures.steps.2,
  search rules,
)
