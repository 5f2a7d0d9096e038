-- `find_name` meets its contract. Assumes nothing.
use Rattle.std.proofs.Common.{inl, rules, arith}
use Rattle.std.proofs.lemmas.Iterator.{IsFirst-from_position}
use Rattle.std.proofs.lemmas.Iterator.Consumers.{YieldsList-from_first}
use Rattle.files.specs.Program.{texts_in}
use Rattle.index.specs.Texts.{text_count}
use Rattle.index.proofs.TextPlaces.{names_texts}
use Rattle.setup.proofs.NameSearch.{Hits, Misses, found_name}
use Rattle.setup.proofs.texts.find_name.Goals as goal

pub texts-requires : goal.texts-requires
texts-requires c = search (rules, names_texts)

pub position-requires-clause-fits : goal.position-requires-clause-fits
unfolding text_count
position-requires-clause-fits c = let few = c.texts.result.filled.few in inl (omega arith)

pub returns : goal.returns
unfolding text_count
returns c =
    let wanted = c.args.wanted.now in
    found_name c.requires.0 c.requires.1 (search rules) c.requires.2 c.position.result
    (IsFirst-from_position c.position.new.self _ c.position.result (Hits wanted) (Misses wanted) c.position.ensures.ran
    (YieldsList-from_first (λ x. x.now) (λ s. texts_in s.rest.now) (texts_in c.args.names.now) c.texts.ensures) (λ x q k. search rules) (λ x q k. search rules))
