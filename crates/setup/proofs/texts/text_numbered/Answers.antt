-- `text_numbered` meets its contract. Assumes nothing.
use Rattle.std.proofs.Common.{◌≡◌, [], List, ℕ, Bor, Option, None, Some, ap, ◌∙◌}
use Rattle.std.specs.Option.{UnwrapsOrElse, option_map}
use Rattle.std.proofs.lemmas.Iterator.Consumers.{YieldsList-from_first, nth_from_yields_List}
use Rattle.std.proofs.lemmas.Option.{slice_get-get_or, none-some, same_Some}
use Rattle.files.specs.Program.{texts_in}
use Rattle.index.specs.Texts.{text_count}
use Rattle.setup.proofs.texts.text_numbered.Goals as goal

held : (r : Option (Bor (List ℕ))) (x : Bor (List ℕ)) (P : Bor (List ℕ) → Type 0) {t : List ℕ} → UnwrapsOrElse r P x → option_map (λ y. y.now) r ≡ Some t → x.now ≡ t
held None x P h e = absurd (none-some _ e)
held (Some y) x P h e = ap (λ z. z.now) h ∙ same_Some _ _ e

pub returns : goal.returns
unfolding text_count
returns c =
    let all = texts_in c.args.body.now in
    held c.nth.result c.unwrap_or_default.result _ c.unwrap_or_default.ensures
    (nth_from_yields_List c.nth.result c.nth.new.self c.args.k c.nth.ensures.ran (YieldsList-from_first (λ x. x.now) (λ s. texts_in s.rest.now) all c.texts.ensures)
    ∙ slice_get-get_or all c.args.k [] c.requires.1)
