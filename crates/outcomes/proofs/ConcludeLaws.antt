-- The step of a statement is sent, unless there is no room. Assumes nothing.
use mathlib.Core.Path.{◌≡◌, refl, sym, ◌∙◌, subst}
use mathlib.Core.Bool.{Bool, true, false, true≢false}
use mathlib.Core.List.{List}
use Rattle.std.specs.Prelude.{Option, Result, Ok, Err}
use Prim.Native.Nat.{ℕ}
use Rattle.definition.specs.Evaluate as ev
use Rattle.hosting.specs.declared.Short.{Short}
use Rattle.hosting.specs.declared.Short.TheVariants.{Full, Why}
use Rattle.hosting.specs.declared.Stop.{Stop}
use Rattle.hosting.specs.Runs.{Kept}
use Rattle.outcomes.specs.declared.steps.Site.{Site}
use Rattle.outcomes.specs.declared.roots.Acts.{Acts}
use Rattle.outcomes.specs.declared.roots.Acts.TheVariants.{Does, Leaves, Gives, Strays, Halts}
use Rattle.outcomes.specs.Endings.{acts_end, did_in, full_in, HaltIs}
use Rattle.outcomes.specs.Post.{Sends, SendsIf, Concludes}

-- ---- what is kept unless there is no room

pub kept_fit : (at : Option ℕ) (F : Type 0) (o : Result Acts Short) → full_in o ≡ false → Kept (acts_end at o) F → F
kept_fit at F (Ok a) h f = f
kept_fit at F (Err Full) h f = absurd (true≢false h)
kept_fit at F (Err (Why r n)) h f = f

-- ---- the step is sent, unless there is no room

module _ (site : Site) (at : Option ℕ) (w o : List ℕ) where
  sends_full : (x : Result Acts Short) → full_in x ≡ true → SendsIf site (acts_end at x) w o w o
  sends_full (Ok a) h = absurd (true≢false (sym h))
  sends_full (Err Full) h = refl
  sends_full (Err (Why r n)) h = absurd (true≢false (sym h))

  sends_some : (w' o' : List ℕ) (x : Result Acts Short) → full_in x ≡ false → Sends site (did_in x) w o w' o' → SendsIf site (acts_end at x) w o w' o'
  sends_some w' o' (Ok (Does d)) h s = s
  sends_some w' o' (Ok Leaves) h s = s
  sends_some w' o' (Ok (Gives v)) h s = s
  sends_some w' o' (Ok Strays) h s = s
  sends_some w' o' (Ok (Halts t)) h s = s
  sends_some w' o' (Err Full) h s = absurd (true≢false h)
  sends_some w' o' (Err (Why r n)) h s = s

module _ {site : Site} {w o : List ℕ} {x : Result Acts Short} {h : Option Stop} {b : Bool} (halt : HaltIs site.address x h) (full : b ≡ full_in x) where
  pub conclude_full : b ≡ true → Concludes site w o x h w o
  conclude_full t = record { halt = halt; sends = sends_full site site.address w o x (sym full ∙ t) }

  pub conclude_sent : {d : ev.Did} {w' o' : List ℕ} → b ≡ false → d ≡ did_in x → Sends site d w o w' o' → Concludes site w o x h w' o'
  conclude_sent {w' = w'} {o' = o'} t e s = record {
    halt = halt;
    sends = sends_some site site.address w o w' o' x (sym full ∙ t) (subst (λ (d : ev.Did). Sends site d w o w' o') e s);
  }
