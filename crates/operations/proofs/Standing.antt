-- What evaluating a tree is, by the kind that a test has shown of its node. Assumes nothing.
use Rattle.std.proofs.Common.{◌≡◌, ℕ, List, ap, subst}
use Rattle.value.specs.declared.Val.{Val}
use Rattle.files.specs.Nodes.{kind_of}
use Rattle.files.specs.Program.{kind_numbered, Tree, tree, Trees, node_of}
use Rattle.definition.specs.Act.{Act}
use Rattle.definition.specs.Term.{eval}
use Rattle.definition.specs.Evaluate.{Env, look, looks, eval_as}
use Rattle.hosting.specs.declared.How.{How}
use Rattle.hosting.specs.Scene.{Given, Scene}
use Rattle.hosting.specs.Stands.{Stands, stands, Shape}
use Rattle.hosting.specs.Ending.{Ending}
use Rattle.operations.specs.Going.{Goes}
use Rattle.operations.proofs.Going.{acts}

abbrev pub act_as : List ℕ → Scene → ℕ → ℕ → Trees → Act Val
act_as b x k n ts = eval_as x.env (kind_numbered k) (node_of b n) (looks x.env ts)

pub evals_as : (E : Env) (b : List ℕ) (n k : ℕ) (ts : Trees) → kind_of b n ≡ k → eval (look E (tree (node_of b n) ts)) ≡ eval_as E (kind_numbered k) (node_of b n) (looks E ts)
unfolding look
evals_as E b n k ts e = ap (λ (j : ℕ). eval_as E (kind_numbered j) (node_of b n) (looks E ts)) e

pub standing : {b : List ℕ} {g : How → Given} {n : ℕ} {w₀ o₀ : List ℕ} {e : Ending Val} {w o : List ℕ} {t : Tree} (k : ℕ) → kind_of b n ≡ k
    → ((ts : Trees) → Shape b k n ts → Goes g (λ x. act_as b x k n ts) w₀ o₀ e w o) → Stands b n t → Goes g (λ x. eval (look x.env t)) w₀ o₀ e w o
standing {b} {n = n} k e f (stands {ts = ts} i h) = acts (λ _ x _. evals_as x.env b n k ts e) (f ts (subst (λ (j : ℕ). Shape b j n ts) e h))
