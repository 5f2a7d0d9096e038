-- Trees with what evaluating each does: `look` puts it there, so that what a kind does with its children is a plain function of them. Assumes nothing.
use Rattle.std.specs.Prelude.{Bool, true, List, [], ◌∷◌, ℕ, zero, suc, eqb}
use Rattle.value.specs.declared.Val.{Val}
use Rattle.value.specs.Value.{type, unknown_val}
use Rattle.definition.specs.Act.{Act, done, ◌>>=◌}
use Rattle.files.specs.Program.{number_of, Node}
use Rattle.files.specs.declared.kinds.Kind.{Kind}

mutual
  pub data Term : Type 0 where
    term : Node → Act Val → Terms → Term

  pub data Terms : Type 0 where
    no_terms : Terms
    more_terms : Term → Terms → Terms

abbrev pub node : Term → Node
node (term d v ts) = d

abbrev pub eval : Term → Act Val
eval (term d v ts) = v

abbrev pub kids : Term → Terms
kids (term d v ts) = ts

abbrev pub is : Kind → Term → Bool
is k t = eqb (node t).kind (number_of k)

-- what most kinds give where nothing is known
abbrev pub nothing : Val
nothing = unknown_val (type 64 true)

-- what stands where no tree does, as in `return;`: evaluated as unknown
abbrev pub no_term : Term
no_term = term (record { place = 0; kind = 19; flag = 0; ref = 0; width = 0; value = 0 }) (done nothing) no_terms

-- the child numbered i, the ones after the first, how many there are
unfoldable pub kid : ℕ → Terms → Term
kid i no_terms = no_term
kid zero (more_terms t ts) = t
kid (suc i) (more_terms t ts) = kid i ts

abbrev pub rest : Terms → Terms
rest no_terms = no_terms
rest (more_terms t ts) = ts

unfoldable pub count : Terms → ℕ
count no_terms = 0
count (more_terms t ts) = suc (count ts)

unfoldable pub evals : Terms → Act (List Val)
evals no_terms = done []
evals (more_terms t ts) = do
  v ← eval t
  vs ← evals ts
  done (v ∷ vs)
