-- What calls of a closure at the variables of a head, one after another, make of a workspace. Assumes nothing.
use Rattle.std.specs.Prelude.{◌≡◌, List, ℕ, zero, suc, ◌<◌, ◌≤◌, length}
use Rattle.std.specs.Fn.{Shared}
use denote.Ref.{MutBor}
use Rattle.workspace.specs.Parts.{workspace_size, tables}
use Rattle.workspace.specs.Types.{type_at}
use Rattle.setup.specs.declared.head.Named.{Named}
use Rattle.setup.specs.declared.variables.Variable.{Variable}
use Rattle.setup.specs.Heads.{Reads}

-- variable k of a head, with its type as the tables of the workspace spell it
pub record Tells (head : List ℕ) (k : ℕ) (w : List ℕ) (v : Variable) : Type 0 where
  pub number : v.k ≡ k
  pub entry : Named
  pub reads : Reads head k entry
  pub name : v.name ≡ entry.name
  pub type : v.ty ≡ type_at (tables w) entry.ty

module _ {F : Type 0} (g : Shared F (MutBor (List ℕ) × (Variable × Unit {0})) (Unit {0} × (MutBor (List ℕ) × Unit {0}))) (f : F) where
  -- f may be called at a workspace w and a variable v
  abbrev pub Takes : List ℕ → Variable → Type 0
  Takes w v = (p : MutBor (List ℕ)) → p.now ≡ w → g.pre f (p, (v, tt))

  -- and may make w' of it
  pub record Leaves (w : List ℕ) (v : Variable) (w' : List ℕ) : Type 0 where
    pub shown : MutBor (List ℕ)
    pub shows : shown.now ≡ w
    pub left : MutBor (List ℕ)
    pub met : g.post f (shown, (v, tt)) (tt, (left, tt))
    pub leaves : left.now ≡ w'

  module _ (head w₀ : List ℕ) where
    -- calls at the first so many variables of the head made w of w₀
    pub data Visited : ℕ → List ℕ → Type 0 where
      none : {w : List ℕ} → w ≡ w₀ → Visited zero w
      more : {k : ℕ} {u w : List ℕ} (v : Variable) → Visited k u → Tells head k u v → Leaves u v w → Visited (suc k) w

    -- it may be called at each of the first n, whatever the calls before made
    pub record Callable (n : ℕ) : Type 0 where
      pub room : (k : ℕ) (w : List ℕ) → k < n → Visited k w → workspace_size ≤ length w
      pub takes : (k : ℕ) (w : List ℕ) (v : Variable) → k < n → Visited k w → Tells head k w v → Takes w v
