-- What calls at a head's variables, one after another, make of a workspace: they declare, set or add so many variables. Assumes nothing.
use mathlib.Core.Path.{sym, ap, ◌∙◌, subst}
use mathlib.Core.List.{List}
use Rattle.std.specs.Prelude.{length, slice_get}
use Rattle.std.specs.Fn.{Shared}
use denote.Ref.{MutBor}
use Prim.Native.Nat.{ℕ, zero, suc, ◌+◌, ◌≤◌, ◌<◌}
use native.Mathlib.Numerals.{add-one}
use native.Mathlib.Omega.{arith}
use Rattle.workspace.specs.Parts.{workspace_size, tables}
use Rattle.workspace.specs.Types.{Coded}
use Rattle.workspace.specs.View.{Changes, setting}
use Rattle.workspace.specs.Post.{Declares}
use Rattle.setup.specs.declared.variables.Variable.{Variable}
use Rattle.setup.specs.Heads.{AllCoded, argument_if, adding}
use Rattle.setup.specs.Post.{DeclaresSome, arguments_in, StartsSome, EndsSome}
use Rattle.setup.specs.Each.{Tells, Takes, Leaves, Visited, Callable, none, more}
use Rattle.setup.proofs.DeclareLaws.{declare_none, declare_more}
use Rattle.setup.proofs.SettingLaws.{start_none, start_more, end_none, end_more}

module _ {F : Type 0} (g : Shared F (MutBor (List ℕ) × (Variable × Unit {0})) (Unit {0} × (MutBor (List ℕ) × Unit {0}))) (f : F) (head w₀ : List ℕ) where
  -- what holds before them, and goes on from each to the next, holds after them
  visited : (P : ℕ → List ℕ → Type 0) → P 0 w₀ → ((k : ℕ) (u w : List ℕ) (v : Variable) → P k u → Tells head k u v → Leaves g f u v w → P (k + 1) w) → (k : ℕ) (w : List ℕ) → Visited g f head w₀ k w → P k w
  visited P z s zero w (none e) = subst (P 0) (sym e) z
  visited P z s (suc k) w (more v p t l) = subst (λ (n : ℕ). P n w) (add-one k) (s k _ w v (visited P z s k _ p) t l)

  pub visit_more : {k : ℕ} {u w : List ℕ} {v : Variable} → Visited g f head w₀ k u → Tells head k u v → Leaves g f u v w → Visited g f head w₀ (k + 1) w
  visit_more {k} {u} {w} {v} p t l = subst (λ (n : ℕ). Visited g f head w₀ n w) (sym (add-one k)) (more v p t l)

  -- each call declares a variable
  module _ (does : (u : List ℕ) (v : Variable) (w : List ℕ) → Leaves g f u v w → Declares u v.name v.ty w) where
    pub declared_each : (k : ℕ) (w : List ℕ) → Visited g f head w₀ k w → DeclaresSome head k w₀ w
    declared_each = visited (λ k w. DeclaresSome head k w₀ w) (declare_none head w₀)
        (λ k u w v so t l. declare_more so t.reads t.type (subst (λ (x : ℕ). Declares u x v.ty w) t.name (does u v w l)))

    pub declare_callable : (n : ℕ) → workspace_size ≤ length w₀ → AllCoded (tables w₀) → ((u : List ℕ) (v : Variable) → workspace_size ≤ length u → v.name < 512 → Coded v.ty → Takes g f u v) → Callable g f head w₀ n
    declare_callable n h c takes = record {
      room = λ k w l p. omega (arith, h, (declared_each k w p).kept.size);
      takes = λ k w v l p t.
          let so = declared_each k w p in
          takes w v (omega (arith, h, so.kept.size)) (omega (arith, t.name, t.reads.named)) (subst Coded (sym (t.type ∙ so.types t.entry.ty)) (c.coded t.entry.ty t.reads.typed));
    }

  -- each call sets a parameter to its argument
  module _ (call : List ℕ) (does : (u : List ℕ) (v : Variable) (w : List ℕ) → Leaves g f u v w → Changes u (setting v.name (argument_if (slice_get (arguments_in call) v.k) v.ty)) w) where
    pub started_each : (k : ℕ) (w : List ℕ) → Visited g f head w₀ k w → StartsSome head call k w₀ w
    started_each = visited (λ k w. StartsSome head call k w₀ w) (start_none head call w₀)
        (λ k u w v so t l. start_more t.reads t.type so (ap (λ (i : ℕ). argument_if (slice_get (arguments_in call) i) v.ty) t.number) (subst (λ (x : ℕ). Changes u (setting x _) w) t.name (does u v w l)))

    pub start_callable : (n : ℕ) → workspace_size ≤ length w₀ → ((u : List ℕ) (v : Variable) → workspace_size ≤ length u → v.name < 512 → Takes g f u v) → Callable g f head w₀ n
    start_callable n h takes = record {
      room = λ k w l p. omega (arith, h, (started_each k w p).size);
      takes = λ k w v l p t. takes w v (omega (arith, h, (started_each k w p).size)) (omega (arith, t.name, t.reads.named));
    }

  -- each call adds a variable that is not set
  module _ (does : (u : List ℕ) (v : Variable) (w : List ℕ) → Leaves g f u v w → Changes u (adding v.name v.ty) w) where
    pub ended_each : (k : ℕ) (w : List ℕ) → Visited g f head w₀ k w → EndsSome head k w₀ w
    ended_each = visited (λ k w. EndsSome head k w₀ w) (end_none head w₀)
        (λ k u w v so t l. end_more t.reads t.type so (subst (λ (x : ℕ). Changes u (adding x v.ty) w) t.name (does u v w l)))

    pub end_callable : (n : ℕ) → workspace_size ≤ length w₀ → ((u : List ℕ) (v : Variable) → workspace_size ≤ length u → v.name < 512 → Takes g f u v) → Callable g f head w₀ n
    end_callable n h takes = record {
      room = λ k w l p. omega (arith, h, (ended_each k w p).size);
      takes = λ k w v l p t. takes w v (omega (arith, h, (ended_each k w p).size)) (omega (arith, t.name, t.reads.named));
    }
