-- A constant expression's evaluation on the code's host comes to the definition's. Assumes nothing.
use mathlib.Core.Path.{◌≡◌, refl, sym, ap, ◌∙◌, subst}
use mathlib.Core.Bool.{false}
use mathlib.Core.List.{List, []}
use Rattle.std.specs.Prelude.{None, Some, Result}
use Prim.Native.Nat.{ℕ, ◌^◌, ◌≤◌, ◌<◌}
use native.Mathlib.Omega.{arith}
use lib.ListN.{length}
use Rattle.value.specs.declared.Val.{Val}
use Rattle.memory.specs.Overlay.{Overlay, Cell}
use Rattle.files.specs.FileTable.{body}
use Rattle.files.specs.Program.{program_of, tree_at}
use Rattle.definition.specs.Act.{End, gave, stopped}
use Rattle.definition.specs.State.{Out}
use Rattle.definition.specs.Term.{eval}
use Rattle.definition.specs.Evaluate.{look}
use Rattle.definition.specs.Run.{address_limit}
use Rattle.definition.specs.Constant.{nothing, constant_env, constant_run}
use Rattle.definition.proofs.Hosts.{Alike}
use Rattle.workspace.specs.View.{view, Fit}
use Rattle.stream.specs.Stream.{most}
use Rattle.hosting.specs.declared.Counts.{Counts}
use Rattle.hosting.specs.declared.Short.{Short}
use Rattle.hosting.specs.Stands.{Stands, Fine}
use Rattle.hosting.specs.Scene.{Given, given, Scene, Ready}
use Rattle.hosting.specs.Held.{Held, held}
use Rattle.hosting.specs.Ending.{Ending, ended, short, end_of}
use Rattle.hosting.specs.Runs.{Came, Kept}
use Rattle.hosting.specs.Setting.{how_of, constant_given, ConstantTabled}
use Rattle.hosting.proofs.Shapes.{fine}
use Rattle.operations.specs.Registers.{counts_in}
use Rattle.operations.specs.Steps.{Enters}
use Rattle.operations.proofs.Entering.{enters_runs}
use Rattle.machine.specs.Post.{Evals}
use Rattle.passes.specs.Passing.{start_counts}
use Rattle.passes.specs.Evaluating.{EvaluatedIf, Evaluates}
use Rattle.passes.proofs.Simulation.{Like, ends_alike}
use Rattle.passes.proofs.Buffer.{length_stored}
use Rattle.passes.proofs.Streams.{questions_short}

-- ---- what the evaluation needs

pub eval_ready : {routine w nodes : List ℕ} {count : ℕ} {a : Counts} {limit : ℕ} → nodes ≡ body routine 3 → a ≡ start_counts limit → ConstantTabled routine w count → Ready (given nodes [] [] (how_of 0 count false)) w a
eval_ready p e t = rw (p, e) (record { fit = t.fit; narrow = t.narrow; symbols = t.symbols; regions = t.regions })

pub eval_fine : (routine : List ℕ) {nodes : List ℕ} {n : ℕ} → nodes ≡ body routine 3 → Stands (body routine 3) n (tree_at (body routine 3) n) → Fine nodes n
eval_fine routine p h = rw p (fine h)

-- ---- what it came to

few_stored : (w : List ℕ) (n : ℕ) (m : Overlay Cell) → Fit w n → (view w n).memory ≡ m → length m ≤ address_limit
few_stored w n m f e = omega (arith, f.sorted.placed, length_stored w n, ap (λ (z : Overlay Cell). length z) e)

module _ (old : List ℕ) (o : Out Val) where
  abbrev EndsSo : End Val × Held → Type 0
  EndsSo p = Alike (Like false old) p (o.end, (o.after, o.log))

  held_few : (w out : List ℕ) (a : Counts) (p : End Val × Held) (e : End Val) → EndsSo p → p ≡ (e, held w out a) → Fit w a.stored → (o.end ≡ e) × (length o.after.memory ≤ address_limit)
  unfolding held
  held_few w out a p e l c f =
      let k : Like false old (held w out a) (o.after, o.log) = subst (λ (z : Held). Like false old z (o.after, o.log)) (ap (λ (z : End Val × Held). z.1) c) l.state in
      (sym l.end ∙ ap (λ (z : End Val × Held). z.0) c, few_stored w a.stored o.after.memory f k.memory)

  came : (p : End Val × Held) (e : Ending Val) (g : Given) (w out : List ℕ) (a : Counts) → EndsSo p → Came p e (held w out a) → Kept e (Ready g w a) → EvaluatedIf o e
  came p (ended v) g w out a l c f = held_few w out a p (gave v) l c f.fit
  came p (short (Some y)) g w out a l c f = held_few w out a p (stopped y) l c f.fit
  came p (short None) g w out a l c f = subst (λ (m : Overlay Cell). address_limit < length m) l.state.memory c

pub evaluates : (routine : List ℕ) (n count : ℕ) (w w₁ w' old out nodes : List ℕ) (a : Counts) (r : Result Val Short) → length old < most → length w < 2 ^ 64 → nodes ≡ body routine 3 → a ≡ start_counts 10000
    → Stands (body routine 3) n (tree_at (body routine 3) n) → ConstantTabled routine w count → Enters w (how_of 0 count false) a w₁ → Evals nodes [] [] n w₁ old r w' out → Evaluates (constant_run routine n) (end_of r)
unfolding constant_run held
evaluates routine n count w w₁ w' old out nodes a r room long p q h t en v =
    let u : Evals (body routine 3) [] [] n w₁ old r w' out = rw p at v in
    let start : Enters w (how_of 0 count false) (start_counts 10000) w₁ = rw q at en in
    let runs = enters_runs start (eval_ready refl refl t) (u.goes (tree_at (body routine 3) n) h) in
    let x : Scene = record { env = constant_env (program_of routine); world = nothing } in
    let here = runs.came x t.meant in
    let s = held w old (start_counts 10000) in
    record {
      comes = came old (constant_run routine n) _ (end_of r) (constant_given routine count) w' out (counts_in w')
          (ends_alike false old nothing (eval (look (constant_env (program_of routine)) (tree_at (body routine 3) n))) 10000 [] s room (questions_short w long) t.holds refl refl) here runs.ready;
    }
