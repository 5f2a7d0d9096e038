-- How far the loop over a Call's arguments has come: what is still to be done gives the whole. Assumes nothing.
use mathlib.Core.Path.{◌≡◌, refl, sym, ap, ◌∙◌, subst}
use mathlib.Core.Bool.{Bool, true, false}
use mathlib.Core.List.{List}
use Rattle.std.specs.Prelude.{Option, None, Some}
use Prim.Native.Nat.{ℕ, ◌+◌, ◌*◌, ◌≤◌, ◌<◌}
use native.Mathlib.Nat.{le_refl}
use native.Mathlib.Omega.{arith}
use lib.ListN.{length}
use lib.Seq.{length-sets}
use Rattle.value.specs.declared.Val.{Val}
use Rattle.value.specs.Encoding.{val_bytes, value_size}
use Rattle.files.specs.Spells.{next}
use Rattle.workspace.specs.Parts.{registers_part}
use Rattle.workspace.specs.Registers.{value_at}
use Rattle.hosting.specs.Scene.{given}
use Rattle.hosting.specs.Stands.{FineArgs}
use Rattle.operations.specs.Registers.{short_in, result_in, how_in}
use Rattle.operations.specs.Going.{ReadyIn}
use Rattle.machine.specs.Post.{Evaluates, EvaluatesArgs}
use Rattle.operations.specs.Taking.{PutsVal}
use Rattle.hosting.proofs.Shapes.{arg_here, args_more, args_few}
use Rattle.operations.proofs.Going.{told, ready_after, by_true}
use Rattle.machine.proofs.Ranks.{next_past}
use Rattle.machine.proofs.Evaluating.{how_on}
use Rattle.machine.proofs.Siblings.{kid_within}
use Rattle.machine.proofs.Calling.{more, args_end, args_evals, args_short, args_told, more_none, more_one}

-- the arguments from node n up to node e: the loop is at node i, whose value is value j, with these bytes
pub record ArgsSoFar (b s r : List ℕ) (n e : ℕ) (w₀ o₀ vals₀ : List ℕ) (i j : ℕ) (w o vals : List ℕ) : Type 0 where
  pub past : n ≤ i
  pub ready : ReadyIn (given b s r) w
  pub how : how_in w ≡ how_in w₀
  pub fine : FineArgs b i e j
  pub long : length vals ≡ 224
  pub rest : (p : Option ℕ) {vals' w' o' : List ℕ} → EvaluatesArgs b s r i e j w o p vals vals' w' o' → EvaluatesArgs b s r n e 0 w₀ o₀ (more j p) vals₀ vals' w' o'

pub args_start : {b s r : List ℕ} {n e : ℕ} {w o vals : List ℕ} → ReadyIn (given b s r) w → FineArgs b n e 0 → length vals ≡ 224 → ArgsSoFar b s r n e w o vals n 0 w o vals
args_start p f l = record { past = le_refl _; ready = p; how = refl; fine = f; long = l; rest = λ p x. args_told (sym (more_none p)) x }

module _ {b s r : List ℕ} {n e : ℕ} {w₀ o₀ vals₀ : List ℕ} {i j : ℕ} {w o vals : List ℕ} (so : ArgsSoFar b s r n e w₀ o₀ vals₀ i j w o vals) where
  pub args_done : e ≤ i → EvaluatesArgs b s r n e 0 w₀ o₀ (Some j) vals₀ vals w o
  args_done z = args_told (ap (λ (c : ℕ). Some c) (omega arith)) (so.rest (Some 0) (args_end (omega (arith, z, kid_within so.fine.spells)) so.fine))

  module _ (ne : i ≡ e → ⊥) where
    pub args_room : j < 16
    args_room = args_few ne so.fine

    module _ {q : Bool} {w₁ o₁ : List ℕ} (ev : Evaluates b s r i w o q w₁ o₁) where
      pub args_stopped : q ≡ false → EvaluatesArgs b s r n e 0 w₀ o₀ None vals₀ vals w₁ o₁
      args_stopped eq = so.rest None (args_short ne ev so.fine eq)

      pub arg_ready : q ≡ true → ReadyIn (given b s r) w₁
      arg_ready eq = let f = arg_here ne so.fine in ready_after (told (sym (by_true (short_in w₁) eq refl)) (ev.goes f.tree f.spells)) so.ready

      pub args_next : {m : ℕ} {v : Val} {vals' : List ℕ} → q ≡ true → m ≡ next b i → v ≡ value_at (registers_part w₁) 0 → PutsVal vals j v vals'
          → ArgsSoFar b s r n e w₀ o₀ vals₀ m (j + 1) w₁ o₁ vals'
      unfolding result_in
      args_next {v = v} {vals' = vals'} eq em ev' put = record {
        past = omega (arith, so.past, next_past (arg_here ne so.fine) em);
        ready = arg_ready eq;
        how = how_on ev (arg_here ne so.fine) ∙ so.how;
        fine = args_more ne so.fine em;
        long = ap length put.bytes ∙ length-sets vals (j * value_size) (val_bytes v) ∙ so.long;
        rest = λ p x. args_told (more_one j p)
            (so.rest (more 1 p) (args_evals ne ev (omega (arith, so.long, args_few ne so.fine)) eq em (subst (λ (z : Val). PutsVal vals j z vals') ev' put) p x));
      }
