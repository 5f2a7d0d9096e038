-- What evaluating a Call is, from what the code did for it: its arguments, whose values are put in bytes, and then the call. Assumes nothing.
use mathlib.Core.Path.{◌≡◌, refl, sym, ap, ap₂, ◌∙◌, subst}
use mathlib.Core.Bool.{Bool, true, false}
use mathlib.Core.List.{List, [], ◌∷◌, ◌++◌}
use Rattle.std.specs.Prelude.{Option, None, Some, is_some}
use Rattle.std.proofs.lemmas.Option.{none-some, same_Some}
use Prim.Native.Nat.{ℕ, ◌+◌, ◌*◌, ◌≤◌}
use native.Mathlib.Omega.{arith}
use lib.ListN.{length, take, drop}
use lib.Seq.{take-take, take-add, drop-drop, take_at}
use Rattle.layout.proofs.StoreLaws.{take_sets, drop_sets_at, part_take}
use Rattle.value.specs.declared.Val.{Val}
use Rattle.files.specs.Nodes.{kind_of}
use Rattle.files.specs.Program.{Tree, tree, Trees, node_of}
use Rattle.files.specs.Spells.{next}
use Rattle.definition.specs.Act.{Act, done, ◌>>=◌}
use Rattle.definition.specs.Term.{eval, evals, kid, rest}
use Rattle.definition.specs.Evaluate.{look, looks, eval_as, call}
use Rattle.workspace.specs.Parts.{part}
use Rattle.value.specs.Encoding.{val_bytes}
use Rattle.value.proofs.EncodingLaws.{length_val_bytes}
use Rattle.hosting.specs.declared.How.{How}
use Rattle.hosting.specs.declared.Short.{Short}
use Rattle.hosting.specs.Scene.{Given, given, Scene}
use Rattle.hosting.specs.Stands.{Stands, stands, Shape, a_call, KidsAt, no_kid, a_kid, FineArgs}
use Rattle.hosting.specs.Ending.{ended, short, short_of}
use Rattle.operations.specs.Registers.{short_in, result_in, end_by, end_in}
use Rattle.operations.specs.Going.{Goes, ReadyIn}
use Rattle.machine.specs.Post.{Evaluates, EvaluatesArgs}
use Rattle.operations.specs.Taking.{ValuesIn, PutsVal, Calls, after_args}
use Rattle.operations.proofs.Standing.{evals_as}
use Rattle.operations.proofs.Going.{done_goes, goes, halts, acts, told, ready_after, by_true, by_false}
use Rattle.machine.proofs.Evaluating.{by}

-- ---- values in bytes

no_values : (s : List ℕ) (k : ℕ) → ValuesIn s k 0 []
no_values s k = record { bytes = refl; many = refl; whole = tt }

module _ (vals vals' vals'' : List ℕ) (k : ℕ) {v : Val} (room : k * 14 + 14 ≤ length vals) (put : PutsVal vals k v vals') (kept : take ((k + 1) * 14) vals'' ≡ take ((k + 1) * 14) vals') where
  first_told : part (k * 14) 14 vals'' ≡ val_bytes v
  first_told =
      sym (part_take (k * 14) 14 ((k + 1) * 14) vals'' (omega arith)) ∙ ap (λ (s : List ℕ). take 14 (drop (k * 14) s)) kept ∙ part_take (k * 14) 14 ((k + 1) * 14) vals' (omega arith)
      ∙ ap (λ (s : List ℕ). take 14 (drop (k * 14) s)) put.bytes
      ∙ ap (take 14) (drop_sets_at (val_bytes v) vals (k * 14) (omega (arith, length_val_bytes v)))
      ∙ take_at (val_bytes v) (drop (k * 14 + length (val_bytes v)) vals) 14 (length_val_bytes v)

  more_values : {c : ℕ} {vs : List Val} → ValuesIn vals'' (k + 1) c vs → ValuesIn vals'' k (c + 1) (v ∷ vs)
  unfolding val_bytes
  more_values {c} {vs} h = record {
    bytes = ap (λ (j : ℕ). take j (drop (k * 14) vals'')) (split c) ∙ take-add 14 (c * 14) (drop (k * 14) vals'')
        ∙ ap₂ (λ (a b : List ℕ). a ++ b) first_told (ap (take (c * 14)) (drop-drop 14 (k * 14) vals'' ∙ ap (λ (j : ℕ). drop j vals'') (up k)) ∙ h.bytes);
    many = omega (arith, h.many);
    whole = (put.whole, h.whole);
  }
    where
      split : (m : ℕ) → (m + 1) * 14 ≡ 14 + m * 14
      split m = omega arith

      up : (m : ℕ) → m * 14 + 14 ≡ (m + 1) * 14
      up m = omega arith

  kept_before : take (k * 14) vals'' ≡ take (k * 14) vals
  kept_before =
      sym (take-take (k * 14) ((k + 1) * 14) vals'' (omega arith)) ∙ ap (take (k * 14)) kept ∙ take-take (k * 14) ((k + 1) * 14) vals' (omega arith)
      ∙ ap (take (k * 14)) put.bytes ∙ take_sets (val_bytes v) vals (k * 14) (k * 14) (omega arith)

-- ---- arguments

-- how many values there are with j more
abbrev pub more : ℕ → Option ℕ → Option ℕ
more j None = None
more j (Some c) = Some (c + j)

args_none : {g : How → Given} {b : List ℕ} {n e : ℕ} {w o : List ℕ} {ts : Trees} → KidsAt b n e ts → n ≡ e → Goes g (λ x. evals (looks x.env ts)) w o (ended []) w o
unfolding look evals
args_none no_kid e = done_goes (λ _. []) (λ h x m. refl)
args_none (a_kid lt h k) e = absurd (omega (arith, lt, e))

more_filled : {g : How → Given} {m : Scene → Act (List Val)} {w₀ o₀ w o : List ℕ} (q : Bool) (v : Val) (vs : List Val) (y : Short) → Goes g m w₀ o₀ (end_by q vs y) w o
    → Goes g (λ x. m x >>= λ us. done (v ∷ us)) w₀ o₀ (end_by q (v ∷ vs) y) w o
more_filled true v vs y p = goes _ p (done_goes (λ _. v ∷ vs) (λ h x m. refl))
more_filled false v vs y p = halts _ _ p

pub args_end : {b s r : List ℕ} {n e k : ℕ} {w o vals : List ℕ} → n ≡ e → FineArgs b n e k → EvaluatesArgs b s r n e k w o (Some 0) vals vals w o
args_end {k = k} {vals = vals} z f = record {
  values = [];
  filled = λ c h. let z : 0 ≡ c = same_Some 0 c h in subst (λ (j : ℕ). ValuesIn vals k j [] × (j + k ≤ 16)) z (no_values vals k, omega (arith, f.room));
  goes = λ ts h. args_none h z;
  before = refl;
}

module _ {b s r : List ℕ} {w₀ o₀ : List ℕ} {q : Bool} {w₁ o₁ : List ℕ} where
  args_one : {n e : ℕ} {w o : List ℕ} {ts : Trees} (p : Bool) (vs : List Val) (y : Short) → KidsAt b n e ts → (n ≡ e → ⊥) → Evaluates b s r n w₀ o₀ q w₁ o₁ → q ≡ true
      → ((us : Trees) → KidsAt b (next b n) e us → Goes (given b s r) (λ x. evals (looks x.env us)) w₁ o₁ (end_by p vs y) w o)
      → Goes (given b s r) (λ x. evals (looks x.env ts)) w₀ o₀ (end_by p (result_in w₁ ∷ vs) y) w o
  unfolding look evals
  args_one p vs y no_kid ne ev eq f = absurd (ne refl)
  args_one p vs y (a_kid {ts = ts} lt h k) ne ev eq f = goes _ (told (sym (by_true (short_in w₁) eq refl)) (ev.goes _ h)) (more_filled p (result_in w₁) vs y (f ts k))

  args_stop : {n e : ℕ} {ts : Trees} → KidsAt b n e ts → (n ≡ e → ⊥) → Evaluates b s r n w₀ o₀ q w₁ o₁ → q ≡ false
      → Goes (given b s r) (λ x. evals (looks x.env ts)) w₀ o₀ (short (short_of (short_in w₁))) w₁ o₁
  unfolding look evals
  args_stop no_kid ne ev eq = absurd (ne refl)
  args_stop (a_kid lt h k) ne ev eq = halts _ _ (told (sym (by_false (result_in w₁) eq refl)) (ev.goes _ h))

module _ {b s r : List ℕ} {n e : ℕ} {w₀ o₀ : List ℕ} {q : Bool} {w₁ o₁ : List ℕ} (ne : n ≡ e → ⊥) (ev : Evaluates b s r n w₀ o₀ q w₁ o₁) where
  pub args_short : {k : ℕ} {vals : List ℕ} → FineArgs b n e k → q ≡ false → EvaluatesArgs b s r n e k w₀ o₀ None vals vals w₁ o₁
  args_short f eq = record {
    values = [];
    filled = λ c h. absurd (none-some c h);
    goes = λ ts h. args_stop h ne ev eq;
    before = refl;
  }

  there : {m : ℕ} → m ≡ next b n → (us : Trees) → KidsAt b (next b n) e us → KidsAt b m e us
  there em us h = subst (λ (j : ℕ). KidsAt b j e us) (sym em) h

  module _ {k m : ℕ} {vals vals' vals'' w o : List ℕ} (room : k * 14 + 14 ≤ length vals) (eq : q ≡ true) (em : m ≡ next b n) (put : PutsVal vals k (result_in w₁) vals') where
    pub args_evals : (p : Option ℕ) → EvaluatesArgs b s r m e (k + 1) w₁ o₁ p vals' vals'' w o → EvaluatesArgs b s r n e k w₀ o₀ (more 1 p) vals vals'' w o
    args_evals None ea = record {
      values = result_in w₁ ∷ ea.values;
      filled = λ c h. absurd (none-some c h);
      goes = λ ts h. args_one false ea.values (short_in w) h ne ev eq (λ us i. ea.goes us (there em us i));
      before = kept_before vals vals' vals'' k room put ea.before;
    }
    args_evals (Some c) ea = record {
      values = result_in w₁ ∷ ea.values;
      filled = λ d h.
          let z = ea.filled c refl in
          subst (λ (j : ℕ). ValuesIn vals'' k j (result_in w₁ ∷ ea.values) × (j + k ≤ 16)) (same_Some (c + 1) d h) (more_values vals vals' vals'' k room put ea.before z.0, omega (arith, z.1));
      goes = λ ts h. args_one true ea.values (short_in w) h ne ev eq (λ us i. ea.goes us (there em us i));
      before = kept_before vals vals' vals'' k room put ea.before;
    }

-- the same arguments, told by an equal count
pub args_told : {b s r : List ℕ} {n e k : ℕ} {w₀ o₀ vals vals' w o : List ℕ} {p d : Option ℕ} → d ≡ p → EvaluatesArgs b s r n e k w₀ o₀ p vals vals' w o → EvaluatesArgs b s r n e k w₀ o₀ d vals vals' w o
args_told {b} {s} {r} {n} {e} {k} {w₀} {o₀} {vals} {vals'} {w} {o} z ea = subst (λ (j : Option ℕ). EvaluatesArgs b s r n e k w₀ o₀ j vals vals' w o) (sym z) ea

pub more_none : (p : Option ℕ) → p ≡ more 0 p
more_none None = refl
more_none (Some c) = ap (λ (j : ℕ). Some j) (omega arith)

pub more_one : (j : ℕ) (p : Option ℕ) → more (j + 1) p ≡ more j (more 1 p)
more_one j None = refl
more_one j (Some c) = ap (λ (i : ℕ). Some i) (omega arith)

-- ---- the call

-- the arguments of the tree that stands there
under : {b s r : List ℕ} (n : ℕ) {m e : ℕ} {w₀ o₀ : List ℕ} {q : Option ℕ} {vals vals' w₁ o₁ : List ℕ} {ts : Trees} → m ≡ next b (n + 1) → e ≡ next b n
    → (ea : EvaluatesArgs b s r m e 0 w₀ o₀ q vals vals' w₁ o₁) → KidsAt b (next b (n + 1)) (next b n) ts
    → Goes (given b s r) (λ x. evals (looks x.env ts)) w₀ o₀ (end_by (is_some q) ea.values (short_in w₁)) w₁ o₁
under {b} n {m} {ts = ts} em ee ea h = ea.goes ts (subst (λ (j : ℕ). KidsAt b m j ts) (sym ee) (subst (λ (j : ℕ). KidsAt b j (next b n) ts) (sym em) h))

-- the workspace is in order after arguments that have values
pub args_ready : {b s r : List ℕ} {n e k : ℕ} {w₀ o₀ : List ℕ} {q : Option ℕ} {vals vals' w o : List ℕ} {c : ℕ} → EvaluatesArgs b s r n e k w₀ o₀ q vals vals' w o → q ≡ Some c
    → FineArgs b n e k → ReadyIn (given b s r) w₀ → ReadyIn (given b s r) w
args_ready {w = w} ea eq f p = ready_after (told (sym (by_true (short_in w) (ap is_some eq) refl)) (ea.goes f.trees f.spells)) p

module _ {b s r : List ℕ} {n m e : ℕ} {w₀ o₀ : List ℕ} {q : Option ℕ} {vals vals' w₁ o₁ : List ℕ} (k : kind_of b n ≡ 14) (em : m ≡ next b (n + 1)) (ee : e ≡ next b n)
    (ea : EvaluatesArgs b s r m e 0 w₀ o₀ q vals vals' w₁ o₁) where
  pub call_evals : {c : ℕ} {p : Bool} {w o : List ℕ} → q ≡ Some c → Calls b vals' c n w₁ o₁ p w o → Evaluates b s r n w₀ o₀ p w o
  unfolding eval_as look kid call after_args
  call_evals {c} {p} {w} {o} eq f = record { goes = λ t h. go t h }
    where
      from : {ts : Trees} → Shape b 14 n ts → Stands b n (tree (node_of b n) ts)
          → Goes (given b s r) (λ x. call x.env (kid 0 (looks x.env ts)) (rest (looks x.env ts))) w₀ o₀ (end_in p w) w o
      from (a_call {ts = ts} h ks few) st =
          goes _ (told (sym (by_true (short_in w₁) (ap is_some eq) refl)) (under n em ee ea ks)) (f.goes s r ea.values (ea.filled c eq).0 _ st)

      go : (t : Tree) → Stands b n t → Goes (given b s r) (λ x. eval (look x.env t)) w₀ o₀ (end_in p w) w o
      go _ (stands {ts = ts} i h) = acts (λ _ x _. evals_as x.env b n 14 ts k) (from (subst (λ (j : ℕ). Shape b j n ts) k h) (stands i h))

  pub call_short : q ≡ None → Evaluates b s r n w₀ o₀ false w₁ o₁
  unfolding eval_as look kid call
  call_short eq = by 14 k (λ ts h. from h)
    where
      from : {ts : Trees} → Shape b 14 n ts
          → Goes (given b s r) (λ x. call x.env (kid 0 (looks x.env ts)) (rest (looks x.env ts))) w₀ o₀ (end_in false w₁) w₁ o₁
      from (a_call {ts = ts} h ks few) = halts _ _ (told (sym (by_false ea.values (ap is_some eq) refl)) (under n em ee ea ks))
