-- What evaluating each kind of node is, from what the code did for it: laws from what is known of the code's calls to what it ensures. Assumes nothing.
use Rattle.std.specs.Prelude.{Option, Some}
use mathlib.Core.Path.{◌≡◌, refl, sym, ap, ◌∙◌, subst}
use mathlib.Core.Bool.{Bool, true, false}
use mathlib.Core.List.{List, []}
use Prim.Native.Nat.{ℕ, ◌+◌, ◌*◌}
use native.Mathlib.Omega.{arith}
use lib.ListN.{get_or}
use lib.Dec.{eqb}
use borrow.Author.Tests.{eqb-false}
use Rattle.layout.proofs.ArmLaws.{NoneBelow}
use Rattle.std.specs.Prelude.{Result, Ok, Err}
use Rattle.value.specs.declared.Val.{Val}
use Rattle.value.specs.declared.ArithmeticError.{ArithmeticError}
use Rattle.value.specs.declared.ArithmeticError.TheVariants.{DivisionByZero}
use Rattle.value.specs.Value.{type, known_val, unknown_val, cast_to}
use Rattle.value.specs.Operators.{binary_of, operator_of}
use Rattle.spelling.specs.Spelling.{type_of}
use Rattle.files.specs.Nodes.{kind_of, flag_of, ref_of, width_of, value_of}
use Rattle.files.specs.Program.{Tree, Trees}
use Rattle.files.specs.Spells.{next}
use Rattle.definition.specs.Act.{Act, done, ◌>>=◌, ◌>>◌}
use Rattle.definition.specs.Term.{eval, evals, kid, nothing}
use Rattle.definition.specs.Evaluate.{look, looks, eval_as, chosen, read_variable, answered}
use Rattle.workspace.specs.Parts.{tables, registers_part}
use Rattle.workspace.specs.Registers.{value_at}
use Rattle.workspace.specs.Types.{type_at}
use Rattle.hosting.specs.declared.How.{How}
use Rattle.hosting.specs.declared.Short.{Short}
use Rattle.hosting.specs.Scene.{Given, given, Scene}
use Rattle.hosting.specs.Stands.{Stands, Shape, a_cast, an_address, a_ternary, a_binary, an_intrinsic, a_leave, a_give, KidsAt, no_kid, a_kid, Fine}
use Rattle.hosting.specs.Ending.{ended, short, short_of, answer_end}
use Rattle.operations.specs.Registers.{short_in, result_in, end_by, end_in, how_in}
use Rattle.operations.specs.Going.{ReadyIn, Goes}
use Rattle.operations.specs.Steps.{Gives, Answers, AtHand}
use Rattle.operations.specs.Asking.{Addresses}
use Rattle.machine.specs.Post.{Evaluates, EvaluatesKids}
use Rattle.hosting.proofs.Shapes.{last_kind}
use Rattle.operations.proofs.Standing.{act_as, standing}
use Rattle.operations.proofs.Going.{done_goes, fail_goes, goes, halts, assoc, told, ready_after, beside_after, by_true, by_false, gives_goes}

-- ---- from a shape that a test has shown to whatever tree stands there

pub by : {b s r : List ℕ} {n : ℕ} {w₀ o₀ : List ℕ} {q : Bool} {w o : List ℕ} (k : ℕ) → kind_of b n ≡ k
    → ((ts : Trees) → Shape b k n ts → Goes (given b s r) (λ x. act_as b x k n ts) w₀ o₀ (end_in q w) w o) → Evaluates b s r n w₀ o₀ q w o
by k e f = record { goes = λ t h. standing k e f h }

-- ---- what an evaluation came to, by the test of what the function gave

-- of any function of the cycle
module _ {A : Type 0} {g : How → Given} {m : Scene → Act A} {w₀ o₀ : List ℕ} (q : Bool) (a : A) (y : Short) {w o : List ℕ} where
  pub gave_on : q ≡ true → Goes g m w₀ o₀ (end_by q a y) w o → Goes g m w₀ o₀ (ended a) w o
  gave_on e p = told (sym (by_true y e refl)) p

  pub fell_on : q ≡ false → Goes g m w₀ o₀ (end_by q a y) w o → Goes g m w₀ o₀ (short (short_of y)) w o
  fell_on e p = told (sym (by_false a e refl)) p

-- the value that is read from the registers
pub result_is : {v : Val} (w : List ℕ) → v ≡ value_at (registers_part w) 0 → result_in w ≡ v
unfolding result_in
result_is w e = sym e

module _ {b s r : List ℕ} {n : ℕ} {w₀ o₀ : List ℕ} {q : Bool} {w o : List ℕ} (ev : Evaluates b s r n w₀ o₀ q w o) where
  pub ended_on : {t : Tree} → q ≡ true → Stands b n t → Goes (given b s r) (λ x. eval (look x.env t)) w₀ o₀ (ended (result_in w)) w o
  ended_on {t} e h = gave_on q (result_in w) (short_in w) e (ev.goes t h)

  -- with the value by another name
  pub ended_as : {t : Tree} {v : Val} → q ≡ true → v ≡ value_at (registers_part w) 0 → Stands b n t → Goes (given b s r) (λ x. eval (look x.env t)) w₀ o₀ (ended v) w o
  ended_as e p h = told (ap (λ (v : Val). ended v) (sym (result_is w p))) (ended_on e h)

  pub short_on : {t : Tree} → q ≡ false → Stands b n t → Goes (given b s r) (λ x. eval (look x.env t)) w₀ o₀ (short (short_of (short_in w))) w o
  short_on {t} e h = fell_on q (result_in w) (short_in w) e (ev.goes t h)

  -- how the run goes stays
  pub how_on : Fine b n → how_in w ≡ how_in w₀
  how_on f = (ev.goes f.tree f.spells).how

  -- what is ready after an evaluation that gave a value
  pub ready_on : ReadyIn (given b s r) w₀ → q ≡ true → Fine b n → ReadyIn (given b s r) w
  ready_on p e f = ready_after (ended_on e f.spells) p

-- the tree at node n is evaluated, and its value is v, which need not be in the registers
pub record Valued (b s r : List ℕ) (n : ℕ) (w₀ o₀ : List ℕ) (v : Val) (w o : List ℕ) : Type 0 where
  pub goes : (t : Tree) → Stands b n t → Goes (given b s r) (λ x. eval (look x.env t)) w₀ o₀ (ended v) w o

pub valued_at_hand : {b s r : List ℕ} {n : ℕ} {w o : List ℕ} {slot : Option Val} {v : Val} → AtHand b n w slot → slot ≡ Some v → Valued b s r n w o v w o
valued_at_hand {b} {s} {r} {o = o} a e = record { goes = a.goes _ e (given b s r) o }

pub valued_as : {b s r : List ℕ} {n : ℕ} {w₀ o₀ : List ℕ} {q : Bool} {w o : List ℕ} {v : Val} → Evaluates b s r n w₀ o₀ q w o → q ≡ true → v ≡ value_at (registers_part w) 0
    → Valued b s r n w₀ o₀ v w o
valued_as ev e p = record { goes = λ t h. ended_as ev e p h }

pub ready_valued : {b s r : List ℕ} {n : ℕ} {w₀ o₀ : List ℕ} {v : Val} {w o : List ℕ} → Valued b s r n w₀ o₀ v w o → ReadyIn (given b s r) w₀ → Fine b n → ReadyIn (given b s r) w
ready_valued ev p f = ready_after (ev.goes _ f.spells) p

pub how_valued : {b s r : List ℕ} {n : ℕ} {w₀ o₀ : List ℕ} {v : Val} {w o : List ℕ} → Valued b s r n w₀ o₀ v w o → Fine b n → how_in w ≡ how_in w₀
how_valued ev f = (ev.goes _ f.spells).how

-- the value is put in the registers
pub at_hand_evals : {b s r : List ℕ} {n : ℕ} {w o : List ℕ} {slot : Option Val} {v : Val} {q : Bool} {w' : List ℕ} → AtHand b n w slot → slot ≡ Some v → Gives w v q w' → Evaluates b s r n w o q w' o
at_hand_evals {w' = w'} a e g = record { goes = λ t h. beside_after g.beside (told (by_true (short_in w') g.yes g.value) (a.goes _ e _ _ t h)) }

-- a node told by an equal number
pub stands_at : {b : List ℕ} {i j : ℕ} {t : Tree} → j ≡ i → Stands b i t → Stands b j t
stands_at {b} {t = t} e h = subst (λ (n : ℕ). Stands b n t) (sym e) h

-- ---- where a test has shown a kind that is not an Assign's, nothing more is to be told

pub alone : {P Q : Type 0} {m : ℕ} (k : ℕ) → eqb k 13 ≡ false → m ≡ k → P → P × (m ≡ 13 → Q)
alone k ne p x = (x, λ e. absurd (eqb-false k 13 ne (sym p ∙ e)))

-- ---- the kinds that do nothing but give a value

module _ {b s r : List ℕ} {n : ℕ} {w o : List ℕ} {q : Bool} {w' : List ℕ} {kind : ℕ} (p : kind ≡ kind_of b n) where
  pub constant_evals : kind ≡ 0 → Gives w (known_val (value_of b n) (type (width_of b n * 8) true)) q w' → Evaluates b s r n w o q w' o
  unfolding eval_as
  constant_evals k e = by 0 (sym p ∙ k) (λ ts h. gives_goes e)

  pub register_evals : kind ≡ 2 → Gives w (unknown_val (type (width_of b n) true)) q w' → Evaluates b s r n w o q w' o
  unfolding eval_as
  register_evals k e = by 2 (sym p ∙ k) (λ ts h. gives_goes e)

  pub string_evals : kind ≡ 3 → Gives w (unknown_val (type 64 false)) q w' → Evaluates b s r n w o q w' o
  unfolding eval_as
  string_evals k e = by 3 (sym p ∙ k) (λ ts h. gives_goes e)

  pub function_evals : kind ≡ 4 → Gives w (unknown_val (type 64 false)) q w' → Evaluates b s r n w o q w' o
  unfolding eval_as
  function_evals k e = by 4 (sym p ∙ k) (λ ts h. gives_goes e)

  pub true_evals : kind ≡ 5 → Gives w (known_val 1 (type 8 false)) q w' → Evaluates b s r n w o q w' o
  unfolding eval_as
  true_evals k e = by 5 (sym p ∙ k) (λ ts h. gives_goes e)

  pub false_evals : kind ≡ 6 → Gives w (known_val 0 (type 8 false)) q w' → Evaluates b s r n w o q w' o
  unfolding eval_as
  false_evals k e = by 6 (sym p ∙ k) (λ ts h. gives_goes e)

  pub decided_evals : kind ≡ 7 → Gives w (known_val (flag_of b n) (type 8 false)) q w' → Evaluates b s r n w o q w' o
  unfolding eval_as
  decided_evals k e = by 7 (sym p ∙ k) (λ ts h. gives_goes e)

  pub struct_evals : kind ≡ 17 → Gives w (unknown_val (type 64 false)) q w' → Evaluates b s r n w o q w' o
  unfolding eval_as
  struct_evals k e = by 17 (sym p ∙ k) (λ ts h. gives_goes e)

  plain_evals : kind ≡ 19 → Gives w (unknown_val (type 64 true)) q w' → Evaluates b s r n w o q w' o
  unfolding eval_as
  plain_evals k e = by 19 (sym p ∙ k) (λ ts h. gives_goes e)

  -- a kind that is none of the others
  pub last_evals : {Q : Type 0} → Fine b n → NoneBelow 18 kind → Gives w (unknown_val (type 64 true)) q w' → Evaluates b s r n w o q w' o × (kind_of b n ≡ 13 → Q)
  last_evals f others e = let k : kind ≡ 19 = search (last_kind f.spells kind p) in alone 19 refl (sym p ∙ k) (plain_evals k e)

-- ---- Var and AddressOf, which an operation does whole

module _ {b s r : List ℕ} {n : ℕ} {w₀ o₀ : List ℕ} {q : Bool} {w o : List ℕ} {kind : ℕ} (p : kind ≡ kind_of b n) where
  pub var_evals : kind ≡ 1 → Goes (given b s r) (λ x. read_variable x.env (ref_of b n)) w₀ o₀ (end_in q w) w o → Evaluates b s r n w₀ o₀ q w o
  unfolding eval_as
  var_evals k e = by 1 (sym p ∙ k) (λ ts h. e)

  pub address_evals : kind ≡ 10 → Addresses b s (n + 1) w₀ o₀ q w o → Evaluates b s r n w₀ o₀ q w o
  unfolding eval_as look kid
  address_evals k e = by 10 (sym p ∙ k) (λ ts h. go ts h)
    where
      go : (ts : Trees) → Shape b 10 n ts → Goes (given b s r) (λ x. act_as b x 10 n ts) w₀ o₀ (end_in q w) w o
      go ts (an_address {a = t} h _) = e.goes r t h

-- ---- Cast

module _ {b s r : List ℕ} {n : ℕ} {w₀ o₀ : List ℕ} {q : Bool} {w o : List ℕ} (k : kind_of b n ≡ 8) (ev : Evaluates b s r (n + 1) w₀ o₀ q w o) where
  pub cast_evals : {u : Bool} {w' : List ℕ} → q ≡ true → Gives w (cast_to (result_in w) (type_at (tables w) (ref_of b n))) u w' → Evaluates b s r n w₀ o₀ u w' o
  unfolding eval_as look kid
  cast_evals {u} {w'} eq e = by 8 k (λ ts h. go ts h)
    where
      go : (ts : Trees) → Shape b 8 n ts → Goes (given b s r) (λ x. act_as b x 8 n ts) w₀ o₀ (end_in u w') w' o
      go ts (a_cast l h _) = goes _ (ended_on ev eq h) (beside_after e.beside (told (by_true (short_in w') e.yes e.value)
          (done_goes (λ x. cast_to (result_in w) (type_of (get_or x.env.types (ref_of b n) []))) (λ _ x m. ap (cast_to (result_in w)) (sym (m.types (ref_of b n) l))))))

  pub cast_short : q ≡ false → Evaluates b s r n w₀ o₀ false w o
  unfolding eval_as look kid
  cast_short eq = by 8 k (λ ts h. go ts h)
    where
      go : (ts : Trees) → Shape b 8 n ts → Goes (given b s r) (λ x. act_as b x 8 n ts) w₀ o₀ (end_in false w) w o
      go ts (a_cast l h _) = halts _ _ (short_on ev eq h)

-- ---- Ternary

module _ {b s r : List ℕ} {n : ℕ} {w₀ o₀ : List ℕ} {p : Bool} {w₁ o₁ : List ℕ} (k : kind_of b n ≡ 11) (ea : Evaluates b s r (n + 1) w₀ o₀ p w₁ o₁) where
  pub ternary_short : p ≡ false → Evaluates b s r n w₀ o₀ false w₁ o₁
  unfolding eval_as look kid
  ternary_short ep = by 11 k (λ ts h. go ts h)
    where
      go : (ts : Trees) → Shape b 11 n ts → Goes (given b s r) (λ x. act_as b x 11 n ts) w₀ o₀ (end_in false w₁) w₁ o₁
      go ts (a_ternary h i j e) = halts _ _ (short_on ea ep h)

  module _ {m : ℕ} {q : Bool} {w₂ o₂ : List ℕ} (ep : p ≡ true) (em : m ≡ next b (n + 1)) (eb : Evaluates b s r m w₁ o₁ q w₂ o₂) where
    pub ternary_short_second : q ≡ false → Evaluates b s r n w₀ o₀ false w₂ o₂
    unfolding eval_as look kid
    ternary_short_second eq = by 11 k (λ ts h. go ts h)
      where
        go : (ts : Trees) → Shape b 11 n ts → Goes (given b s r) (λ x. act_as b x 11 n ts) w₀ o₀ (end_in false w₂) w₂ o₂
        go ts (a_ternary h i j e) = goes _ (ended_on ea ep h) (halts _ _ (short_on eb eq (stands_at em i)))

    module _ {l : ℕ} {z : Bool} {w₃ o₃ : List ℕ} (eq : q ≡ true) (el : l ≡ next b m) (ec : Evaluates b s r l w₂ o₂ z w₃ o₃) where
      pub ternary_short_third : z ≡ false → Evaluates b s r n w₀ o₀ false w₃ o₃
      unfolding eval_as look kid
      ternary_short_third ez = by 11 k (λ ts h. go ts h)
        where
          go : (ts : Trees) → Shape b 11 n ts → Goes (given b s r) (λ x. act_as b x 11 n ts) w₀ o₀ (end_in false w₃) w₃ o₃
          go ts (a_ternary h i j e) = goes _ (ended_on ea ep h) (goes _ (ended_on eb eq (stands_at em i)) (halts _ _ (short_on ec ez (stands_at (el ∙ ap (next b) em) j))))

      pub ternary_evals : {x y : Val} {u : Bool} {w' : List ℕ} → z ≡ true → x ≡ value_at (registers_part w₁) 0 → y ≡ value_at (registers_part w₂) 0 → Gives w₃ (chosen x y (result_in w₃)) u w'
          → Evaluates b s r n w₀ o₀ u w' o₃
      unfolding eval_as look kid
      ternary_evals {u = u} {w' = w'} ez ex ey e = by 11 k (λ ts h. go ts h)
        where
          go : (ts : Trees) → Shape b 11 n ts → Goes (given b s r) (λ x. act_as b x 11 n ts) w₀ o₀ (end_in u w') w' o₃
          go ts (a_ternary h i j _) =
              goes _ (ended_as ea ep ex h) (goes _ (ended_as eb eq ey (stands_at em i)) (goes _ (ended_on ec ez (stands_at (el ∙ ap (next b) em) j)) (gives_goes e)))

-- ---- Binary

answers : {g : How → Given} {w o : List ℕ} (z : Result Val ArithmeticError) → Goes g (λ x. answered z) w o (answer_end z) w o
answers (Ok u) = done_goes (λ _. u) (λ h x m. refl)
answers (Err DivisionByZero) = fail_goes

module _ {b s r : List ℕ} {n : ℕ} {w₀ o₀ : List ℕ} (k : kind_of b n ≡ 12) where
  pub binary_short : {p : Bool} {w₁ o₁ : List ℕ} → Evaluates b s r (n + 1) w₀ o₀ p w₁ o₁ → p ≡ false → Evaluates b s r n w₀ o₀ false w₁ o₁
  unfolding eval_as look kid
  binary_short {w₁ = w₁} {o₁ = o₁} ea ep = by 12 k (λ ts h. go ts h)
    where
      go : (ts : Trees) → Shape b 12 n ts → Goes (given b s r) (λ x. act_as b x 12 n ts) w₀ o₀ (end_in false w₁) w₁ o₁
      go ts (a_binary h i e) = halts _ _ (short_on ea ep h)

  module _ {l : Val} {w₁ o₁ : List ℕ} (ea : Valued b s r (n + 1) w₀ o₀ l w₁ o₁) where
    pub binary_short_right : {q : Bool} {w₂ o₂ : List ℕ} → Evaluates b s r (next b (n + 1)) w₁ o₁ q w₂ o₂ → q ≡ false → Evaluates b s r n w₀ o₀ false w₂ o₂
    unfolding eval_as look kid
    binary_short_right {w₂ = w₂} {o₂ = o₂} eb eq = by 12 k (λ ts h. go ts h)
      where
        go : (ts : Trees) → Shape b 12 n ts → Goes (given b s r) (λ x. act_as b x 12 n ts) w₀ o₀ (end_in false w₂) w₂ o₂
        go ts (a_binary h i e) = goes _ (ea.goes _ h) (halts _ _ (short_on eb eq i))

    pub binary_evals : {v : Val} {w₂ o₂ : List ℕ} {u : Bool} {w' : List ℕ} → Valued b s r (next b (n + 1)) w₁ o₁ v w₂ o₂ → Answers w₂ (binary_of (operator_of (flag_of b n)) l v) u w'
        → Evaluates b s r n w₀ o₀ u w' o₂
    unfolding eval_as look kid
    binary_evals {v} {w₂} {o₂} {u} {w'} eb e = by 12 k (λ ts h. go ts h)
      where
        go : (ts : Trees) → Shape b 12 n ts → Goes (given b s r) (λ x. act_as b x 12 n ts) w₀ o₀ (end_in u w') w' o₂
        go ts (a_binary h i _) = goes _ (ea.goes _ h) (goes _ (eb.goes _ i)
            (beside_after e.beside (told e.ends (answers (binary_of (operator_of (flag_of b n)) l v)))))

-- ---- Return

module _ {b s r : List ℕ} {n e : ℕ} {w₀ o₀ : List ℕ} {q : Bool} {w : List ℕ} (k : kind_of b n ≡ 16) (ee : e ≡ next b n) where
  pub returned_nothing : e ≡ n + 1 → Gives w₀ nothing q w → Evaluates b s r n w₀ o₀ q w o₀
  unfolding eval_as look kid
  returned_nothing z p = by 16 k (λ ts h. go ts h)
    where
      go : (ts : Trees) → Shape b 16 n ts → Goes (given b s r) (λ x. act_as b x 16 n ts) w₀ o₀ (end_in q w) w o₀
      go ts (a_leave _) = gives_goes p
      go ts (a_give l h _) = absurd (omega (arith, l, z, ee))

  pub returned_evals : {o : List ℕ} → (e ≡ n + 1 → ⊥) → Evaluates b s r (n + 1) w₀ o₀ q w o → Evaluates b s r n w₀ o₀ q w o
  unfolding eval_as look kid
  returned_evals {o} ne ev = by 16 k (λ ts h. go ts h)
    where
      go : (ts : Trees) → Shape b 16 n ts → Goes (given b s r) (λ x. act_as b x 16 n ts) w₀ o₀ (end_in q w) w o
      go ts (a_leave l) = absurd (ne (omega (arith, l, ee)))
      go ts (a_give {a = t} l h _) = ev.goes t h

-- ---- Intrinsic

pub intrinsic_evals : {b s r : List ℕ} {n e : ℕ} {w₀ o₀ : List ℕ} {q : Bool} {w o : List ℕ} → kind_of b n ≡ 15 → e ≡ next b n
    → EvaluatesKids b s r (n + 1) e w₀ o₀ q w o → Evaluates b s r n w₀ o₀ q w o
unfolding eval_as
intrinsic_evals {b} {s} {r} {n} {e} {w₀} {o₀} {q} {w} {o} k ee ev = by 15 k (λ ts h. go ts h)
  where
    go : (ts : Trees) → Shape b 15 n ts → Goes (given b s r) (λ x. act_as b x 15 n ts) w₀ o₀ (end_in q w) w o
    go ts (an_intrinsic h) = ev.goes ts (subst (λ (j : ℕ). KidsAt b (n + 1) j ts) (sym ee) h)

-- ---- trees side by side

abbrev kids_act : Scene → Trees → Act Val
kids_act x ts = evals (looks x.env ts) >> done nothing

kids_none : {b s r : List ℕ} {n e : ℕ} {w o : List ℕ} {q : Bool} {w' : List ℕ} {ts : Trees} → KidsAt b n e ts → n ≡ e → Gives w nothing q w'
    → Goes (given b s r) (λ x. kids_act x ts) w o (end_in q w') w' o
unfolding look evals ◌>>=◌
kids_none no_kid e p = gives_goes p
kids_none (a_kid lt h k) e p = absurd (omega (arith, lt, e))

pub kids_end : {b s r : List ℕ} {n e : ℕ} {w o : List ℕ} {q : Bool} {w' : List ℕ} → n ≡ e → Gives w nothing q w' → EvaluatesKids b s r n e w o q w' o
kids_end e p = record { goes = λ ts h. kids_none h e p }

module _ {b s r : List ℕ} {w₀ o₀ w₁ o₁ : List ℕ} where
  kids_one : {v : Val} {n e : ℕ} {q : Bool} {w o : List ℕ} {ts : Trees} → KidsAt b n e ts → (n ≡ e → ⊥) → Valued b s r n w₀ o₀ v w₁ o₁
      → EvaluatesKids b s r (next b n) e w₁ o₁ q w o → Goes (given b s r) (λ x. kids_act x ts) w₀ o₀ (end_in q w) w o
  unfolding look evals ◌>>=◌
  kids_one no_kid ne ev ek = absurd (ne refl)
  kids_one (a_kid {t = t} {ts = ts} lt h k) ne ev ek =
      assoc (λ x. eval (look x.env t)) _ _ (goes _ (ev.goes t h) (assoc (λ x. evals (looks x.env ts)) _ _ (ek.goes ts k)))

  kids_stop : {p : Bool} {n e : ℕ} {ts : Trees} → KidsAt b n e ts → (n ≡ e → ⊥) → Evaluates b s r n w₀ o₀ p w₁ o₁ → p ≡ false
      → Goes (given b s r) (λ x. kids_act x ts) w₀ o₀ (end_in false w₁) w₁ o₁
  unfolding look evals
  kids_stop no_kid ne ev ep = absurd (ne refl)
  kids_stop (a_kid {t = t} lt h k) ne ev ep = assoc (λ x. eval (look x.env t)) _ _ (halts _ _ (short_on ev ep h))

  module _ {n e : ℕ} (ne : n ≡ e → ⊥) where
    pub kids_evals : {v : Val} {m : ℕ} {q : Bool} {w o : List ℕ} → Valued b s r n w₀ o₀ v w₁ o₁ → m ≡ next b n → EvaluatesKids b s r m e w₁ o₁ q w o → EvaluatesKids b s r n e w₀ o₀ q w o
    kids_evals {q = q} {w = w} {o = o} ev em ek =
        record { goes = λ ts h. kids_one h ne ev (subst (λ (j : ℕ). EvaluatesKids b s r j e w₁ o₁ q w o) em ek) }

    pub kids_short : {p : Bool} → Evaluates b s r n w₀ o₀ p w₁ o₁ → p ≡ false → EvaluatesKids b s r n e w₀ o₀ false w₁ o₁
    kids_short ev ep = record { goes = λ ts h. kids_stop h ne ev ep }
