-- What an evaluation does with the state: it reads and writes memory, variables and the pending note. It takes no unit of the budget and records no step:
-- only the walk does. Assumes nothing.
use mathlib.Core.Bool.{Bool, true, false, ◌||◌}
use mathlib.Core.List.{List, [], ◌∷◌}
use Rattle.std.specs.Prelude.{Option, None, Some, Result, Ok, Err}
use Prim.Native.Nat.{ℕ, zero, suc}
use lib.ListN.{drop}
use Rattle.value.specs.declared.Ty.{Ty}
use Rattle.value.specs.declared.Val.{Val}
use Rattle.value.specs.declared.ArithmeticError.{ArithmeticError}
use Rattle.value.specs.declared.ArithmeticError.TheVariants.{DivisionByZero}
use Rattle.value.specs.Operators.{operator_of, binary_of}
use Rattle.memory.specs.Overlay.{byte_or}
use Rattle.files.specs.Program.{Node, Tree, tree, Trees, nil, cons}
use Rattle.files.specs.declared.kinds.Kind.{Kind}
use Rattle.files.specs.declared.kinds.Kind.TheVariants.{Constant, Var, Register, StringLiteral, FunctionName, ConditionTrue, ConditionFalse, ConstantCondition, Cast, Deref, AddressOf, Ternary, Binary, Assign, Call, Intrinsic, Return, StructInit, Field, Plain}
use Rattle.definition.specs.Question.{Asked, Question, Answer}
use Rattle.definition.specs.Act.{Act, done, fail, ask, act, Op, peek_op, poke_op, get_op, set_op, pending_op, leave_op, spend_op, emit_op, Reply, ◌>>=◌, Why}
use Rattle.definition.specs.Memory.{gather, load, pokes, store_val}
use Rattle.definition.specs.Term.{Term, term, Terms, no_terms, more_terms, eval, kids, is, kid, rest, evals}
use Rattle.definition.specs.Evaluate.{Env, answered, number_in, width_in, read_variable, write_variable, pointee_of, pointer, store_fields, assign_struct, assign_val, assign, taken_by, take_names, followed, call, address_val, eval_as, look, looks, execute}
use Rattle.definition.proofs.Every.{Any, Every, every_bind, every_done, every_fail, every_ask, every_act, every_if, every_option}

-- every operation but taking a unit and recording a step
abbrev pub Inner : Op → Type 0
Inner (peek_op a) = Unit
Inner (poke_op a c) = Unit
Inner (get_op x) = Unit
Inner (set_op x v) = Unit
Inner pending_op = Unit
Inner (leave_op p) = Unit
Inner (spend_op b) = ⊥
Inner (emit_op e) = ⊥

-- a tree of such operations alone, however it ends
abbrev pub Quiet : {A : Type 0} → Act A → Type 0
Quiet t = Every Inner Any Any t

module _ {A : Type 0} where
  pub q_done : {a : A} → Quiet (done a)
  q_done = every_done Inner tt

  pub q_fail : {x : Why} → Quiet {A = A} (fail x)
  q_fail = every_fail Inner tt

  pub q_ask : {κ : Asked} {y : Question κ} {k : Answer κ → Act A} → ((a : Answer κ) → Quiet (k a)) → Quiet (ask κ y k)
  q_ask p = every_ask Inner p

  pub q_act : {o : Op} → Inner o → {k : Reply o → Act A} → ((a : Reply o) → Quiet (k a)) → Quiet (act o k)
  q_act m p = every_act Inner m p

  pub q_if : (b : Bool) {t u : Act A} → Quiet t → Quiet u → Quiet {A = A} (elim b [ true ↦ t | false ↦ u ])
  q_if b p q = every_if Inner b p q

  pub q_option : {X : Type 0} (o : Option X) {n : Act A} {s : X → Act A} → Quiet n → ((x : X) → Quiet (s x)) → Quiet {A = A} (elim o [ None ↦ n | Some x ↦ s x ])
  q_option o p q = every_option Inner o p q

pub q_bind : {A B : Type 0} {t : Act A} {f : A → Act B} → Quiet t → ((a : A) → Quiet (f a)) → Quiet (t >>= f)
q_bind p q = every_bind Inner p (λ a _. q a)

-- ---- memory

q_gather : (n a : ℕ) (image : List ℕ) → Quiet (gather n a image)
unfolding gather
q_gather zero a image = q_done
q_gather (suc n) a image =
    q_bind (q_act tt (λ c. q_done)) (λ own. q_option (byte_or own image) q_done (λ b. q_bind (q_gather n (suc a) (drop 1 image)) (λ r. q_done)))

q_load : (a : ℕ) (t : Ty) → Quiet (load a t)
unfolding load
q_load a t = q_bind (q_ask (λ i. q_done)) (λ i. q_bind (q_gather _ a i) (λ bs. q_done))

q_pokes : (a : ℕ) (bs : List ℕ) → Quiet (pokes a bs)
unfolding pokes
q_pokes a [] = q_done
q_pokes a (b ∷ bs) = q_act tt (λ _. (q_pokes (suc a) bs))

q_store : (a : ℕ) (v : Val) → Quiet (store_val a v)
unfolding store_val
q_store a v = q_if v.known (q_pokes a _) q_fail

-- ---- trees

mutual
  pub data QuietTerm : Term → Type 0 where
    quiet_term : {d : Node} {v : Act Val} {ts : Terms} → Quiet v → QuietTerms ts → QuietTerm (term d v ts)

  pub data QuietTerms : Terms → Type 0 where
    quiet_none : QuietTerms no_terms
    quiet_more : {t : Term} {ts : Terms} → QuietTerm t → QuietTerms ts → QuietTerms (more_terms t ts)

pub q_eval : {t : Term} → QuietTerm t → Quiet (eval t)
q_eval (quiet_term v ts) = v

pub q_kids : {t : Term} → QuietTerm t → QuietTerms (kids t)
q_kids (quiet_term v ts) = ts

pub q_kid : (i : ℕ) {ts : Terms} → QuietTerms ts → QuietTerm (kid i ts)
unfolding kid
q_kid i quiet_none = quiet_term q_done quiet_none
q_kid zero (quiet_more t ts) = t
q_kid (suc i) (quiet_more t ts) = q_kid i ts

q_rest : {ts : Terms} → QuietTerms ts → QuietTerms (rest ts)
q_rest quiet_none = quiet_none
q_rest (quiet_more t ts) = ts

q_evals : {ts : Terms} → QuietTerms ts → Quiet (evals ts)
unfolding evals
q_evals quiet_none = q_done
q_evals (quiet_more t ts) = q_bind (q_eval t) (λ v. q_bind (q_evals ts) (λ vs. q_done))

q_answered : (a : Result Val ArithmeticError) → Quiet (answered a)
q_answered (Ok v) = q_done
q_answered (Err DivisionByZero) = q_fail

module _ (E : Env) (follows : (name address : ℕ) (vs : List Val) → Quiet (E.follow name address vs)) where
  q_read : (x : ℕ) → Quiet (read_variable E x)
  unfolding read_variable
  q_read x =
      q_bind (q_act tt (λ v. q_done)) (λ o. q_option o (q_ask (λ a. q_option a q_done (λ n. q_ask (λ z. q_option (width_in z) q_done (λ bits. q_load n _))))) (λ v. q_done))

  q_write : (x : ℕ) (v : Val) → Quiet (write_variable E x v)
  unfolding write_variable
  q_write x v =
      q_option (E.declared x) (q_ask (λ a. q_option a (q_act tt (λ _. q_done)) (λ n. q_ask (λ z. q_option (width_in z) q_fail (λ bits. q_bind (q_store n _) (λ _. q_done)))))) (λ t. q_act tt (λ _. q_done))

  q_pointer : {t : Term} → QuietTerm t → Quiet (pointer E t)
  unfolding pointer
  q_pointer {t = t} p = q_option (pointee_of E t) (q_bind (q_eval p) (λ v. q_done)) (λ y. q_bind (q_eval (q_kid 0 (q_kids p))) (λ v. q_done))

  q_fields : (a : ℕ) {fs : Terms} → QuietTerms fs → Quiet (store_fields E a fs)
  unfolding store_fields
  q_fields a quiet_none = q_done
  q_fields a (quiet_more f fs) = q_bind (q_eval (q_kid 0 (q_kids f))) (λ v. q_bind (q_store _ _) (λ _. q_fields a fs))

  q_pick : (b : Bool) {t u : Term} → QuietTerm t → QuietTerm u → QuietTerm (elim b [ true ↦ t | false ↦ u ])
  q_pick true p q = p
  q_pick false p q = q

  q_struct : {l : Term} {fs : Terms} → QuietTerm l → QuietTerms fs → Quiet (assign_struct E l fs)
  unfolding assign_struct
  q_struct {l = l} p fs =
      let target = q_kid 0 (q_kids p) in
      q_if (is Deref l)
      (q_bind (q_eval (q_pick (is Cast (kid 0 (kids l))) (q_kid 0 (q_kids target)) target)) (λ v. q_option (number_in v) q_fail (λ a. q_bind (q_fields a fs) (λ _. q_done))))
      q_fail

  q_value : {l : Term} (v : Val) → QuietTerm l → Quiet (assign_val E l v)
  unfolding assign_val
  q_value {l = l} v p =
      q_if (is Var l) (q_bind (q_write _ v) (λ x. q_done))
      (q_if (is Deref l) (q_bind (q_pointer (q_kid 0 (q_kids p))) (λ r. q_option (number_in r.0) q_fail (λ a. q_bind (q_store a _) (λ _. q_done)))) q_fail)

  q_assign : {l r : Term} → QuietTerm l → QuietTerm r → Quiet (assign E l r)
  unfolding assign
  q_assign {r = r} p q = q_if (is StructInit r) (q_struct p (q_kids q)) (q_bind (q_eval q) (λ v. q_value v p))

  q_take : {ts : Terms} → QuietTerms ts → Quiet (take_names E ts)
  unfolding take_names
  q_take quiet_none = q_done
  q_take (quiet_more {t = t} p ts) = q_option (taken_by E t) (q_take ts) (λ p. q_act tt (λ _. (q_bind (q_take ts) (λ xs. q_done))))

  q_call : (f : Term) {ts : Terms} → QuietTerms ts → Quiet (call E f ts)
  unfolding call followed
  q_call f ts = q_bind (q_evals ts) (λ vs. q_bind (q_if (is FunctionName f) (follows _ _ vs) q_done) (λ r. q_option' r (q_bind (q_take ts) (λ xs. q_act tt (λ _. q_done))) (λ v. q_done)))
    where
      q_option' : (o : Option Val) {n : Act Val} {s : Val → Act Val} → Quiet n → ((x : Val) → Quiet (s x)) → Quiet {A = Val} (elim o [ Some x ↦ s x | None ↦ n ])
      q_option' None p q = p
      q_option' (Some x) p q = q x

  q_address : (t : Term) → Quiet (address_val E t)
  unfolding address_val
  q_address t = q_if (is Var t) (q_ask (λ a. q_done)) q_done

  q_as : (k : Kind) (d : Node) {ts : Terms} → QuietTerms ts → Quiet (eval_as E k d ts)
  unfolding eval_as
  q_as Constant d p = q_done
  q_as Var d p = q_read d.ref
  q_as Register d p = q_done
  q_as StringLiteral d p = q_done
  q_as FunctionName d p = q_done
  q_as ConditionTrue d p = q_done
  q_as ConditionFalse d p = q_done
  q_as ConstantCondition d p = q_done
  q_as Cast d p = q_bind (q_eval (q_kid 0 p)) (λ v. q_done)
  q_as Deref d p = q_bind (q_pointer (q_kid 0 p)) (λ r. q_option (number_in r.0) q_done (λ a. q_load a _))
  q_as AddressOf d {ts} p = q_address (kid 0 ts)
  q_as Ternary d p = q_bind (q_eval (q_kid 0 p)) (λ c. q_bind (q_eval (q_kid 1 p)) (λ a. q_bind (q_eval (q_kid 2 p)) (λ b. q_done)))
  q_as Binary d p = q_bind (q_eval (q_kid 0 p)) (λ l. q_bind (q_eval (q_kid 1 p)) (λ r. q_answered (binary_of (operator_of d.flag) l r)))
  q_as Assign d p = q_bind (q_assign (q_kid 0 p) (q_kid 1 p)) (λ s. q_done)
  q_as Call d {ts} p = q_call (kid 0 ts) (q_rest p)
  q_as Intrinsic d p = q_bind (q_evals p) (λ vs. q_done)
  q_as Return d p = q_eval (q_kid 0 p)
  q_as StructInit d p = q_done
  q_as Field d p = q_done
  q_as Plain d p = q_done

  mutual
    unfolding look

    pub q_look : (t : Tree) → QuietTerm (look E t)
    q_look (tree d ts) = quiet_term (q_as _ d (q_looks ts)) (q_looks ts)

    pub q_looks : (ts : Trees) → QuietTerms (looks E ts)
    q_looks nil = quiet_none
    q_looks (cons t ts) = quiet_more (q_look t) (q_looks ts)

  pub q_execute : {t : Term} → QuietTerm t → Quiet (execute E t)
  unfolding execute
  q_execute {t = t} p =
      q_if (is Assign t) (q_assign (q_kid 0 (q_kids p)) (q_kid 1 (q_kids p))) (q_bind (q_eval p) (λ v. q_if (is Call t || is Intrinsic t) (q_act tt (λ n. q_done)) q_done))
