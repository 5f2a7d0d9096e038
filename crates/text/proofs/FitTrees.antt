-- What a run does, of which what is set, told and given fits its fields, where what it is replied and answered does. Assumes nothing.
use mathlib.Core.Path.{◌≡◌, refl, sym, ap}
use mathlib.Core.Bool.{Bool, true, false, ◌&&◌, ◌||◌}
use mathlib.Core.List.{List, [], ◌∷◌}
use Rattle.std.specs.Prelude.{Option, None, Some, Result}
use Prim.Native.Nat.{ℕ, zero, suc, ◌+◌, ◌*◌, ◌/◌, ◌%◌, ◌^◌, max, ◌≤◌, ◌<◌}
use native.Mathlib.Nat.{mod-lt}
use native.Mathlib.Omega.{arith}
use borrow.Author.Tests.{eqb-true}
use lib.Dec.{eqb, lit<}
use lib.ListN.{length, drop, get_or}
use Rattle.layout.specs.Each.{Each}
use Rattle.layout.proofs.FormatLaws.{Below}
use Rattle.value.specs.declared.Ty.{Ty}
use Rattle.value.specs.declared.Val.{Val}
use Rattle.value.specs.declared.ArithmeticError.{ArithmeticError}
use Rattle.value.specs.Value.{type, type_of_val, known_val, unknown_val, cast_to}
use Rattle.value.specs.Operators.{operator_of}
use Rattle.spelling.specs.Spelling.{type_of, ends_star, before_star}
use Rattle.files.specs.Program.{kind_numbered, number_of, Node, Tree, tree, Trees, nil, cons}
use Rattle.files.proofs.KindLaws.{numbered}
use Rattle.files.specs.declared.kinds.Kind.{Kind}
use Rattle.files.specs.declared.kinds.Kind.TheVariants.{Constant, Var, Register, StringLiteral, FunctionName, ConditionTrue, ConditionFalse, ConstantCondition, Cast, Deref, AddressOf, Ternary, Binary, Assign, Call, Intrinsic, Return, StructInit, Field, Plain}
use Rattle.files.specs.Spells.{size}
use Rattle.memory.specs.Overlay.{byte_or}
use Rattle.definition.specs.Question.{Asked, Question, Answer}
use Rattle.definition.specs.Act.{Act, done, fail, ask, act, Op, peek_op, poke_op, get_op, set_op, pending_op, leave_op, spend_op, emit_op, Pending, Reply, ◌>>=◌, End, gave, stopped, try, Why, no_note, result_unknown}
use Rattle.definition.specs.Memory.{gather, loaded, load, pokes, store_val}
use Rattle.definition.specs.Term.{Term, term, Terms, no_terms, more_terms, node, eval, kids, is, nothing, kid, rest, count, evals}
use Rattle.definition.specs.Evaluate.{Env, Did, answered, number_in, width_in, type_or, chosen, value_of, unknown_note, read_variable, write_variable, pointee_of, pointer, store_fields, assign_struct, assign_val, assign, taken_by, take_names, followed, call, address_val, eval_as, look, looks, execute}
use Rattle.definition.proofs.Fields.{OptionFits, AnswerFits}
use Rattle.text.specs.Fits.{WroteFits, NoteFits, StepFits, WhyFits}
use Rattle.text.proofs.FitValues.{TyIs, ValIs, small, sixty_four, known_fits, unknown_fits, cast_fits, type_fits, AnswerIs, value_is, no_value, binary_fits}

abbrev pub OptionIs : {X : Type 0} → (X → Type 0) → Option X → Type 0
OptionIs P None = Unit
OptionIs P (Some x) = P x

module _ (n : ℕ) where
  abbrev pub PendingFits : Pending → Type 0
  PendingFits None = Unit
  PendingFits (Some xs) = (length xs ≤ 16) × Each (λ x. x < n) xs

  abbrev pub OpFits : Op → Type 0
  OpFits (peek_op a) = Unit
  OpFits (poke_op a c) = Unit
  OpFits (get_op x) = Unit
  OpFits (set_op x v) = (x < n) × ValIs v
  OpFits pending_op = Unit
  OpFits (leave_op p) = PendingFits p
  OpFits (spend_op b) = Unit
  OpFits (emit_op e) = StepFits n e

  abbrev pub ReplyFits : (o : Op) → Reply o → Type 0
  ReplyFits (peek_op a) r = Unit
  ReplyFits (poke_op a c) r = Unit
  ReplyFits (get_op x) r = OptionIs ValIs r
  ReplyFits (set_op x v) r = Unit
  ReplyFits pending_op r = PendingFits r
  ReplyFits (leave_op p) r = Unit
  ReplyFits (spend_op b) r = Unit
  ReplyFits (emit_op e) r = Unit

  abbrev pub All : {A : Type 0} → (A → Type 0) → Act A → Type 0
  All Q (done a) = Q a
  All Q (fail x) = WhyFits n x
  All Q (ask κ q k) = (a : Answer κ) → AnswerFits κ a → All Q (k a)
  All Q (act o k) = OpFits o × ((a : Reply o) → ReplyFits o a → All Q (k a))

  pub record Fit {A : Type 0} (Q : A → Type 0) (t : Act A) : Type 0 where
    pub all : All Q t

  abbrev pub EndFits : {A : Type 0} → (A → Type 0) → End A → Type 0
  EndFits Q (gave a) = Q a
  EndFits Q (stopped x) = WhyFits n x

  all_bind : {A B : Type 0} (P : A → Type 0) (Q : B → Type 0) (t : Act A) (f : A → Act B) → All P t → ((a : A) → P a → All Q (f a)) → All Q (t >>= f)
  unfolding ◌>>=◌
  all_bind P Q (done a) f p q = q a p
  all_bind P Q (fail x) f p q = p
  all_bind P Q (ask κ y k) f p q = λ a h. all_bind P Q (k a) f (p a h) q
  all_bind P Q (act o k) f p q = (p.0, λ a h. all_bind P Q (k a) f (p.1 a h) q)

  all_try : {A : Type 0} (Q : A → Type 0) (t : Act A) → All Q t → All (EndFits Q) (try t)
  unfolding try
  all_try Q (done a) p = p
  all_try Q (fail x) p = p
  all_try Q (ask κ y k) p = λ a h. all_try Q (k a) (p a h)
  all_try Q (act o k) p = (p.0, λ a h. all_try Q (k a) (p.1 a h))

  pub f_bind : {A B : Type 0} {P : A → Type 0} {Q : B → Type 0} {t : Act A} {f : A → Act B} → Fit P t → ((a : A) → P a → Fit Q (f a)) → Fit Q (t >>= f)
  f_bind {P = P} {Q = Q} {t = t} {f = f} p q = record { all = all_bind P Q t f p.all (λ a h. (q a h).all) }

  module _ {A : Type 0} {Q : A → Type 0} where
    pub f_done : {a : A} → Q a → Fit Q (done a)
    f_done h = record { all = h }

    pub f_fail : {x : Why} → WhyFits n x → Fit Q (fail x)
    f_fail h = record { all = h }

    pub f_ask : {κ : Asked} {y : Question κ} {k : Answer κ → Act A} → ((a : Answer κ) → AnswerFits κ a → Fit Q (k a)) → Fit Q (ask κ y k)
    f_ask p = record { all = λ a h. (p a h).all }

    pub f_act : {o : Op} → OpFits o → {k : Reply o → Act A} → ((a : Reply o) → ReplyFits o a → Fit Q (k a)) → Fit Q (act o k)
    f_act m p = record { all = (m, λ a h. (p a h).all) }

    pub f_if : (b : Bool) {t u : Act A} → (b ≡ true → Fit Q t) → (b ≡ false → Fit Q u) → Fit Q (elim b [ true ↦ t | false ↦ u ])
    f_if true p q = p refl
    f_if false p q = q refl

    pub f_option : {X : Type 0} (P : X → Type 0) (o : Option X) {m : Act A} {s : X → Act A} → OptionIs P o → Fit Q m → ((x : X) → P x → Fit Q (s x))
        → Fit Q (elim o [ None ↦ m | Some x ↦ s x ])
    f_option P None h p q = p
    f_option P (Some x) h p q = q x h

    pub f_try : {t : Act A} → Fit Q t → Fit (EndFits Q) (try t)
    f_try {t = t} p = record { all = all_try Q t p.all }

  abbrev pub Any : {X : Type 0} → X → Type 0
  Any x = Unit

  any : {X : Type 0} (o : Option X) → OptionIs Any o
  any None = tt
  any (Some x) = tt

  -- ---- memory

  f_gather : (k a : ℕ) (image : List ℕ) → Fit Any (gather k a image)
  unfolding gather
  f_gather zero a image = f_done tt
  f_gather (suc k) a image =
      f_bind (f_act {Q = Any} tt (λ c h. f_done tt)) (λ own h. f_option Any (byte_or own image) (any (byte_or own image)) (f_done tt) (λ b h. f_bind (f_gather k (suc a) (drop 1 image)) (λ r h. f_done tt)))

  f_load : (a : ℕ) {t : Ty} → TyIs t → Fit ValIs (load a t)
  unfolding load
  f_load a {t} h =
      f_bind (f_ask {Q = Any} (λ i _. f_done tt)) (λ i _. f_bind (f_gather (max (t.bits / 8) 1) a i) (λ bs _. f_done (shown bs)))
    where
      shown : (bs : Option (List ℕ)) → ValIs (loaded t bs)
      shown None = unknown_fits h
      shown (Some bs) = known_fits h _

  f_pokes : (a : ℕ) (bs : List ℕ) → Fit Any (pokes a bs)
  unfolding pokes
  f_pokes a [] = f_done tt
  f_pokes a (b ∷ bs) = f_act tt (λ _ _. f_pokes (suc a) bs)

  f_store : (a : ℕ) (v : Val) → Below 8 a → Fit Any (store_val a v)
  unfolding store_val
  f_store a v h = f_if v.known (λ _. f_pokes a _) (λ _. f_fail h)

  -- ---- nodes and trees

  pub record NodeFits (d : Node) : Type 0 where
    pub place : Below 4 d.place
    pub kind : d.kind < 20
    pub width : Below 4 d.width
    pub value : Below 8 d.value
    pub constant : d.kind ≡ 0 → d.width ≤ 8
    pub var : d.kind ≡ 1 → d.ref < n

  mutual
    pub data FitTree : Tree → Type 0 where
      fit_tree : {d : Node} {ts : Trees} → NodeFits d → Below 4 (size ts) → (d.kind ≡ 14 → size ts ≤ 17) → FitTrees ts → FitTree (tree d ts)

    pub data FitTrees : Trees → Type 0 where
      fit_nil : FitTrees nil
      fit_cons : {t : Tree} {ts : Trees} → FitTree t → FitTrees ts → FitTrees (cons t ts)

  mutual
    pub data FitTerm : Term → Type 0 where
      fit_term : {d : Node} {v : Act Val} {ts : Terms} → NodeFits d → Below 4 (count ts) → Fit ValIs v → FitTerms ts → FitTerm (term d v ts)

    pub data FitTerms : Terms → Type 0 where
      fit_none : FitTerms no_terms
      fit_more : {t : Term} {ts : Terms} → FitTerm t → FitTerms ts → FitTerms (more_terms t ts)

  pub f_eval : {t : Term} → FitTerm t → Fit ValIs (eval t)
  f_eval (fit_term d c v ts) = v

  pub f_kids : {t : Term} → FitTerm t → FitTerms (kids t)
  f_kids (fit_term d c v ts) = ts

  pub f_node : {t : Term} → FitTerm t → NodeFits (node t)
  f_node (fit_term d c v ts) = d

  pub f_count : {t : Term} → FitTerm t → Below 4 (count (kids t))
  f_count (fit_term d c v ts) = c

  nothing_is : ValIs nothing
  nothing_is = unknown_fits (sixty_four {s = true})

  pub f_kid : (i : ℕ) {ts : Terms} → FitTerms ts → FitTerm (kid i ts)
  unfolding kid count
  f_kid i fit_none =
      fit_term {d = record { place = 0; kind = 19; flag = 0; ref = 0; width = 0; value = 0 }} (record { place = lit< tt; kind = lit< tt; width = lit< tt; value = lit< tt; constant = λ e. absurd (omega (arith, e)); var = λ e. absurd (omega (arith, e)) })
      (lit< tt) (f_done nothing_is) fit_none
  f_kid zero (fit_more t ts) = t
  f_kid (suc i) (fit_more t ts) = f_kid i ts

  f_rest : {ts : Terms} → FitTerms ts → FitTerms (rest ts)
  f_rest fit_none = fit_none
  f_rest (fit_more t ts) = ts

  f_evals : {ts : Terms} → FitTerms ts → Fit Any (evals ts)
  unfolding evals
  f_evals fit_none = f_done tt
  f_evals (fit_more t ts) = f_bind (f_eval t) (λ v _. f_bind (f_evals ts) (λ vs _. f_done tt))

  f_answered : {a : Result Val ArithmeticError} → AnswerIs a → Fit ValIs (answered a)
  f_answered (value_is h) = f_done h
  f_answered no_value = f_fail tt

  -- ---- small parts

  is_var : (t : Term) → FitTerm t → is Var t ≡ true → (node t).ref < n
  is_var t h e = (f_node h).var (eqb-true (node t).kind 1 e)

  pub number_fits : (v : Val) → ValIs v → OptionIs (Below 8) (number_in v)
  number_fits v h = go v.known
    where
      go : (b : Bool) → OptionIs (Below 8) (elim b [ true ↦ Some v.number | false ↦ None ])
      go true = h.fits.1
      go false = tt

  width_fits : (o : Option ℕ) → OptionIs (λ bits. bits ≤ 64) (width_in o)
  width_fits None = tt
  width_fits (Some k) = go (eqb k 1) (eqb k 2) (eqb k 4) (eqb k 8) refl refl refl refl
    where
      go : (a b c d : Bool) → eqb k 1 ≡ a → eqb k 2 ≡ b → eqb k 4 ≡ c → eqb k 8 ≡ d → OptionIs (λ bits. bits ≤ 64) (elim (a || b || c || d) [ true ↦ Some (k * 8) | false ↦ None ])
      go true b c d e f g h = omega (arith, eqb-true k 1 e)
      go false true c d e f g h = omega (arith, eqb-true k 2 f)
      go false false true d e f g h = omega (arith, eqb-true k 4 g)
      go false false false true e f g h = omega (arith, eqb-true k 8 h)
      go false false false false e f g h = tt

  symbol_fits : (o : Option ℕ) → OptionFits o → OptionIs (Below 8) o
  symbol_fits None h = tt
  symbol_fits (Some a) h = h

  chosen_fits : (c a b : Val) → ValIs a → ValIs b → ValIs (chosen c a b)
  chosen_fits c a b p q = go (number_in c)
    where
      pick : (k : ℕ) (t : Bool) → ValIs (elim t [ true ↦ b | false ↦ a ])
      pick k true = q
      pick k false = p

      go : (o : Option ℕ) → ValIs (elim o [ None ↦ unknown_val (type_of_val a) | Some k ↦ elim (eqb k 0) [ true ↦ b | false ↦ a ] ])
      go None = record { fits = (p.fits.0, lit< tt) }
      go (Some k) = pick k (eqb k 0)

  pub record DidFits (d : Did) : Type 0 where
    pub wrote : WroteFits n d.wrote
    pub note : NoteFits n d.note

  value_of_lem : (o : Option (ℕ × Val)) → WroteFits n o → ValIs (value_of o)
  value_of_lem None h = nothing_is
  value_of_lem (Some w) h = record { fits = h.1 }

  -- ---- every kind

  pub record EnvFits (E : Env) : Type 0 where
    pub declared : (x : ℕ) → OptionIs TyIs (E.declared x)
    pub follow : (name address : ℕ) (vs : List Val) → Fit (OptionIs ValIs) (E.follow name address vs)

  module _ (E : Env) (env : EnvFits E) where
    declared_or : (o : Option Ty) → OptionIs TyIs o → TyIs (type_or o)
    declared_or None h = sixty_four {s = true}
    declared_or (Some t) h = h

    f_read : (x : ℕ) → Fit ValIs (read_variable E x)
    unfolding read_variable
    f_read x =
        f_bind (f_act {Q = OptionIs ValIs} tt (λ v h. f_done h)) (λ o h. f_option ValIs o h
        (f_ask (λ a g. f_option (Below 8) a (symbol_fits a g) (f_done (unknown_fits (declared_or (E.declared x) (env.declared x))))
        (λ k _. f_ask (λ z _. f_option (λ bits. bits ≤ 64) (width_in z) (width_fits z) (f_done nothing_is) (λ bits l. f_load k (small {s = true} l))))))
        (λ v g. f_done g))

    f_write : (x : ℕ) (v : Val) → x < n → ValIs v → Fit ValIs (write_variable E x v)
    unfolding write_variable
    f_write x v h i =
        f_option TyIs (E.declared x) (env.declared x)
        (f_ask (λ a g. f_option (Below 8) a (symbol_fits a g) (f_act (h, i) (λ _ _. f_done i))
        (λ k l. f_ask (λ z _. f_option (λ bits. bits ≤ 64) (width_in z) (width_fits z) (f_fail h)
        (λ bits m. f_bind (f_store k (cast_to v (type bits v.signed)) l) (λ _ _. f_done (cast_fits (small {s = v.signed} m) v)))))))
        (λ t g. f_act (h, cast_fits g v) (λ _ _. f_done (cast_fits g v)))

    pub record PointerFits (p : Val × Ty) : Type 0 where
      pub address : ValIs p.0
      pub type : TyIs p.1

    pointee_fits : (t : Term) → OptionIs TyIs (pointee_of E t)
    pointee_fits t = go (is Cast t && ends_star (get_or E.types (node t).ref []))
      where
        go : (b : Bool) → OptionIs TyIs (elim b [ true ↦ Some (type_of (before_star (get_or E.types (node t).ref []))) | false ↦ None ])
        go true = type_fits _
        go false = tt

    f_pointer : {t : Term} → FitTerm t → Fit PointerFits (pointer E t)
    unfolding pointer
    f_pointer {t = t} p =
        f_option TyIs (pointee_of E t) (pointee_fits t) (f_bind (f_eval p) (λ v h. f_done (record { address = h; type = sixty_four {s = true} })))
        (λ y g. f_bind (f_eval (f_kid 0 (f_kids p))) (λ v h. f_done (record { address = h; type = g })))

    f_fields : (a : ℕ) {fs : Terms} → FitTerms fs → Fit Any (store_fields E a fs)
    unfolding store_fields
    f_fields a fit_none = f_done tt
    f_fields a (fit_more {t = f} p fs) =
        f_bind (f_eval (f_kid 0 (f_kids p))) (λ v _. f_bind (f_store ((a + (node f).value) % 2 ^ 64) _ (mod-lt (a + (node f).value) (lit< tt))) (λ _ _. f_fields a fs))

    f_pick : (b : Bool) {t u : Term} → FitTerm t → FitTerm u → FitTerm (elim b [ true ↦ t | false ↦ u ])
    f_pick true p q = p
    f_pick false p q = q

    f_struct : {l : Term} {fs : Terms} → FitTerm l → FitTerms fs → Below 4 (count fs) → Fit DidFits (assign_struct E l fs)
    unfolding assign_struct
    f_struct {l = l} p fs c =
        let target = f_kid 0 (f_kids p) in
        let base = f_pick (is Cast (kid 0 (kids l))) (f_kid 0 (f_kids target)) target in
        f_if (is Deref l)
        (λ _. f_bind (f_eval base) (λ v h. f_option (Below 8) (number_in v) (number_fits v h) (f_fail (f_node base).place)
        (λ a g. f_bind (f_fields a fs) (λ _ _. f_done (record { wrote = tt; note = (g, c) })))))
        (λ _. f_fail (f_node p).place)

    f_value : {l : Term} (v : Val) → ValIs v → FitTerm l → Fit DidFits (assign_val E l v)
    unfolding assign_val
    f_value {l = l} v i p =
        f_if (is Var l)
        (λ e. f_bind (f_write (node l).ref v (is_var l p e) i) (λ x h. f_done (record { wrote = (is_var l p e, h.fits); note = tt })))
        (λ _. f_if (is Deref l)
        (λ _. f_bind (f_pointer (f_kid 0 (f_kids p))) (λ r h. f_option (Below 8) (number_in r.0) (number_fits r.0 h.address)
        (f_fail (f_node (f_kid 0 (f_kids p))).place)
        (λ a g. f_bind (f_store a (cast_to v r.1) g) (λ _ _. f_done (record { wrote = tt; note = (g, (cast_fits h.type v).fits) })))))
        (λ _. f_fail (f_node p).place))

    f_assign : {l r : Term} → FitTerm l → FitTerm r → Fit DidFits (assign E l r)
    unfolding assign
    f_assign {r = r} p q = f_if (is StructInit r) (λ _. f_struct p (f_kids q) (f_count q)) (λ _. f_bind (f_eval q) (λ v h. f_value v h p))

    -- names taken: as many as there are terms, at most
    pub record TakenFits (m : ℕ) (xs : List ℕ) : Type 0 where
      pub few : length xs ≤ m
      pub named : Each (λ x. x < n) xs

    taken_fits : (t : Term) → FitTerm t → OptionIs (λ (p : ℕ × Ty). (p.0 < n) × TyIs p.1) (taken_by E t)
    taken_fits t h = go (is AddressOf t) (is Var (kid 0 (kids t))) refl
      where
        there : (o : Option Ty) → OptionIs TyIs o → (node (kid 0 (kids t))).ref < n
            → OptionIs (λ (p : ℕ × Ty). (p.0 < n) × TyIs p.1) (elim o [ None ↦ None | Some y ↦ Some ((node (kid 0 (kids t))).ref, y) ])
        there None h l = tt
        there (Some y) h l = (l, h)

        go : (a b : Bool) → is Var (kid 0 (kids t)) ≡ b
            → OptionIs (λ (p : ℕ × Ty). (p.0 < n) × TyIs p.1)
            (elim (a && b) [ true ↦ let x = (node (kid 0 (kids t))).ref in elim (E.declared x) [ None ↦ None | Some y ↦ Some (x, y) ] | false ↦ None ])
        go true true e = there (E.declared (node (kid 0 (kids t))).ref) (env.declared (node (kid 0 (kids t))).ref) (is_var (kid 0 (kids t)) (f_kid 0 (f_kids h)) e)
        go true false e = tt
        go false b e = tt

    f_take : {ts : Terms} → FitTerms ts → Fit (TakenFits (count ts)) (take_names E ts)
    unfolding take_names count
    f_take fit_none = f_done (record { few = omega arith; named = tt })
    f_take (fit_more {t = t} {ts = ts} p ps) =
        f_option (λ (p : ℕ × Ty). (p.0 < n) × TyIs p.1) (taken_by E t) (taken_fits t p)
        (more (f_take ps))
        (λ q h. f_act (h.0, unknown_fits h.1) (λ _ _. f_bind (f_take ps) (λ xs g. f_done (record { few = omega (arith, g.few); named = (h.0, g.named) }))))
      where
        all_more : (u : Act (List ℕ)) → All (TakenFits (count ts)) u → All (TakenFits (suc (count ts))) u
        all_more (done xs) h = record { few = omega (arith, h.few); named = h.named }
        all_more (fail x) h = h
        all_more (ask κ q k) h = λ a g. all_more (k a) (h a g)
        all_more (act o k) h = (h.0, λ a g. all_more (k a) (h.1 a g))

        more : {u : Act (List ℕ)} → Fit (TakenFits (count ts)) u → Fit (TakenFits (suc (count ts))) u
        more {u} h = record { all = all_more u h.all }

    f_call : (f : Term) {ts : Terms} → FitTerms ts → count ts ≤ 16 → Fit ValIs (call E f ts)
    unfolding call followed
    f_call f {ts} p few =
        f_bind (f_evals p) (λ vs _. f_bind (f_if (is FunctionName f) (λ _. env.follow _ _ vs) (λ _. f_done tt)) (λ r h. f_option ValIs r h
        (f_bind (f_take p) (λ xs g. f_act (omega (arith, g.few, few), g.named) (λ _ _. f_done nothing_is)))
        (λ v g. f_done g)))

    f_address : (t : Term) → Fit ValIs (address_val E t)
    unfolding address_val
    f_address t = f_if (is Var t) (λ _. f_ask (λ a _. f_done (shown a))) (λ _. f_done (unknown_fits (sixty_four {s = false})))
      where
        shown : (a : Option ℕ) → ValIs (elim a [ None ↦ unknown_val (type 64 false) | Some k ↦ known_val k (type 64 false) ])
        shown None = unknown_fits (sixty_four {s = false})
        shown (Some k) = known_fits (sixty_four {s = false}) k

    f_through : (p : Val × Ty) → PointerFits p → Fit ValIs (elim (number_in p.0) [ None ↦ done (unknown_val p.1) | Some a ↦ load a p.1 ])
    f_through p h = f_option (Below 8) (number_in p.0) (number_fits p.0 h.address) (f_done (unknown_fits h.type)) (λ a _. f_load a h.type)

    rest_count : (ts : Terms) (k : ℕ) → count ts ≤ suc k → count (rest ts) ≤ k
    unfolding count
    rest_count no_terms k h = omega arith
    rest_count (more_terms t ts) k h = omega (arith, h)

    -- a kind, as the node's number tells it
    f_as : (κ : Kind) (d : Node) {ts : Terms} → number_of κ ≡ d.kind → NodeFits d → (d.kind ≡ 14 → count ts ≤ 17) → FitTerms ts → Fit ValIs (eval_as E κ d ts)
    unfolding eval_as
    f_as Constant d e h c p = f_done (known_fits (small {s = true} (omega (arith, h.constant (sym e)))) d.value)
    f_as Var d e h c p = f_read d.ref
    f_as Register d e h c p = f_done (record { fits = (h.width, lit< tt) })
    f_as StringLiteral d e h c p = f_done (unknown_fits (sixty_four {s = false}))
    f_as FunctionName d e h c p = f_done (unknown_fits (sixty_four {s = false}))
    f_as ConditionTrue d e h c p = f_done (known_fits (small {s = false} (omega arith)) 1)
    f_as ConditionFalse d e h c p = f_done (known_fits (small {s = false} (omega arith)) 0)
    f_as ConstantCondition d e h c p = f_done (known_fits (small {s = false} (omega arith)) d.flag)
    f_as Cast d e h c p = f_bind (f_eval (f_kid 0 p)) (λ v _. f_done (cast_fits (type_fits _) v))
    f_as Deref d e h c p = f_bind (f_pointer (f_kid 0 p)) (λ r g. f_through r g)
    f_as AddressOf d {ts} e h c p = f_address (kid 0 ts)
    f_as Ternary d e h c p = f_bind (f_eval (f_kid 0 p)) (λ x _. f_bind (f_eval (f_kid 1 p)) (λ a f. f_bind (f_eval (f_kid 2 p)) (λ b g. f_done (chosen_fits x a b f g))))
    f_as Binary d e h c p = f_bind (f_eval (f_kid 0 p)) (λ l f. f_bind (f_eval (f_kid 1 p)) (λ r g. f_answered (binary_fits f g (operator_of d.flag))))
    f_as Assign d e h c p = f_bind (f_assign (f_kid 0 p) (f_kid 1 p)) (λ s g. f_done (value_of_lem s.wrote g.wrote))
    f_as Call d {ts} e h c p = f_call (kid 0 ts) (f_rest p) (rest_count ts 16 (c (sym e)))
    f_as Intrinsic d e h c p = f_bind (f_evals p) (λ vs _. f_done nothing_is)
    f_as Return d e h c p = f_eval (f_kid 0 p)
    f_as StructInit d e h c p = f_done (unknown_fits (sixty_four {s = false}))
    f_as Field d e h c p = f_done nothing_is
    f_as Plain d e h c p = f_done nothing_is

    -- ---- trees

    count_looks : (ts : Trees) → count (looks E ts) ≡ size ts
    unfolding looks count size
    count_looks nil = refl
    count_looks (cons t ts) = ap suc (count_looks ts)

    mutual
      unfolding look

      pub f_look : {t : Tree} → FitTree t → FitTerm (look E t)
      f_look (fit_tree {d = d} {ts = ts} h s c ks) =
          let e = count_looks ts in
          fit_term {ts = looks E ts} h (rw e s) (f_as (kind_numbered d.kind) d (numbered d.kind h.kind) h (λ z. rw e (c z)) (f_looks ks)) (f_looks ks)

      pub f_looks : {ts : Trees} → FitTrees ts → FitTerms (looks E ts)
      f_looks fit_nil = fit_none
      f_looks (fit_cons t ts) = fit_more (f_look t) (f_looks ts)

    note_fits : (v : Val) (p : Pending) → NoteFits n (unknown_note v p)
    note_fits v (Some xs) = tt
    note_fits v None = go v.known
      where
        go : (b : Bool) → NoteFits n (elim b [ true ↦ no_note | false ↦ result_unknown ])
        go true = tt
        go false = tt

    pub f_execute : {t : Term} → FitTerm t → Fit DidFits (execute E t)
    unfolding execute
    f_execute {t = t} p =
        f_if (is Assign t) (λ _. f_assign (f_kid 0 (f_kids p)) (f_kid 1 (f_kids p)))
        (λ _. f_bind (f_eval p) (λ v _. f_if (is Call t || is Intrinsic t)
        (λ _. f_act tt (λ q _. f_done (record { wrote = tt; note = note_fits v q })))
        (λ _. f_done (record { wrote = tt; note = tt }))))
