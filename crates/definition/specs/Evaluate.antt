-- What evaluating and executing a tree does: the Rust's `eval`, `execute` and `pointer`. Assumes nothing.
use Rattle.std.specs.Prelude.{true, false, ◌&&◌, ◌||◌, List, [], ◌∷◌, ℕ, ◌+◌, ◌*◌, ◌%◌, ◌^◌, get_or, eqb, Option, None, Some, Result, Ok, Err}
use Rattle.value.specs.declared.Ty.{Ty}
use Rattle.value.specs.declared.Val.{Val}
use Rattle.value.specs.declared.ArithmeticError.{ArithmeticError}
use Rattle.value.specs.declared.ArithmeticError.TheVariants.{DivisionByZero}
use Rattle.value.specs.Value.{type, type_of_val, known_val, unknown_val, cast_to}
use Rattle.value.specs.Operators.{operator_of, binary_of}
use Rattle.spelling.specs.Spelling.{type_of, ends_star, before_star}
use Rattle.definition.specs.Question.{address_of, size_of}
use Rattle.definition.specs.Act.{Act, done, fail, ask, get, set, pending, leave, ◌>>=◌, ◌>>◌, struct_to, unknown_address, no_width, store_to, by_zero, Note, no_note, fields_written, value_written, result_unknown, Pending}
use Rattle.files.specs.Program.{kind_numbered, Node, Tree, tree, Trees, nil, cons}
use Rattle.files.specs.declared.kinds.Kind.{Kind}
use Rattle.files.specs.declared.kinds.Kind.TheVariants.{Constant, Var, Register, StringLiteral, FunctionName, ConditionTrue, ConditionFalse, ConstantCondition, Cast, Deref, AddressOf, Ternary, Binary, Assign, Call, Intrinsic, Return, StructInit, Field, Plain}
use Rattle.definition.specs.Memory.{load, store_val}
use Rattle.definition.specs.Term.{Term, term, Terms, no_terms, more_terms, node, eval, kids, is, nothing, kid, rest, count, evals}

-- what an evaluation is in: the routine's types, the type of each name that is declared, and how a call is followed
pub record Env : Type 0 where
  pub types : List (List ℕ)
  pub declared : ℕ → Option Ty
  pub follow : (name address : ℕ) → List Val → Act (Option Val)

-- what executing a statement, or an Assign in an expression, tells
pub record Did : Type 0 where
  pub wrote : Option (ℕ × Val)
  pub note : Note

abbrev pub did : Note → Did
did n = record { wrote = None; note = n }

-- a symbol's size as a width in bits, if it is 1, 2, 4 or 8 bytes
abbrev pub width_in : Option ℕ → Option ℕ
width_in None = None
width_in (Some n) = elim (eqb n 1 || eqb n 2 || eqb n 4 || eqb n 8) [ true ↦ Some (n * 8) | false ↦ None ]

abbrev pub type_or : Option Ty → Ty
type_or None = type 64 true
type_or (Some t) = t

-- a known number, or else none
abbrev pub number_in : Val → Option ℕ
number_in v = elim v.known [ true ↦ Some v.number | false ↦ None ]

-- `c ? a : b`, both evaluated
abbrev pub chosen : Val → Val → Val → Val
chosen c a b = elim (number_in c) [ None ↦ unknown_val (type_of_val a) | Some n ↦ elim (eqb n 0) [ true ↦ b | false ↦ a ] ]

abbrev pub answered : Result Val ArithmeticError → Act Val
answered (Ok v) = done v
answered (Err DivisionByZero) = fail by_zero

-- an Assign's value: what it wrote to a variable
abbrev pub value_of : Option (ℕ × Val) → Val
value_of None = nothing
value_of (Some p) = p.1

-- a Call or an Intrinsic as a statement: note 3 where the value is unknown and no note is left
abbrev pub unknown_note : Val → Pending → Note
unknown_note v (Some taken) = no_note
unknown_note v None = elim v.known [ true ↦ no_note | false ↦ result_unknown ]

module _ (E : Env) where
  abbrev pub type_text : Term → List ℕ
  type_text t = get_or E.types (node t).ref []

  -- ---- variables

  -- one that is set; else a symbol, read at its width; else unknown
  unfoldable pub read_variable : ℕ → Act Val
  read_variable x = do
    set? ← get x done
    elim set? [
      | Some v ↦ done v
      | None ↦ ask address_of x (λ symbol. elim symbol [
        | None ↦ done (unknown_val (type_or (E.declared x)))
        | Some a ↦ ask size_of x (λ size. elim (width_in size) [ None ↦ done nothing | Some bits ↦ load a (type bits true) ])
      ])
    ]

  -- one that is declared; else a symbol, written at its width; else one that is not declared, as it is. Gives what is stored
  unfoldable pub write_variable : ℕ → Val → Act Val
  write_variable x v = elim (E.declared x) [
    | Some t ↦ set x (cast_to v t) (done (cast_to v t))
    | None ↦ ask address_of x (λ symbol. elim symbol [
      | None ↦ set x v (done v)
      | Some a ↦ ask size_of x (λ size. elim (width_in size) [
        | None ↦ fail (no_width x)
        | Some bits ↦ let c = cast_to v (type bits v.signed) in store_val a c >> done c
      ])
    ])
  ]

  -- ---- pointers

  -- the type that a Cast to a pointer type points at
  abbrev pub pointee_of : Term → Option Ty
  pointee_of t = elim (is Cast t && ends_star (type_text t)) [ true ↦ Some (type_of (before_star (type_text t))) | false ↦ None ]

  -- a Deref's target: the address, and the type of what it points at. A Cast to a pointer is not evaluated, what is under it is
  unfoldable pub pointer : Term → Act (Val × Ty)
  pointer t = elim (pointee_of t) [
    | Some p ↦ eval (kid 0 (kids t)) >>= λ v. done (v, p)
    | None ↦ eval t >>= λ v. done (v, type 64 true)
  ]

  -- ---- Assign

  -- the fields of a StructInit, each stored at its offset
  unfoldable pub store_fields : ℕ → Terms → Act (Unit {0})
  store_fields a no_terms = done tt
  store_fields a (more_terms f fs) = do
    v ← eval (kid 0 (kids f))
    store_val ((a + (node f).value) % 2 ^ 64) (cast_to v (type_of (type_text f)))
    store_fields a fs

  -- a struct is stored through a pointer: `base` is the pointer without its Cast
  unfoldable pub assign_struct : Term → Terms → Act Did
  assign_struct l fields = elim (is Deref l) [
    | false ↦ fail (struct_to (node l).place)
    | true ↦
        let target = kid 0 (kids l) in
        let base : Term = elim (is Cast target) [ true ↦ kid 0 (kids target) | false ↦ target ] in
        eval base >>= λ v. elim (number_in v) [
          | None ↦ fail (unknown_address (node base).place)
          | Some a ↦ store_fields a fields >> done (did (fields_written a (count fields)))
        ]
  ]

  -- a value is stored to a variable, or through a pointer
  unfoldable pub assign_val : Term → Val → Act Did
  assign_val l v = elim (is Var l) [
    | true ↦ write_variable (node l).ref v >>= λ stored. done (record { wrote = Some ((node l).ref, stored); note = no_note })
    | false ↦ elim (is Deref l) [
      | true ↦
          let target = kid 0 (kids l) in
          pointer target >>= λ p. elim (number_in p.0) [
            | None ↦ fail (unknown_address (node target).place)
            | Some a ↦ store_val a (cast_to v p.1) >> done (did (value_written a (cast_to v p.1)))
          ]
      | false ↦ fail (store_to (node l).place)
    ]
  ]

  -- the left side and the right side of an Assign
  unfoldable pub assign : Term → Term → Act Did
  assign l r = elim (is StructInit r) [ true ↦ assign_struct l (kids r) | false ↦ eval r >>= assign_val l ]

  -- ---- Call

  -- a local whose address an argument is, with its type
  abbrev pub taken_by : Term → Option (ℕ × Ty)
  taken_by t = elim (is AddressOf t && is Var (kid 0 (kids t))) [
    | true ↦ let x = (node (kid 0 (kids t))).ref in elim (E.declared x) [ None ↦ None | Some y ↦ Some (x, y) ]
    | false ↦ None
  ]

  -- those become unknown; gives their names
  unfoldable pub take_names : Terms → Act (List ℕ)
  take_names no_terms = done []
  take_names (more_terms t ts) = elim (taken_by t) [
    | None ↦ take_names ts
    | Some p ↦ set p.0 (unknown_val p.1) (take_names ts >>= λ xs. done (p.0 ∷ xs))
  ]

  -- only a FunctionName is followed
  unfoldable pub followed : Term → List Val → Act (Option Val)
  followed callee vs = elim (is FunctionName callee) [ true ↦ E.follow (node callee).ref (node callee).value vs | false ↦ done None ]

  -- the arguments are evaluated, not the callee
  unfoldable pub call : Term → Terms → Act Val
  call callee arguments = do
    vs ← evals arguments
    result ← followed callee vs
    elim result [
      | Some answer ↦ done answer
      | None ↦ take_names arguments >>= λ taken. leave (Some taken) (done nothing)
    ]

  -- ---- every kind

  -- `&x` for a symbol x; nothing is evaluated
  unfoldable pub address_val : Term → Act Val
  address_val t = elim (is Var t) [
    | true ↦ ask address_of (node t).ref (λ a. done (elim a [ None ↦ unknown_val (type 64 false) | Some n ↦ known_val n (type 64 false) ]))
    | false ↦ done (unknown_val (type 64 false))
  ]

  abbrev pub load_through : Val × Ty → Act Val
  load_through p = elim (number_in p.0) [ None ↦ done (unknown_val p.1) | Some a ↦ load a p.1 ]

  -- the Rust's `eval`: a node of a kind, with its children. A Field is not evaluated. "Evaluating an Assign executes it"
  unfoldable pub eval_as : Kind → Node → Terms → Act Val
  eval_as Constant d ts = done (known_val d.value (type (d.width * 8) true))
  eval_as Var d ts = read_variable d.ref
  eval_as Register d ts = done (unknown_val (type d.width true))
  eval_as StringLiteral d ts = done (unknown_val (type 64 false))
  eval_as FunctionName d ts = done (unknown_val (type 64 false))
  eval_as ConditionTrue d ts = done (known_val 1 (type 8 false))
  eval_as ConditionFalse d ts = done (known_val 0 (type 8 false))
  eval_as ConstantCondition d ts = done (known_val d.flag (type 8 false))
  eval_as Cast d ts = eval (kid 0 ts) >>= λ v. done (cast_to v (type_of (get_or E.types d.ref [])))
  eval_as Deref d ts = pointer (kid 0 ts) >>= load_through
  eval_as AddressOf d ts = address_val (kid 0 ts)
  eval_as Ternary d ts = do
    c ← eval (kid 0 ts)
    a ← eval (kid 1 ts)
    b ← eval (kid 2 ts)
    done (chosen c a b)
  eval_as Binary d ts = do
    l ← eval (kid 0 ts)
    r ← eval (kid 1 ts)
    answered (binary_of (operator_of d.flag) l r)
  eval_as Assign d ts = assign (kid 0 ts) (kid 1 ts) >>= λ s. done (value_of s.wrote)
  eval_as Call d ts = call (kid 0 ts) (rest ts)
  eval_as Intrinsic d ts = evals ts >> done nothing
  eval_as Return d ts = eval (kid 0 ts)
  eval_as StructInit d ts = done (unknown_val (type 64 false))
  eval_as Field d ts = done nothing
  eval_as Plain d ts = done nothing

  -- a tree with how each node of it is evaluated
  unfoldable mutual
    pub look : Tree → Term
    look (tree d ts) = let ks = looks ts in term d (eval_as (kind_numbered d.kind) d ks) ks

    pub looks : Trees → Terms
    looks nil = no_terms
    looks (cons t ts) = more_terms (look t) (looks ts)

  -- the Rust's `execute`: a statement that is none of those that stop the run
  unfoldable pub execute : Term → Act Did
  execute t = elim (is Assign t) [
    | true ↦ assign (kid 0 (kids t)) (kid 1 (kids t))
    | false ↦ eval t >>= λ v. elim (is Call t || is Intrinsic t) [ true ↦ pending (λ p. done (did (unknown_note v p))) | false ↦ done (did no_note) ]
  ]
