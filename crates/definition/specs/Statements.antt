-- What a statement of a block does (the Rust's `walk`, its inner loop). Assumes nothing.
use Rattle.std.specs.Prelude.{Bool, true, false, ◌&&◌, List, [], ℕ, get_or, eqb, Option, None, Some}
use Rattle.value.specs.declared.Val.{Val}
use Rattle.spelling.specs.Spelling.{type_of}
use Rattle.value.specs.Value.{cast_to}
use Rattle.layout.specs.Text.{text, same}
use Rattle.definition.specs.Act.{Act, done, pending, leave, emit, End, gave, stopped, try, ◌>>=◌, Why, Note, no_note, fields_written, value_written, result_unknown, not_followed, Pending}
use Rattle.files.specs.Program.{Statement, Program}
use Rattle.files.specs.declared.kinds.Kind.TheVariants.{Constant, Intrinsic, Return}
use Rattle.definition.specs.Term.{Term, Terms, no_terms, more_terms, node, eval, kids, is, kid, count}
use Rattle.definition.specs.Evaluate.{Env, Did, did, look, execute}

-- why a run stopped: document 01's kinds 0 and 1, then 2 to 7
pub data Stop : Type 0 where
  Returned : Option Val → Stop
  Steps : (limit : ℕ) → Stop
  Unknown : (address : Option ℕ) → Why → Stop
  NoBlock : (block : ℕ) → Stop
  NoBlocks : Stop
  NoReturn : (address : Option ℕ) → Stop
  Halted : (address : Option ℕ) → (target : ℕ) → Stop

-- the stop that a statement makes, beside what it did
abbrev pub Outcome : Type 0
Outcome = Did × Option Stop

-- a step's note is its own, else the one that a call left
abbrev pub note_of : Note → Pending → Note
note_of no_note None = no_note
note_of no_note (Some taken) = not_followed taken
note_of (fields_written a n) p = fields_written a n
note_of (value_written a v) p = value_written a v
note_of result_unknown p = result_unknown
note_of (not_followed taken) p = not_followed taken

-- what ends a statement short is the run's stop, at its address
abbrev pub outcome_of : Option ℕ → End Outcome → Outcome
outcome_of at (gave o) = o
outcome_of at (stopped x) = (did no_note, Some (Unknown at x))

module _ (P : Program) where
  abbrev pub name_of : ℕ → List ℕ
  name_of x = get_or P.names x []

  abbrev pub return_text : List ℕ
  return_text = get_or P.types P.returns []

  -- a returned value is cast to the return type, unless that is exactly `void`
  abbrev pub returned_as : Val → Val
  returned_as v = elim (same return_text (text "void")) [ true ↦ v | false ↦ cast_to v (type_of return_text) ]

  -- `return;` and `return value;`
  unfoldable pub returning : Terms → Act Outcome
  returning no_terms = done (did no_note, Some (Returned None))
  returning (more_terms t ts) = eval t >>= λ v. done (did no_note, Some (Returned (Some (returned_as v))))

  abbrev pub is_named : Term → List ℕ → Bool
  is_named t name = is Intrinsic t && same (name_of (node t).ref) name

  -- "`__analysis_halted` (one Constant argument, whose value, unmasked, is the target)"
  abbrev pub is_halted : Term → Bool
  is_halted t = is_named t (text "__analysis_halted") && eqb (count (kids t)) 1 && is Constant (kid 0 (kids t))

module _ (P : Program) (E : Env) where
  -- a statement's root, in the order of the Rust's `match`
  unfoldable pub outcome : Option ℕ → Term → Act Outcome
  outcome at t =
      elim (is Return t) [
        | true ↦ returning P (kids t)
        | false ↦ elim (is_named P t (text "__builtin_unreachable")) [
          | true ↦ done (did no_note, Some (NoReturn at))
          | false ↦ elim (is_halted P t) [
            | true ↦ done (did no_note, Some (Halted at (node (kid 0 (kids t))).value))
            | false ↦ execute E t >>= λ d. done (d, None)
          ]
        ]
      ]

  -- one statement of block b: it is a step, whatever comes of it
  unfoldable pub run_statement : ℕ → Statement → Act (Option Stop)
  run_statement b s = leave None (do
    e ← try (outcome s.address (look E s.root))
    p ← pending done
    let o = outcome_of s.address e
    emit (record { address = s.address; block = b; statement = s.statement; wrote = o.0.wrote; note = note_of o.0.note p }) (done o.1))
