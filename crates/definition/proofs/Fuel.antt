-- The number that the walk goes down by is at least the units left, so a greater one changes nothing: it is only what the walk is structural on.
-- Assumes nothing.
use mathlib.Core.Path.{◌≡◌, refl, sym, ap, ◌∙◌}
use mathlib.Core.Bool.{Bool, true, false}
use mathlib.Core.List.{List, ◌++◌}
use Rattle.std.specs.Prelude.{Option, None, Some}
use Prim.Native.Nat.{ℕ, zero, suc, ◌≤◌}
use native.Mathlib.Omega.{arith}
use Rattle.definition.specs.Question.{World, Entry}
use Rattle.definition.specs.Act.{Act, done, peek_op, poke_op, get_op, set_op, pending_op, leave_op, spend_op, emit_op, End, gave, stopped, spend, ◌>>=◌}
use Rattle.definition.specs.State.{Budget, State, paid, some?, Out, run}
use Rattle.files.specs.Program.{Program}
use Rattle.definition.specs.Evaluate.{Env}
use Rattle.definition.specs.Statements.{NoBlock}
use Rattle.definition.specs.Walk.{Place, Next, stops, goes, block_of, unit, walk}
use Rattle.definition.proofs.Follow.{go_on, run_bind}
use Rattle.definition.proofs.Kept.{Keeps, kept}
use Rattle.definition.proofs.Budget.{asked}

pub record AtMost (n : ℕ) (g : Budget) : Type 0 where
  pub left : g.left ≤ n

fewer : {m : ℕ} (n : ℕ) (b : Bool) (g : Budget) → g.left ≡ n → AtMost m g → AtMost m (paid n b g)
fewer zero b g e h = h
fewer (suc n) true g e h = record { left = omega (arith, e, h.left) }
fewer (suc n) false g e h = record { left = omega (arith, e, h.left) }

never_more : (m : ℕ) → Keeps (λ s. AtMost m s.budget)
never_more m (peek_op a) s h = h
never_more m (poke_op a c) s h = h
never_more m (get_op x) s h = h
never_more m (set_op x v) s h = h
never_more m pending_op s h = h
never_more m (leave_op p) s h = h
never_more m (spend_op b) s h = fewer s.budget.left b s.budget refl h
never_more m (emit_op e) s h = h

paid_left : (n : ℕ) (b : Bool) (g : Budget) → (paid (suc n) b g).left ≡ n
paid_left n true g = refl
paid_left n false g = refl

-- ---- one turn of the walk

module _ (P : Program) (E : Env) where
  abbrev pub further : ℕ → Next → Act Next
  further m n = elim n [ stops s ↦ done (stops s) | goes q ↦ walk P E m q ]

  abbrev pub paying : ℕ → Place → Act Next → Bool → Act Next
  paying m p u paid = elim paid [ false ↦ done (goes p) | true ↦ u >>= further m ]

  abbrev pub turn : ℕ → Place → Option (Bool × Act Next) → Act Next
  turn m p o = elim o [ None ↦ done (stops (NoBlock (block_of p))) | Some u ↦ spend u.0 (λ paid. paying m p u.1 paid) ]

  -- with nothing left of the number
  abbrev pub last_turn : Place → Option (Bool × Act Next) → Act Next
  last_turn p o = elim o [ None ↦ done (stops (NoBlock (block_of p))) | Some u ↦ done (goes p) ]

module _ (P : Program) (E : Env) (w : World) where
  pub fuel : (m : ℕ) (p : Place) (s : State) → AtMost m s.budget → run w (walk P E (suc m) p) s ≡ run w (walk P E m p) s
  unfolding walk run
  fuel zero p s h = go (unit P E p)
    where
      broke : (u : Act Next) (b : Bool) (n : ℕ) → s.budget.left ≡ n → run w (paying P E zero p u (some? n)) (asked n b s) ≡ run {A = Next} w (done (goes p)) s
      broke u b zero e = refl
      broke u b (suc n) e = absurd (omega (arith, e, h.left))

      go : (o : Option (Bool × Act Next))
          → run w (turn P E zero p o) s ≡ run w (last_turn P E p o) s
      go None = refl
      go (Some u) = broke u.1 u.0 s.budget.left refl
  fuel (suc m) p s h = go (unit P E p) (λ q s' h'. fuel m q s' h')
    where
      Less : Type 0
      Less = (q : Place) (s' : State) → AtMost m s'.budget → run w (walk P E (suc m) q) s' ≡ run w (walk P E m q) s'

      each : Less → (n : Next) (s' : State) → AtMost m s'.budget → run w (further P E (suc m) n) s' ≡ run w (further P E m n) s'
      each ih (stops x) s' h' = refl
      each ih (goes q) s' h' = ih q s' h'

      ended : Less → (e : End Next) (l : List Entry) (s' : State) → AtMost m s'.budget
          → go_on e l s' (λ n s''. run w (further P E (suc m) n) s'') ≡ go_on e l s' (λ n s''. run w (further P E m n) s'')
      ended ih (gave n) l s' h' = ap (λ (o : Out Next). record { end = o.end; log = l ++ o.log; after = o.after }) (each ih n s' h')
      ended ih (stopped x) l s' h' = refl

      bound : (u : Act Next) (s' : State) → AtMost m s'.budget → Less → run w (u >>= further P E (suc m)) s' ≡ run w (u >>= further P E m) s'
      bound u s' h' ih =
          let r = run w u s' in
          run_bind w (further P E (suc m)) u s' ∙ ended ih r.end r.log r.after (kept w (never_more m) u s' h') ∙ sym (run_bind w (further P E m) u s')

      pays : (u : Act Next) (b : Bool) (n : ℕ) → s.budget.left ≡ n → Less → run w (paying P E (suc m) p u (some? n)) (asked n b s) ≡ run w (paying P E m p u (some? n)) (asked n b s)
      pays u b zero e ih = refl
      pays u b (suc n) e ih = bound u (asked (suc n) b s) (record { left = omega (arith, paid_left n b s.budget, e, h.left) }) ih

      go : (o : Option (Bool × Act Next)) → Less → run w (turn P E (suc m) p o) s ≡ run w (turn P E m p o) s
      go None ih = refl
      go (Some u) ih = pays u.1 u.0 s.budget.left refl ih
