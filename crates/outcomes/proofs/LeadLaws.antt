-- Where terminators lead, as the code tells it. Assumes nothing.
use mathlib.Core.Path.{◌≡◌, refl, sym, ap, ◌∙◌}
use mathlib.Core.Bool.{Bool, true, false}
use mathlib.Core.List.{List}
use Rattle.std.specs.Prelude.{Option, None, Some, Result, Ok, Err, ok_or}
use Rattle.std.specs.Option.{option_or}
use Prim.Native.Nat.{ℕ, zero, suc, ◌+◌, ◌-◌, ◌*◌, ◌≤◌, ◌<◌}
use native.Mathlib.Nat.{add-zero, add-suc, suc-add}
use native.Mathlib.Omega.{arith}
use lib.ListN.{length}
use Rattle.value.specs.declared.Val.{Val}
use Rattle.layout.specs.Number.{number_at}
use Rattle.files.specs.Program.{Case, case_of, Statement, listed, statement_at}
use Rattle.definition.specs.Act.{switch_unknown, no_case, gave, stopped}
use Rattle.definition.specs.Act as act
use Rattle.definition.specs.Statements as statements
use Rattle.definition.specs.Walk as walk
use Rattle.index.specs.declared.blocks.Place.{Place}
use Rattle.index.specs.declared.blocks.Statement as index
use Rattle.index.specs.Blocks.{States}
use Rattle.hosting.specs.declared.Short.{Short}
use Rattle.hosting.specs.declared.Stop.TheVariants.{Unknown}
use Rattle.hosting.specs.declared.Short.TheVariants.{Why}
use Rattle.stream.specs.declared.Reason.TheVariants.{NoCase}
use Rattle.std.specs.declared.ops.ControlFlow.TheVariants.{Continue, Break}
use Rattle.hosting.specs.Ending.{ended, short, short_of, end_of}
use Rattle.hosting.specs.Walking.{unknown_end}
use Rattle.outcomes.specs.Endings.{end_end, tried_end, stops_end}
use Rattle.outcomes.specs.Placing.{Dealt}
use Rattle.outcomes.specs.Post.{switches, statements_at, LastIs, AddressIs, Leads}

-- ---- a Switch's value

module _ (root : ℕ) (cases : List Case) (v : Val) where
  pub switch_unknown_lem : v.known ≡ false → short (Some (switch_unknown root)) ≡ end_end (switches root cases v)
  switch_unknown_lem h = rw h

  module _ (h : v.known ≡ true) {n : ℕ} (e : n ≡ walk.extended v) {m : Option ℕ} (read : m ≡ case_of cases n) where
    -- the case that was read
    case_is : {a : Option ℕ} → m ≡ a → case_of cases n ≡ a
    case_is k = sym read ∙ k

    by_case : (o : Option ℕ) → case_of cases n ≡ o → end_end (switches root cases v) ≡ end_end (elim o [ None ↦ stopped (no_case (walk.extended v)) | Some b ↦ gave b ])
    by_case o q =
        ap (λ (b : Bool). end_end {A = ℕ} (elim b [
          | false ↦ stopped (switch_unknown root)
          | true ↦ elim (case_of cases (walk.extended v)) [ None ↦ stopped (no_case (walk.extended v)) | Some b ↦ gave b ]
        ])) h
        ∙ ap (λ (z : Option ℕ). end_end {A = ℕ} (elim z [ None ↦ stopped (no_case (walk.extended v)) | Some b ↦ gave b ])) (ap (case_of cases) (sym e) ∙ q)

    pub switch_told : {r : Result ℕ Short} → r ≡ ok_or m (Why NoCase n) → end_of r ≡ end_end (switches root cases v)
    switch_told {r} q = go m refl
      where
        go : (a : Option ℕ) → m ≡ a → end_of r ≡ end_end (switches root cases v)
        go None k = ap end_of (q ∙ ap (λ (z : Option ℕ). ok_or z (Why NoCase n)) k) ∙ ap (λ (z : ℕ). short (Some (no_case z))) e ∙ sym (by_case None (case_is k))
        go (Some b) k = ap end_of (q ∙ ap (λ (z : Option ℕ). ok_or z (Why NoCase n)) k) ∙ sym (by_case (Some b) (case_is k))

-- ---- the last statement's address

last_listed : (f : ℕ → Statement) (i n : ℕ) → walk.last_address (listed f i (suc n)) ≡ (f (i + n)).address
unfolding listed walk.last_address
last_listed f i zero = ap (λ (j : ℕ). (f j).address) (sym (add-zero i))
last_listed f i (suc n) = last_listed f (suc i) n ∙ ap (λ (j : ℕ). (f j).address) (suc-add i n ∙ sym (add-suc i n))

module _ {ss blocks : List ℕ} {p : Place} {n : ℕ} (count : (n ≡ number_at blocks p.start 2) × (n < 65536)) where
  pub last_none : n ≡ 0 → LastIs ss blocks p None
  unfolding listed walk.last_address
  last_none z = record { is = λ nodes. ap (λ (k : ℕ). walk.last_address (listed (statement_at nodes ss) p.first k)) (sym z ∙ count.0) }

  pub last_some : {s : index.Statement} → (n ≡ 0 → ⊥) → States ss (p.first + (n - 1)) s → LastIs ss blocks p s.address
  last_some ne s = record {
    is = λ nodes.
        let z : suc (n - 1) ≡ n = omega arith in
        sym (s.address nodes) ∙ sym (last_listed (statement_at nodes ss) p.first (n - 1)) ∙ ap (λ (k : ℕ). walk.last_address (listed (statement_at nodes ss) p.first k)) (z ∙ count.0);
  }

  -- and it can be read
  pub last_inside : Dealt ss blocks p → (n ≡ 0 → ⊥) → (p.first + (n - 1)) * 13 + 13 ≤ length ss
  last_inside d ne = omega (arith, d.dealt, count.0)

module _ {ss blocks : List ℕ} {p : Place} where
  address_by : (address : Option ℕ) {l r : Option ℕ} → LastIs ss blocks p l → r ≡ option_or address l → AddressIs ss blocks p address r
  address_by None last e = record { is = λ nodes. e ∙ last.is nodes }
  address_by (Some a) last e = record { is = λ nodes. e }

  -- a terminator's own address, or else the last one
  pub address_is : {address l r : Option ℕ} → LastIs ss blocks p l → r ≡ option_or address l → AddressIs ss blocks p address r
  address_is {address} last e = address_by address last e

-- ---- what comes next

pub leads_to : {ss blocks : List ℕ} {p : Place} {address : Option ℕ} {l : Result ℕ Short} {b : ℕ} → l ≡ Ok b → Leads ss blocks p address l (Continue (record { block = b; statement = None }))
leads_to {ss} {blocks} {p} {address} h = record {
  is = λ nodes limit. ap (λ (z : Result ℕ Short). tried_end (walk.left_to (walk.address_or address (statements_at nodes ss blocks p))) (end_of z)) (sym h);
  outside = refl;
}

stop_led : (at at' : Option ℕ) → at ≡ at' → (y : Option act.Why) → stops_end (unknown_end at y) ≡ tried_end (walk.left_to at') (short y)
stop_led at at' e None = refl
stop_led at at' e (Some y) = ap (λ (z : Option ℕ). ended (walk.stops (statements.Unknown z y))) e

pub leads_short : {ss blocks : List ℕ} {p : Place} {address m : Option ℕ} {l : Result ℕ Short} {s : Short} → l ≡ Err s → AddressIs ss blocks p address m → Leads ss blocks p address l (Break (Unknown m s))
leads_short {ss} {blocks} {p} {address} {m} {s = s} h a = record {
  is = λ nodes limit.
      stop_led m (walk.address_or address (statements_at nodes ss blocks p)) (a.is nodes) (short_of s)
      ∙ ap (λ (z : Result ℕ Short). tried_end (walk.left_to (walk.address_or address (statements_at nodes ss blocks p))) (end_of z)) (sym h);
  outside = tt;
}
