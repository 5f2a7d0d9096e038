-- A turn of the walk: a unit is spent, and what it buys leads on. Assumes nothing.
use mathlib.Core.Path.{◌≡◌, refl, sym, ap, ap₂, ◌∙◌, subst}
use mathlib.Core.Bool.{Bool, true, false}
use mathlib.Core.List.{List}
use Rattle.std.specs.Prelude.{Option, None, Some, is_none, slice_get}
use Rattle.std.proofs.lemmas.Option.{none-some}
use Prim.Native.Nat.{ℕ, zero, suc, ◌+◌, ◌≤◌, ◌<◌, ◌^◌}
use native.Mathlib.Omega.{arith}
use Rattle.layout.specs.Number.{number_at}
use Rattle.files.specs.Program.{Program, Block, Statement, block_at, statement_at}
use Rattle.definition.specs.Act.{Act, done, spend, ◌>>=◌}
use Rattle.definition.specs.Evaluate.{Env}
use Rattle.definition.specs.Statements as statements
use Rattle.definition.specs.Walk as walk
use Rattle.index.specs.declared.blocks.Place.{Place}
use Rattle.index.specs.Blocks.{block_start, block_first, Placed}
use Rattle.index.proofs.BlockPlaces.{block_there, block_none, listed_at}
use Rattle.workspace.specs.Parts.{tables, blocks_part}
use Rattle.hosting.specs.declared.Counts.{Counts}
use Rattle.hosting.specs.declared.Tally.{Tally}
use Rattle.hosting.specs.declared.How.{How}
use Rattle.hosting.specs.declared.Facts.{Facts}
use Rattle.hosting.specs.declared.Stop.{Stop}
use Rattle.hosting.specs.declared.Stop.TheVariants.{Steps, NoBlock}
use Rattle.hosting.specs.Scene.{Given, given, Scene, Ready, Meant}
use Rattle.hosting.specs.Held.{paid_tally}
use Rattle.hosting.specs.Ending.{Ending, ended, short}
use Rattle.hosting.specs.Runs.{Runs}
use Rattle.hosting.specs.Routine.{Rooted, Told}
use Rattle.hosting.specs.Walking.{stop_end}
use Rattle.hosting.proofs.Running.{goes, halts, acts, assoc, done_runs}
use Rattle.operations.specs.Registers.{counts_in, Units, units_of, how_in}
use Rattle.operations.specs.Going.{ReadyIn, Remains}
use Rattle.operations.specs.Going as going
use Rattle.operations.proofs.Going.{aside_before}
use Rattle.outcomes.specs.declared.leads.Spot.{Spot}
use Rattle.std.specs.declared.ops.ControlFlow.{ControlFlow}
use Rattle.std.specs.declared.ops.ControlFlow.TheVariants.{Continue, Break}
use Rattle.outcomes.specs.Endings.{stops_end, place_of}
use Rattle.machine.specs.Spots.{PlacedAt}
use Rattle.outcomes.specs.Units.{Balanced, paid_counts}
use Rattle.machine.specs.Statements.{block_of}
use Rattle.machine.specs.Walk.{unit_act, UnitOf, walk_on, TurnsTo, Turns, WalksFrom}
use Rattle.outcomes.specs.Post.{Pays}
use Rattle.machine.proofs.Spending.{spend_runs}
use Rattle.outcomes.proofs.Paying.{paid_given}

-- ---- what a unit buys in the definition

abbrev place_by : Option ℕ → ℕ → walk.Place
place_by i b = elim i [ Some k ↦ walk.within b k | None ↦ walk.before b ]

abbrev buys : Program → Env → (nodes ss blocks : List ℕ) → Place → (b : ℕ) → Option ℕ → Bool × Act walk.Next
buys P E nodes ss blocks p b i = (
  is_none i,
  elim i [
    | Some k ↦ statements.run_statement P E b (statement_at nodes ss (p.first + k)) >>= walk.onward E b (block_of nodes ss blocks p) k
    | None ↦ walk.settle E b (block_of nodes ss blocks p) 0
  ],
)

unit_by : (P : Program) (E : Env) (nodes ss blocks : List ℕ) (p : Place) (b : ℕ) (i : Option ℕ) → slice_get P.blocks b ≡ Some (block_of nodes ss blocks p)
    → ((k : ℕ) → i ≡ Some k → k < number_at blocks p.start 2) → walk.unit P E (place_by i b) ≡ Some (buys P E nodes ss blocks p b i)
unfolding walk.unit
unit_by P E nodes ss blocks p b None e h = ap (λ (o : Option Block). elim o [ None ↦ None | Some block ↦ Some (true, walk.settle E b block 0) ]) e
unit_by P E nodes ss blocks p b (Some k) e h =
    ap (λ (o : Option Block). elim o [
      | None ↦ None
      | Some block ↦ elim (slice_get block.statements k) [ None ↦ None | Some s ↦ Some (false, statements.run_statement P E b s >>= walk.onward E b block k) ]
    ]) e
    ∙ ap (λ (o : Option Statement). elim o [ None ↦ None | Some s ↦ Some (false, statements.run_statement P E b s >>= walk.onward E b (block_of nodes ss blocks p) k) ])
    (listed_at (statement_at nodes ss) p.first (number_at blocks p.start 2) k (h k refl))

module _ {nodes ss blocks part : List ℕ} {f : Facts} (all : Rooted nodes ss blocks part f.blocks) (P : Program) (told : Told nodes ss blocks f P) where
  pub block_found_at : (b : ℕ) → b < f.blocks → slice_get P.blocks b ≡ Some (block_at nodes ss blocks (block_start blocks b) (block_first blocks b))
  block_found_at b l = ap (λ (bs : List Block). slice_get bs b) told.spelled ∙ block_there nodes ss blocks f.blocks all.indexed.full b l

  block_found : (b : ℕ) {p : Place} → Placed part b p → b < f.blocks → slice_get P.blocks b ≡ Some (block_of nodes ss blocks p)
  block_found b is l =
      let q = is.is blocks f.blocks all.indexed l in
      block_found_at b l
      ∙ ap₂ (λ (i k : ℕ). Some (block_at nodes ss blocks i k)) (sym q.start) (sym q.first)

  pub block_missing : (b : ℕ) → f.blocks ≤ b → slice_get P.blocks b ≡ None
  block_missing b l = ap (λ (bs : List Block). slice_get bs b) told.spelled ∙ block_none nodes ss blocks f.blocks all.indexed.full b l

no_unit : (P : Program) (E : Env) (b : ℕ) → slice_get P.blocks b ≡ None → walk.unit P E (walk.before b) ≡ None
unfolding walk.unit
no_unit P E b e = ap (λ (o : Option Block). elim o [ None ↦ None | Some block ↦ Some (true, walk.settle E b block 0) ]) e

-- ---- a turn of the definition's walk

abbrev onto : Program → Env → ℕ → walk.Next → Act walk.Next
onto P E n z = elim z [ walk.stops s ↦ done (walk.stops s) | walk.goes q ↦ walk.walk P E n q ]

walk_turn : (P : Program) (E : Env) (n : ℕ) (pl : walk.Place) (u : Bool × Act walk.Next) → walk.unit P E pl ≡ Some u
    → walk.walk P E (suc n) pl ≡ spend u.0 (λ paid. elim paid [ false ↦ done (walk.goes pl) | true ↦ u.1 >>= onto P E n ])
unfolding walk.walk
walk_turn P E n pl u e =
    ap (λ (o : Option (Bool × Act walk.Next)). elim o [
      | None ↦ done (walk.stops (statements.NoBlock (walk.block_of pl)))
      | Some u ↦ spend u.0 (λ paid. elim paid [ false ↦ done (walk.goes pl) | true ↦ u.1 >>= onto P E n ])
    ]) e

walk_missing : (P : Program) (E : Env) (n : ℕ) (pl : walk.Place) → walk.unit P E pl ≡ None → walk.walk P E n pl ≡ done (walk.stops (statements.NoBlock (walk.block_of pl)))
unfolding walk.walk
walk_missing P E zero pl e = ap (λ (o : Option (Bool × Act walk.Next)). elim o [ None ↦ done (walk.stops (statements.NoBlock (walk.block_of pl))) | Some u ↦ done (walk.goes pl) ]) e
walk_missing P E (suc n) pl e =
    ap (λ (o : Option (Bool × Act walk.Next)). elim o [
      | None ↦ done (walk.stops (statements.NoBlock (walk.block_of pl)))
      | Some u ↦ spend u.0 (λ paid. elim paid [ false ↦ done (walk.goes pl) | true ↦ u.1 >>= onto P E n ])
    ]) e

walk_spent : (P : Program) (E : Env) (pl : walk.Place) {u : Bool × Act walk.Next} → walk.unit P E pl ≡ Some u → walk.walk P E 0 pl ≡ done (walk.goes pl)
unfolding walk.walk
walk_spent P E pl e = ap (λ (o : Option (Bool × Act walk.Next)). elim o [ None ↦ done (walk.stops (statements.NoBlock (walk.block_of pl))) | Some u ↦ done (walk.goes pl) ]) e

abbrev pub finish : ℕ → walk.Next → Act statements.Stop
finish limit z = done (walk.stop_at limit z)

module _ {g : Given} (P : Program) (limit : ℕ) (pl : walk.Place) {b : Bool} (bought : Scene → Act walk.Next) (w₀ o₀ : List ℕ) (a₀ : Counts) (n : ℕ) (left : a₀.tally.left ≡ suc n)
    (unit : (x : Scene) → Meant g x (tables w₀) → walk.unit P x.env pl ≡ Some (b, bought x)) where
  -- the walk is what its first unit buys, and then the walk from there
  lifted : {e : Ending statements.Stop} {w o : List ℕ} {a : Counts} → Runs g (λ x. bought x >>= λ z. onto P x.env n z >>= finish limit) w₀ o₀ (paid_counts b a₀) e w o a
      → Runs g (λ x. walk_on P x.env limit a₀.tally.left pl) w₀ o₀ a₀ e w o a
  unfolding ◌>>=◌
  lifted r =
      acts (λ x h. ap (λ (l : ℕ). walk_on P x.env limit l pl) left ∙ ap (λ (m : Act walk.Next). m >>= finish limit) (walk_turn P x.env n pl (b, bought x) (unit x h)))
      (spend_runs (λ x paid. elim paid [ false ↦ done (walk.goes pl) | true ↦ bought x >>= onto P x.env n ] >>= finish limit) n left
      (assoc bought (λ x. onto P x.env n) (λ x. finish limit) r))

  walk_stops : {w o : List ℕ} {a : Counts} (e : Ending statements.Stop) → Runs g bought w₀ o₀ (paid_counts b a₀) (stops_end e) w o a → Runs g (λ x. walk_on P x.env limit a₀.tally.left pl) w₀ o₀ a₀ e w o a
  unfolding ◌>>=◌
  walk_stops (ended s) r = lifted (goes (λ x z. onto P x.env n z >>= finish limit) r (done_runs (λ x. s) (λ x h. refl) r.ready))
  walk_stops (short y) r = lifted (halts (λ x z. onto P x.env n z >>= finish limit) y r)

  walk_goes : {w o w' o' : List ℕ} {a a' : Counts} {q : walk.Place} {e : Ending statements.Stop} → Runs g bought w₀ o₀ (paid_counts b a₀) (ended (walk.goes q)) w o a
      → Runs g (λ x. walk_on P x.env limit n q) w o a e w' o' a' → Runs g (λ x. walk_on P x.env limit a₀.tally.left pl) w₀ o₀ a₀ e w' o' a'
  walk_goes r s = lifted (goes (λ x z. onto P x.env n z >>= finish limit) r s)

-- ---- the units after a payment

paid_left : (l : ℕ) (b : Bool) (t : Tally) → 0 < l → l ≡ suc (paid_tally l b t).left
paid_left zero b t h = absurd (omega arith)
paid_left (suc n) true t h = refl
paid_left (suc n) false t h = refl

paid_fits : (l : ℕ) (b : Bool) (t : Tally) → 0 < l → l + t.entered + t.steps < 2 ^ 64 → Balanced (paid_tally l b t)
paid_fits zero b t h f = absurd (omega arith)
paid_fits (suc n) true t h f = record { fits = omega arith }
paid_fits (suc n) false t h f = record { fits = omega arith }

module _ {g : How → Given} {b : Bool} {w₀ w₁ : List ℕ} (pays : Pays b w₀ w₁) where
  -- what goes on after a payment, from before it
  paid_runs : {A : Type 0} {m : Scene → Act A} {o₀ : List ℕ} {e : Ending A} {w o : List ℕ} → ReadyIn g w₀ → going.Goes g m w₁ o₀ e w o → Runs (g (how_in w₀)) m w₀ o₀ (paid_counts b (counts_in w₀)) e w o (counts_in w)
  paid_runs {A} {m} {o₀} {e} {w} {o} r q =
      aside_before pays.aside (subst (λ (c : Counts). Runs (g (how_in w₀)) m w₁ o₀ c e w o (counts_in w)) pays.counts (q.runs (how_in w₀) pays.how (paid_given pays r.ready)))

  -- the units after what goes on
  paid_units : {w : List ℕ} → Remains g w₁ w → units_of (paid_counts b (counts_in w₀)) ≡ units_of (counts_in w)
  paid_units r = sym (r.units ∙ ap units_of pays.counts)

-- ---- a turn

module _ {nodes ss blocks part : List ℕ} (f : Facts) {s : Spot} {p : Place} (all : Rooted nodes ss blocks part f.blocks) (is : Placed part s.block p) (l : s.block < f.blocks) (at : PlacedAt blocks f.blocks s) where
  start_is : p.start ≡ block_start blocks s.block
  start_is = (is.is blocks f.blocks all.indexed l).start

  unit_there : (P : Program) (E : Env) → Told nodes ss blocks f P → walk.unit P E (place_of s) ≡ Some (is_none s.statement, unit_act P E nodes ss blocks p s)
  unit_there P E told =
      unit_by P E nodes ss blocks p s.block s.statement (block_found all P told s.block is l)
      (λ k e. omega (arith, at.here k e, ap (λ (i : ℕ). number_at blocks i 2) start_is))

  next_placed : {q : Spot} → ((k : ℕ) → q.statement ≡ Some k → (q.block ≡ s.block) × (k < number_at blocks p.start 2)) → PlacedAt blocks f.blocks q
  next_placed {q} st = record {
    block = λ k e. omega (arith, (st k e).0, l);
    here = λ k e. omega (arith, (st k e).1, ap (λ (i : ℕ). number_at blocks i 2) (start_is ∙ ap (block_start blocks) (sym (st k e).0)));
  }

  module _ {symbols regions w₀ o₀ w₁ w o : List ℕ} (ready : ReadyIn (given nodes symbols regions) w₀) (bal : Balanced (counts_in w₀).tally) (some : 0 < (counts_in w₀).tally.left) (pays : Pays (is_none s.statement) w₀ w₁) where
    turns_to : (n : ControlFlow Stop Spot) → UnitOf nodes symbols regions ss blocks f p s w₁ o₀ n w o → TurnsTo (given nodes symbols regions (how_in w₀)) ss blocks f s w₀ o₀ n w o
    turns_to (Break stop) u = λ P told limit.
        walk_stops P limit (place_of s) (λ x. unit_act P x.env nodes ss blocks p s) w₀ o₀ (counts_in w₀) (paid_tally (counts_in w₀).tally.left (is_none s.statement) (counts_in w₀).tally).left
        (paid_left (counts_in w₀).tally.left (is_none s.statement) (counts_in w₀).tally some) (λ x h. unit_there P x.env told) (stop_end limit stop) (paid_runs pays ready (u.goes P told.named limit))
    turns_to (Continue q) u =
        let units = paid_units pays u.remains in
        let one : (counts_in w₀).tally.left ≡ suc (counts_in w).tally.left = paid_left (counts_in w₀).tally.left (is_none s.statement) (counts_in w₀).tally some ∙ ap (λ (v : Units). suc v.left) units in
        let how = u.remains.how ∙ pays.how in (
          record {
            ready = subst (λ (h : How). Ready (given nodes symbols regions h) w (counts_in w)) how u.remains.ready.ready;
            how = how;
            placed = next_placed u.stays;
            balanced = record {
              fits = subst (λ (v : Units). v.left + v.entered + v.steps < 2 ^ 64) units (paid_fits (counts_in w₀).tally.left (is_none s.statement) (counts_in w₀).tally some bal.fits).fits;
            };
            less = omega (arith, one);
            tables = u.remains.tables ∙ pays.aside.tables;
          },
          λ P told limit e w' o' a' r.
              walk_goes P limit (place_of s) (λ x. unit_act P x.env nodes ss blocks p s) w₀ o₀ (counts_in w₀) (counts_in w).tally.left one (λ x h. unit_there P x.env told)
              (paid_runs pays ready (u.goes P told.named limit)) r,
        )

    -- as the code does it
    pub turned : {q : ControlFlow Stop Spot} → UnitOf nodes symbols regions ss blocks f p s w₁ o₀ q w o → Turns (given nodes symbols regions (how_in w₀)) ss blocks f s w₀ o₀ q w o
    turned {q} u = record { turns = turns_to q u }

-- ---- the walk so far: what is left to do is the walk from here

pub record Left (nodes symbols regions ss blocks : List ℕ) (f : Facts) (w₀ o₀ : List ℕ) (s : Spot) (w o : List ℕ) : Type 0 where
  pub ready : ReadyIn (given nodes symbols regions) w
  pub how : how_in w ≡ how_in w₀
  pub rooted : Rooted nodes ss blocks (blocks_part (tables w)) f.blocks
  pub placed : PlacedAt blocks f.blocks s
  pub balanced : Balanced (counts_in w).tally
  pub rest : (P : Program) → Told nodes ss blocks f P → (limit : ℕ) (e : Ending statements.Stop) (w' o' : List ℕ) (a' : Counts)
      → Runs (given nodes symbols regions (how_in w₀)) (λ x. walk_on P x.env limit (counts_in w).tally.left (place_of s)) w o (counts_in w) e w' o' a'
      → Runs (given nodes symbols regions (how_in w₀)) (λ x. walk_on P x.env limit (counts_in w₀).tally.left (walk.before 0)) w₀ o₀ (counts_in w₀) e w' o' a'

abbrev spot_at : Option ℕ → ℕ → Spot
spot_at i b = record { block = b; statement = i }

pub begins : {nodes symbols regions ss blocks : List ℕ} {f : Facts} {w o : List ℕ} {s : Spot} → (s.statement ≡ None) × (s.block ≡ 0) → ReadyIn (given nodes symbols regions) w
    → Rooted nodes ss blocks (blocks_part (tables w)) f.blocks → Balanced (counts_in w).tally → Left nodes symbols regions ss blocks f w o s w o
begins {nodes} {symbols} {regions} {ss} {blocks} {f} {w} {o} is r all b = subst (λ (s : Spot). Left nodes symbols regions ss blocks f w o s w o) (sym (ap₂ spot_at is.0 is.1)) (record {
  ready = r;
  how = refl;
  rooted = all;
  placed = record { block = λ k e. absurd (none-some k e); here = λ k e. absurd (none-some k e) };
  balanced = b;
  rest = λ P told limit e w' o' a' q. q;
})

module _ {nodes symbols regions ss blocks : List ℕ} {f : Facts} {w₀ o₀ : List ℕ} {s : Spot} {w o : List ℕ} (so : Left nodes symbols regions ss blocks f w₀ o₀ s w o) where
  -- in order for the run as it began
  ready_so : Ready (given nodes symbols regions (how_in w₀)) w (counts_in w)
  ready_so = subst (λ (h : How). Ready (given nodes symbols regions h) w (counts_in w)) so.how so.ready.ready

  module _ {n : ControlFlow Stop Spot} {w' o' : List ℕ} (turn : Turns (given nodes symbols regions (how_in w)) ss blocks f s w o n w' o') where
    gone : {m : ControlFlow Stop Spot} → n ≡ m → TurnsTo (given nodes symbols regions (how_in w₀)) ss blocks f s w o m w' o'
    gone {m} e = subst (λ (h : How). TurnsTo (given nodes symbols regions h) ss blocks f s w o m w' o') so.how (subst (λ (m : ControlFlow Stop Spot). TurnsTo (given nodes symbols regions (how_in w)) ss blocks f s w o m w' o') e turn.turns)

    pub goes_on : {q : Spot} → n ≡ Continue q → Left nodes symbols regions ss blocks f w₀ o₀ q w' o'
    goes_on e = record {
      ready = record { ready = subst (λ (h : How). Ready (given nodes symbols regions h) w' (counts_in w')) (sym ((gone e).0.how ∙ so.how)) (gone e).0.ready };
      how = (gone e).0.how ∙ so.how;
      rooted = subst (λ (t : List ℕ). Rooted nodes ss blocks (blocks_part t) f.blocks) (sym (gone e).0.tables) so.rooted;
      placed = (gone e).0.placed;
      balanced = (gone e).0.balanced;
      rest = λ P told limit d w'' o'' a'' q. so.rest P told limit d w'' o'' a'' ((gone e).1 P told limit d w'' o'' a'' q);
    }

    pub goes_less : {q : Spot} → n ≡ Continue q → (counts_in w').tally.left < (counts_in w).tally.left
    goes_less e = (gone e).0.less

    pub stops_with : {stop : Stop} → n ≡ Break stop → WalksFrom (given nodes symbols regions (how_in w₀)) ss blocks f w₀ o₀ stop w' o'
    stops_with {stop} e = record { runs = λ P told limit. so.rest P told limit (stop_end limit stop) w' o' (counts_in w') (gone e P told limit) }

  -- no unit is left for a block that is there
  pub stops_spent : s.block < f.blocks → (counts_in w).tally.left ≡ 0 → WalksFrom (given nodes symbols regions (how_in w₀)) ss blocks f w₀ o₀ Steps w o
  unfolding ◌>>=◌
  stops_spent l z = record {
    runs = λ P told limit.
        so.rest P told limit (ended (statements.Steps limit)) w o (counts_in w)
        (acts (λ x h. ap (λ (n : ℕ). walk_on P x.env limit n (place_of s)) z ∙ ap (λ (m : Act walk.Next). m >>= finish limit) (walk_spent P x.env (place_of s) (there P x.env told)))
        (done_runs (λ x. statements.Steps limit) (λ x h. refl) ready_so));
  }
    where
      p : Place
      p = record { start = block_start blocks s.block; first = block_first blocks s.block }

      there : (P : Program) (E : Env) → Told nodes ss blocks f P → walk.unit P E (place_of s) ≡ Some (buys P E nodes ss blocks p s.block s.statement)
      there P E told =
          unit_by P E nodes ss blocks p s.block s.statement
          (block_found_at so.rooted P told s.block l)
          so.placed.here

  -- there is no such block
  pub stops_missing : f.blocks ≤ s.block → WalksFrom (given nodes symbols regions (how_in w₀)) ss blocks f w₀ o₀ (NoBlock s.block) w o
  unfolding ◌>>=◌
  stops_missing l = record {
    runs = λ P told limit.
        so.rest P told limit (ended (statements.NoBlock s.block)) w o (counts_in w)
        (acts (λ x h. ap (λ (pl : walk.Place). walk_on P x.env limit (counts_in w).tally.left pl) (outside s.statement refl)
        ∙ ap (λ (m : Act walk.Next). m >>= finish limit) (walk_missing P x.env (counts_in w).tally.left (walk.before s.block) (missing P x.env told)))
        (done_runs (λ x. statements.NoBlock s.block) (λ x h. refl) ready_so));
  }
    where
      outside : (i : Option ℕ) → s.statement ≡ i → place_by i s.block ≡ walk.before s.block
      outside None e = refl
      outside (Some k) e = absurd (omega (arith, so.placed.block k e, l))

      missing : (P : Program) (E : Env) → Told nodes ss blocks f P → walk.unit P E (walk.before s.block) ≡ None
      missing P E told = no_unit P E s.block (block_missing so.rooted P told s.block l)
