-- What a unit buys, as runs on the code's host. Assumes nothing.
use mathlib.Core.Path.{◌≡◌, refl, sym, ap, ◌∙◌, subst, fun_ext}
use mathlib.Core.Bool.{Bool, true, false}
use mathlib.Core.List.{List}
use Rattle.std.specs.Prelude.{Option, None, Some}
use Rattle.std.proofs.lemmas.Option.{none-some, same_Some}
use Prim.Native.Nat.{ℕ, ◌+◌, ◌*◌, ◌≤◌, ◌<◌}
use native.Mathlib.Numerals.{add-one}
use native.Mathlib.Omega.{arith}
use borrow.Author.Tests.{lt-ltb, le-ltb}
use lib.Dec.{ltb}
use lib.ListN.{length, get_or}
use Rattle.layout.specs.Number.{number_at}
use Rattle.layout.proofs.NumberLaws.{number_at_lt}
use Rattle.files.specs.Program.{Program, tree_at, statement_at}
use Rattle.files.proofs.ListedLaws.{length_listed}
use Rattle.definition.specs.Act.{Act, done, ◌>>=◌}
use Rattle.definition.specs.Evaluate.{Env}
use Rattle.definition.specs.Statements as statements
use Rattle.definition.specs.Walk as walk
use Rattle.index.specs.declared.blocks.Place.{Place}
use Rattle.index.specs.Blocks.{Placed}
use Rattle.hosting.specs.declared.How.{How}
use Rattle.hosting.specs.declared.Facts.{Facts}
use Rattle.hosting.specs.declared.Stop.{Stop}
use Rattle.hosting.specs.Stands.{Stands}
use Rattle.hosting.specs.Scene.{Given, given, Scene}
use Rattle.hosting.specs.Ending.{Ending, ended, short}
use Rattle.hosting.specs.Runs.{Kept}
use Rattle.hosting.specs.Routine.{Rooted}
use Rattle.hosting.specs.Walking.{stop_end}
use Rattle.hosting.proofs.Running.{kept_on}
use Rattle.operations.specs.Going.{ReadyIn, Remains}
use Rattle.operations.specs.Going as going
use Rattle.operations.proofs.Going.{done_goes, goes, halts, acts, told, remains}
use Rattle.outcomes.specs.declared.leads.Spot.{Spot}
use Rattle.std.specs.declared.ops.ControlFlow.{ControlFlow}
use Rattle.std.specs.declared.ops.ControlFlow.TheVariants.{Continue, Break}
use Rattle.outcomes.specs.Endings.{halt_end, some_end, stops_end, next_end}
use Rattle.outcomes.specs.Placing.{Placing}
use Rattle.machine.specs.Spots.{Here, PlacedAt}
use Rattle.machine.specs.Statements.{RunsStatement, block_of, Terminates}
use Rattle.outcomes.specs.Post.{Outside, ahead_of}
use Rattle.machine.specs.Walk.{Stays, Settles, run_act, RunsAt, unit_act, UnitOf}

-- ---- before a statement of a block

-- so many statements are in a block
block_length : (nodes ss blocks : List ℕ) (p : Place) → length (block_of nodes ss blocks p).statements ≡ number_at blocks p.start 2
block_length nodes ss blocks p = length_listed (statement_at nodes ss) p.first (number_at blocks p.start 2)

settle_by : (E : Env) (nodes ss blocks : List ℕ) (p : Place) (b k : ℕ) (t : Bool) → ltb k (number_at blocks p.start 2) ≡ t
    → walk.settle E b (block_of nodes ss blocks p) k
    ≡ elim t [ true ↦ done (walk.goes (walk.within b k)) | false ↦ walk.terminate E (block_of nodes ss blocks p).statements (block_of nodes ss blocks p).terminator ]
unfolding walk.settle
settle_by E nodes ss blocks p b k t e =
    ap (λ (z : Bool). elim z [ true ↦ done (walk.goes (walk.within b k)) | false ↦ walk.terminate E (block_of nodes ss blocks p).statements (block_of nodes ss blocks p).terminator ])
    (ap (ltb k) (block_length nodes ss blocks p) ∙ e)

outside_stays : (blocks : List ℕ) (p : Place) (b : ℕ) (n : ControlFlow Stop Spot) → Outside n → Stays blocks p b n
outside_stays blocks p b (Break s) h = tt
outside_stays blocks p b (Continue s) h = λ k e. absurd (none-some k (sym h ∙ e))

module _ {nodes symbols regions ss blocks : List ℕ} {p : Place} {b k n : ℕ} (count : (n ≡ number_at blocks p.start 2) × (n < 65536)) where
  pub settles_within : {w o : List ℕ} → k < n → Settles nodes symbols regions ss blocks p b k w o (Continue (record { block = b; statement = Some k })) w o
  settles_within l = record {
    goes = λ limit. acts (λ h x m. settle_by x.env nodes ss blocks p b k true (lt-ltb k (number_at blocks p.start 2) (omega (arith, count.0)))) (done_goes (λ x. walk.goes (walk.within b k)) (λ h x m. refl));
    stays = λ j e. (refl, omega (arith, count.0, same_Some k j e));
  }

  pub settles_past : {w₀ o₀ w o : List ℕ} {q : ControlFlow Stop Spot} → n ≤ k → Terminates nodes symbols regions ss blocks p w₀ o₀ q w o → Settles nodes symbols regions ss blocks p b k w₀ o₀ q w o
  settles_past {q = q} l t = record {
    goes = λ limit. acts (λ h x m. settle_by x.env nodes ss blocks p b k false (le-ltb k (number_at blocks p.start 2) (omega (arith, count.0)))) (t.goes limit);
    stays = outside_stays blocks p b q t.outside;
  }

-- ---- what is run at a spot

pub statement_inside : {nodes ss blocks : List ℕ} {p : Place} {k : ℕ} → Placing nodes ss blocks p → Here blocks p k → (p.first + k) * 13 + 13 ≤ length ss
statement_inside all h = omega (arith, all.dealt.dealt, h.below)

pub statement_small : {blocks : List ℕ} {p : Place} {k : ℕ} → Here blocks p k → k < 65536
statement_small {blocks} {p} h = omega (arith, h.below, number_at_lt blocks p.start 2)

-- a spot, by the statement that it is before
abbrev spot_by : Spot → Option ℕ → Spot
spot_by s i = record { block = s.block; statement = i }

module _ {nodes symbols regions ss : List ℕ} {f : Facts} {p : Place} {s : Spot} where
  pub runs_statement : {k : ℕ} {w₀ o₀ w o : List ℕ} {r : Option Stop} → s.statement ≡ Some k → RunsStatement nodes symbols regions ss f s.block (p.first + k) w₀ o₀ r w o → RunsAt nodes symbols regions ss f p s w₀ o₀ r w o
  runs_statement e q = record {
    goes = λ P named limit. acts (λ h x m. ap (λ (i : Option ℕ). run_act P x.env nodes ss p (spot_by s i)) e) (q.goes P named limit);
    remains = q.remains;
  }

  pub runs_nothing : {w o : List ℕ} → s.statement ≡ None → ReadyIn (given nodes symbols regions) w → RunsAt nodes symbols regions ss f p s w o None w o
  runs_nothing e r = record {
    goes = λ P named limit. acts (λ h x m. ap (λ (i : Option ℕ). run_act P x.env nodes ss p (spot_by s i)) e) (done_goes (λ x. None) (λ h x m. refl));
    remains = record { how = refl; units = refl; ready = r; tables = refl };
  }

-- ---- what a unit buys

-- the walk settles before statement n, unless what was run stops it
abbrev settling : Env → (nodes ss blocks : List ℕ) → Place → (b n : ℕ) → Option statements.Stop → Act walk.Next
settling E nodes ss blocks p b n None = walk.settle E b (block_of nodes ss blocks p) n
settling E nodes ss blocks p b n (Some s) = done (walk.stops s)

-- what is run at the spot, and then that
unit_parts : (P : Program) (E : Env) (nodes ss blocks : List ℕ) (p : Place) (s : Spot)
    → unit_act P E nodes ss blocks p s ≡ (run_act P E nodes ss p s >>= settling E nodes ss blocks p s.block (ahead_of s))
unfolding ◌>>=◌
unit_parts P E nodes ss blocks p s = go s.statement
  where
    onward_is : (k : ℕ) (o : Option statements.Stop) → walk.onward E s.block (block_of nodes ss blocks p) k o ≡ settling E nodes ss blocks p s.block (k + 1) o
    onward_is k None = ap (walk.settle E s.block (block_of nodes ss blocks p)) (sym (add-one k))
    onward_is k (Some h) = refl

    go : (i : Option ℕ) → unit_act P E nodes ss blocks p (spot_by s i) ≡ (run_act P E nodes ss p (spot_by s i) >>= settling E nodes ss blocks p s.block (ahead_of (spot_by s i)))
    go (Some k) = ap (λ (f : Option statements.Stop → Act walk.Next). statements.run_statement P E s.block (statement_at nodes ss (p.first + k)) >>= f) (fun_ext (onward_is k))
    go None = refl

stopped_goes : {g : How → Given} {m : Scene → Act (Option statements.Stop)} (f : Scene → Option statements.Stop → Act walk.Next) {w₀ o₀ w o : List ℕ} (e : Ending statements.Stop)
    → ((x : Scene) (s : statements.Stop) → f x (Some s) ≡ done (walk.stops s)) → going.Goes g m w₀ o₀ (some_end e) w o → going.Goes g (λ x. m x >>= f x) w₀ o₀ (stops_end e) w o
stopped_goes f (ended s) h r = goes f r (acts (λ _ x d. h x s) (done_goes (λ x. walk.stops s) (λ _ x d. refl)))
stopped_goes f (short y) h r = halts f y r

stopped_kept : (F : Type 0) (e : Ending statements.Stop) → Kept (some_end e) F → Kept (stops_end e) F
stopped_kept F (ended s) h = h
stopped_kept F (short None) h = tt
stopped_kept F (short (Some y)) h = h

kept_halt : (F : Type 0) {h h' : Option Stop} → h ≡ h' → Kept (halt_end 0 h) F → Kept (halt_end 0 h') F
kept_halt F e k = subst (λ (h : Option Stop). Kept (halt_end 0 h) F) e k

remains_on : {g : How → Given} {w₀ w w' : List ℕ} → Remains g w₀ w → Remains g w w' → Remains g w₀ w'
remains_on p q = record { how = q.how ∙ p.how; units = q.units ∙ p.units; ready = q.ready; tables = q.tables ∙ p.tables }

module _ {nodes symbols regions ss : List ℕ} {f : Facts} {p : Place} {s : Spot} {w₀ o₀ w o : List ℕ} {r : Option Stop} (ran : RunsAt nodes symbols regions ss f p s w₀ o₀ r w o) where
  left : r ≡ None → Remains (given nodes symbols regions) w₀ w
  left e = kept_halt (Remains (given nodes symbols regions) w₀ w) e ran.remains

  pub on_ready : r ≡ None → ReadyIn (given nodes symbols regions) w
  on_ready e = (left e).ready

  pub unit_stops : {blocks : List ℕ} {stop : Stop} → r ≡ Some stop → UnitOf nodes symbols regions ss blocks f p s w₀ o₀ (Break stop) w o
  unit_stops {blocks} {stop} e = record {
    goes = λ P named limit.
        acts (λ h x m. unit_parts P x.env nodes ss blocks p s)
        (stopped_goes (λ x. settling x.env nodes ss blocks p s.block (ahead_of s)) (stop_end limit stop) (λ x z. refl) (told (ap (halt_end limit) (sym e)) (ran.goes P named limit)));
    remains = stopped_kept (Remains (given nodes symbols regions) w₀ w) (stop_end 0 stop) (kept_halt (Remains (given nodes symbols regions) w₀ w) e ran.remains);
    stays = tt;
  }

  pub unit_settles : {blocks : List ℕ} {n : ℕ} {w' o' : List ℕ} {q : ControlFlow Stop Spot} → r ≡ None → n ≡ ahead_of s → Settles nodes symbols regions ss blocks p s.block n w o q w' o' → UnitOf nodes symbols regions ss blocks f p s w₀ o₀ q w' o'
  unit_settles {blocks} {q = q} e is z = record {
    goes = λ P named limit.
        acts (λ h x m. unit_parts P x.env nodes ss blocks p s)
        (goes (λ x. settling x.env nodes ss blocks p s.block (ahead_of s)) (told (ap (halt_end limit) (sym e)) (ran.goes P named limit))
        (acts (λ h x m. ap (walk.settle x.env s.block (block_of nodes ss blocks p)) (sym is)) (z.goes limit)));
    remains = kept_on (next_end 0 q) (remains_on (left e)) (remains (z.goes 0) (on_ready e));
    stays = z.stays;
  }

-- ---- the block of a spot

pub placing : {nodes ss blocks part : List ℕ} {count k : ℕ} {p : Place} → Rooted nodes ss blocks part count → Placed part k p → k < count → Placing nodes ss blocks p
placing {nodes} {ss} {blocks} {k = k} {p = p} all is l =
    let q = is.is blocks _ all.indexed l in
    record {
      dealt = record { inside = q.inside; dealt = omega (arith, all.dealt k l, q.first, ap (λ (i : ℕ). number_at blocks i 2) q.start) };
      roots = record { roots = all.roots };
      root = subst (λ (i : ℕ). 2 ≤ get_or blocks (i + 2) 0 → Stands nodes (number_at blocks (i + 12) 4) (tree_at nodes (number_at blocks (i + 12) 4))) (sym q.start) (all.ends k l);
    }

pub here_at : {nodes ss blocks part : List ℕ} {count : ℕ} {s : Spot} {p : Place} → Rooted nodes ss blocks part count → Placed part s.block p → s.block < count → PlacedAt blocks count s
    → (k : ℕ) → s.statement ≡ Some k → Here blocks p k
here_at {blocks = blocks} all is l at k e = let q = is.is blocks _ all.indexed l in record { below = omega (arith, at.here k e, ap (λ (i : ℕ). number_at blocks i 2) q.start) }
