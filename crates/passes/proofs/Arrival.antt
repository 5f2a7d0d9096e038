-- A walk on the code's host comes to what the definition's run does: from the tables and the variables at the start to what a pass leaves. Assumes nothing.
use mathlib.Core.Path.{◌≡◌, refl, sym, ap, ◌∙◌, subst}
use mathlib.Core.Bool.{Bool, true, false, true≢false}
use mathlib.Core.List.{List, map}
use Rattle.std.specs.Prelude.{None, Some}
use Prim.Native.Nat.{ℕ, ◌^◌, ◌<◌}
use native.Mathlib.Omega.{arith}
use lib.ListN.{length}
use Rattle.value.specs.Value.{type, known_val}
use Rattle.memory.specs.Overlay.{Overlay, Cell}
use Rattle.files.specs.FileTable.{body}
use Rattle.files.specs.Program.{program_of}
use Rattle.files.specs.Call.{limits_of}
use Rattle.definition.specs.Act.{Why, End, gave, stopped}
use Rattle.definition.specs.State.{Out}
use Rattle.definition.specs.Statements as statements
use Rattle.definition.specs.Walk.{variables_at_start, variables_at_end}
use Rattle.definition.specs.World.{world_of}
use Rattle.definition.specs.Record.{questions_body}
use Rattle.definition.specs.Run.{acts, start, stop_of, ran_of, ran_in, ran, address_limit}
use Rattle.definition.proofs.Hosts.{Alike}
use Rattle.definition.proofs.Walked.{Stopped, finished}
use Rattle.index.specs.Regions.{RegionsIndexed}
use Rattle.workspace.specs.Parts.{tables, regions_part, blocks_part}
use Rattle.workspace.specs.View.{View, Fit}
use Rattle.stream.specs.Stream.{most}
use Rattle.hosting.specs.declared.Counts.{Counts}
use Rattle.hosting.specs.declared.Facts.{Facts}
use Rattle.hosting.specs.declared.How.{How}
use Rattle.hosting.specs.declared.Indexed.{Indexed}
use Rattle.hosting.specs.declared.Stop.{Stop}
use Rattle.hosting.specs.declared.Stop.TheVariants.{Returned, Steps, Unknown, NoBlock, NoBlocks, NoReturn, Halted}
use Rattle.hosting.specs.declared.Short.TheVariants.{Full, Why as Because}
use Rattle.hosting.specs.declared.Walked.{Walked}
use Rattle.hosting.specs.Scene.{Given, given, Narrow, SymbolsRead, Ready, Meant}
use Rattle.hosting.specs.Held.{Held, held}
use Rattle.hosting.specs.Ending.{Ending, ended, short}
use Rattle.hosting.specs.Runs.{Came, Kept}
use Rattle.hosting.specs.Routine.{Rooted}
use Rattle.hosting.specs.Walking.{stop_end, WalksAll}
use Rattle.hosting.specs.Setting.{how_of, given_of, scene_of, Tabled, Started, Finished}
use Rattle.hosting.proofs.Running.{kept_on}
use Rattle.setup.specs.Heads.{Typed}
use Rattle.outcomes.specs.Units.{Balanced}
use Rattle.passes.specs.Passing.{start_counts, BesideIf, Passed, PassedIf, Passes, walked_of, out_of, WalksOf, full_of}
use Rattle.passes.proofs.Simulation.{Like, ends_alike}
use Rattle.passes.proofs.Streams.{questions_short}

-- ---- the tables of a workspace

pub tabled_kept : {routine world w w' : List ℕ} {x : Indexed} → Tabled routine world w x → tables w' ≡ tables w → Tabled routine world w' x
tabled_kept {routine} {world} {w} {w'} {x} t e = record {
  narrow = subst Narrow (sym e) t.narrow;
  symbols = subst (SymbolsRead (body routine 3) (body world 1)) (sym e) t.symbols;
  regions = subst (λ (z : List ℕ). RegionsIndexed (body world 2) (regions_part z) x.regions) (sym e) t.regions;
  meant = λ depth second. subst (Meant (given_of routine world (how_of depth x.regions second)) (scene_of routine world depth)) (sym e) (t.meant depth second);
  rooted = subst (λ (z : List ℕ). Rooted (body routine 3) (body routine 4) (body routine 5) (blocks_part z) x.facts.blocks) (sym e) t.rooted;
  told = t.told;
}

pub tabled_typed : {routine world w : List ℕ} {x : Indexed} → Tabled routine world w x → Typed (program_of routine).types (tables w)
tabled_typed t = record { is = (t.meant 0 false).types }

-- what the walk needs of them
pub walk_ready : {routine world w nodes symbols regions : List ℕ} {x : Indexed} {a : Counts} {limit : ℕ} (depth : ℕ) (second : Bool) → nodes ≡ body routine 3 → symbols ≡ body world 1 → regions ≡ body world 2
    → a ≡ start_counts limit → Tabled routine world w x → Fit w 0 → Ready (given nodes symbols regions (how_of depth x.regions second)) w a
walk_ready depth second p q r e t f = rw (p, q, r, e) (record { fit = f; narrow = t.narrow; symbols = t.symbols; regions = t.regions })

pub walk_balanced : {a : Counts} {limit : ℕ} → a ≡ start_counts limit → limit < 2 ^ 64 → Balanced a.tally
walk_balanced e h = rw e (record { fits = omega arith })

pub walk_rooted : {routine world w nodes statements blocks : List ℕ} {x : Indexed} → nodes ≡ body routine 3 → statements ≡ body routine 4 → blocks ≡ body routine 5
    → Tabled routine world w x → Rooted nodes statements blocks (blocks_part (tables w)) x.facts.blocks
walk_rooted p q r t = rw (p, q, r) t.rooted

-- what it ensures, told by the bodies
pub walk_told : (routine world : List ℕ) {nodes statements blocks symbols regions w o w' o' : List ℕ} {how : How} {f : Facts} (limit : ℕ) {a : Counts} {r : Walked} → nodes ≡ body routine 3 → statements ≡ body routine 4
    → blocks ≡ body routine 5 → symbols ≡ body world 1 → regions ≡ body world 2 → a ≡ start_counts limit → WalksAll (given nodes symbols regions how) statements blocks f a.tally.left w o a r w' o'
    → WalksAll (given_of routine world how) (body routine 4) (body routine 5) f limit w o (start_counts limit) r w' o'
walk_told routine world limit p q s t u e h = rw (p, q, s, t, u, e) at h

-- ---- how the walk ends

pub full_end : (limit : ℕ) (stop : Stop) → full_of stop ≡ true → stop_end limit stop ≡ short None
unfolding full_of
full_end limit (Returned v) h = absurd (true≢false (sym h))
full_end limit Steps h = absurd (true≢false (sym h))
full_end limit (Unknown at Full) h = refl
full_end limit (Unknown at (Because r n)) h = absurd (true≢false (sym h))
full_end limit (NoBlock b) h = absurd (true≢false (sym h))
full_end limit NoBlocks h = absurd (true≢false (sym h))
full_end limit (NoReturn at) h = absurd (true≢false (sym h))
full_end limit (Halted at target) h = absurd (true≢false (sym h))

pub record EndsWith (e : Ending statements.Stop) : Type 0 where
  pub stop : statements.Stop
  pub same : e ≡ ended stop

pub whole_end : (limit : ℕ) (stop : Stop) → full_of stop ≡ false → EndsWith (stop_end limit stop)
unfolding full_of
whole_end limit (Returned v) h = record { stop = _; same = refl }
whole_end limit Steps h = record { stop = _; same = refl }
whole_end limit (Unknown at Full) h = absurd (true≢false h)
whole_end limit (Unknown at (Because r n)) h = record { stop = _; same = refl }
whole_end limit (NoBlock b) h = record { stop = _; same = refl }
whole_end limit NoBlocks h = record { stop = _; same = refl }
whole_end limit (NoReturn at) h = record { stop = _; same = refl }
whole_end limit (Halted at target) h = record { stop = _; same = refl }

-- what holds unless there is no room
pub kept_whole : {P : Type 0} {e : Ending statements.Stop} → EndsWith e → Kept e P → P
kept_whole {P} n h = let k : Kept (ended n.stop) P = subst (λ (z : Ending statements.Stop). Kept z P) n.same h in k

-- ---- what the walk came to

module _ (routine world call : List ℕ) (second : Bool) (old : List ℕ) where
  abbrev o : Out statements.Stop
  o = out_of routine world call

  abbrev Ends : End statements.Stop × Held → Type 0
  Ends p = Alike (Like second old) p (o.end, (o.after, o.log))

  never_short : (y : Why) → o.end ≡ stopped y → ⊥
  unfolding out_of
  never_short y e = subst (λ (z : End statements.Stop). Stopped (limits_of call).steps z o.after) e (finished (world_of routine world) (program_of routine) (limits_of call)).end

  came : (p : End statements.Stop × Held) (e : Ending statements.Stop) (w out : List ℕ) (a : Counts) → Ends p → Came p e (held w out a) → Kept e (Fit w a.stored)
      → PassedIf (walked_of o) second old e w out a
  unfolding held walked_of
  came p (ended s) w out a l c f =
      let e : o.end ≡ gave s = sym l.end ∙ ap (λ (z : End statements.Stop × Held). z.0) c in
      let k : Like second old (held w out a) (o.after, o.log) = subst (λ (z : Held). Like second old z (o.after, o.log)) (ap (λ (z : End statements.Stop × Held). z.1) c) l.state in
      record {
        stop = ap stop_of e;
        holds = record {
          entered = k.units.entered;
          recorded = k.units.steps;
          fit = f;
          variables = k.variables;
          memory = k.memory;
          steps = k.recorded;
          questions = k.asked;
        };
        part = k.part;
        beside = k.beside;
      }
  came p (short (Some y)) w out a l c f = absurd (never_short y (sym l.end ∙ ap (λ (z : End statements.Stop × Held). z.0) c))
  came p (short None) w out a l c f = subst (λ (m : Overlay Cell). address_limit < length m) l.state.memory c

  -- what is kept of what the walk leaves
  kept_fit : (e : Ending statements.Stop) (g : Given) (w : List ℕ) (a : Counts) → Kept e (Ready g w a) → Kept e (Fit w a.stored)
  kept_fit (ended s) g w a h = h.fit
  kept_fit (short (Some y)) g w a h = h.fit
  kept_fit (short None) g w a h = tt

  pub walk_arrives : (x : Indexed) (w₀ w₁ w₂ out : List ℕ) (depth steps : ℕ) (r : Walked) → length old < most → length w₀ < 2 ^ 64 → (steps ≡ (limits_of call).steps) × (depth ≡ (limits_of call).depth) → Tabled routine world w₀ x → Started routine call w₀ w₁
      → WalksAll (given_of routine world (how_of depth x.regions second)) (body routine 4) (body routine 5) x.facts steps w₁ old (start_counts steps) r w₂ out
      → WalksOf routine world call second old w₀ (stop_end (limits_of call).steps r.stop) w₂ out r.at
  unfolding out_of acts start held
  walk_arrives x w₀ w₁ w₂ out depth steps r room long l t s walks =
      let P = program_of routine in
      let g = given_of routine world (how_of (limits_of call).depth x.regions second) in
      let e = stop_end (limits_of call).steps r.stop in
      let vs = variables_at_start P (map (λ a. known_val a (type 64 true)) (limits_of call).arguments) in
      let k : WalksAll g (body routine 4) (body routine 5) x.facts (limits_of call).steps w₁ old (start_counts (limits_of call).steps) r w₂ out = rw (l.0, l.1) at walks in
      let runs = k.runs P t.told in
      let here = runs.came (scene_of routine world (limits_of call).depth) (subst (Meant g (scene_of routine world (limits_of call).depth)) (sym s.tables) (t.meant (limits_of call).depth second)) in
      let h = held w₁ old (start_counts (limits_of call).steps) in
      record {
        comes = came _ e w₂ out r.at (ends_alike second old (world_of routine world) (acts P (limits_of call)) (limits_of call).steps vs h room (questions_short w₁ (omega (arith, s.size))) s.holds refl refl) here (kept_fit e g w₂ r.at runs.ready);
        tables = kept_on e (λ z. z ∙ s.tables) runs.tables;
      }

-- ---- the variables at the end

module _ (routine world call : List ℕ) (second : Bool) (old w₀ : List ℕ) where
  full_pass : (e : Ending statements.Stop) (w out : List ℕ) (a : Counts) → e ≡ short None → WalksOf routine world call second old w₀ e w out a → Passes (ran routine world call) second old w₀ e w out a
  unfolding ran ran_in ran_of walked_of out_of
  full_pass e w out a p h =
      let k : WalksOf routine world call second old w₀ (short None) w out a = subst (λ (z : Ending statements.Stop). WalksOf routine world call second old w₀ z w out a) p h in
      record { comes = subst (λ (z : Ending statements.Stop). PassedIf (ran routine world call) second old z w out a) (sym p) k.comes; tables = h.tables }

  pub pass_full : (limit : ℕ) (stop : Stop) (w out : List ℕ) (a : Counts) (b : Bool) → b ≡ full_of stop → b ≡ true → WalksOf routine world call second old w₀ (stop_end limit stop) w out a
      → Passes (ran routine world call) second old w₀ (stop_end limit stop) w out a
  pass_full limit stop w out a b q t h = full_pass (stop_end limit stop) w out a (full_end limit stop (sym q ∙ t)) h

  ended_pass : (s : statements.Stop) (w w' out : List ℕ) (a : Counts) → Passed (walked_of (out_of routine world call)) second old s w out a → Finished routine w w'
      → Passed (ran routine world call) second old s w' out a
  unfolding ran ran_in ran_of walked_of out_of
  ended_pass s w w' out a p f =
      let v = f.holds a.stored in
      let h = p.holds in
      record {
        stop = p.stop;
        holds = record {
          entered = h.entered;
          recorded = h.recorded;
          fit = f.fit a.stored h.fit;
          variables = ap (λ (z : View). z.variables) v ∙ ap (variables_at_end (program_of routine)) h.variables;
          memory = ap (λ (z : View). z.memory) v ∙ h.memory;
          steps = h.steps;
          questions = h.questions;
        };
        part = p.part;
        beside = subst (λ (q : List ℕ). BesideIf second q a.tally.asked (questions_body (out_of routine world call).log)) (sym f.questions) p.beside;
      }

  whole_pass : (e : Ending statements.Stop) (w w' out : List ℕ) (a : Counts) → EndsWith e → WalksOf routine world call second old w₀ e w out a → Finished routine w w' → Passes (ran routine world call) second old w₀ e w' out a
  whole_pass e w w' out a n h f =
      let k : WalksOf routine world call second old w₀ (ended n.stop) w out a = subst (λ (z : Ending statements.Stop). WalksOf routine world call second old w₀ z w out a) n.same h in
      record {
        comes = subst (λ (z : Ending statements.Stop). PassedIf (ran routine world call) second old z w' out a) (sym n.same) (ended_pass n.stop w w' out a k.comes f);
        tables = kept_on e (λ z. f.tables ∙ z) h.tables;
      }

  pub pass_whole : (limit : ℕ) (stop : Stop) (w w' out : List ℕ) (a : Counts) (b : Bool) → b ≡ full_of stop → b ≡ false → WalksOf routine world call second old w₀ (stop_end limit stop) w out a → Finished routine w w'
      → Passes (ran routine world call) second old w₀ (stop_end limit stop) w' out a
  pass_whole limit stop w w' out a b q t h f = whole_pass (stop_end limit stop) w w' out a (whole_end limit stop (sym q ∙ t)) h f

  -- the types are there still
  pub end_typed : (x : Indexed) (limit : ℕ) (stop : Stop) (w out : List ℕ) (a : Counts) (b : Bool) → b ≡ full_of stop → b ≡ false → Tabled routine world w₀ x
      → WalksOf routine world call second old w₀ (stop_end limit stop) w out a → Typed (program_of routine).types (tables w)
  end_typed x limit stop w out a b q t h k = tabled_typed (tabled_kept h (kept_whole (whole_end limit stop (sym q ∙ t)) k.tables))
