-- What an accepted routine holds fits, and so does the record of its run. Assumes nothing.
use mathlib.Core.Path.{◌≡◌, refl, sym, ap, ◌∙◌, subst}
use mathlib.Core.Bool.{Bool, true, false}
use mathlib.Core.List.{List, [], ◌∷◌}
use Prim.Native.Nat.{ℕ, zero, suc, ◌+◌, ◌-◌, ◌*◌, ◌/◌, ◌^◌, ◌≤◌, ◌<◌}
use native.Mathlib.Omega.{arith}
use borrow.Author.Tests.{leb-true, ltb-true}
use lib.Dec.{ltb}
use lib.ListN.{length, get_or}
use Rattle.layout.specs.Each.{Each}
use Rattle.layout.specs.Number.{number_at}
use Rattle.layout.proofs.NumberLaws.{number_at_lt}
use Rattle.layout.proofs.FormatLaws.{Below}
use Rattle.files.specs.FileTable.{body}
use Rattle.files.specs.Nodes.{kind_of}
use Rattle.files.specs.Names.{names_in}
use Rattle.files.specs.Refusal.{routine_refusal, names_of}
use Rattle.files.specs.Blocks.{cases_of}
use Rattle.files.specs.Call.{limits_of}
use Rattle.files.specs.Program.{Node, Tree, tree, Trees, node_of, flagged, listed, variable_at, Statement, Case, statement_at, case_at, terminator_of, Block, block_at, blocks_from, program_of}
use Rattle.files.specs.Spells.{At, node_at, KidsAt, no_kid, a_kid, Accepted, size}
use Rattle.files.proofs.Shapes.{at_inside, at_node, call_kids, fields_of_lem, constant_width, var_name}
use Rattle.files.proofs.Roots.{Spelt, EndSpelt, BlockSpelt, program_spelt}
use Rattle.files.proofs.HeadLaws.{Head, head_has}
use Rattle.files.proofs.Accepted.{routine, run, body_short}
use Rattle.index.specs.Texts.{text_count}
use Rattle.index.proofs.TextPlaces.{names_texts, names_count}
use Rattle.definition.specs.Run.{number, ran, record_of}
use Rattle.definition.specs.Record.{record_bytes}
use Rattle.definition.specs.World.{world_of}
use Rattle.definition.proofs.Fields.{OptionFits}
use Rattle.definition.proofs.World.{world_fits}
use Rattle.definition.proofs.Verdict.{accepted_run}
use Rattle.text.specs.Fits.{RanFits}
use Rattle.text.proofs.FitTrees.{NodeFits, FitTree, fit_tree, FitTrees, fit_nil, fit_cons}
use Rattle.text.proofs.FitRuns.{StatementFits, EndsFit, fit_returns, fit_goto, fit_branch, fit_switch, BlockFits, DeclaredFits, ProgramFits, ran_in_fits}

abbrev under : Tree → ℕ
under (tree d ts) = size ts

-- ---- trees

module _ {b : List ℕ} {names types : ℕ} (a : Accepted b names types) (short : length b < 65536) where
  node_fits : {k : ℕ} {t : Tree} → At b k t → NodeFits names (node_of b k)
  node_fits {k} at =
      let l = at_node at in
      record {
        place = omega (arith, l, short);
        kind = (fields_of_lem a k l).kind;
        width = number_at_lt b (k * 20 + 4) 4;
        value = number_at_lt b (k * 20 + 12) 8;
        constant = λ e. (constant_width a k l e).1;
        var = λ e. var_name a k l e;
      }

  kids_few : {k e : ℕ} {ts : Trees} → KidsAt b k e ts → size ts ≤ e - k
  unfolding size
  kids_few (no_kid s) = omega arith
  kids_few (a_kid w at ks) = omega (arith, (at_inside at).some, kids_few ks, w)

  call_few : {k : ℕ} {t : Tree} → At b k t → kind_of b k ≡ 14 → under t ≤ 17
  unfolding size
  call_few at e = let c = call_kids a at e in omega (arith, ap under c.is, c.few)

  mutual
    at_fits : {k : ℕ} {t : Tree} → At b k t → FitTree names t
    at_fits (node_at {n = k} {d = d} {ts = ts} i e ks) =
        let at = node_at {n = k} {d = d} {ts = ts} i e ks in
        fit_tree {ts = ts} (subst (NodeFits names) (sym e) (node_fits at)) (omega (arith, kids_few ks, i.fits, short))
        (λ z. call_few at (sym (ap (λ (y : Node). y.kind) e) ∙ z)) (kids_fit ks)

    kids_fit : {k e : ℕ} {ts : Trees} → KidsAt b k e ts → FitTrees names ts
    kids_fit (no_kid s) = fit_nil
    kids_fit (a_kid w at ks) = fit_cons (at_fits at) (kids_fit ks)

  -- ---- blocks

  flagged_fits : (f k : ℕ) → Below 8 k → OptionFits (flagged f k)
  flagged_fits zero k h = tt
  flagged_fits (suc f) k h = h

  module _ (statements blocks : List ℕ) (few : length blocks < 65536) where
    statements_fit : (k c : ℕ) → k + c ≤ 4294967296 → Each (λ (s : Statement). Spelt b s.root) (listed (statement_at b statements) k c)
        → Each (StatementFits names) (listed (statement_at b statements) k c)
    unfolding listed
    statements_fit k zero l h = tt
    statements_fit k (suc c) l h = (
      record {
        number = omega (arith, l);
        address = flagged_fits (get_or statements (k * 13) 0) (number_at statements (k * 13 + 1) 8) (number_at_lt statements (k * 13 + 1) 8);
        root = at_fits h.0;
      },
      statements_fit (suc k) c (omega (arith, l)) h.1,
    )

    cases_fit : (i k c : ℕ) → Each (λ (x : Case). Below 4 x.target) (listed (case_at blocks i) k c)
    unfolding listed
    cases_fit i k zero = tt
    cases_fit i k (suc c) = (number_at_lt blocks (i + k * 12 + 8) 4, cases_fit i (suc k) c)

    at_fits_address : (i : ℕ) → OptionFits (flagged (get_or blocks (i + 3) 0) (number_at blocks (i + 4) 8))
    at_fits_address i = flagged_fits (get_or blocks (i + 3) 0) (number_at blocks (i + 4) 8) (number_at_lt blocks (i + 4) 8)

    end_fits : (i kind : ℕ) → EndSpelt b (terminator_of b blocks i kind) → EndsFit names (terminator_of b blocks i kind)
    end_fits i zero h = fit_returns
    end_fits i (suc zero) h = fit_goto (number_at_lt blocks (i + 16) 4)
    end_fits i (suc (suc zero)) h = fit_branch (at_fits_address i) (at_fits h) (number_at_lt blocks (i + 16) 4) (number_at_lt blocks (i + 20) 4)
    end_fits i (suc (suc (suc k))) h = fit_switch (at_fits_address i) (at_fits h) (cases_fit (i + 24) 0 (number_at blocks (i + 16) 4))

    block_fits : (i k : ℕ) → k + number_at blocks i 2 ≤ 4294967296 → BlockSpelt b (block_at b statements blocks i k) → BlockFits names (block_at b statements blocks i k)
    block_fits i k l h = record { statements = statements_fit k (number_at blocks i 2) l h.statements; end = end_fits i (get_or blocks (i + 2) 0) h.end }

    blocks_fit : (f i k : ℕ) → k ≤ i * 65536 → Each (BlockSpelt b) (blocks_from f b statements blocks i k) → Each (BlockFits names) (blocks_from f b statements blocks i k)
    unfolding blocks_from
    blocks_fit zero i k l h = tt
    blocks_fit (suc f) i k l h =
        go (ltb i (length blocks)) refl (blocks_fit f (i + (cases_of (get_or blocks (i + 2) 0) (number_at blocks (i + 16) 4) + 24)) (k + number_at blocks i 2) (omega (arith, number_at_lt blocks i 2, l))) h
      where
        rest : List Block
        rest = blocks_from f b statements blocks (i + (cases_of (get_or blocks (i + 2) 0) (number_at blocks (i + 16) 4) + 24)) (k + number_at blocks i 2)

        go : (t : Bool) → ltb i (length blocks) ≡ t → (Each (BlockSpelt b) rest → Each (BlockFits names) rest)
            → Each (BlockSpelt b) (elim t [ true ↦ block_at b statements blocks i k ∷ rest | false ↦ [] ])
            → Each (BlockFits names) (elim t [ true ↦ block_at b statements blocks i k ∷ rest | false ↦ [] ])
        go true e ih g = (block_fits i k (omega (arith, ltb-true i (length blocks) e, few, number_at_lt blocks i 2, l)) g.0, ih g.1)
        go false e ih g = tt

-- ---- the head

variables_fit : (b : List ℕ) (names types : ℕ) → Head b names types → (i c : ℕ) → i + c ≤ (length b - 13) / 4 → Each (DeclaredFits names) (listed (variable_at b) i c)
unfolding listed
variables_fit b names types h i zero l = tt
variables_fit b names types h i (suc c) l = ((h.variables i (omega (arith, l))).0, variables_fit b names types h (suc i) c (omega (arith, l)))

-- ---- a routine

module _ (r : List ℕ) (h : routine_refusal r ≡ 0) where
  abbrev count : ℕ
  count = names_of (body r 0)

  program_fits : ProgramFits count (program_of r)
  unfolding program_of
  program_fits =
      let o = (routine r h).bodies in
      let head = head_has (body r 2) count _ o.headed in
      record {
        blocks = blocks_fit o.spelled (body_short r 3) (body r 4) (body r 5) (body_short r 5) (length (body r 5)) 0 0 (omega arith) (program_spelt r h);
        parameters = variables_fit (body r 2) count _ head 0 (get_or (body r 2) 12 0) (omega (arith, head.there));
        locals = variables_fit (body r 2) count _ head (get_or (body r 2) 12 0) ((length (body r 2) - 13) / 4 - get_or (body r 2) 12 0) (omega (arith, head.there));
      }

  -- as many as its body of names has
  names_are : text_count (body r 0) ≡ count
  names_are = names_count (body r 0) (leb-true 1 (names_in (body r 0)) (routine r h).bodies.named)

  names_few : count ≤ 512
  names_few = subst (λ (k : ℕ). k ≤ 512) names_are (names_texts (body r 0) (leb-true 1 (names_in (body r 0)) (routine r h).bodies.named) (body_short r 0)).few

  -- what `header` asks of the head
  pub head_there : (10 ≤ length (body r 2)) × (number_at (body r 2) 0 2 < text_count (body r 0))
  head_there =
      let head = head_has (body r 2) count _ (routine r h).bodies.headed in
      (omega (arith, head.room), subst (λ (k : ℕ). number_at (body r 2) 0 2 < k) (sym names_are) head.name)

limit_fits : (c : List ℕ) → Below 8 (limits_of c).steps
unfolding limits_of
limit_fits c = omega (arith, number_at_lt (body c 0) 0 4)

-- ---- the record of an accepted run is read back as it was

module _ (routine world call : List ℕ) (buffer workspace : ℕ) (h : number routine world call buffer workspace ≡ 0) where
  pub ran_fits : RanFits (text_count (body routine 0)) (ran routine world call)
  unfolding ran
  ran_fits =
      let a = run routine world call (accepted_run routine world call buffer workspace h).files in
      subst (λ (k : ℕ). RanFits k (ran routine world call)) (sym (names_are routine a.routine))
      (ran_in_fits (names_of (body routine 0)) (names_few routine a.routine) (world_of routine world) (world_fits routine world) (program_of routine)
      (program_fits routine a.routine) (limits_of call) (limit_fits call))

  pub record_short : length (record_bytes (ran routine world call)) < 256 ^ 4
  unfolding record_of
  record_short = omega (arith, (accepted_run routine world call buffer workspace h).state.in_length)
