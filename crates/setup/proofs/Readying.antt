-- What the parts put together come to: a workspace that is ready. Assumes nothing.
use mathlib.Core.Path.{◌≡◌, sym, ap, subst, ◌∙◌}
use mathlib.Core.List.{List, [], ◌++◌}
use Prim.Native.Nat.{ℕ, ◌+◌, ◌≤◌, ◌<◌}
use native.Mathlib.Omega.{arith}
use lib.ListN.{length, get_or, replicate}
use borrow.Rule.Slice.PartMut.{put_mid, mid_of}
use Rattle.spelling.specs.Spelling.{type_of}
use Rattle.files.specs.FileTable.{body}
use Rattle.files.specs.Refusal.{routine_refusal}
use Rattle.files.specs.Program.{Variable, program_of}
use Rattle.files.specs.Call.{limits_of}
use Rattle.definition.specs.Walk.{declared_in, unset_added}
use Rattle.workspace.specs.Parts.{workspace_size, frame_place, frame_size, note_size, registers_size, declared_size, tables, symbols_part}
use Rattle.workspace.specs.Types.{type_at, pointee_at, declared_at}
use Rattle.workspace.specs.View.{view}
use Rattle.index.specs.Symbols.{SymbolsIndexed}
use Rattle.index.specs.Regions.{RegionsIndexed}
use Rattle.hosting.specs.declared.Facts.{Facts}
use Rattle.hosting.specs.Scene.{pointee}
use Rattle.hosting.specs.Setting.{Tabled, Started, Finished, ConstantTabled, with_variables}
use Rattle.setup.specs.Heads.{variable_count, parameter_count, variables, Typed, AllCoded, starting}
use Rattle.setup.specs.Post.{Knows, Spells, TypesSet, DeclaresSome, Indexes, IndexesBlocks, Empties, arguments_in, StartsSome, EndsSome}
use Rattle.setup.proofs.EmptyLaws.{cleared_fresh, cleared_names, cleared_size}
use Rattle.setup.proofs.TypeLaws.{coded_type, narrow}
use Rattle.setup.proofs.HeadLaws.{all_variables}
use Rattle.setup.proofs.Rooting.{rooted, told, meant, constant_meant, symbols_read}

-- ---- the types

-- what is cleared before: the variables, the note, the registers and the names' codes
abbrev front : ℕ
front = frame_size + note_size + registers_size + declared_size

module _ (r w₀ z : List ℕ) {b w₂ : List ℕ} (room : workspace_size ≤ length w₀) (e : z ≡ replicate (length (mid_of frame_place front w₀)) 0) (i : b ≡ body r 1)
    (s : Spells b 512 (put_mid frame_place front w₀ z) w₂) where
  pub types_set : TypesSet r w₂
  unfolding program_of
  types_set =
      let f = cleared_fresh front w₀ z (omega arith) (omega arith) room e in
      record {
        holds = s.kept.holds 0 ∙ f.0;
        fit = s.kept.fit 0 f.1;
        declared = λ x. s.declared x ∙ cleared_names front w₀ z (omega arith) (omega arith) room e (omega arith) x;
        types = rw i at s.types;
        pointees = rw i at s.pointees;
      }

  pub types_size_lem : length w₂ ≡ length w₀
  types_size_lem = s.kept.size ∙ cleared_size front w₀ z (omega arith) (omega arith) room e

pub types_coded : {r w : List ℕ} → TypesSet r w → AllCoded (tables w)
types_coded {r} t = record { coded = λ i l. coded_type (get_or (program_of r).types i []) (t.types i l) }

-- ---- the tables of a run

pub tabled : {r w w₁ w₂ w₃ w₄ : List ℕ} {head : List ℕ} {count : ℕ} {f : Facts} → routine_refusal r ≡ 0 → TypesSet r w₁ → head ≡ body r 2 → DeclaresSome head (variable_count head) w₁ w₂
    → Indexes (body r 0) (body w 0) (body w 1) (body w 2) w₂ w₃ count → IndexesBlocks (body r 5) w₃ w₄ f.blocks → Knows (program_of r) f.blocks f
    → Tabled r w w₄ (record { regions = count; facts = f })
tabled {r} {w} {w₁} {w₂} {w₃} {w₄} {head} {count} {f} h t e d x b k = record {
  narrow = narrow (program_of r).types (tables w₄) pointees;
  symbols = symbols_read r h (body w 0) (body w 1) (tables w₄) symbols;
  regions = subst (λ (l : List ℕ). RegionsIndexed (body w 2) l count) (sym b.regions) x.regions_are;
  meant = λ depth second. meant r (tables w₄) types pointees h w (λ n l. declared n) symbols count depth second;
  rooted = rooted r h b.blocks_are;
  told = told r k;
}
  where
    types : (i : ℕ) → i < 512 → type_at (tables w₄) i ≡ type_of (get_or (program_of r).types i [])
    types i l = b.same.types i ∙ x.same.types i ∙ d.types i ∙ t.types i l

    pointees : (i : ℕ) → i < 512 → pointee_at (tables w₄) i ≡ pointee (get_or (program_of r).types i [])
    pointees i l = b.same.pointees i ∙ x.same.pointees i ∙ d.pointees i ∙ t.pointees i l

    declared : (n : ℕ) → declared_at (tables w₄) n ≡ declared_in (program_of r).types ((program_of r).parameters ++ (program_of r).locals) n
    declared n =
        b.same.declared n ∙ x.same.declared n ∙ d.declared (program_of r).types (record { is = t.types }) t.declared n
        ∙ ap (λ (l : List ℕ). declared_in (program_of r).types (variables l (variable_count l)) n) e
        ∙ ap (λ (vs : List Variable). declared_in (program_of r).types vs n) (sym (all_variables r h))

    symbols : SymbolsIndexed (body r 0) (body w 0) (body w 1) (symbols_part (tables w₄))
    symbols = subst (SymbolsIndexed (body r 0) (body w 0) (body w 1)) (sym b.symbols) x.symbols_are

pub tabled_size : (w₀ : List ℕ) {w₁ w₂ w₃ w₄ a b c d e head : List ℕ} {k m n : ℕ} → length w₁ ≡ length w₀ → DeclaresSome head k w₁ w₂ → Indexes a b c d w₂ w₃ m → IndexesBlocks e w₃ w₄ n → length w₄ ≡ length w₀
tabled_size w₀ z d x b = b.kept.size ∙ x.kept.size ∙ d.kept.size ∙ z

-- ---- those of `constant_value`

pub constant_tabled : {r w₁ w₂ : List ℕ} {count : ℕ} → routine_refusal r ≡ 0 → TypesSet r w₁ → Indexes (body r 0) [] [] [] w₁ w₂ count → ConstantTabled r w₂ count
constant_tabled {r} {w₁} {w₂} {count} h t x = record {
  narrow = narrow (program_of r).types (tables w₂) pointees;
  symbols = symbols_read r h [] [] (tables w₂) x.symbols_are;
  regions = x.regions_are;
  meant = constant_meant r (tables w₂) types pointees h (λ n. x.same.declared n ∙ t.declared n) x.symbols_are count;
  fit = x.kept.fit 0 t.fit;
  holds = x.kept.holds 0 ∙ t.holds;
}
  where
    types : (i : ℕ) → i < 512 → type_at (tables w₂) i ≡ type_of (get_or (program_of r).types i [])
    types i l = x.same.types i ∙ t.types i l

    pointees : (i : ℕ) → i < 512 → pointee_at (tables w₂) i ≡ pointee (get_or (program_of r).types i [])
    pointees i l = x.same.pointees i ∙ t.pointees i l

-- ---- the variables

pub started : {r c head args w₀ w₁ w₂ : List ℕ} → Typed (program_of r).types (tables w₀) → Empties w₀ w₁ → head ≡ body r 2 → args ≡ body c 0 → StartsSome head args (parameter_count head) w₁ w₂ → Started r c w₀ w₂
unfolding program_of limits_of
started {r} {c} {head} {args} {w₀} {w₁} {w₂} typed z e a s =
    let k = s.changes (program_of r).types (subst (Typed (program_of r).types) (sym z.tables) typed) in
    record {
      fit = k.fit 0 z.fit;
      holds = k.holds 0 ∙ ap (starting (program_of r).types head (parameter_count head) (arguments_in args)) z.holds ∙ rw (e, a);
      tables = k.tables ∙ z.tables;
      size = k.size ∙ z.size;
    }

pub finished : {r head w₀ w : List ℕ} → routine_refusal r ≡ 0 → Typed (program_of r).types (tables w₀) → head ≡ body r 2 → EndsSome head (variable_count head) w₀ w → Finished r w₀ w
finished {r} {head} {w₀} {w} h typed e s =
    let k = s.changes (program_of r).types typed in
    record {
      holds = λ n. k.holds n ∙ ap (λ (vs : List Variable). with_variables (unset_added (program_of r).types vs (view w₀ n).variables) (view w₀ n)) (ap (λ (l : List ℕ). variables l (variable_count l)) e ∙ sym (all_variables r h));
      fit = k.fit;
      tables = k.tables;
      size = k.size;
      questions = k.questions;
    }
