-- What the functions below ask of the bodies of accepted files. Assumes nothing.
use mathlib.Core.Path.{◌≡◌, refl, sym, ap, ap₂, subst, ◌∙◌}
use mathlib.Core.Bool.{Bool, true, false}
use mathlib.Core.List.{List, []}
use Prim.Native.Nat.{ℕ, ◌+◌, ◌≤◌, ◌<◌}
use native.Mathlib.Omega.{arith}
use lib.ListN.{length, get_or}
use Rattle.layout.specs.Number.{number_at}
use Rattle.layout.specs.Text.{text, same}
use Rattle.value.specs.declared.Ty.{Ty}
use Rattle.spelling.specs.Spelling.{type_of}
use Rattle.files.specs.FileTable.{body}
use Rattle.files.specs.Items.{read_from, reading, every}
use Rattle.files.specs.Names.{names_in}
use Rattle.files.specs.WorldFile.{symbols_ok, regions_in}
use Rattle.files.specs.Refusal.{routine_refusal, world_ok}
use Rattle.files.specs.Program.{texts_in, program_of}
use Rattle.files.proofs.Accepted.{body_short}
use Rattle.index.specs.Texts.{Texts, text_count}
use Rattle.index.specs.Symbols.{Symbols}
use Rattle.index.specs.Regions.{Regions}
use Rattle.index.specs.Blocks.{Blocks}
use Rattle.index.proofs.Accepted.{names_read, types_read, routine_types, routine_blocks, world_symbols, world_regions}
use Rattle.index.proofs.RegionPlaces.{regions_accepted}
use Rattle.index.proofs.TextPlaces.{types_count}
use Rattle.std.specs.Prelude.{Option, None, Some}
use Rattle.setup.specs.Heads.{Heads}
use Rattle.setup.specs.Post.{Finds, Returning, Knows}
use Rattle.setup.proofs.HeadLaws.{has, heads}

module _ (r : List ℕ) (h : routine_refusal r ≡ 0) {b : List ℕ} where
  pub names_good : b ≡ body r 0 → 1 ≤ names_in b
  names_good e = subst (λ (l : List ℕ). 1 ≤ names_in l) (sym e) (names_read r h)

  pub names_short : b ≡ body r 0 → length b < 65536
  names_short e = subst (λ (l : List ℕ). length l < 65536) (sym e) (body_short r 0)

  pub types_texts : b ≡ body r 1 → Texts b
  types_texts e = subst Texts (sym e) (routine_types r h)

  pub head_heads : b ≡ body r 2 → Heads b
  head_heads e = subst Heads (sym e) (heads r h)

  pub head_room : b ≡ body r 2 → 10 + 2 ≤ length b
  head_room e = omega (arith, (has r h).room, ap length e)

  pub return_type : {d : List ℕ} {i : ℕ} → b ≡ body r 1 → d ≡ body r 2 → i ≡ number_at d 10 2 → i < text_count b
  return_type {i = i} e f g =
      subst (λ (l : List ℕ). i < text_count l) (sym e)
      (omega (arith, g ∙ ap (λ (l : List ℕ). number_at l 10 2) f, (has r h).type, types_count (body r 1) (types_read r h)))

  pub blocks_good : b ≡ body r 5 → Blocks b
  blocks_good e = subst Blocks (sym e) (routine_blocks r h)

module _ (w : List ℕ) (h : world_ok w ≡ true) {b : List ℕ} where
  pub symbols_good : {a : List ℕ} → a ≡ body w 0 → b ≡ body w 1 → Symbols a b
  symbols_good e f = rw (e, f) (world_symbols w h)

  pub regions_good : b ≡ body w 2 → Regions b
  regions_good e = subst Regions (sym e) (world_regions w h)

-- ---- no world

pub no_symbols : Symbols [] []
unfolding names_in read_from reading symbols_ok every
no_symbols = record { names = omega arith; good = refl; short = omega arith; few = omega arith }

pub no_regions : Regions []
unfolding regions_in read_from reading
no_regions = regions_accepted [] (omega arith) (omega arith)

-- ---- the facts of a routine

module _ (r : List ℕ) {types head t : List ℕ} {i : ℕ} {s : Bool} (q : types ≡ body r 1) (o : head ≡ body r 2) (g : i ≡ number_at head 10 2) (e : t ≡ get_or (texts_in types) i []) (f : s ≡ same t (text "void")) where
  returns_text : t ≡ get_or (program_of r).types (program_of r).returns []
  unfolding program_of
  returns_text = e ∙ ap₂ (λ (l : List ℕ) (j : ℕ). get_or (texts_in l) j []) q (g ∙ ap (λ (l : List ℕ). number_at l 10 2) o)

  is_void : (u : Bool) → s ≡ u → same (get_or (program_of r).types (program_of r).returns []) (text "void") ≡ u
  is_void u h = ap (λ (l : List ℕ). same l (text "void")) (sym returns_text) ∙ sym f ∙ h

  pub returns_void : s ≡ true → Returning (get_or (program_of r).types (program_of r).returns []) None
  returns_void h = record { is = λ v. rw (is_void true h) }

  pub returns_as_lem : {ty : Ty} → s ≡ false → ty ≡ type_of t → Returning (get_or (program_of r).types (program_of r).returns []) (Some ty)
  returns_as_lem h k = record { is = λ v. rw (is_void false h, k, returns_text) }

pub knows : (r : List ℕ) {names : List ℕ} {count : ℕ} {u x : Option ℕ} {R : Option Ty} → names ≡ body r 0 → Returning (get_or (program_of r).types (program_of r).returns []) R
    → Finds names (text "__builtin_unreachable") u → Finds names (text "__analysis_halted") x → Knows (program_of r) count (record { blocks = count; returns = R; unreachable = u; halted = x })
unfolding program_of
knows r p a b c = record { count = refl; named = record { returned = a.is; unreachable = rw p at b.is; halted = rw p at c.is } }
