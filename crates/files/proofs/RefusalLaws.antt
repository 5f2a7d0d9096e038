-- What the checks of the files come to, one after the other. Assumes nothing.
use mathlib.Core.Path.{◌≡◌, refl, sym, ap, ◌∙◌}
use mathlib.Core.Bool.{Bool, true, false}
use mathlib.Core.List.{List, [], ◌∷◌}
use Prim.Native.Nat.{ℕ, zero, suc}
use native.Mathlib.Omega.{arith}
use borrow.Author.Tests.{eqb-false}
use lib.Dec.{leb, eqb}
use Rattle.std.specs.Prelude.{Result, Ok, Err, MatchResult, Option, None, Some}
use Rattle.std.specs.Option.{ok_or}
use Rattle.std.specs.Result.{IsErrAnd}
use Rattle.std.proofs.lemmas.Result.{err_from_is_err_and}
use Rattle.files.specs.Bytes.{one_less}
use Rattle.files.specs.Names.{names_in, types_in, counted}
use Rattle.files.specs.Refusal.{Fault, fault, no_fault, fault_of, refused, unless, or_else, earliest, names_of, types_of}
use Rattle.files.specs.declared.names.TheConstants.Texts.{NAMES, TYPES}
use Rattle.files.proofs.NameLaws.{some_names, some_types}
use Rattle.files.specs.declared.refusal.Refusal.{Refusal}
use Rattle.files.specs.declared.refusal.Refusal.TheVariants.{RoutineTable, Names, Types, Head, Kind, Barred, Unused, Trees, Blocks, World, Call, Workspace, Addresses, Record}

-- at the exit of a `?`
pub exits : {T : Type 0} (r : Result T Refusal) (e : Refusal) → IsErrAnd r (λ x. x ≡ e) → refused r ≡ fault_of e
exits r e h = let p = err_from_is_err_and r h in rw p.1 (ap fault_of p.2)

pub exits_with : {T : Type 0} (P : T → Type 0) (f : Fault) (r : Result T Refusal) (e : Refusal) → IsErrAnd r (λ x. x ≡ e) → f ≡ fault_of e → MatchResult r P (λ x. f ≡ fault_of x)
exits_with P f r e h i = let p = err_from_is_err_and r h in rw (p.1, p.2) i

-- a number that there is, or a refusal
pub counted_err : (o : Option ℕ) (e x : Refusal) → Err x ≡ ok_or o e → (o ≡ None) × (x ≡ e)
counted_err None e x h = (refl, cc)
counted_err (Some n) e x h = cc

counted_ok : (o : Option ℕ) (e : Refusal) (n : ℕ) → Ok n ≡ ok_or o e → o ≡ Some n
counted_ok None e n h = cc
counted_ok (Some m) e n h = cc

-- the counts that a body of names and one of types gave
pub named : (b : List ℕ) (o : Option ℕ) (e : Refusal) (n : ℕ) → Ok n ≡ ok_or o e → o ≡ one_less (counted NAMES b) → (leb 1 (names_in b) ≡ true) × (names_of b ≡ n)
named b o e n h k = some_names b n (sym (counted_ok o e n h) ∙ k)

pub typed : (b : List ℕ) (o : Option ℕ) (e : Refusal) (n : ℕ) → Ok n ≡ ok_or o e → o ≡ one_less (counted TYPES b) → (leb 1 (types_in b) ≡ true) × (types_of b ≡ n)
typed b o e n h k = some_types b n (sym (counted_ok o e n h) ∙ k)

-- what comes after no fault, and after one
pub or_next : (f g : Fault) → f.number ≡ 0 → or_else f g ≡ g
or_next f g h = rw h

or_first : (f g : Fault) (n : ℕ) → f.number ≡ suc n → f ≡ or_else f g
or_first f g n h = rw h

pub or_some : (f g : Fault) → eqb f.number 0 ≡ false → f ≡ or_else f g
or_some f g h = go f.number refl
  where
    go : (n : ℕ) → f.number ≡ n → f ≡ or_else f g
    go zero e = absurd (eqb-false f.number 0 h e)
    go (suc n) e = or_first f g n e

-- the number of a refusal is no 0
pub is_refusal : (e : Refusal) → (n : ℕ) × ((fault_of e).number ≡ suc n)
is_refusal RoutineTable = (0, refl)
is_refusal Names = (1, refl)
is_refusal Types = (2, refl)
is_refusal Head = (3, refl)
is_refusal (Kind n) = (4, refl)
is_refusal (Barred n) = (29, refl)
is_refusal (Unused n) = (30, refl)
is_refusal Trees = (5, refl)
is_refusal Blocks = (6, refl)
is_refusal World = (7, refl)
is_refusal Call = (8, refl)
is_refusal Workspace = (19, refl)
is_refusal Addresses = (20, refl)
is_refusal Record = (21, refl)

-- so nothing comes after it
pub or_refusal : (e : Refusal) (f : Fault) → fault_of e ≡ or_else (fault_of e) f
or_refusal e f = let n = is_refusal e in or_first (fault_of e) f n.0 n.1

-- at a last check
pub checked : (r : Result (Unit {0}) Refusal) (ok : Bool) (e : Refusal) → MatchResult r (λ _. ok ≡ true) (λ x. (ok ≡ false) × (x ≡ e)) → refused r ≡ earliest (unless ok (fault_of e) ∷ [])
checked (Ok u) ok e h = rw h
checked (Err x) ok e h = rw (h.0, h.1) (or_refusal e no_fault)

-- what names and types are refused by comes before all else
pub texts_first : (n t : Bool) (e : Refusal) (f : Fault) → earliest (unless n (fault 2) ∷ unless t (fault 3) ∷ []) ≡ fault_of e → fault_of e ≡ or_else (unless n (fault 2)) (or_else (unless t (fault 3)) f)
texts_first false t e f h = sym h
texts_first true false e f h = sym h
texts_first true true e f h = let n = is_refusal e in absurd (omega (arith, ap (λ (g : Fault). g.number) h, n.1))
