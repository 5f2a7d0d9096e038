-- Why an evaluation ended short, by its number: 0 is no reason, and each from 1 to 9 is one. Assumes nothing.
use mathlib.Core.Path.{◌≡◌, refl, sym, ◌∙◌}
use mathlib.Core.Bool.{true, false, true≢false}
use Rattle.std.specs.Prelude.{Some, None}
use Prim.Native.Nat.{ℕ, zero, suc, ◌<◌}
use native.Mathlib.Omega.{arith}
use borrow.Author.Tests.{ne_eqb}
use lib.Dec.{eqb}
use Rattle.stream.specs.declared.Reason.{Reason}
use Rattle.stream.specs.declared.Reason.TheVariants.{BranchUnknown, SwitchUnknown, NoCase, StructTo, UnknownAddress, UnknownValue, NoWidth, StoreTo, ByZero}
use Rattle.stream.specs.Bodies.{why_of, reason_at}
use Rattle.hosting.specs.declared.Short.TheVariants.{Why}
use Rattle.hosting.specs.Ending.{short_of}

pub why_some : (k n : ℕ) → eqb k 0 ≡ false → k < 10 → (r : Reason) × (reason_at k ≡ Some r) × (short_of (Why r n) ≡ Some (why_of r n))
why_some zero n h l = absurd (true≢false h)
why_some (suc zero) n h l = (BranchUnknown, refl, refl)
why_some (suc (suc zero)) n h l = (SwitchUnknown, refl, refl)
why_some (suc (suc (suc zero))) n h l = (NoCase, refl, refl)
why_some (suc (suc (suc (suc zero)))) n h l = (StructTo, refl, refl)
why_some (suc (suc (suc (suc (suc zero))))) n h l = (UnknownAddress, refl, refl)
why_some (suc (suc (suc (suc (suc (suc zero)))))) n h l = (UnknownValue, refl, refl)
why_some (suc (suc (suc (suc (suc (suc (suc zero))))))) n h l = (NoWidth, refl, refl)
why_some (suc (suc (suc (suc (suc (suc (suc (suc zero)))))))) n h l = (StoreTo, refl, refl)
why_some (suc (suc (suc (suc (suc (suc (suc (suc (suc zero))))))))) n h l = (ByZero, refl, refl)
why_some (suc (suc (suc (suc (suc (suc (suc (suc (suc (suc k)))))))))) n h l = absurd (omega arith)

pub why_none : (k : ℕ) → eqb k 0 ≡ true → reason_at k ≡ None
why_none zero h = refl
why_none (suc k) h = absurd (true≢false (sym h ∙ ne_eqb (suc k) 0 (λ e. omega arith)))
