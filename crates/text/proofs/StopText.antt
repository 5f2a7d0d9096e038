-- Why a run stopped, by its kind and its reason. Assumes nothing.
use mathlib.Core.Path.{◌≡◌, refl, sym, ap, ◌∙◌}
use mathlib.Core.Bool.{cond}
use mathlib.Core.List.{List}
use Rattle.std.specs.Prelude.{Option, None, Some, Result, Ok, Err, eqb, unwrap_or}
use Rattle.std.specs.Result.{result_ok, result_unwrap_or}
use Prim.Native.Nat.{ℕ, zero, suc}
use native.Mathlib.Omega.{arith}
use borrow.Author.Tests.{ne_eqb}
use Rattle.layout.specs.Number.{number_at}
use Rattle.value.specs.declared.Val.{Val}
use Rattle.definition.specs.Act.{Why, branch_unknown, switch_unknown, no_case, struct_to, unknown_address, unknown_value, no_width, store_to, by_zero}
use Rattle.definition.specs.Statements.{Stop}
use Rattle.definition.specs.Statements as stop
use Rattle.stream.specs.declared.Kind.{Kind}
use Rattle.stream.specs.declared.Kind.TheVariants.{Returned, ReturnedNothing, Steps, Unknown, NoBlock, NoBlocks, NoReturn, Halted}
use Rattle.stream.specs.declared.Reason.{Reason}
use Rattle.stream.specs.declared.Reason.TheVariants.{BranchUnknown, SwitchUnknown, NoCase, StructTo, UnknownAddress, UnknownValue, NoWidth, StoreTo, ByZero}
use Rattle.stream.specs.Bodies.{kind_at, reason_at, reason_number}
use Rattle.value.specs.Encoding.{val_at}
use Rattle.text.specs.Read.{address_in, why_in, stop_in}
use Rattle.text.specs.Told.{kind_in, reason_in}

-- what is read, or else the last
pub or_last : {A E : Type 0} (r : Result A E) (d : A) → result_unwrap_or r d ≡ unwrap_or (result_ok r) d
or_last (Ok x) d = refl
or_last (Err e) d = refl

-- ---- the reason

module _ (s : List ℕ) where
  pub reason_is : {E : Type 0} {k : ℕ} (r : Result Reason E) {x : Reason} → k ≡ number_at s 1 1 → result_ok r ≡ reason_at k → x ≡ result_unwrap_or r ByZero → x ≡ reason_in s
  unfolding reason_in
  reason_is r e o u = u ∙ or_last r ByZero ∙ ap (λ (y : Option Reason). unwrap_or y ByZero) (o ∙ ap reason_at e)

-- what a stop for a reason tells, of the node, the number and the name beside it
abbrev why_by : Reason → (node number name : ℕ) → Why
why_by BranchUnknown node number name = branch_unknown node
why_by SwitchUnknown node number name = switch_unknown node
why_by NoCase node number name = no_case number
why_by StructTo node number name = struct_to node
why_by UnknownAddress node number name = unknown_address node
why_by UnknownValue node number name = unknown_value number
why_by NoWidth node number name = no_width name
why_by StoreTo node number name = store_to node
why_by ByZero node number name = by_zero

why_numbered : (k node number name : ℕ) → why_by (unwrap_or (reason_at k) ByZero) node number name
    ≡ cond (eqb k 1) (branch_unknown node) (cond (eqb k 2) (switch_unknown node) (cond (eqb k 3) (no_case number) (cond (eqb k 4) (struct_to node)
    (cond (eqb k 5) (unknown_address node) (cond (eqb k 6) (unknown_value number) (cond (eqb k 7) (no_width name) (cond (eqb k 8) (store_to node) by_zero)))))))
why_numbered zero node number name = refl
why_numbered (suc zero) node number name = refl
why_numbered (suc (suc zero)) node number name = refl
why_numbered (suc (suc (suc zero))) node number name = refl
why_numbered (suc (suc (suc (suc zero)))) node number name = refl
why_numbered (suc (suc (suc (suc (suc zero))))) node number name = refl
why_numbered (suc (suc (suc (suc (suc (suc zero)))))) node number name = refl
why_numbered (suc (suc (suc (suc (suc (suc (suc zero))))))) node number name = refl
why_numbered (suc (suc (suc (suc (suc (suc (suc (suc zero)))))))) node number name = refl
why_numbered (suc (suc (suc (suc (suc (suc (suc (suc (suc zero))))))))) node number name = refl
why_numbered (suc (suc (suc (suc (suc (suc (suc (suc (suc (suc k)))))))))) node number name =
    let n = suc (suc (suc (suc (suc (suc (suc (suc (suc (suc k))))))))) in
    simp (ne_eqb n 1 (λ z. absurd (omega arith)), ne_eqb n 2 (λ z. absurd (omega arith)), ne_eqb n 3 (λ z. absurd (omega arith)), ne_eqb n 4 (λ z. absurd (omega arith)), ne_eqb n 5 (λ z. absurd (omega arith)), ne_eqb n 6 (λ z. absurd (omega arith)), ne_eqb n 7 (λ z. absurd (omega arith)), ne_eqb n 8 (λ z. absurd (omega arith)))

width_numbered : (k : ℕ) → reason_number (unwrap_or (reason_at k) ByZero) ≡ 7 → k ≡ 7
width_numbered zero e = omega (arith, e)
width_numbered (suc zero) e = omega (arith, e)
width_numbered (suc (suc zero)) e = omega (arith, e)
width_numbered (suc (suc (suc zero))) e = omega (arith, e)
width_numbered (suc (suc (suc (suc zero)))) e = omega (arith, e)
width_numbered (suc (suc (suc (suc (suc zero))))) e = omega (arith, e)
width_numbered (suc (suc (suc (suc (suc (suc zero)))))) e = omega (arith, e)
width_numbered (suc (suc (suc (suc (suc (suc (suc zero))))))) e = refl
width_numbered (suc (suc (suc (suc (suc (suc (suc (suc zero)))))))) e = omega (arith, e)
width_numbered (suc (suc (suc (suc (suc (suc (suc (suc (suc zero))))))))) e = omega (arith, e)
width_numbered (suc (suc (suc (suc (suc (suc (suc (suc (suc (suc k)))))))))) e = omega (arith, e)

module _ (s : List ℕ) {x y : Reason} (e : x ≡ reason_in s) (z : x ≡ y) where
  pub why_is : why_by y (number_at s 19 4) (number_at s 11 8) (number_at s 23 2) ≡ why_in s
  unfolding why_in reason_in
  why_is = ap (λ (r : Reason). why_by r (number_at s 19 4) (number_at s 11 8) (number_at s 23 2)) (sym z ∙ e) ∙ why_numbered (number_at s 1 1) (number_at s 19 4) (number_at s 11 8) (number_at s 23 2)

pub width_is : (s : List ℕ) {x : Reason} → x ≡ reason_in s → x ≡ NoWidth → number_at s 1 1 ≡ 7
unfolding reason_in
width_is s e z = width_numbered (number_at s 1 1) (ap reason_number (sym e ∙ z))

-- ---- the stop

module _ (s : List ℕ) where
  pub kind_is : {E : Type 0} {k : ℕ} (r : Result Kind E) {x : Kind} → k ≡ number_at s 0 1 → result_ok r ≡ kind_at k → x ≡ result_unwrap_or r Halted → x ≡ kind_in s
  unfolding kind_in
  kind_is r e o u = u ∙ or_last r Halted ∙ ap (λ (y : Option Kind). unwrap_or y Halted) (o ∙ ap kind_at e)

-- what a stop of a kind tells, of the value, the number, the address and the reason beside it
abbrev stop_by : Kind → Val → ℕ → Option ℕ → Why → Stop
stop_by Returned v number address why = stop.Returned (Some v)
stop_by ReturnedNothing v number address why = stop.Returned None
stop_by Steps v number address why = stop.Steps number
stop_by Unknown v number address why = stop.Unknown address why
stop_by NoBlock v number address why = stop.NoBlock number
stop_by NoBlocks v number address why = stop.NoBlocks
stop_by NoReturn v number address why = stop.NoReturn address
stop_by Halted v number address why = stop.Halted address number

stop_numbered : (k : ℕ) (v : Val) (number : ℕ) (address : Option ℕ) (why : Why) → stop_by (unwrap_or (kind_at k) Halted) v number address why
    ≡ cond (eqb k 0) (stop.Returned (Some v)) (cond (eqb k 1) (stop.Returned None) (cond (eqb k 2) (stop.Steps number) (cond (eqb k 3) (stop.Unknown address why)
    (cond (eqb k 4) (stop.NoBlock number) (cond (eqb k 5) stop.NoBlocks (cond (eqb k 6) (stop.NoReturn address) (stop.Halted address number)))))))
stop_numbered zero v number address why = refl
stop_numbered (suc zero) v number address why = refl
stop_numbered (suc (suc zero)) v number address why = refl
stop_numbered (suc (suc (suc zero))) v number address why = refl
stop_numbered (suc (suc (suc (suc zero)))) v number address why = refl
stop_numbered (suc (suc (suc (suc (suc zero))))) v number address why = refl
stop_numbered (suc (suc (suc (suc (suc (suc zero)))))) v number address why = refl
stop_numbered (suc (suc (suc (suc (suc (suc (suc zero))))))) v number address why = refl
stop_numbered (suc (suc (suc (suc (suc (suc (suc (suc k)))))))) v number address why =
    let n = suc (suc (suc (suc (suc (suc (suc (suc k))))))) in
    simp (ne_eqb n 0 (λ z. absurd (omega arith)), ne_eqb n 1 (λ z. absurd (omega arith)), ne_eqb n 2 (λ z. absurd (omega arith)), ne_eqb n 3 (λ z. absurd (omega arith)), ne_eqb n 4 (λ z. absurd (omega arith)), ne_eqb n 5 (λ z. absurd (omega arith)), ne_eqb n 6 (λ z. absurd (omega arith)))

module _ (s : List ℕ) {x y : Kind} (e : x ≡ kind_in s) (z : x ≡ y) where
  pub stop_is : stop_by y (val_at s 25) (number_at s 11 8) (address_in s 2) (why_in s) ≡ stop_in s
  unfolding stop_in kind_in
  stop_is =
      ap (λ (k : Kind). stop_by k (val_at s 25) (number_at s 11 8) (address_in s 2) (why_in s)) (sym z ∙ e)
      ∙ stop_numbered (number_at s 0 1) (val_at s 25) (number_at s 11 8) (address_in s 2) (why_in s)
