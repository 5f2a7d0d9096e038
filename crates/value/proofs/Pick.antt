-- What a `cond` gives where its test is known, also where the test was made by a call that gave r.
-- Assumes nothing.
use Rattle.std.proofs.Common.{◌≡◌, Bool, true, false, cond, sym, ap, ◌∙◌}
use Rattle.std.proofs.lemmas.Bool.{cond_both}

pub pick_true : {A : Type 0} {t : Bool} {x : A} (y : A) → t ≡ true → x ≡ cond t x y
pick_true {x = x} y h = ap (λ (b : Bool). cond b x y) (sym h)

pub pick_false : {A : Type 0} {t : Bool} {y : A} (x : A) → t ≡ false → y ≡ cond t x y
pick_false {y = y} x h = ap (λ (b : Bool). cond b x y) (sym h)

pub held : {A : Type 0} (t r : Bool) (x y z : A) → r ≡ t → r ≡ true → z ≡ x → z ≡ cond t x y
held t r x y z e h p = p ∙ pick_true y (sym e ∙ h)

pub failed : {A : Type 0} (t r : Bool) (x y z : A) → r ≡ t → r ≡ false → z ≡ y → z ≡ cond t x y
failed t r x y z e h p = p ∙ pick_false x (sym e ∙ h)

-- what holds of both holds of the one that is picked
pub either : {A : Type 0} (P : A → Type 0) (t : Bool) {x y : A} → P x → P y → P (cond t x y)
either P t {x} {y} p q = cond_both t x y P (λ _. p) (λ _. q)
