-- What holds of every way through a tree: of its operations, of the reasons for which it ends short, and of what it gives. Assumes nothing.
use mathlib.Core.Bool.{Bool, true, false}
use Rattle.std.specs.Prelude.{Option, None, Some}
use Rattle.definition.specs.Question.{Asked, Question, Answer, World, cut}
use Rattle.definition.specs.Act.{Why, Op, Reply, Act, done, fail, ask, act, End, gave, stopped, try, ◌>>=◌}
use Rattle.definition.specs.State.{State, reply, next, run}

-- no matter which
abbrev pub Any : {A : Type 0} → A → Type 0
Any a = Unit

abbrev pub Never : {A : Type 0} → A → Type 0
Never a = ⊥

-- of a reason for which it ended short, or of what it gave
abbrev pub EndIs : {A : Type 0} → (Why → Type 0) → (A → Type 0) → End A → Type 0
EndIs F Q (gave a) = Q a
EndIs F Q (stopped x) = F x

module _ (M : Op → Type 0) where
  abbrev pub All : {A : Type 0} → (Why → Type 0) → (A → Type 0) → Act A → Type 0
  All F Q (done a) = Q a
  All F Q (fail x) = F x
  All F Q (ask κ q k) = (a : Answer κ) → All F Q (k a)
  All F Q (act o k) = M o × ((a : Reply o) → All F Q (k a))

  -- each operation meets M, each reason F, and what is given Q
  pub record Every {A : Type 0} (F : Why → Type 0) (Q : A → Type 0) (t : Act A) : Type 0 where
    pub all : All F Q t

  all_bind : {A B : Type 0} (F : Why → Type 0) (P : A → Type 0) (Q : B → Type 0) (t : Act A) (f : A → Act B)
      → All F P t → ((a : A) → P a → All F Q (f a)) → All F Q (t >>= f)
  unfolding ◌>>=◌
  all_bind F P Q (done a) f p q = q a p
  all_bind F P Q (fail x) f p q = p
  all_bind F P Q (ask κ y k) f p q = λ a. all_bind F P Q (k a) f (p a) q
  all_bind F P Q (act o k) f p q = (p.0, λ a. all_bind F P Q (k a) f (p.1 a) q)

  all_try : {A : Type 0} (F G : Why → Type 0) (Q : A → Type 0) (t : Act A) → All F Q t → All G (EndIs F Q) (try t)
  unfolding try
  all_try F G Q (done a) p = p
  all_try F G Q (fail x) p = p
  all_try F G Q (ask κ y k) p = λ a. all_try F G Q (k a) (p a)
  all_try F G Q (act o k) p = (p.0, λ a. all_try F G Q (k a) (p.1 a))

  -- ---- as the trees are built

  module _ {F : Why → Type 0} where
    pub every_bind : {A B : Type 0} {P : A → Type 0} {Q : B → Type 0} {t : Act A} {f : A → Act B}
        → Every F P t → ((a : A) → P a → Every F Q (f a)) → Every F Q (t >>= f)
    every_bind {P = P} {Q = Q} {t = t} {f = f} p q = record { all = all_bind F P Q t f p.all (λ a h. (q a h).all) }

    module _ {A : Type 0} {Q : A → Type 0} where
      pub every_done : {a : A} → Q a → Every F Q (done a)
      every_done h = record { all = h }

      pub every_fail : {x : Why} → F x → Every F Q (fail x)
      every_fail h = record { all = h }

      pub every_ask : {κ : Asked} {y : Question κ} {k : Answer κ → Act A} → ((a : Answer κ) → Every F Q (k a)) → Every F Q (ask κ y k)
      every_ask p = record { all = λ a. (p a).all }

      pub every_act : {o : Op} → M o → {k : Reply o → Act A} → ((a : Reply o) → Every F Q (k a)) → Every F Q (act o k)
      every_act m p = record { all = (m, λ a. (p a).all) }

      pub every_if : (b : Bool) {t u : Act A} → Every F Q t → Every F Q u → Every F Q (elim b [ true ↦ t | false ↦ u ])
      every_if true p q = p
      every_if false p q = q

      pub every_option : {X : Type 0} (o : Option X) {n : Act A} {s : X → Act A} → Every F Q n → ((x : X) → Every F Q (s x))
          → Every F Q (elim o [ None ↦ n | Some x ↦ s x ])
      every_option None p q = p
      every_option (Some x) p q = q x

      pub every_try : {G : Why → Type 0} {t : Act A} → Every F Q t → Every G (EndIs F Q) (try t)
      every_try {G} {t = t} p = record { all = all_try F G Q t p.all }

  -- ---- and as they are run

  module _ {A : Type 0} (F : Why → Type 0) (Q : A → Type 0) (w : World) where
    ends : (t : Act A) (s : State) → All F Q t → EndIs F Q (run w t s).end
    unfolding run
    ends (done a) s p = p
    ends (fail x) s p = p
    ends (ask κ q k) s p = ends (k (w κ (cut κ q))) s (p (w κ (cut κ q)))
    ends (act o k) s p = ends (k (reply o s)) (next o s) (p.1 (reply o s))

    module _ (K : State → Type 0) (keeps : (o : Op) → M o → (s : State) → K s → K (next o s)) where
      keep : (t : Act A) (s : State) → All F Q t → K s → K (run w t s).after
      unfolding run
      keep (done a) s p h = h
      keep (fail x) s p h = h
      keep (ask κ q k) s p h = keep (k (w κ (cut κ q))) s (p (w κ (cut κ q))) h
      keep (act o k) s p h = keep (k (reply o s)) (next o s) (p.1 (reply o s)) (keeps o p.0 s h)

  module _ {A : Type 0} {F : Why → Type 0} {Q : A → Type 0} (w : World) where
    pub every_end : {t : Act A} (s : State) → Every F Q t → EndIs F Q (run w t s).end
    every_end {t = t} s p = ends F Q w t s p.all

    -- what those operations keep, the run keeps
    pub every_keeps : (K : State → Type 0) → ((o : Op) → M o → (s : State) → K s → K (next o s))
        → {t : Act A} (s : State) → Every F Q t → K s → K (run w t s).after
    every_keeps K keeps {t = t} s p h = keep F Q w K keeps t s p.all h

-- operations that meet M meet what M implies
module _ {M N : Op → Type 0} (more : (o : Op) → M o → N o) where
  all_more : {A : Type 0} (F : Why → Type 0) (Q : A → Type 0) (t : Act A) → All M F Q t → All N F Q t
  all_more F Q (done a) p = p
  all_more F Q (fail x) p = p
  all_more F Q (ask κ y k) p = λ a. all_more F Q (k a) (p a)
  all_more F Q (act o k) p = (more o p.0, λ a. all_more F Q (k a) (p.1 a))

  pub every_more : {A : Type 0} {F : Why → Type 0} {Q : A → Type 0} {t : Act A} → Every M F Q t → Every N F Q t
  every_more {F = F} {Q = Q} {t = t} p = record { all = all_more F Q t p.all }
