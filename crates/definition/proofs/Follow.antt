-- Laws of `run`, for any tree: what two worlds that agree on the questions asked give (`follows`); a log says what its world gives (`honest`);
-- one tree after another (`run_bind`). Assumes nothing.
use mathlib.Core.Path.{◌≡◌, refl, ap, ◌∙◌}
use mathlib.Core.List.{List, [], ◌∷◌}
use Rattle.definition.specs.Question.{Asked, Question, Answer, World, Entry, cut}
use Rattle.definition.specs.Act.{Act, done, fail, ask, act, End, gave, stopped, ◌>>=◌}
use Rattle.definition.specs.State.{reply, next, State, Out, preceded, run}
use Rattle.layout.specs.Each.{Each}

-- the world answers the question of an entry as the entry says
abbrev pub Answers : World → Entry → Type 0
Answers w e = w e.0 e.1.0 ≡ e.1.1

module _ {A : Type 0} (w : World) where
  -- what holds of each question that is asked, with what the world gives, holds of each entry of a log
  pub asked_all : (P : Entry → Type 0) → ((κ : Asked) (q : Question κ) → P (κ, (cut κ q, w κ (cut κ q))))
      → (t : Act A) (s : State) → Each P (run w t s).log
  unfolding run
  asked_all P p (done a) s = tt
  asked_all P p (fail x) s = tt
  asked_all P p (ask κ q k) s = (p κ q, asked_all P p (k (w κ (cut κ q))) s)
  asked_all P p (act o k) s = asked_all P p (k (reply o s)) (next o s)

  -- each entry of a log is what the world gives
  pub honest : (t : Act A) (s : State) → Each (Answers w) (run w t s).log
  honest = asked_all (Answers w) (λ κ q. refl)

  -- a second world that gives the answers of the first one's log has the same run
  pub follows : (v : World) (t : Act A) (s : State) → Each (Answers v) (run w t s).log → run v t s ≡ run w t s
  unfolding run
  follows v (done a) s h = refl
  follows v (fail x) s h = refl
  follows v (ask κ q k) s h =
      ap (λ (a : Answer κ). preceded ((κ, (cut κ q, a)) ∷ []) (run v (k a) s)) h.0
      ∙ ap (λ (r : Out A). preceded ((κ, (cut κ q, w κ (cut κ q))) ∷ []) r) (follows v (k (w κ (cut κ q))) s h.1)
  follows v (act o k) s h = follows v (k (reply o s)) (next o s) h

-- what comes of an outcome when a second part goes on from it
abbrev pub go_on : {A B : Type 0} → End A → List Entry → State → (A → State → Out B) → Out B
go_on (gave a) l s f = preceded l (f a s)
go_on (stopped x) l s f = record { end = stopped x; log = l; after = s }

go_on_cons : {A B : Type 0} (e : Entry) (x : End A) (l : List Entry) (s : State) (f : A → State → Out B)
    → preceded (e ∷ []) (go_on x l s f) ≡ go_on x (e ∷ l) s f
go_on_cons e (gave a) l s f = refl
go_on_cons e (stopped x) l s f = refl

module _ {A B : Type 0} (w : World) (f : A → Act B) where
  -- the run of one tree after another is the one run after the other
  pub run_bind : (t : Act A) (s : State)
      → run w (t >>= f) s ≡ go_on (run w t s).end (run w t s).log (run w t s).after (λ a s'. run w (f a) s')
  unfolding run ◌>>=◌
  run_bind (done a) s = refl
  run_bind (fail x) s = refl
  run_bind (ask κ q k) s =
      let a = w κ (cut κ q) in
      let r = run w (k a) s in
      ap (λ (o : Out B). preceded ((κ, (cut κ q, a)) ∷ []) o) (run_bind (k a) s)
      ∙ go_on_cons (κ, (cut κ q, a)) r.end r.log r.after (λ a' s'. run w (f a') s')
  run_bind (act o k) s = run_bind (k (reply o s)) (next o s)
