-- The definition's run is that of its host, and a host that simulates another ends as it does. Assumes nothing.
use mathlib.Core.Path.{◌≡◌, refl, sym, ap, ◌∙◌, subst}
use mathlib.Core.List.{List, [], ◌∷◌, ◌++◌, append_assoc, append-nil}
use Rattle.definition.specs.Question.{Answer, World, Entry, cut}
use Rattle.definition.specs.Act.{Act, done, fail, ask, act, End, gave, stopped, ◌>>=◌, try}
use Rattle.definition.specs.State.{State, reply, next, run}
use Rattle.definition.specs.Host.{Host, hosted, definition_host, Simulates}

module _ {A : Type 0} (w : World) where
  pub run_hosted : (t : Act A) (s : State) (l : List Entry) → hosted (definition_host w) t (s, l) ≡ ((run w t s).end, ((run w t s).after, l ++ (run w t s).log))
  unfolding run hosted definition_host
  run_hosted (done a) s l = ap (λ (m : List Entry). (gave a, (s, m))) (sym (append-nil l))
  run_hosted (fail x) s l = ap (λ (m : List Entry). (stopped x, (s, m))) (sym (append-nil l))
  run_hosted (ask κ q k) s l =
      let e : Entry = (κ, (cut κ q, w κ (cut κ q))) in
      let r = run w (k (w κ (cut κ q))) s in
      run_hosted (k (w κ (cut κ q))) s (l ++ (e ∷ []))
      ∙ ap (λ (m : List Entry). (r.end, (r.after, m))) (append_assoc l (e ∷ []) r.log)
  run_hosted (act o k) s l = run_hosted (k (reply o s)) (next o s) l

-- ---- one tree after another, on any host

-- what comes of an end when a second part goes on from it
abbrev pub go_on_from : {S A B : Type 0} → End A → S → (A → S → End B × S) → End B × S
go_on_from (gave a) s f = f a s
go_on_from (stopped x) s f = (stopped x, s)

module _ {S A B : Type 0} (h : Host S) (f : A → Act B) where
  pub hosted_bind : (t : Act A) (s : S) → hosted h (t >>= f) s ≡ go_on_from (hosted h t s).0 (hosted h t s).1 (λ a s'. hosted h (f a) s')
  unfolding hosted ◌>>=◌
  hosted_bind (done a) s = refl
  hosted_bind (fail x) s = refl
  hosted_bind (ask κ q k) s = hosted_bind (k (h.answer s κ q)) (h.asking s κ q)
  hosted_bind (act o k) s = hosted_bind (k (h.reply s o)) (h.next s o)

module _ {S A : Type 0} (h : Host S) where
  pub hosted_try : (t : Act A) (s : S) → hosted h (try t) s ≡ (gave (hosted h t s).0, (hosted h t s).1)
  unfolding hosted try
  hosted_try (done a) s = refl
  hosted_try (fail x) s = refl
  hosted_try (ask κ q k) s = hosted_try (k (h.answer s κ q)) (h.asking s κ q)
  hosted_try (act o k) s = hosted_try (k (h.reply s o)) (h.next s o)

-- ---- two hosts

-- how two hosted runs are alike: they end the same, in states that stand for one another
pub record Alike {S R A : Type 0} (Like : S → R → Type 0) (x : End A × S) (y : End A × R) : Type 0 where
  pub end : x.0 ≡ y.0
  pub state : Like x.1 y.1

module _ {S R A : Type 0} {h : Host S} {g : Host R} {Like : S → R → Type 0} (m : Simulates h g Like) where
  pub simulated : (t : Act A) (s : S) (r : R) → Like s r → Alike Like (hosted h t s) (hosted g t r)
  unfolding hosted
  simulated (done a) s r p = record { end = refl; state = p }
  simulated (fail x) s r p = record { end = refl; state = p }
  simulated (ask κ q k) s r p =
      subst (λ (a : Answer κ). Alike Like (hosted h (k (h.answer s κ q)) (h.asking s κ q)) (hosted g (k a) (g.asking r κ q)))
      (m.answer s r p κ q) (simulated (k (h.answer s κ q)) (h.asking s κ q) (g.asking r κ q) (m.asking s r p κ q))
  simulated (act o k) s r p =
      subst (λ c. Alike Like (hosted h (k (h.reply s o)) (h.next s o)) (hosted g (k c) (g.next r o))) (m.reply s r p o)
      (simulated (k (h.reply s o)) (h.next s o) (g.next r o) (m.next s r p o))
