-- What carries a run's acts out, over any state: the definition's own host, and the one that the code is. The same acts, run by two hosts of which one
-- simulates the other, end alike (proofs/Hosts.antt). Assumes nothing.
use Rattle.std.specs.Prelude.{◌≡◌, List, [], ◌∷◌, ◌++◌}
use Rattle.definition.specs.Question.{Asked, Question, Answer, World, Entry, cut}
use Rattle.definition.specs.Act.{Op, Reply, Act, done, fail, ask, act, End, gave, stopped}
use Rattle.definition.specs.State.{State, reply, next}

pub record Host (S : Type 0) : Type 0 where
  pub answer : S → (κ : Asked) → Question κ → Answer κ
  pub asking : S → (κ : Asked) → Question κ → S
  pub reply : S → (o : Op) → Reply o
  pub next : S → Op → S

unfoldable pub hosted : {S A : Type 0} → Host S → Act A → S → End A × S
hosted h (done a) s = (gave a, s)
hosted h (fail x) s = (stopped x, s)
hosted h (ask κ q k) s = hosted h (k (h.answer s κ q)) (h.asking s κ q)
hosted h (act o k) s = hosted h (k (h.reply s o)) (h.next s o)

-- the definition's: the state of a run, and the questions asked so far
abbrev pub Logged : Type 0
Logged = State × List Entry

unfoldable pub definition_host : World → Host Logged
definition_host w = record {
  answer = λ s κ q. w κ (cut κ q);
  asking = λ s κ q. (s.0, s.1 ++ ((κ, (cut κ q, w κ (cut κ q))) ∷ []));
  reply = λ s o. reply o s.0;
  next = λ s o. (next o s.0, s.1);
}

-- the states of one host stand for those of the other, act by act
pub record Simulates {S R : Type 0} (h : Host S) (g : Host R) (Like : S → R → Type 0) : Type 0 where
  pub answer : (s : S) (r : R) → Like s r → (κ : Asked) (q : Question κ) → h.answer s κ q ≡ g.answer r κ q
  pub asking : (s : S) (r : R) → Like s r → (κ : Asked) (q : Question κ) → Like (h.asking s κ q) (g.asking r κ q)
  pub reply : (s : S) (r : R) → Like s r → (o : Op) → h.reply s o ≡ g.reply r o
  pub next : (s : S) (r : R) → Like s r → (o : Op) → Like (h.next s o) (g.next r o)
