-- Loads and stores: the Rust's `load` and `store`. Addresses wrap at 2 ^ 64. Assumes nothing.
use Rattle.std.specs.Prelude.{true, false, List, [], ◌∷◌, ℕ, zero, suc, ◌/◌, ◌%◌, ◌^◌, max, drop, Option, None, Some}
use Rattle.value.specs.declared.Ty.{Ty}
use Rattle.value.specs.declared.Val.{Val}
use Rattle.value.specs.Value.{known_val, unknown_val}
use Rattle.layout.specs.Number.{le, num}
use Rattle.memory.specs.Overlay.{byte_or}
use Rattle.definition.specs.Question.{read_at}
use Rattle.definition.specs.Act.{Act, done, fail, ask, peek, poke, ◌>>=◌, unknown_value}

-- the bytes from a on: the run's own, else the image's, which one `read` answered ("a `read` of none hides later bytes"); none if one is missing
unfoldable pub gather : ℕ → ℕ → List ℕ → Act (Option (List ℕ))
gather zero a image = done (Some [])
gather (suc n) a image = do
  own ← peek (a % 2 ^ 64) done
  elim (byte_or own image) [
    | None ↦ done None
    | Some b ↦ gather n (suc a) (drop 1 image) >>= λ r. done (elim r [ None ↦ None | Some bs ↦ Some (b ∷ bs) ])
  ]

abbrev pub loaded : Ty → Option (List ℕ) → Val
loaded t None = unknown_val t
loaded t (Some bs) = known_val (num bs) t

-- `read` is asked at every load, also where the run's own bytes are all there
unfoldable pub load : ℕ → Ty → Act Val
load a t = do
  image ← ask read_at (record { address = a; size = max (t.bits / 8) 1 }) done
  bytes ← gather (max (t.bits / 8) 1) a image
  done (loaded t bytes)

unfoldable pub pokes : ℕ → List ℕ → Act (Unit {0})
pokes a [] = done tt
pokes a (b ∷ bs) = poke (a % 2 ^ 64) b (pokes (suc a) bs)

-- the Rust's `store`: an unknown value ends the evaluation short
unfoldable pub store_val : ℕ → Val → Act (Unit {0})
store_val a v = elim v.known [ true ↦ pokes a (le (v.bits / 8) v.number) | false ↦ fail (unknown_value a) ]
