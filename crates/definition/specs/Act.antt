-- A run as a tree of what it does: it asks its world, it does something with its own state, it ends. What the Rust's `Machine` does step by step is
-- here a value, so that what holds of any such tree is proved once. Assumes nothing.
use Rattle.std.specs.Prelude.{Bool, List, ℕ, Option}
use Rattle.value.specs.declared.Val.{Val}
use Rattle.memory.specs.Overlay.{Cell}
use Rattle.definition.specs.Question.{Asked, Question, Answer}

-- ---- what ends an evaluation short, and what a step tells

-- the Rust's `Why`: document 01's reasons 1 to 9, each with what it names
pub data Why : Type 0 where
  branch_unknown : (node : ℕ) → Why
  switch_unknown : (node : ℕ) → Why
  no_case : (value : ℕ) → Why
  struct_to : (node : ℕ) → Why
  unknown_address : (node : ℕ) → Why
  unknown_value : (address : ℕ) → Why
  no_width : (name : ℕ) → Why
  store_to : (node : ℕ) → Why
  by_zero : Why

-- notes 1 to 3, and 4 and 5 as one: the names taken by a call that is not followed
pub data Note : Type 0 where
  no_note : Note
  fields_written : (address count : ℕ) → Note
  value_written : (address : ℕ) → Val → Note
  result_unknown : Note
  not_followed : (taken : List ℕ) → Note

-- one statement run
pub record Step : Type 0 where
  pub address : Option ℕ
  pub block : ℕ
  pub statement : ℕ
  pub wrote : Option (ℕ × Val)
  pub note : Note

-- ---- what a run does with its own state

-- the Rust's `pending_note`, which a call leaves for the statement that it is in: the names taken
abbrev pub Pending : Type 0
Pending = Option (List ℕ)

pub data Op : Type 0 where
  -- the run's memory, by address
  peek_op : (address : ℕ) → Op
  poke_op : (address : ℕ) → Cell → Op
  -- the variables, by name: none for one that is not set
  get_op : (name : ℕ) → Op
  set_op : (name : ℕ) → Val → Op
  -- the pending note
  pending_op : Op
  leave_op : Pending → Op
  -- one unit of the budget is taken, if there is one, for a block (true) or a statement
  spend_op : (block : Bool) → Op
  -- a step is recorded
  emit_op : Step → Op

-- what an operation gives back
abbrev pub Reply : Op → Type 0
Reply (peek_op a) = Option Cell
Reply (poke_op a c) = Unit
Reply (get_op x) = Option Val
Reply (set_op x v) = Unit
Reply pending_op = Pending
Reply (leave_op p) = Unit
Reply (spend_op b) = Bool
Reply (emit_op e) = Unit

-- ---- the trees

pub data Act (A : Type 0) : Type 0 where
  done : A → Act A
  -- the evaluation ends short
  fail : Why → Act A
  -- the world is asked
  ask : (κ : Asked) → Question κ → (Answer κ → Act A) → Act A
  -- something is done with the state
  act : (o : Op) → (Reply o → Act A) → Act A

abbrev pub peek : {A : Type 0} → (address : ℕ) → (Option Cell → Act A) → Act A
peek a k = act (peek_op a) k

abbrev pub poke : {A : Type 0} → (address : ℕ) → Cell → Act A → Act A
poke a c t = act (poke_op a c) (λ _. t)

abbrev pub get : {A : Type 0} → (name : ℕ) → (Option Val → Act A) → Act A
get x k = act (get_op x) k

abbrev pub set : {A : Type 0} → (name : ℕ) → Val → Act A → Act A
set x v t = act (set_op x v) (λ _. t)

abbrev pub pending : {A : Type 0} → (Pending → Act A) → Act A
pending k = act pending_op k

abbrev pub leave : {A : Type 0} → Pending → Act A → Act A
leave p t = act (leave_op p) (λ _. t)

abbrev pub spend : {A : Type 0} → (block : Bool) → (Bool → Act A) → Act A
spend b k = act (spend_op b) k

abbrev pub emit : {A : Type 0} → Step → Act A → Act A
emit e t = act (emit_op e) (λ _. t)

-- one after another: what ends short ends both
infixl 20 ◌>>=◌
unfoldable pub ◌>>=◌ : {A B : Type 0} → Act A → (A → Act B) → Act B
done a >>= f = f a
fail x >>= f = fail x
ask κ q k >>= f = ask κ q (λ a. k a >>= f)
act o k >>= f = act o (λ a. k a >>= f)

infixl 20 ◌>>◌
abbrev pub ◌>>◌ : {A B : Type 0} → Act A → Act B → Act B
t >> u = t >>= λ _. u

-- how a tree ends: with what it gives, or short
pub data End (A : Type 0) : Type 0 where
  gave : A → End A
  stopped : Why → End A

-- what ends short is caught, and its reason given
unfoldable pub try : {A : Type 0} → Act A → Act (End A)
try (done a) = done (gave a)
try (fail x) = done (stopped x)
try (ask κ q k) = ask κ q (λ a. try (k a))
try (act o k) = act o (λ a. try (k a))
