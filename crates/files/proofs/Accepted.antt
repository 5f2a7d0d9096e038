-- What an accepted routine, world and call have, for those who read them: each check holds, each body lies in its file, and a tree is spelled at
-- each root that the routine names. Assumes nothing.
use mathlib.Core.Path.{◌≡◌, refl, sym, ap, ◌∙◌}
use mathlib.Core.Bool.{Bool, true, false, not, cond, ◌&&◌, ◌||◌}
use mathlib.Core.List.{List, [], ◌∷◌}
use Prim.Native.Nat.{ℕ, zero, suc, ◌+◌, ◌-◌, ◌*◌, ◌/◌, ◌%◌, ◌≤◌, ◌<◌}
use native.Mathlib.Nat.{min-le_left}
use native.Mathlib.Omega.{arith}
use borrow.Author.Tests.{leb-true, ltb-true, le-ltb, eqb-true, eqb-false, not-true}
use lib.Dec.{leb, ltb, eqb}
use lib.ListN.{length, get_or, drop, length-take}
use Rattle.layout.specs.Number.{number_at}
use Rattle.layout.proofs.NumberLaws.{number_at_lt}
use Rattle.files.specs.FileTable.{offset_of, length_of, HasBody, table_ok, body}
use Rattle.files.specs.Items.{every}
use Rattle.files.specs.Names.{names_in, types_in}
use Rattle.files.specs.Head.{head_ok}
use Rattle.files.specs.Nodes.{kind_of, root_ok, trees_ok}
use Rattle.files.specs.Blocks.{address_ok, statement_ok, statements_ok, block_ok, blocks_in}
use Rattle.files.specs.WorldFile.{symbols_ok, regions_in}
use Rattle.files.specs.Call.{call_body_ok}
use Rattle.files.specs.Refusal.{Fault, fault, names_of, types_of, world_ok, call_ok, no_fault, unless, or_else, nodes_fault, bodies_fault, routine_fault, routine_refusal, files_fault, refusal, constant_fault, constant_refusal}
use Rattle.files.specs.Program.{tree, node_of}
use Rattle.files.specs.Spells.{node_at, Fine, Accepted}
use Rattle.std.proofs.lemmas.Bool.{and_parts}
use Rattle.files.proofs.BoolLaws.{each_true}
use Rattle.files.proofs.FaultLaws.{the_old_five}
use Rattle.files.proofs.RefusalLaws.{or_next}
use Rattle.files.proofs.ItemLaws.{every_at}
use Rattle.files.proofs.TableLaws.{has_body}
use Rattle.files.proofs.Forest.{stands}

-- ---- from a number 0 to what was checked

or_none : (f g : Fault) → (or_else f g).number ≡ 0 → (f.number ≡ 0) × (g.number ≡ 0)
or_none f g h = go f.number refl h
  where
    go : (n : ℕ) → f.number ≡ n → (elim n as (λ m. Fault) [ zero ↦ g | suc m ↦ f ]).number ≡ 0 → (f.number ≡ 0) × (g.number ≡ 0)
    go zero e k = (e, k)
    go (suc m) e k = absurd (omega (arith, e, k))

pub record Bodies (names types head nodes statements blocks : List ℕ) : Type 0 where
  pub named : leb 1 (names_in names) ≡ true
  pub typed : leb 1 (types_in types) ≡ true
  pub headed : head_ok head (names_of names) (types_of types) ≡ true
  pub spelled : Accepted nodes (names_of names) (types_of types)
  pub stated : statements_ok nodes statements ≡ true
  pub blocked : leb 1 (blocks_in nodes (length statements / 13) blocks) ≡ true

-- a test that holds
held : (ok : Bool) (f : Fault) → 1 ≤ f.number → (unless ok f).number ≡ 0 → ok ≡ true
held true f l h = refl
held false f l h = absurd (omega (arith, l, h))

bodies : (names types head nodes statements blocks : List ℕ) → (bodies_fault names types head nodes statements blocks).number ≡ 0 → Bodies names types head nodes statements blocks
unfolding bodies_fault
bodies names types head nodes statements blocks h =
    let s = statements_ok nodes statements in
    let b = leb 1 (blocks_in nodes (length statements / 13) blocks) in
    let a = or_none (unless (leb 1 (names_in names)) (fault 2)) _ h in
    let c = or_none (unless (leb 1 (types_in types)) (fault 3)) _ a.1 in
    let d = or_none (unless (head_ok head (names_of names) (types_of types)) (fault 4)) _ c.1 in
    let n = or_none (nodes_fault nodes (names_of names) (types_of types)) _ d.1 in
    let t = or_none (unless (trees_ok nodes) (fault 6)) _ n.1 in
    let l = and_parts s b (held _ (fault 7) (omega arith) (or_none (unless (s && b) (fault 7)) no_fault t.1).0) in
    record {
      named = held _ (fault 2) (omega arith) a.0;
      typed = held _ (fault 3) (omega arith) c.0;
      headed = held _ (fault 4) (omega arith) d.0;
      spelled = record {
        fields = sym (the_old_five nodes (names_of names) (types_of types)) ∙ ap (λ (k : ℕ). eqb k 0) n.0;
        trees = held _ (fault 6) (omega arith) t.0;
      };
      stated = l.0;
      blocked = l.1;
    }

pub record Routine (r : List ℕ) : Type 0 where
  pub table : table_ok 6 r ≡ true
  pub bodies : Bodies (body r 0) (body r 1) (body r 2) (body r 3) (body r 4) (body r 5)

pub routine : (r : List ℕ) → routine_refusal r ≡ 0 → Routine r
unfolding routine_fault
routine r h = go (table_ok 6 r) refl h
  where
    go : (t : Bool) → table_ok 6 r ≡ t → (cond t (bodies_fault (body r 0) (body r 1) (body r 2) (body r 3) (body r 4) (body r 5)) (fault 1)).number ≡ 0 → Routine r
    go true e g = record { table = e; bodies = bodies _ _ _ _ _ _ g }
    go false e g = absurd (omega arith)

pub record World (w : List ℕ) : Type 0 where
  pub table : table_ok 3 w ≡ true
  pub named : leb 1 (names_in (body w 0)) ≡ true
  pub symbols : symbols_ok (body w 1) (names_of (body w 0)) ≡ true
  pub regions : leb 1 (regions_in (body w 2)) ≡ true

pub world : (w : List ℕ) → world_ok w ≡ true → World w
unfolding world_ok
world w h =
    let t = each_true (table_ok 3 w) (leb 1 (names_in (body w 0)) ∷ symbols_ok (body w 1) (names_of (body w 0)) ∷ leb 1 (regions_in (body w 2)) ∷ []) h in
    record { table = t.0; named = t.1.0; symbols = t.1.1.0; regions = t.1.1.1.0 }

pub record Call (c : List ℕ) : Type 0 where
  pub table : table_ok 1 c ≡ true
  pub room : 8 ≤ length (body c 0)
  pub most : length (body c 0) ≤ 136
  pub whole : length (body c 0) % 8 ≡ 0
  pub steps : number_at (body c 0) 0 4 ≤ 1_000_000
  pub depth : number_at (body c 0) 4 4 ≤ 255

pub call : (c : List ℕ) → call_ok c ≡ true → Call c
unfolding call_ok call_body_ok
call c h =
    let b = body c 0 in
    let k = and_parts (table_ok 1 c) (leb 8 (length b) && leb (length b) 136 && eqb (length b % 8) 0 && leb (number_at b 0 4) 1_000_000 && leb (number_at b 4 4) 255) h in
    let t = each_true (leb 8 (length b)) (leb (length b) 136 ∷ eqb (length b % 8) 0 ∷ leb (number_at b 0 4) 1_000_000 ∷ leb (number_at b 4 4) 255 ∷ []) k.1 in
    record {
      table = k.0;
      room = leb-true _ _ t.0;
      most = leb-true _ _ t.1.0;
      whole = eqb-true _ _ t.1.1.0;
      steps = leb-true _ _ t.1.1.1.0;
      depth = leb-true _ _ t.1.1.1.1.0;
    }

-- a run that no number refuses
pub record Run (r w c : List ℕ) : Type 0 where
  pub routine : routine_refusal r ≡ 0
  pub world : world_ok w ≡ true
  pub call : call_ok c ≡ true

pub run : (r w c : List ℕ) → refusal r w c ≡ 0 → Run r w c
unfolding files_fault
run r w c h =
    let o = or_none (routine_fault r) _ h in
    let t = or_none (unless (world_ok w) (fault 8)) _ o.1 in
    record { routine = o.0; world = held _ (fault 8) (omega arith) t.0; call = held _ (fault 9) (omega arith) (or_none (unless (call_ok c) (fault 9)) no_fault t.1).0 }

pub unrefused : (r w c : List ℕ) → routine_refusal r ≡ 0 → world_ok w ≡ true → call_ok c ≡ true → refusal r w c ≡ 0
unfolding files_fault
unrefused r w c p q s = ap (λ (f : Fault). f.number) (or_next (routine_fault r) _ p) ∙ rw (q, s)

-- a node that `constant_value` accepts
pub record Constant (r : List ℕ) (n : ℕ) : Type 0 where
  pub routine : routine_refusal r ≡ 0
  pub root : root_ok (body r 3) n ≡ true

pub constant : (r : List ℕ) (n : ℕ) → constant_refusal r n ≡ 0 → Constant r n
unfolding constant_fault
constant r n h =
    let o = or_none (routine_fault r) _ h in
    record { routine = o.0; root = held _ (fault 9) (omega arith) (or_none (unless (root_ok (body r 3) n) (fault 9)) no_fault o.1).0 }

-- ---- bodies in their files

pub routine_body : (r : List ℕ) → routine_refusal r ≡ 0 → (k : ℕ) → k < 6 → HasBody r k
routine_body r h = has_body 6 r (routine r h).table

pub world_body : (w : List ℕ) → world_ok w ≡ true → (k : ℕ) → k < 3 → HasBody w k
world_body w h = has_body 3 w (world w h).table

pub call_body : (c : List ℕ) → call_ok c ≡ true → HasBody c 0
call_body c h = has_body 1 c (call c h).table 0 (omega arith)

-- a body is shorter than 65,536 bytes
pub body_short : (f : List ℕ) (k : ℕ) → length (body f k) < 65536
unfolding body
body_short f k =
    rw length-take (omega (arith, number_at_lt f (k * 4 + 4) 2, min-le_left (offset_of f k + length_of f k - offset_of f k) (length (drop (offset_of f k) f))))

-- ---- the trees at the roots

-- the node body of an accepted routine is accepted
pub routine_nodes : (r : List ℕ) → routine_refusal r ≡ 0 → Accepted (body r 3) (names_of (body r 0)) (types_of (body r 1))
routine_nodes r h = (routine r h).bodies.spelled

module _ {b : List ℕ} {names types : ℕ} (a : Accepted b names types) where
  -- a tree is spelled at each node
  pub fine : (n : ℕ) → n < length b / 20 → Fine b n
  fine n l = let s = stands b a.trees n l in record { tree = tree (node_of b n) s.kids; spells = node_at s.inside refl s.spells }

  pub root_fine : (n : ℕ) → root_ok b n ≡ true → Fine b n
  unfolding root_ok
  root_fine n h = fine n (ltb-true _ _ (and_parts (ltb n (length b / 20)) (not (eqb (kind_of b n) 18)) h).0)

pub root_no_field : (b : List ℕ) (n : ℕ) → root_ok b n ≡ true → kind_of b n ≡ 18 → ⊥
unfolding root_ok
root_no_field b n h = eqb-false (kind_of b n) 18 (not-true _ (and_parts (ltb n (length b / 20)) (not (eqb (kind_of b n) 18)) h).1)

-- the root of a statement
pub statement_root : (nodes statements : List ℕ) → statements_ok nodes statements ≡ true → (k : ℕ) → k < length statements / 13 → root_ok nodes (number_at statements (k * 13 + 9) 4) ≡ true
unfolding statements_ok statement_ok
statement_root nodes statements h k l =
    let e = (and_parts (eqb (length statements % 13) 0) (every (length statements / 13) (statement_ok nodes statements)) h).1 in
    (and_parts (address_ok (get_or statements (k * 13) 0) (number_at statements (k * 13 + 1) 8)) (root_ok nodes (number_at statements (k * 13 + 9) 4))
    (every_at (statement_ok nodes statements) (length statements / 13) k e l)).1

-- the root of a Branch and of a Switch
pub block_root : (nodes blocks : List ℕ) (i : ℕ) → block_ok nodes blocks i ≡ true → 2 ≤ get_or blocks (i + 2) 0 → root_ok nodes (number_at blocks (i + 12) 4) ≡ true
unfolding block_ok
block_root nodes blocks i h l =
    let kind = get_or blocks (i + 2) 0 in
    let flag = get_or blocks (i + 3) 0 in
    let root = number_at blocks (i + 12) 4 in
    let t = each_true (leb kind 3)
    (address_ok flag (number_at blocks (i + 4) 8) ∷ (leb 2 kind || eqb flag 0) ∷ (leb 2 kind || eqb root 0) ∷ (ltb kind 2 || root_ok nodes root)
    ∷ (leb 1 kind || eqb (number_at blocks (i + 16) 4) 0) ∷ (eqb kind 2 || eqb (number_at blocks (i + 20) 4) 0) ∷ []) h in
    let e : (ltb kind 2 || root_ok nodes root) ≡ true = t.1.1.1.1.0 in
    rw (le-ltb kind 2 l) at e
