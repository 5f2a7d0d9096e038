-- What is wrong with a node: the three numbers of document 02 together are document 01's 5, of a node and of a node body. Assumes nothing.
use mathlib.Core.Path.{◌≡◌, refl, sym, ap, ◌∙◌}
use mathlib.Core.Bool.{Bool, true, false, not, ◌&&◌, ◌||◌}
use Rattle.std.proofs.Math.Bool.{and-false, and-true, and_assoc}
use mathlib.Core.List.{List, [], ◌∷◌, map}
use Prim.Native.Nat.{ℕ, zero, suc, ◌+◌, ◌*◌, ◌/◌, ◌≤◌}
use native.Mathlib.Omega.{arith}
use lib.Dec.{eqb, leb, ltb}
use lib.ListN.{length}
use borrow.Author.Tests.{le-leb, lt-leb, le-ltb, ltb-true, eqb-true, ne_eqb, not-true, not-false}
use Rattle.std.specs.Prelude.{Option, None, Some}
use Rattle.std.specs.List.{find, range_with_len}
use Rattle.std.proofs.lemmas.Bool.{and_parts}
use Rattle.layout.proofs.NumberLaws.{number_at_lt}
use Rattle.files.specs.Items.{every}
use Rattle.files.specs.Nodes.{kind_of, flag_of, ref_of, width_of, value_of, rule_of, ref_below, field_ok, fields_ok, kind_known, if_used, zero_if_unused, used_ok, unused_ok, Rule}
use Rattle.files.specs.Refusal.{Fault, of_node, no_fault, unless, or_else, earliest, node_fault, nodes_fault}
use Rattle.files.proofs.RefusalLaws.{or_next, or_some}
use Rattle.files.proofs.ItemLaws.{every_fails, every_at, every_each, found, none_found}

-- ---- a field

-- of a field that is fine where it is 0, if its kind does not use it: it is as it must be if it is fine where it is used, and 0 where it is not
parted : (most : ℕ) (ok : Bool) (x : ℕ) → (most ≡ 0 → ok ≡ eqb x 0) → ok ≡ (if_used most ok && zero_if_unused most x)
parted zero ok x h = h refl
parted (suc m) ok x h = rw (ne_eqb (suc m) 0 (λ z. omega arith), and-true)

up_to_none : (x : ℕ) → leb x 0 ≡ eqb x 0
up_to_none zero = refl
up_to_none (suc x) = rw (lt-leb (suc x) 0 (omega arith), ne_eqb (suc x) 0 (λ z. omega arith))

below_one : (x : ℕ) → ltb x 1 ≡ eqb x 0
below_one zero = refl
below_one (suc x) = rw (le-ltb (suc x) 1 (omega arith), ne_eqb (suc x) 0 (λ z. omega arith))

-- ---- a node

-- of each row of the table: where no width is used, none is the least; a value that is used may be any
abbrev any_value : ℕ
any_value = 0xffff_ffff_ffff_ffff

abbrev row_fine : ℕ → Bool
row_fine k = (not (eqb (rule_of k).wide 0) || eqb (rule_of k).narrow 0) && (eqb (rule_of k).value 0 || eqb (rule_of k).value any_value)

rows_fine : every 20 row_fine ≡ true
unfolding every rule_of
rows_fine = refl

grouped : (k v uf zf ur zr uw zw : Bool) → (k && (uf && zf) && (ur && zr) && (uw && zw) && v) ≡ (k && (uw && uf && ur) && (zf && zr && zw && v))
grouped false v uf zf ur zr uw zw = refl
grouped true v false zf ur zr true zw = refl
grouped true v false zf ur zr false zw = refl
grouped true v true zf ur zr false zw = rw and-false
grouped true v true zf false zr true zw = rw and-false
grouped true v true zf true zr true zw = refl

regrouped : (k v f uf zf r ur zr n w uw zw : Bool) → f ≡ (uf && zf) → r ≡ (ur && zr) → (n && w) ≡ (uw && zw)
    → (k && f && r && n && w && v) ≡ (k && (uw && uf && ur) && (zf && zr && zw && v))
regrouped k v f uf zf r ur zr n w uw zw a b c =
    ap (λ (t : Bool). t && v) (and_assoc (k && f && r) n w ∙ ap (λ (t : Bool). k && f && r && t) c)
    ∙ rw (a, b) (grouped k v uf zf ur zr uw zw)

module _ (b : List ℕ) (names types n : ℕ) where
  abbrev row : Rule
  row = rule_of (kind_of b n)

  module _ (fine : row_fine (kind_of b n) ≡ true) where
    fine_width : (not (eqb row.wide 0) || eqb row.narrow 0) ≡ true
    fine_width = (and_parts _ _ fine).0

    width_parted : let w = leb row.narrow (width_of b n) && leb (width_of b n) row.wide in w ≡ (if_used row.wide w && zero_if_unused row.wide (width_of b n))
    width_parted =
        parted row.wide _ (width_of b n) (λ z.
        let least : row.narrow ≡ 0 = eqb-true row.narrow 0 (rw z at fine_width) in
        rw (z, least, le-leb 0 (width_of b n) (omega arith)) (up_to_none (width_of b n)))

    value_unused : leb (value_of b n) row.value ≡ zero_if_unused row.value (value_of b n)
    value_unused = go (eqb row.value 0) refl (and_parts _ _ fine).1
      where
        go : (t : Bool) → eqb row.value 0 ≡ t → (t || eqb row.value any_value) ≡ true → leb (value_of b n) row.value ≡ (not t || eqb (value_of b n) 0)
        go true p q = rw (eqb-true _ _ p) (up_to_none (value_of b n))
        go false p q = rw (eqb-true _ _ q) (le-leb (value_of b n) any_value (omega (arith, number_at_lt b (n * 20 + 12) 8)))

  pub dealt : field_ok b names types n ≡ (kind_known b n && used_ok b names types n && unused_ok b n)
  unfolding field_ok used_ok unused_ok
  dealt = go (ltb (kind_of b n) 20) refl
    where
      go : (t : Bool) → ltb (kind_of b n) 20 ≡ t → field_ok b names types n ≡ (kind_known b n && used_ok b names types n && unused_ok b n)
      go false p = rw p
      go true p =
          let fine = every_at row_fine 20 (kind_of b n) rows_fine (ltb-true _ _ p) in
          let f = leb (flag_of b n) row.flag in
          let r = ltb (ref_of b n) (ref_below row.ref names types) in
          let l = leb row.narrow (width_of b n) in
          let w = leb (width_of b n) row.wide in
          rw (value_unused fine)
          (regrouped (ltb (kind_of b n) 20) (zero_if_unused row.value (value_of b n))
          f (if_used row.flag f) (zero_if_unused row.flag (flag_of b n))
          r (if_used row.ref r) (zero_if_unused row.ref (ref_of b n))
          l w (if_used row.wide (l && w)) (zero_if_unused row.wide (width_of b n))
          (parted row.flag f (flag_of b n) (λ z. rw z (up_to_none (flag_of b n))))
          (parted row.ref r (ref_of b n) (λ z. rw z (below_one (ref_of b n))))
          (width_parted fine))

-- ---- what is wrong with it

module _ (b : List ℕ) (names types n : ℕ) where
  pub of_no_kind : kind_known b n ≡ false → of_node 5 n ≡ node_fault b names types n
  unfolding node_fault
  of_no_kind k = rw k

  pub barred : kind_known b n ≡ true → used_ok b names types n ≡ false → of_node 30 n ≡ node_fault b names types n
  unfolding node_fault
  barred k u = rw (k, u)

  unused_zero : kind_known b n ≡ true → used_ok b names types n ≡ true → {t : Bool} → field_ok b names types n ≡ t → unused_ok b n ≡ t
  unused_zero k u f = rw (k, u) at (sym (dealt b names types n) ∙ f)

  pub unused : kind_known b n ≡ true → used_ok b names types n ≡ true → field_ok b names types n ≡ false → of_node 31 n ≡ node_fault b names types n
  unfolding node_fault
  unused k u f = let z : unused_ok b n ≡ false = unused_zero k u f in rw (k, u, z)

  -- nothing exactly if it is as document 01 has it
  told : (k u z : Bool) → eqb (earliest (unless k (of_node 5 n) ∷ unless u (of_node 30 n) ∷ unless z (of_node 31 n) ∷ [])).number 0 ≡ (k && u && z)
  told false u z = refl
  told true false z = refl
  told true true false = refl
  told true true true = refl

  pub refused_unless : eqb (node_fault b names types n).number 0 ≡ field_ok b names types n
  unfolding node_fault
  refused_unless = told (kind_known b n) (used_ok b names types n) (unused_ok b n) ∙ sym (dealt b names types n)

-- ---- a node body

module _ (b : List ℕ) (names types : ℕ) where
  abbrev pub faulty : ℕ → Bool
  faulty n = not (field_ok b names types n)

  -- the first faulty node among some tells what is wrong with them
  first_fault : (xs : List ℕ) → elim (find faulty xs) as (λ x. Fault) [ None ↦ no_fault | Some n ↦ node_fault b names types n ] ≡ earliest (map (node_fault b names types) xs)
  first_fault [] = refl
  first_fault (n ∷ xs) = go (field_ok b names types n) refl (first_fault xs)
    where
      go : (t : Bool) → field_ok b names types n ≡ t
          → elim (find faulty xs) as (λ x. Fault) [ None ↦ no_fault | Some k ↦ node_fault b names types k ] ≡ earliest (map (node_fault b names types) xs)
          → elim (find faulty (n ∷ xs)) as (λ x. Fault) [ None ↦ no_fault | Some k ↦ node_fault b names types k ] ≡ or_else (node_fault b names types n) (earliest (map (node_fault b names types) xs))
      go true e more = rw e (more ∙ sym (or_next (node_fault b names types n) _ (eqb-true _ _ (refused_unless b names types n ∙ e))))
      go false e more = rw e (or_some (node_fault b names types n) _ (refused_unless b names types n ∙ e))

  abbrev pub search_of : Option ℕ
  search_of = find faulty (range_with_len 0 (length b / 20))

  pub none_wrong : None ≡ search_of → no_fault ≡ nodes_fault b names types
  unfolding nodes_fault
  none_wrong e = rw (sym e) at (first_fault (range_with_len 0 (length b / 20)))

  module _ (n : ℕ) (e : Some n ≡ search_of) where
    pub first_wrong : node_fault b names types n ≡ nodes_fault b names types
    unfolding nodes_fault
    first_wrong = rw (sym e) at (first_fault (range_with_len 0 (length b / 20)))

    pub wrong_inside : n * 20 + 20 ≤ length b
    wrong_inside = let f = found faulty (length b / 20) n (sym e) in omega (arith, f.0)

    pub wrong_refused : field_ok b names types n ≡ false
    wrong_refused = not-true _ (found faulty (length b / 20) n (sym e)).1

  -- what document 02 accepts is what document 01 accepts: "5 a node's kind, or a field its kind bars or must leave 0"
  pub the_old_five : eqb (nodes_fault b names types).number 0 ≡ fields_ok b names types
  unfolding fields_ok
  the_old_five = go search_of refl
    where
      go : (o : Option ℕ) → o ≡ search_of → eqb (nodes_fault b names types).number 0 ≡ every (length b / 20) (field_ok b names types)
      go None e =
          ap (λ (f : Fault). eqb f.number 0) (sym (none_wrong e))
          ∙ sym (every_each (field_ok b names types) (length b / 20) (λ n h. not-false _ (none_found faulty (length b / 20) (sym e) n h)))
      go (Some n) e =
          ap (λ (f : Fault). eqb f.number 0) (sym (first_wrong n e)) ∙ refused_unless b names types n ∙ wrong_refused n e
          ∙ sym (every_fails (field_ok b names types) (length b / 20) n (omega (arith, wrong_inside n e)) (wrong_refused n e))
