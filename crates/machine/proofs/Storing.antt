-- What assigning a struct is, from what the code did for it: the base, then each field. Assumes nothing.
use mathlib.Core.Path.{◌≡◌, refl, sym, ap, ◌∙◌, subst}
use mathlib.Core.Bool.{Bool, true, false}
use mathlib.Core.List.{List, []}
use Prim.Native.Nat.{ℕ, ◌+◌, ◌<◌}
use native.Mathlib.Omega.{arith}
use lib.Dec.{eqb}
use borrow.Author.Tests.{eqb-true, eqb-false, eq-eqb, ne_eqb}
use Rattle.value.specs.declared.Val.{Val}
use Rattle.value.specs.declared.Ty.{Ty}
use Rattle.files.specs.Nodes.{kind_of, ref_of, value_of}
use Rattle.files.specs.Program.{Tree, tree, Trees, nil, cons, node_of}
use Rattle.files.specs.declared.kinds.Kind.TheVariants.{Cast, Deref}
use Rattle.files.specs.Spells.{next, size}
use Rattle.definition.specs.Act.{Act, done, fail, struct_to, unknown_address, fields_written, ◌>>=◌, ◌>>◌}
use Rattle.definition.specs.Term.{Term, Terms, node, is, eval, kid, kids, count}
use Rattle.definition.specs.Evaluate.{Env, Did, did, look, looks, assign_struct, store_fields}
use Rattle.workspace.specs.Parts.{tables, registers_part}
use Rattle.workspace.specs.Registers.{value_at}
use Rattle.workspace.specs.Types.{type_at}
use Rattle.stream.specs.declared.Reason.TheVariants.{StructTo, UnknownAddress}
use Rattle.hosting.specs.declared.Short.TheVariants.{Why}
use Rattle.hosting.specs.declared.How.{How}
use Rattle.hosting.specs.Scene.{Given, given, Scene}
use Rattle.hosting.specs.Stands.{Stands, stands, Shape, a_cast, a_deref, a_struct, FieldsAt, no_field, a_field}
use Rattle.hosting.specs.Ending.{Ending, ended, short, short_of}
use Rattle.operations.specs.Registers.{short_in, result_in, told_in, told_end, unit_in}
use Rattle.operations.specs.Going.{ReadyIn, Goes, Works}
use Rattle.machine.specs.Post.{Evaluates, AssignsStruct, StoresStruct, store_struct, StoresFields}
use Rattle.operations.specs.Steps.{GivesShort, Builds, base_at, store_field}
use Rattle.operations.proofs.Targeting.{at_cast, at_other, either}
use Rattle.operations.proofs.Targeting as targeting
use Rattle.operations.proofs.Going.{done_goes, goes, halts, acts, ready_after, tells_goes, short_goes}
use Rattle.machine.proofs.Evaluating.{gave_on, fell_on, ended_on, short_on, result_is}
use Rattle.machine.proofs.Assigning.{place_of}

-- ---- the base: a pointer without one Cast

abbrev base_of : Term → Term
base_of t = elim (is Cast t) [ true ↦ kid 0 (kids t) | false ↦ t ]

base_cast : (t : Term) → is Cast t ≡ true → base_of t ≡ kid 0 (kids t)
base_cast t e = rw (e, base_of)

base_other : (t : Term) → is Cast t ≡ false → base_of t ≡ t
base_other t e = rw (e, base_of)

pub base_past : (b : List ℕ) (n : ℕ) {m : ℕ} → m ≡ base_at b (n + 1) → n < m
base_past b n e = let z = targeting.base_past b (n + 1) e in omega (arith, z)

-- it stands where `base_at` says
record Based (b : List ℕ) (n : ℕ) (t : Tree) : Type 0 where
  tree : Tree
  spells : Stands b (base_at b n) tree
  same : (E : Env) → base_of (look E t) ≡ look E tree

based_cast : {b : List ℕ} {n : ℕ} {ts : Trees} → kind_of b n ≡ 8 → Shape b 8 n ts → Based b n (tree (node_of b n) ts)
unfolding look kid
based_cast {b} {n} e (a_cast {a = u} l h f) = record {
  tree = u;
  spells = subst (λ (j : ℕ). Stands b j u) (sym (at_cast b n e)) h;
  same = λ E. base_cast (look E (tree (node_of b n) (cons u nil))) (eq-eqb _ _ e);
}

based_other : {b : List ℕ} {n : ℕ} {ts : Trees} → (kind_of b n ≡ 8 → ⊥) → Stands b n (tree (node_of b n) ts) → Based b n (tree (node_of b n) ts)
unfolding look
based_other {b} {n} {ts} e h = record {
  tree = tree (node_of b n) ts;
  spells = subst (λ (j : ℕ). Stands b j (tree (node_of b n) ts)) (sym (at_other b n e)) h;
  same = λ E. base_other (look E (tree (node_of b n) ts)) (ne_eqb _ _ e);
}

based : {b : List ℕ} {n : ℕ} {t : Tree} → Stands b n t → Based b n t
based {b} {n} (stands {ts = ts} i h) =
    either (eqb (kind_of b n) 8)
    (λ e. let k : kind_of b n ≡ 8 = eqb-true _ _ e in based_cast k (subst (λ (j : ℕ). Shape b j n ts) k h))
    (λ e. based_other (eqb-false _ _ e) (stands i h))

-- ---- a struct through a pointer

evaluates_at : {b s r : List ℕ} {i j : ℕ} {w₀ o₀ : List ℕ} {q : Bool} {w o : List ℕ} → j ≡ i → Evaluates b s r j w₀ o₀ q w o → Evaluates b s r i w₀ o₀ q w o
evaluates_at {b} {s} {r} {w₀ = w₀} {o₀ = o₀} {q = q} {w = w} {o = o} e ev = subst (λ (n : ℕ). Evaluates b s r n w₀ o₀ q w o) e ev

struct_deref : (E : Env) (l : Term) (fs : Terms) → is Deref l ≡ true
    → assign_struct E l fs ≡ (eval (base_of (kid 0 (kids l))) >>= store_struct E (node (base_of (kid 0 (kids l)))).place fs)
unfolding assign_struct store_struct
struct_deref E l fs e = rw (e, assign_struct)

struct_odd : (E : Env) (l : Term) (fs : Terms) → is Deref l ≡ false → assign_struct E l fs ≡ fail (struct_to (node l).place)
unfolding assign_struct
struct_odd E l fs e = rw (e, assign_struct)

-- from what the base does
through : {b s r : List ℕ} {l : ℕ} (fs : Scene → Terms) {w₀ o₀ : List ℕ} {e : Ending Did} {w o : List ℕ} {t : Tree} → kind_of b l ≡ 9 → Stands b l t
    → ((c : Tree) → Stands b (base_at b (l + 1)) c → Goes (given b s r) (λ x. eval (look x.env c) >>= store_struct x.env (base_at b (l + 1)) (fs x)) w₀ o₀ e w o)
    → Goes (given b s r) (λ x. assign_struct x.env (look x.env t) (fs x)) w₀ o₀ e w o
unfolding look kid
through {b} {s} {r} {l} fs {w₀} {o₀} {e} {w} {o} k (stands {ts = ts} i h) f = acts (λ _ x _. struct_deref x.env _ (fs x) (eq-eqb _ _ k)) (from (subst (λ (j : ℕ). Shape b j l ts) k h))
  where
    from_base : (c : Tree) → Stands b (l + 1) c
        → Goes (given b s r) (λ x. eval (base_of (look x.env c)) >>= store_struct x.env (node (base_of (look x.env c))).place (fs x)) w₀ o₀ e w o
    from_base c q = let z = based q in
        acts
        (λ _ x _. ap (λ (y : Term). eval y >>= store_struct x.env (node y).place (fs x)) (z.same x.env)
        ∙ ap (λ (j : ℕ). eval (look x.env z.tree) >>= store_struct x.env j (fs x)) (place_of x.env z.spells))
        (f z.tree z.spells)

    from : {us : Trees} → Shape b 9 l us
        → Goes (given b s r) (λ x. eval (base_of (kid 0 (looks x.env us))) >>= store_struct x.env (node (base_of (kid 0 (looks x.env us)))).place (fs x)) w₀ o₀ e w o
    from (a_deref {a = c} q z) = from_base c q

pub odd_struct : {b s r : List ℕ} {l m : ℕ} {w₀ o₀ : List ℕ} {k : ℕ} {d : Bool} {w : List ℕ} → k ≡ kind_of b l → (k ≡ 9 → ⊥) → GivesShort w₀ (Why StructTo l) d w
    → AssignsStruct b s r l m w₀ o₀ d w o₀
unfolding look
odd_struct {b} {s} {r} {l} {m} {w₀} {o₀} {k} {d} {w} p ne e = record { goes = λ t u h i. go t u h }
  where
    go : (t u : Tree) → Stands b l t → Goes (given b s r) (λ x. assign_struct x.env (look x.env t) (kids (look x.env u))) w₀ o₀ (told_end d w) w o₀
    go _ u (stands {ts = ts} i h) = acts (λ _ x _. struct_odd x.env _ _ (ne_eqb _ _ (λ z. ne (p ∙ z)))) (short_goes (told_in w) e refl)

module _ {b s r : List ℕ} {l m : ℕ} {w₀ o₀ : List ℕ} {k : ℕ} {j : ℕ} {q : Bool} {w₁ o₁ : List ℕ} (p : k ≡ kind_of b l) (k9 : k ≡ 9) (ej : j ≡ base_at b (l + 1)) (ev : Evaluates b s r j w₀ o₀ q w₁ o₁) where
  pub struct_assigns : {d : Bool} {w o : List ℕ} → q ≡ true → StoresStruct b s r j m (result_in w₁) w₁ o₁ d w o → AssignsStruct b s r l m w₀ o₀ d w o
  struct_assigns {d} {w} {o} eq e = record {
    goes = λ t u h i. through (λ x. kids (look x.env u)) (sym p ∙ k9) h
        (λ c z. goes (λ x. store_struct x.env (base_at b (l + 1)) (kids (look x.env u))) (ended_on (evaluates_at ej ev) eq z)
        ((subst (λ (i : ℕ). StoresStruct b s r i m (result_in w₁) w₁ o₁ d w o) ej e).goes u i));
  }

  pub struct_fails : q ≡ false → AssignsStruct b s r l m w₀ o₀ false w₁ o₁
  struct_fails eq = record {
    goes = λ t u h i. through (λ x. kids (look x.env u)) (sym p ∙ k9) h
        (λ c z. halts (λ x. store_struct x.env (base_at b (l + 1)) (kids (look x.env u))) _ (short_on (evaluates_at ej ev) eq z));
  }

-- ---- a struct to an address, the value that was read from the registers

on_known : (E : Env) (n : ℕ) (fs : Terms) (v : Val) → v.known ≡ true → store_struct E n fs v ≡ (store_fields E v.number fs >> done (did (fields_written v.number (count fs))))
unfolding store_struct
on_known E n fs v e = rw (e, store_struct)

on_unknown : (E : Env) (n : ℕ) (fs : Terms) (v : Val) → v.known ≡ false → store_struct E n fs v ≡ fail (unknown_address n)
unfolding store_struct
on_unknown E n fs v e = rw (e, store_struct)

count_size : (E : Env) (ts : Trees) → count (looks E ts) ≡ size ts
unfolding look count size
count_size E nil = refl
count_size E (cons t ts) = omega (arith, count_size E ts)

stores_read : {b s r : List ℕ} {n m : ℕ} {v : Val} {w₀ o₀ : List ℕ} {d : Bool} {w o : List ℕ} → v ≡ value_at (registers_part w₀) 0 → StoresStruct b s r n m v w₀ o₀ d w o
    → StoresStruct b s r n m (result_in w₀) w₀ o₀ d w o
stores_read {b} {s} {r} {n} {m} {v} {w₀} {o₀} {d} {w} {o} q e = subst (λ (z : Val). StoresStruct b s r n m z w₀ o₀ d w o) (sym (result_is w₀ q)) e

pub unknown_stores : {b s r : List ℕ} {n m : ℕ} {v : Val} {w₀ o₀ : List ℕ} {d : Bool} {w : List ℕ} → v ≡ value_at (registers_part w₀) 0 → v.known ≡ false → GivesShort w₀ (Why UnknownAddress n) d w
    → StoresStruct b s r n m (result_in w₀) w₀ o₀ d w o₀
unknown_stores {n = n} {v = v} {w = w} q e g = stores_read q (record { goes = λ u h. acts (λ _ x _. on_unknown x.env n _ v e) (short_goes (told_in w) g refl) })

module _ {b s r : List ℕ} {n m e : ℕ} {v : Val} {w₀ o₀ : List ℕ} {q : Bool} {w₁ o : List ℕ} (ev : v ≡ value_at (registers_part w₀) 0) (known : v.known ≡ true) (k : kind_of b m ≡ 17) (ee : e ≡ next b m)
    (ef : StoresFields b s r (m + 1) e v.number w₀ o₀ q w₁ o) where
  stored : {d : Bool} {w : List ℕ} → ((us : Trees) → FieldsAt b (m + 1) e us
      → Goes (given b s r) (λ x. store_fields x.env v.number (looks x.env us) >> done (did (fields_written v.number (count (looks x.env us))))) w₀ o₀ (told_end d w) w o)
      → StoresStruct b s r n m (result_in w₀) w₀ o₀ d w o
  unfolding look
  stored {d} {w} f = stores_read ev (record { goes = λ u h. go u h })
    where
      from : {us : Trees} → Shape b 17 m us → Goes (given b s r) (λ x. store_struct x.env n (looks x.env us) v) w₀ o₀ (told_end d w) w o
      from (a_struct {ts = us} z) = acts (λ _ x _. on_known x.env n _ v known) (f us (subst (λ (j : ℕ). FieldsAt b (m + 1) j us) (sym ee) z))

      go : (u : Tree) → Stands b m u → Goes (given b s r) (λ x. store_struct x.env n (kids (look x.env u)) v) w₀ o₀ (told_end d w) w o
      go _ (stands {ts = us} i h) = from (subst (λ (j : ℕ). Shape b j m us) k h)

  pub known_stores : {d : Bool} {w : List ℕ} → q ≡ true → Builds b (m + 1) e v.number w₁ d w → StoresStruct b s r n m (result_in w₀) w₀ o₀ d w o
  known_stores eq g = stored (λ us z. goes (λ x _. done (did (fields_written v.number (count (looks x.env us))))) (gave_on q tt (short_in w₁) eq (ef.goes us z))
      (acts (λ _ x _. ap (λ (j : ℕ). done (did (fields_written v.number j))) (count_size x.env us)) (tells_goes (g.tells us z))))

  pub known_fails : q ≡ false → StoresStruct b s r n m (result_in w₀) w₀ o₀ false w₁ o
  known_fails eq = stored (λ us z. halts (λ x _. done (did (fields_written v.number (count (looks x.env us))))) _ (fell_on q tt (short_in w₁) eq (ef.goes us z)))

-- ---- its fields

abbrev fields_act : Scene → ℕ → Trees → Act (Unit {0})
fields_act x address ts = store_fields x.env address (looks x.env ts)

fields_none : {b s r : List ℕ} {n e : ℕ} (address : ℕ) {w o : List ℕ} {ts : Trees} → FieldsAt b n e ts → n ≡ e → Goes (given b s r) (λ x. fields_act x address ts) w o (ended tt) w o
unfolding look store_fields
fields_none address no_field e = done_goes (λ _. tt) (λ _ x h. refl)
fields_none address (a_field lt i k l h z f) e = absurd (omega (arith, lt, e))

pub fields_end : {b s r : List ℕ} {n e address : ℕ} {w o : List ℕ} → n ≡ e → StoresFields b s r n e address w o true w o
fields_end {address = address} e = record { goes = λ ts h. fields_none address h e }

-- what is ready after a store
stored_goes : (g : How → Given) (o : List ℕ) {m : Act (Unit {0})} {w₀ w : List ℕ} (u : Bool) → Works m w₀ (unit_in u w) w → u ≡ true → Goes g (λ x. m) w₀ o (ended tt) w o
stored_goes g o {w = w} u e eu = gave_on u tt (short_in w) eu (e.goes g o)

pub works_ready : {g : How → Given} {m : Act (Unit {0})} {w₀ w : List ℕ} (u : Bool) → ReadyIn g w₀ → Works m w₀ (unit_in u w) w → u ≡ true → ReadyIn g w
works_ready {g} u ready e eu = ready_after (stored_goes g [] u e eu) ready

module _ {b s r : List ℕ} {w₀ o₀ : List ℕ} {q : Bool} {w₁ o₁ : List ℕ} (address : ℕ) where
  fields_stop : {n e : ℕ} {ts : Trees} → FieldsAt b n e ts → (n ≡ e → ⊥) → Evaluates b s r (n + 1) w₀ o₀ q w₁ o₁ → q ≡ false
      → Goes (given b s r) (λ x. fields_act x address ts) w₀ o₀ (short (short_of (short_in w₁))) w₁ o₁
  unfolding look store_fields kid
  fields_stop no_field ne ev eq = absurd (ne refl)
  fields_stop (a_field lt i k l h z f) ne ev eq = halts _ _ (short_on ev eq h)

  -- the first is stored with the type that the tables tell, and then the others
  fields_first : {n e : ℕ} {ts : Trees} {z : Ending (Unit {0})} {w o : List ℕ} → FieldsAt b n e ts → (n ≡ e → ⊥) → Evaluates b s r (n + 1) w₀ o₀ q w₁ o₁ → q ≡ true
      → ((us : Trees) → FieldsAt b (next b n) e us
      → Goes (given b s r) (λ x. store_field address (value_of b n) (type_at (tables w₁) (ref_of b n)) (result_in w₁) >> fields_act x address us) w₁ o₁ z w o)
      → Goes (given b s r) (λ x. fields_act x address ts) w₀ o₀ z w o
  unfolding look store_fields store_field kid
  fields_first no_field ne ev eq f = absurd (ne refl)
  fields_first {n} (a_field {ts = us} lt i k l h y fs) ne ev eq f =
      goes _ (ended_on ev eq h) (acts (λ _ x m. ap (λ (t : Ty). store_field address (value_of b n) t (result_in w₁) >> fields_act x address us) (sym (m.types (ref_of b n) l))) (f us fs))

module _ {b s r : List ℕ} {n e address : ℕ} {w₀ o₀ : List ℕ} {q : Bool} {w₁ o₁ : List ℕ} (ne : n ≡ e → ⊥) (ev : Evaluates b s r (n + 1) w₀ o₀ q w₁ o₁) where
  pub fields_short : q ≡ false → StoresFields b s r n e address w₀ o₀ false w₁ o₁
  fields_short eq = record { goes = λ ts h. fields_stop address h ne ev eq }

  module _ {w₂ : List ℕ} (eq : q ≡ true) (u : Bool) (st : Works (store_field address (value_of b n) (type_at (tables w₁) (ref_of b n)) (result_in w₁)) w₁ (unit_in u w₂) w₂) where
    pub field_short : u ≡ false → StoresFields b s r n e address w₀ o₀ false w₂ o₁
    field_short eu = record { goes = λ ts h. fields_first address h ne ev eq (λ us fs. halts (λ x _. fields_act x address us) _ (fell_on u tt (short_in w₂) eu (st.goes (given b s r) o₁))) }

    pub fields_store : {m : ℕ} {d : Bool} {w o : List ℕ} → u ≡ true → m ≡ next b n → StoresFields b s r m e address w₂ o₁ d w o → StoresFields b s r n e address w₀ o₀ d w o
    fields_store {d = d} {w = w} {o = o} eu em more = record {
      goes = λ ts h. fields_first address h ne ev eq
          (λ us fs. goes (λ x _. fields_act x address us) (stored_goes (given b s r) o₁ u st eu) ((subst (λ (j : ℕ). StoresFields b s r j e address w₂ o₁ d w o) em more).goes us fs));
    }
