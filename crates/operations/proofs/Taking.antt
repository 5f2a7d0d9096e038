-- What a Call does once its arguments have values, from what the code did for it: the world asked, the locals taken. Assumes nothing.
use Rattle.std.proofs.Common.{◌≡◌, ℕ, zero, suc, ◌+◌, ◌*◌, ◌^◌, ◌<◌, ◌≤◌, Bool, true, false, eqb, List, [], ◌∷◌, ◌++◌, map, length, take, sym, refl, ap, ◌∙◌, subst, ap₂, append_assoc, append-nil, mod-eq_of_lt, arith, length-append, take_all, eq-eqb, ne_eqb}
use Rattle.std.specs.Prelude.{Option, None, Some}
use Rattle.layout.specs.Each.{Each}
use Rattle.layout.specs.Format.{writes}
use Rattle.value.specs.declared.Ty.{Ty}
use Rattle.value.specs.declared.Val.{Val}
use Rattle.value.specs.Value.{unknown_val}
use Rattle.memory.specs.Overlay.{Overlay, store}
use Rattle.files.specs.Nodes.{kind_of, ref_of, value_of}
use Rattle.files.specs.Program.{Tree, tree, Trees, node_of}
use Rattle.files.specs.declared.kinds.Kind.TheVariants.{FunctionName, AddressOf, Var}
use Rattle.files.specs.Spells.{next}
use Rattle.definition.specs.Question.{World, Calling, call_to, cut, cut_val}
use Rattle.definition.specs.Act.{Act, done, ask, set, leave, End, gave, ◌>>=◌}
use Rattle.value.specs.Encoding.{val, Whole}
use Rattle.definition.specs.Term.{Term, Terms, no_terms, more_terms, node, is, kid, kids, rest, nothing}
use Rattle.definition.specs.Evaluate.{Env, look, looks, followed, taken_by, take_names}
use Rattle.definition.specs.Walk.{follow_at}
use Rattle.definition.specs.Host.{hosted}
use Rattle.definition.proofs.Hosts.{go_on_from, hosted_bind}
use Rattle.stream.specs.Pieces.{question_bytes, call_entry, call_bytes}
use Rattle.stream.proofs.QuestionLaws.{call_bytes_lem}
use Rattle.workspace.specs.Parts.{tables, note_part, registers_part, questions_part}
use Rattle.workspace.specs.Note.{pending_in, with_name, Open}
use Rattle.workspace.specs.Registers.{word_at}
use Rattle.workspace.specs.Types.{declared_at}
use Rattle.workspace.specs.View.{View, view, Fit, Changes, setting, leaving, noting}
use Rattle.hosting.specs.declared.How.{How}
use Rattle.hosting.specs.declared.Counts.{Counts}
use Rattle.hosting.specs.Scene.{Given, given, Ready}
use Rattle.hosting.specs.Held.{Held, held, code_host, with_view}
use Rattle.hosting.specs.Stands.{Stands, stands, Shape, an_address, a_call, KidsAt, no_kid, a_kid, Fine, FineArgs}
use Rattle.hosting.specs.Ending.{ended}
use Rattle.hosting.specs.Runs.{Runs}
use Rattle.operations.specs.Registers.{counts_in, how_in, short_in, end_in}
use Rattle.operations.specs.Going.{Goes}
use Rattle.operations.specs.Steps.{Gives}
use Rattle.operations.specs.Asking.{Sends, Asks}
use Rattle.operations.specs.Taking.{ValuesIn, Follows, NoteOpen, take_view, take_views, Declared, OneName, Takes, TakesAll, after_args, Calls}
use Rattle.hosting.proofs.Running as running
use Rattle.hosting.proofs.Shapes.{room, same_kind, var_name, address_kid, arg_here, args_more, args_few}
use Rattle.hosting.proofs.Keeping.{kept_ready}
use Rattle.operations.proofs.Going.{done_goes, goes, acts, told, by_true, beside_after}
use Rattle.operations.proofs.Registers.{counts_same, units_same, how_same, depth_word}
use Rattle.operations.proofs.Asking.{sends_asks, asks_goes}

-- ---- the call is asked of the world

cut_val_lem : (v : Val) → Whole v → cut_val v ≡ v
cut_val_lem v h = ap₂ (λ (b n : ℕ). record { known = v.known; signed = v.signed; bits = b; number = n }) (mod-eq_of_lt h.bits) (mod-eq_of_lt h.number)

cut_vals : (vs : List Val) → Each Whole vs → map cut_val vs ≡ vs
cut_vals [] h = refl
cut_vals (v ∷ vs) h = ap₂ (λ (u : Val) (us : List Val). u ∷ us) (cut_val_lem v h.0) (cut_vals vs h.1)

call_fits : (name address : ℕ) (vs : List Val) → name < 65536 → address < 2 ^ 64 → length vs ≤ 16 → Each Whole vs
    → cut call_to (record { name = name; address = address; depth = 1; values = vs }) ≡ record { name = name; address = address; depth = 1; values = vs }
unfolding cut
call_fits name address vs hn ha l h =
    ap₂ (λ (n m : ℕ). record { name = n; address = m; depth = 1; values = take 255 (map cut_val vs) }) (mod-eq_of_lt (omega arith)) (mod-eq_of_lt (omega arith))
    ∙ ap (λ (us : List Val). record { name = name; address = address; depth = 1; values = us }) (ap (take 255) (cut_vals vs h) ∙ take_all 255 vs (omega arith))

follow_other : (E : Env) (t : Term) (vs : List Val) → is FunctionName t ≡ false → followed E t vs ≡ done None
unfolding followed
follow_other E t vs e = rw (e, followed)

follow_name : (E : Env) (t : Term) (vs : List Val) → is FunctionName t ≡ true → followed E t vs ≡ E.follow (node t).ref (node t).value vs
unfolding followed
follow_name E t vs e = rw (e, followed)

-- the depth limit
follow_zero : (d name address : ℕ) (vs : List Val) → d ≡ 0 → follow_at d name address vs ≡ done None
unfolding follow_at
follow_zero zero name address vs e = refl
follow_zero (suc d) name address vs e = absurd (omega (arith, e))

follow_more : (d name address : ℕ) (vs : List Val) → (d ≡ 0 → ⊥) → follow_at d name address vs ≡ ask call_to (record { name = name; address = address; depth = 1; values = vs }) (λ _. done None)
unfolding follow_at
follow_more zero name address vs e = absurd (e refl)
follow_more (suc d) name address vs e = refl

module _ {nodes vals : List ℕ} {count n k : ℕ} {w o : List ℕ} (p : k ≡ kind_of nodes n) where
  pub follows_none : (k ≡ 4 → ⊥) → Follows nodes vals count n w o w o
  unfolding look
  follows_none ne = record { goes = λ symbols regions vs h t st. go symbols regions vs t st }
    where
      go : (symbols regions : List ℕ) (vs : List Val) (t : Tree) → Stands nodes n t → Goes (given nodes symbols regions) (λ x. followed x.env (look x.env t) vs) w o (ended None) w o
      go symbols regions vs _ (stands {ts = ts} i h) = acts (λ _ x _. follow_other x.env _ vs (ne_eqb _ _ (λ z. ne (p ∙ z)))) (done_goes (λ _. None) (λ _ x m. refl))

  module _ (k4 : k ≡ 4) where
    -- the environment follows as the depth limit says
    from_follow : {w' o' : List ℕ} → ((symbols regions : List ℕ) (vs : List Val) → ValuesIn vals 0 count vs
        → Goes (given nodes symbols regions) (λ x. follow_at (how_in w).depth (ref_of nodes n) (value_of nodes n) vs) w o (ended None) w' o') → Follows nodes vals count n w o w' o'
    unfolding look
    from_follow {w'} {o'} f = record { goes = λ symbols regions vs h t st. go symbols regions vs h t st }
      where
        go : (symbols regions : List ℕ) (vs : List Val) → ValuesIn vals 0 count vs → (t : Tree) → Stands nodes n t
            → Goes (given nodes symbols regions) (λ x. followed x.env (look x.env t) vs) w o (ended None) w' o'
        go symbols regions vs v _ (stands {ts = ts} i h) =
            let r = f symbols regions vs v in
            record {
              how = r.how;
              units = r.units;
              runs = λ how e q. running.acts
                  (λ x m. follow_name x.env (look x.env (tree (node_of nodes n) ts)) vs (eq-eqb _ _ (sym p ∙ k4))
                  ∙ ap (λ (z : (name address : ℕ) → List Val → Act (Option Val)). z (ref_of nodes n) (value_of nodes n) vs) m.follow
                  ∙ ap (λ (z : How). follow_at z.depth (ref_of nodes n) (value_of nodes n) vs) (sym e))
                  (r.runs how e q);
            }

    module _ {d : ℕ} (ed : d ≡ word_at (registers_part w) 6) where
      pub follows_limit : d ≡ 0 → Follows nodes vals count n w o w o
      follows_limit z = from_follow (λ symbols regions vs h.
          acts (λ _ x _. follow_zero (how_in w).depth (ref_of nodes n) (value_of nodes n) vs (sym (ed ∙ depth_word w) ∙ z)) (done_goes (λ _. None) (λ _ x m. refl)))

      pub follows_asked : {name address : ℕ} {w' o' : List ℕ} → (d ≡ 0 → ⊥) → count ≤ 16 → name ≡ ref_of nodes n → name < 65536 → address ≡ value_of nodes n → address < 2 ^ 64
          → Sends (call_bytes name address 1 count (take (14 * count) vals)) w o w' o' → Follows nodes vals count n w o w' o'
      follows_asked {name} {address} {w'} {o'} nz few en ln ea la s = from_follow (λ symbols regions vs h. go symbols regions vs h)
        where
          bytes : (vs : List Val) → ValuesIn vals 0 count vs → take (14 * count) vals ≡ writes val vs
          bytes vs h = ap (λ (j : ℕ). take j vals) (swap count) ∙ h.bytes
            where
              swap : (m : ℕ) → 14 * m ≡ m * 14
              swap m = omega arith

          go : (symbols regions : List ℕ) (vs : List Val) → ValuesIn vals 0 count vs
              → Goes (given nodes symbols regions) (λ x. follow_at (how_in w).depth (ref_of nodes n) (value_of nodes n) vs) w o (ended None) w' o'
          go symbols regions vs h =
              let q : Calling = record { name = name; address = address; depth = 1; values = vs } in
              let fits : cut call_to q ≡ q = call_fits name address vs ln la (omega (arith, h.many)) h.whole in
              let sent : Sends (question_bytes (call_entry name address 1 vs)) w o w' o' =
              subst (λ (l : List ℕ). Sends l w o w' o') (call_bytes_lem name address 1 count (take (14 * count) vals) vs h.many (bytes vs h)) s in
              let asks : Asks (given nodes symbols regions) call_to q tt w o w' o' =
              sends_asks (call_entry name address 1 vs) (λ _ x m. refl) (ap (λ (z : Calling). (call_to, (z, tt))) (sym fits)) sent in
              acts (λ _ x _. follow_more (how_in w).depth (ref_of nodes n) (value_of nodes n) vs (λ z. nz (ed ∙ depth_word w ∙ z))
              ∙ ap₂ (λ (i j : ℕ). ask call_to (record { name = i; address = j; depth = 1; values = vs }) (λ _. done None)) (sym en) (sym ea))
              (asks_goes (λ x z. done None) asks (done_goes (λ _. None) (λ _ x m. refl)))

-- ---- one argument

abbrev taken_if : Bool → ℕ → Option Ty → Option (ℕ × Ty)
taken_if z x d = elim z [ true ↦ elim d [ None ↦ None | Some y ↦ Some (x, y) ] | false ↦ None ]

taken_other : (E : Env) (t : Term) → is AddressOf t ≡ false → taken_by E t ≡ None
taken_other E t e = rw (e, taken_by)

taken_address : (E : Env) (t : Term) → is AddressOf t ≡ true → taken_by E t ≡ taken_if (is Var (kid 0 (kids t))) (node (kid 0 (kids t))).ref (E.declared (node (kid 0 (kids t))).ref)
taken_address E t e = rw (e, taken_by)

-- the child of an AddressOf
taken_under : (E : Env) {b : List ℕ} {n : ℕ} {t : Tree} → kind_of b n ≡ 10 → Stands b n t
    → taken_by E (look E t) ≡ taken_if (eqb (kind_of b (n + 1)) 1) (ref_of b (n + 1)) (E.declared (ref_of b (n + 1)))
unfolding look kid
taken_under E {b} {n} k (stands {ts = ts} i h) = taken_address E (look E (tree (node_of b n) ts)) (eq-eqb _ _ k) ∙ from (subst (λ (j : ℕ). Shape b j n ts) k h)
  where
    of : {u : Tree} → Stands b (n + 1) u → taken_if (is Var (look E u)) (node (look E u)).ref (E.declared (node (look E u)).ref) ≡ taken_if (eqb (kind_of b (n + 1)) 1) (ref_of b (n + 1)) (E.declared (ref_of b (n + 1)))
    of (stands j g) = refl

    from : {us : Trees} → Shape b 10 n us → taken_if (is Var (kid 0 (looks E us))) (node (kid 0 (looks E us))).ref (E.declared (node (kid 0 (looks E us))).ref) ≡ taken_if (eqb (kind_of b (n + 1)) 1) (ref_of b (n + 1)) (E.declared (ref_of b (n + 1)))
    from (an_address q e) = of q

no_more : (xs : List ℕ) {p : Option (List ℕ)} → p ≡ Some xs → OneName xs p
no_more xs e = record { names = xs; noted = e; most = omega arith }

-- nothing is taken
nothing_taken : {b : List ℕ} {n : ℕ} {w : List ℕ} → ((E : Env) → Declared (tables w) E → (t : Tree) → Stands b n t → taken_by E (look E t) ≡ None) → Takes b n w w
nothing_taken {w = w} f = record {
  holds = λ E d t h stored. ap (λ (z : Option (ℕ × Ty)). take_view z (view w stored)) (sym (f E d t h));
  tables = refl;
  fit = λ stored h. h;
  size = refl;
  registers = refl;
  questions = refl;
  note = λ xs e. no_more xs e;
}

other_under : (E : Env) {b : List ℕ} {n : ℕ} {t : Tree} → (kind_of b n ≡ 10 → ⊥) → Stands b n t → taken_by E (look E t) ≡ None
unfolding look
other_under E {b} {n} ne (stands {ts = ts} i h) = taken_other E (look E (tree (node_of b n) ts)) (ne_eqb _ _ ne)

-- what an AddressOf that was read and tested stands over
module _ {b : List ℕ} {n k : ℕ} (fine : Fine b n) (p : k ≡ kind_of b n) (k10 : k ≡ 10) where
  under : Fine b (n + 1)
  under = address_kid (same_kind p k10) fine

  pub under_room : (n + 1) * 20 + 20 ≤ length b
  under_room = room under

  pub under_below : {j name : ℕ} → j ≡ kind_of b (n + 1) → j ≡ 1 → name ≡ ref_of b (n + 1) → name < 512
  under_below q j1 en = rw en (var_name (same_kind q j1) under)

module _ {b : List ℕ} {n k : ℕ} (w : List ℕ) (p : k ≡ kind_of b n) where
  pub takes_other : (k ≡ 10 → ⊥) → Takes b n w w
  takes_other ne = nothing_taken (λ E d t h. other_under E (λ z. ne (p ∙ z)) h)

  module _ (k10 : k ≡ 10) {j : ℕ} (q : j ≡ kind_of b (n + 1)) where
    pub takes_no_name : (j ≡ 1 → ⊥) → Takes b n w w
    takes_no_name ne = nothing_taken (λ E d t h. taken_under E (same_kind p k10) h
        ∙ ap (λ (z : Bool). taken_if z (ref_of b (n + 1)) (E.declared (ref_of b (n + 1)))) (ne_eqb (kind_of b (n + 1)) 1 (λ z. ne (q ∙ z))))

    module _ (j1 : j ≡ 1) (fine : Fine b n) {name : ℕ} (en : name ≡ ref_of b (n + 1)) {d : Option Ty} (ed : d ≡ declared_at (tables w) name) where
      named : (E : Env) → Declared (tables w) E → {t : Tree} → Stands b n t → taken_by E (look E t) ≡ taken_if true name (declared_at (tables w) name)
      named E decl h =
          taken_under E (same_kind p k10) h
          ∙ ap (λ (z : Bool). taken_if z (ref_of b (n + 1)) (E.declared (ref_of b (n + 1)))) (eq-eqb (kind_of b (n + 1)) 1 (same_kind q j1))
          ∙ ap (taken_if true (ref_of b (n + 1))) (sym (decl (ref_of b (n + 1)) (under_below fine p k10 q j1 refl)))
          ∙ ap (λ (i : ℕ). taken_if true i (declared_at (tables w) i)) (sym en)

      pub takes_undeclared : d ≡ None → Takes b n w w
      takes_undeclared e = nothing_taken (λ E decl t h. named E decl h ∙ ap (taken_if true name) (sym (sym e ∙ ed)))

      pub takes_local : {t : Ty} {v : Val} {w₁ w₂ : List ℕ} → d ≡ Some t → v ≡ unknown_val t → Changes w (setting name v) w₁ → Changes w₁ (noting name) w₂ → Takes b n w w₂
      unfolding view
      takes_local e ev c₁ c₂ = record {
        holds = λ E decl u h stored.
            c₂.holds stored ∙ ap (noting name) (c₁.holds stored ∙ ap (λ (y : Val). setting name y (view w stored)) ev)
            ∙ ap (λ (z : Option (ℕ × Ty)). take_view z (view w stored)) (sym (named E decl h ∙ ap (taken_if true name) (sym (sym e ∙ ed))));
        tables = c₂.tables ∙ c₁.tables;
        fit = λ stored h. c₂.fit stored (c₁.fit stored h);
        size = c₂.size ∙ c₁.size;
        registers = c₂.registers ∙ c₁.registers;
        questions = c₂.questions ∙ c₁.questions;
        note = λ xs h. record {
          names = xs ++ (name ∷ []);
          noted = ap (λ (z : View). z.pending) (c₂.holds 0 ∙ ap (noting name) (c₁.holds 0)) ∙ ap (with_name name) h;
          most = omega (arith, length-append xs (name ∷ []));
        };
      }

-- a change that leaves the note as it was
pub still_open : {w w' : List ℕ} {f : View → View} → Changes w f w' → ((v : View) → (f v).pending ≡ v.pending) → NoteOpen w → NoteOpen w'
unfolding view
still_open {w} c e h = subst Open (sym (ap (λ (z : View). z.pending) (c.holds 0) ∙ e (view w 0))) h

-- ---- each of them

-- what is still to be done, of the trees that the arguments are
pub record Undone (b : List ℕ) (e i : ℕ) (E : Env) (was : ℕ → View) (w' : List ℕ) : Type 0 where
  pub trees : Trees
  pub spells : KidsAt b i e trees
  pub same : (stored : ℕ) → was stored ≡ take_views E (looks E trees) (view w' stored)

-- so far, in the note that was new in the workspace w: the arguments left, with room for their names
pub record SoFar (b : List ℕ) (first e : ℕ) (w : List ℕ) (i : ℕ) (w' : List ℕ) : Type 0 where
  pub count : ℕ
  pub left : FineArgs b i e count
  pub names : List ℕ
  pub noted : pending_in (note_part w') ≡ Some names
  pub few : length names ≤ count
  pub undone : (E : Env) → Declared (tables w) E → (ts : Trees) → KidsAt b first e ts → Undone b e i E (λ stored. take_views E (looks E ts) (view w stored)) w'
  pub tables : tables w' ≡ tables w
  pub fit : (stored : ℕ) → Fit w stored → Fit w' stored
  pub size : length w' ≡ length w
  pub registers : registers_part w' ≡ registers_part w
  pub questions : questions_part w' ≡ questions_part w

pub so_far_start : {b : List ℕ} {first e : ℕ} {w₀ w : List ℕ} → FineArgs b first e 0 → Changes w₀ (leaving (Some [])) w → SoFar b first e w first w
unfolding view
so_far_start f c = record {
  count = 0;
  left = f;
  names = [];
  noted = ap (λ (z : View). z.pending) (c.holds 0);
  few = omega arith;
  undone = λ E d ts h. record { trees = ts; spells = h; same = λ stored. refl };
  tables = refl;
  fit = λ stored h. h;
  size = refl;
  registers = refl;
  questions = refl;
}

undone_next : {b : List ℕ} {e i : ℕ} (E : Env) {was : ℕ → View} (w' w'' : List ℕ) {ts : Trees} → (i ≡ e → ⊥) → KidsAt b i e ts → ((stored : ℕ) → was stored ≡ take_views E (looks E ts) (view w' stored))
    → ((t : Tree) → Stands b i t → (stored : ℕ) → view w'' stored ≡ take_view (taken_by E (look E t)) (view w' stored)) → Undone b e (next b i) E was w''
unfolding look
undone_next E w' w'' more no_kid f g = absurd (more refl)
undone_next E w' w'' more (a_kid {t = t} {ts = us} lt h ks) f g = record { trees = us; spells = ks; same = λ stored. f stored ∙ ap (take_views E (looks E us)) (sym (g t h stored)) }

undone_end : {b : List ℕ} {e i : ℕ} (E : Env) {was : ℕ → View} (w' : List ℕ) {ts : Trees} → e ≤ i → KidsAt b i e ts → ((stored : ℕ) → was stored ≡ take_views E (looks E ts) (view w' stored))
    → (stored : ℕ) → view w' stored ≡ was stored
unfolding look
undone_end E w' l no_kid f stored = sym (f stored)
undone_end E w' l (a_kid lt h ks) f stored = absurd (omega (arith, lt, l))

module _ {b : List ℕ} {first e i : ℕ} {w w' : List ℕ} (s : SoFar b first e w i w') where
  -- one is left: it stands there, and the note has room for its name
  module _ (more : i ≡ e → ⊥) where
    pub so_far_open : NoteOpen w'
    so_far_open = subst Open (sym s.noted) (omega (arith, s.few, args_few more s.left))

    pub so_far_fine : Fine b i
    so_far_fine = arg_here more s.left

    pub so_far_more : {j : ℕ} {w'' : List ℕ} → Takes b i w' w'' → j ≡ next b i → SoFar b first e w j w''
    so_far_more {j} {w''} t ej =
        let note = t.note s.names s.noted in
        record {
          count = s.count + 1;
          left = args_more more s.left ej;
          names = note.names;
          noted = note.noted;
          few = omega (arith, s.few, note.most);
          undone = λ E d ts h.
              let u = s.undone E d ts h in
              let d' : Declared (tables w') E = subst (λ (z : List ℕ). Declared z E) (sym s.tables) d in
              subst (λ (m : ℕ). Undone b e m E (λ stored. take_views E (looks E ts) (view w stored)) w'') (sym ej) (undone_next E w' w'' more u.spells u.same (t.holds E d'));
          tables = t.tables ∙ s.tables;
          fit = λ stored h. t.fit stored (s.fit stored h);
          size = t.size ∙ s.size;
          registers = t.registers ∙ s.registers;
          questions = t.questions ∙ s.questions;
        }

  pub so_far_end : {w₀ : List ℕ} → e ≤ i → Changes w₀ (leaving (Some [])) w → TakesAll b first e w₀ w'
  so_far_end l c = record {
    holds = λ E d ts h stored.
        let u = s.undone E (subst (λ (z : List ℕ). Declared z E) (sym c.tables) d) ts h in
        undone_end E w' l u.spells u.same stored ∙ ap (take_views E (looks E ts)) (c.holds stored);
    tables = s.tables ∙ c.tables;
    fit = λ stored h. s.fit stored (c.fit stored h);
    size = s.size ∙ c.size;
    registers = s.registers ∙ c.registers;
    questions = s.questions ∙ c.questions;
  }

-- ---- the definition's taking

abbrev names_in : Env → Terms → List ℕ
names_in E no_terms = []
names_in E (more_terms t ts) = elim (taken_by E t) [ None ↦ names_in E ts | Some p ↦ p.0 ∷ names_in E ts ]

abbrev variables_after : Env → Terms → Overlay Val → Overlay Val
variables_after E no_terms m = m
variables_after E (more_terms t ts) m = elim (taken_by E t) [ None ↦ variables_after E ts m | Some p ↦ variables_after E ts (store p.0 (unknown_val p.1) m) ]

abbrev with_taken : Env → Terms → View → View
with_taken E ts v = record { variables = variables_after E ts v.variables; memory = v.memory; pending = v.pending }

module _ (W : World) (second : Bool) (E : Env) where
  take_hosted : (ts : Terms) (s : Held) → hosted (code_host W second) (take_names E ts) s ≡ (gave (names_in E ts), with_view (with_taken E ts s.view) s)
  unfolding hosted code_host take_names
  take_hosted no_terms s = refl
  take_hosted (more_terms t ts) s = go (taken_by E t) (take_hosted ts)
    where
      go : (z : Option (ℕ × Ty)) → ((s' : Held) → hosted (code_host W second) (take_names E ts) s' ≡ (gave (names_in E ts), with_view (with_taken E ts s'.view) s'))
          → hosted {A = List ℕ} (code_host W second) (elim z [ None ↦ take_names E ts | Some p ↦ set p.0 (unknown_val p.1) (take_names E ts >>= λ xs. done (p.0 ∷ xs)) ]) s
          ≡ (
            gave (elim z [ None ↦ names_in E ts | Some p ↦ p.0 ∷ names_in E ts ]),
            with_view (record { variables = elim z [ None ↦ variables_after E ts s.view.variables | Some p ↦ variables_after E ts (store p.0 (unknown_val p.1) s.view.variables) ]; memory = s.view.memory; pending = s.view.pending }) s,
          )
      go None rest = rest s
      go (Some p) rest =
          let s₁ = with_view (setting p.0 (unknown_val p.1) s.view) s in
          hosted_bind (code_host W second) (λ xs. done (p.0 ∷ xs)) (take_names E ts) s₁
          ∙ ap (λ (y : End (List ℕ) × Held). go_on_from y.0 y.1 (λ xs s'. hosted (code_host W second) (done (p.0 ∷ xs)) s')) (rest s₁)

-- what is done to a view with a note comes to the same
taken_views : (E : Env) (ts : Terms) (ys : List ℕ) (vs : Overlay Val) (v : View)
    → take_views E ts (record { variables = vs; memory = v.memory; pending = Some ys }) ≡ record { variables = variables_after E ts vs; memory = v.memory; pending = Some (ys ++ names_in E ts) }
taken_views E no_terms ys vs v = ap (λ (l : List ℕ). record { variables = vs; memory = v.memory; pending = Some l }) (sym (append-nil ys))
taken_views E (more_terms t ts) ys vs v = go (taken_by E t) (λ ys' vs'. taken_views E ts ys' vs' v)
  where
    go : (z : Option (ℕ × Ty))
        → ((ys' : List ℕ) (vs' : Overlay Val) → take_views E ts (record { variables = vs'; memory = v.memory; pending = Some ys' }) ≡ record { variables = variables_after E ts vs'; memory = v.memory; pending = Some (ys' ++ names_in E ts) })
        → take_views E ts (take_view z (record { variables = vs; memory = v.memory; pending = Some ys }))
        ≡ record {
          variables = elim z [ None ↦ variables_after E ts vs | Some p ↦ variables_after E ts (store p.0 (unknown_val p.1) vs) ];
          memory = v.memory;
          pending = Some (ys ++ elim z [ None ↦ names_in E ts | Some p ↦ p.0 ∷ names_in E ts ]);
        }
    go None rest = rest ys vs
    go (Some p) rest =
        rest (ys ++ (p.0 ∷ [])) (store p.0 (unknown_val p.1) vs)
        ∙ ap (λ (l : List ℕ). record { variables = variables_after E ts (store p.0 (unknown_val p.1) vs); memory = v.memory; pending = Some l }) (append_assoc ys (p.0 ∷ []) (names_in E ts))

abbrev take_act : Env → Terms → Act Val
take_act E ts = take_names E ts >>= λ taken. leave (Some taken) (done nothing)

take_act_hosted : (W : World) (second : Bool) (E : Env) (ts : Terms) (s : Held)
    → hosted (code_host W second) (take_act E ts) s ≡ (gave nothing, with_view (take_views E ts (leaving (Some []) s.view)) s)
unfolding hosted code_host
take_act_hosted W second E ts s =
    hosted_bind (code_host W second) (λ taken. leave (Some taken) (done nothing)) (take_names E ts) s
    ∙ ap (λ (y : End (List ℕ) × Held). go_on_from y.0 y.1 (λ xs s'. hosted (code_host W second) (leave (Some xs) (done nothing)) s')) (take_hosted W second E ts s)
    ∙ ap (λ (v : View). (gave nothing, with_view v s)) (sym (taken_views E ts [] s.view.variables s.view))

take_runs : {g : Given} {n e : ℕ} {w w' o : List ℕ} {a : Counts} {ts : Trees} → TakesAll g.nodes n e w w' → KidsAt g.nodes n e ts → Ready g w a
    → Runs g (λ x. take_act x.env (looks x.env ts)) w o a (ended nothing) w' o a
unfolding held
take_runs {g} {n} {e} {w} {w'} {o} {a} {ts} t h p = record {
  ready = kept_ready t.tables (t.fit a.stored p.fit) p;
  came = λ x m. take_act_hosted x.world g.how.second x.env (looks x.env ts) (held w o a)
      ∙ ap₂ (λ (v : View) (q : List ℕ). (gave nothing, record { view = v; out = o; questions = q; tally = a.tally })) (sym (t.holds x.env m.declared ts h a.stored)) (sym t.questions);
  tables = t.tables;
}

module _ {nodes : List ℕ} (symbols regions : List ℕ) {n e : ℕ} {w w' o : List ℕ} {ts : Trees} (t : TakesAll nodes n e w w') (h : KidsAt nodes n e ts) where
  taken_goes : Goes (given nodes symbols regions) (λ x. take_act x.env (looks x.env ts)) w o (ended nothing) w' o
  taken_goes = record {
    how = how_same w w' t.registers;
    units = units_same w w' t.registers;
    runs = λ how _ p. subst (λ (a : Counts). Runs (given nodes symbols regions how) (λ x. take_act x.env (looks x.env ts)) w o (counts_in w) (ended nothing) w' o a) (sym (counts_same w w' t.registers)) (take_runs t h p);
  }

-- ---- the call

pub called_does : {nodes vals : List ℕ} {count n first e : ℕ} {w o w₁ o₁ w₂ : List ℕ} {r : Bool} {w' : List ℕ} → kind_of nodes n ≡ 14 → first ≡ next nodes (n + 1) → e ≡ next nodes n
    → Follows nodes vals count (n + 1) w o w₁ o₁ → TakesAll nodes first e w₁ w₂ → Gives w₂ nothing r w' → Calls nodes vals count n w o r w' o₁
unfolding look kid after_args
called_does {nodes} {vals} {count} {n} {first} {e} {w} {o} {w₁} {o₁} {w₂} {r} {w'} k ef ee fo ta q = record { goes = λ symbols regions vs h t st. go symbols regions vs h t st }
  where
    go : (symbols regions : List ℕ) (vs : List Val) → ValuesIn vals 0 count vs → (t : Tree) → Stands nodes n t
        → Goes (given nodes symbols regions) (λ x. after_args vs x.env (look x.env t)) w o (end_in r w') w' o₁
    go symbols regions vs h _ (stands {ts = ts} i s) = from (subst (λ (j : ℕ). Shape nodes j n ts) k s)
      where
        from : {us : Trees} → Shape nodes 14 n us → Goes (given nodes symbols regions) (λ x. after_args vs x.env (look x.env (tree (node_of nodes n) us))) w o (end_in r w') w' o₁
        from (a_call {a = c} {ts = us} hc ks few) =
            let there : KidsAt nodes first e us = subst (λ (j : ℕ). KidsAt nodes j e us) (sym ef) (subst (λ (j : ℕ). KidsAt nodes (next nodes (n + 1)) j us) (sym ee) ks) in
            goes _ (fo.goes symbols regions vs h c hc) (told (by_true (short_in w') q.yes q.value) (beside_after q.beside (taken_goes symbols regions ta there)))
