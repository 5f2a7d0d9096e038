-- What reading, writing and taking the address of a name is, from what the code did for it. Assumes nothing.
use Rattle.std.proofs.Common.{◌≡◌, ℕ, ◌+◌, ◌*◌, ◌<◌, ◌≤◌, Bool, true, false, List, [], length, sym, refl, ap, ◌∙◌, subst, true≢false, mod-eq_of_lt, arith, eq-eqb, ne_eqb}
use Rattle.std.specs.Prelude.{Option, None, Some}
use Rattle.std.proofs.lemmas.Option.{none-some}
use Rattle.value.specs.declared.Ty.{Ty}
use Rattle.value.specs.declared.Val.{Val}
use Rattle.value.specs.Value.{type, known_val, unknown_val, cast_to}
use Rattle.files.specs.Nodes.{kind_of, ref_of, width_of, value_of}
use Rattle.files.specs.Program.{Tree, tree, node_of}
use Rattle.files.specs.declared.kinds.Kind.TheVariants.{Var}
use Rattle.files.specs.World.{address_in, size_in}
use Rattle.memory.specs.Overlay.{find}
use Rattle.definition.specs.Question.{address_of, size_of, cut}
use Rattle.definition.specs.Act.{Act, done, fail, ask, act, get, set, no_width, ◌>>=◌, ◌>>◌}
use Rattle.definition.specs.Memory.{load, store_val}
use Rattle.definition.specs.Term.{Term, node, is, nothing}
use Rattle.definition.specs.Evaluate.{Env, Did, width_in, type_or, look, eval_as, read_variable, write_variable, assign_val, address_val}
use Rattle.index.specs.Texts.{text_count}
use Rattle.index.specs.Regions.{RegionsIndexed}
use Rattle.index.specs.Symbols.{SymbolInside, SymbolsIndexed, AddressOf, SizeOf, symbol_named}
use Rattle.stream.specs.declared.Symbol.{Symbol}
use Rattle.stream.specs.declared.Symbol.TheVariants as question
use Rattle.stream.specs.declared.Reason.TheVariants.{NoWidth}
use Rattle.hosting.specs.declared.Short.TheVariants.{Why}
use Rattle.stream.specs.Pieces.{question_bytes, symbol_entry}
use Rattle.workspace.specs.Parts.{workspace_size, part, tables, tables_place, symbols_place, symbols_size, symbols_part, regions_part, frame_part}
use Rattle.workspace.specs.Variables.{variables_in}
use Rattle.workspace.specs.Types.{declared_at}
use Rattle.workspace.specs.View.{Fit, Changes, setting}
use Rattle.workspace.proofs.LendLaws.{symbols_lent}
use Rattle.hosting.specs.declared.How.{How}
use Rattle.hosting.specs.declared.Counts.{Counts}
use Rattle.hosting.specs.Scene.{Given, given, Scene, SymbolsRead, Meant}
use Rattle.hosting.specs.Stands.{Stands, stands}
use Rattle.hosting.specs.Ending.{Ending, ended}
use Rattle.hosting.specs.Runs.{Runs}
use Rattle.hosting.proofs.Shapes.{room, var_name}
use Rattle.hosting.proofs.Keeping.{get_runs, set_runs}
use Rattle.operations.specs.At.{VarAt}
use Rattle.operations.specs.Registers.{counts_in, how_in, short_in, told_in, end_in, told_end, unit_in, did_write}
use Rattle.operations.specs.Going.{Goes, Works}
use Rattle.operations.specs.Steps.{Gives, GivesShort, Tells, AtHand}
use Rattle.operations.specs.Asking.{Sends, LoadsAt, AsksSymbol, symbol_val, write_symbol, WritesSymbol, Writes, IfDeclared, Addresses}
use Rattle.operations.proofs.Going.{goes, halts, acts, told, by_true, by_false, done_goes, gives_goes, tells_goes, short_goes}
use Rattle.operations.proofs.Registers.{counts_same, units_same, how_same}
use Rattle.operations.proofs.Standing.{standing}
use Rattle.operations.proofs.Asking.{asks_as, asks_goes, sends_asks}

-- the name of a Var has a slot, and its symbol can be read in the lent part
module _ {nodes : List ℕ} {n name : ℕ} (at : VarAt nodes n) (en : name ≡ ref_of nodes n) where
  pub name_below : name < 512
  name_below = rw en (var_name at.var at.fine)

  pub symbol_inside : {symbols : List ℕ} (w : List ℕ) → SymbolsRead nodes symbols (tables w) → SymbolInside symbols (part (tables_place + symbols_place) symbols_size w) name
  symbol_inside w s = rw (symbols_lent w, en) (s.inside n (room at.fine) at.var)

-- ---- the world is asked

name_fits : (x : ℕ) → x < 512 → cut address_of x ≡ x
unfolding cut
name_fits x h = mod-eq_of_lt (omega arith)

size_fits : (x : ℕ) → x < 512 → cut size_of x ≡ x
unfolding cut
size_fits x h = mod-eq_of_lt (omega arith)

-- what the index answers to a question of either kind
abbrev pub Answered : Symbol → (symbols part : List ℕ) → ℕ → Option ℕ → Type 0
Answered question.AddressOf symbols part name r = AddressOf symbols part name r
Answered question.SizeOf symbols part name r = SizeOf symbols part name r

module _ (nodes symbols : List ℕ) (n name : ℕ) (w o w' o' : List ℕ) (r : Option ℕ) (part : List ℕ) (at : VarAt nodes n) (en : name ≡ ref_of nodes n) (lent : part ≡ symbols_part (tables w)) where
  -- what the index tells holds of the names that the tables mean
  named : {regions : List ℕ} {h : How} {x : Scene} (m : Meant (given nodes symbols regions h) x (tables w)) → (SymbolsIndexed m.routine_names m.world_names symbols part) × (name < text_count m.routine_names)
  named {regions} m = (subst (SymbolsIndexed m.routine_names m.world_names symbols) (sym lent) m.symbols, subst (λ (j : ℕ). j < text_count m.routine_names) (sym en) (m.named n (room at.fine) at.var))

  pub symbol_asks : (k : Symbol) → Answered k symbols part name r → Sends (question_bytes (symbol_entry k name r)) w o w' o' → AsksSymbol nodes symbols k n w o r w' o'
  symbol_asks question.AddressOf is t = record {
    asks = λ regions. sends_asks (symbol_entry question.AddressOf name r)
        (λ h x m.
        let z = named m in
        ap (x.world address_of) (name_fits (ref_of nodes n) (var_name at.var at.fine)) ∙ m.addresses (ref_of nodes n)
        ∙ sym (is.is m.routine_names m.world_names z.0 z.1 ∙ ap (λ (j : ℕ). address_in (symbol_named m.routine_names m.world_names symbols j)) en))
        (ap (λ (j : ℕ). (address_of, (j, r))) (en ∙ sym (name_fits (ref_of nodes n) (var_name at.var at.fine)))) t;
  }
  symbol_asks question.SizeOf is t = record {
    asks = λ regions. sends_asks (symbol_entry question.SizeOf name r)
        (λ h x m.
        let z = named m in
        ap (x.world size_of) (size_fits (ref_of nodes n) (var_name at.var at.fine)) ∙ m.sizes (ref_of nodes n)
        ∙ sym (is.is m.routine_names m.world_names z.0 z.1 ∙ ap (λ (j : ℕ). size_in (symbol_named m.routine_names m.world_names symbols j)) en))
        (ap (λ (j : ℕ). (size_of, (j, r))) (en ∙ sym (size_fits (ref_of nodes n) (var_name at.var at.fine)))) t;
  }

-- what the workspace was fit for it is after a question, and after two
module _ {nodes symbols : List ℕ} {n : ℕ} {w o w₁ o₁ : List ℕ} {r₁ : Option ℕ} (e₁ : AsksSymbol nodes symbols question.AddressOf n w o r₁ w₁ o₁) where
  pub asked_room : workspace_size ≤ length w → workspace_size ≤ length w₁
  asked_room h = rw (e₁.asks []).kept.size h

  pub asked_symbols : SymbolsRead nodes symbols (tables w) → SymbolsRead nodes symbols (tables w₁)
  asked_symbols s = subst (SymbolsRead nodes symbols) (sym (e₁.asks []).tables) s

  module _ {w₂ o₂ : List ℕ} {r₂ : Option ℕ} (e₂ : AsksSymbol nodes symbols question.SizeOf n w₁ o₁ r₂ w₂ o₂) where
    pub sized_room : workspace_size ≤ length w → workspace_size ≤ length w₂
    sized_room h = rw ((e₂.asks []).kept.size, (e₁.asks []).kept.size) h

    pub sized_fit : Fit w (counts_in w).stored → Fit w₂ (counts_in w₂).stored
    sized_fit f = subst (Fit w₂) (sym ((e₂.asks []).stored ∙ (e₁.asks []).stored)) ((e₂.asks []).kept.fit _ ((e₁.asks []).kept.fit _ f))

    pub sized_regions : {regions : List ℕ} → RegionsIndexed regions (regions_part (tables w)) (how_in w).regions → RegionsIndexed regions (regions_part (tables w₂)) (how_in w₂).regions
    sized_regions {regions} h =
        let t : tables w₂ ≡ tables w = (e₂.asks []).tables ∙ (e₁.asks []).tables in
        let u : how_in w₂ ≡ how_in w = (e₂.asks []).how ∙ (e₁.asks []).how in
        rw (t, u) h

-- what is unknown of a name
module _ {w w' : List ℕ} {r : Bool} (z : Option Ty) (d : Option Ty) (ed : d ≡ z) where
  pub undefined_as : (t : Ty) → d ≡ Some t → Gives w (unknown_val (type t.bits t.signed)) r w' → Gives w (unknown_val (type_or z)) r w'
  undefined_as t e g = subst (λ (y : Option Ty). Gives w (unknown_val (type_or y)) r w') (sym e ∙ ed) g

  pub undefined_nothing : d ≡ None → Gives w (unknown_val (type 64 true)) r w' → Gives w (unknown_val (type_or z)) r w'
  undefined_nothing e g = subst (λ (y : Option Ty). Gives w (unknown_val (type_or y)) r w') (sym e ∙ ed) g

-- ---- a symbol is read

abbrev sized_val : ℕ → Option ℕ → Act Val
sized_val a z = elim z [ None ↦ done nothing | Some bits ↦ load a (type bits true) ]

abbrev placed_val : Env → ℕ → Option ℕ → Act Val
placed_val E x z = elim z [ None ↦ done (unknown_val (type_or (E.declared x))) | Some a ↦ ask size_of x (λ size. sized_val a (width_in size)) ]

module _ {nodes symbols regions : List ℕ} {n : ℕ} {w o w₁ o₁ : List ℕ} {r₁ : Option ℕ} (e₁ : AsksSymbol nodes symbols question.AddressOf n w o r₁ w₁ o₁) where
  pub symbol_none : {r : Bool} {name : ℕ} {w' : List ℕ} → VarAt nodes n → name ≡ ref_of nodes n → r₁ ≡ None → Gives w₁ (unknown_val (type_or (declared_at (tables w₁) name))) r w'
      → Goes (given nodes symbols regions) (λ s. symbol_val s.env (ref_of nodes n)) w o (end_in r w') w' o₁
  unfolding symbol_val
  symbol_none {w' = w'} at en k e =
      asks_goes (λ v. placed_val v.env (ref_of nodes n)) (asks_as k (e₁.asks regions))
      (acts
      (λ h v m. ap (λ (t : Option Ty). done (unknown_val (type_or t))) (sym (m.declared (ref_of nodes n) (var_name at.var at.fine)) ∙ ap (declared_at (tables w₁)) (sym en)))
      (gives_goes e))

  module _ {a : ℕ} (k₁ : r₁ ≡ Some a) {w₂ o₂ : List ℕ} {r₂ : Option ℕ} (e₂ : AsksSymbol nodes symbols question.SizeOf n w₁ o₁ r₂ w₂ o₂) {z : Option ℕ} (ez : z ≡ width_in r₂) where
    from_size : {y : Option ℕ} {e : Ending Val} {w' o' : List ℕ} → z ≡ y → Goes (given nodes symbols regions) (λ s. sized_val a y) w₂ o₂ e w' o'
        → Goes (given nodes symbols regions) (λ s. symbol_val s.env (ref_of nodes n)) w o e w' o'
    unfolding symbol_val
    from_size k f =
        asks_goes (λ v. placed_val v.env (ref_of nodes n)) (asks_as k₁ (e₁.asks regions))
        (asks_goes (λ v y. sized_val a (width_in y)) (e₂.asks regions) (acts (λ h v _. ap (sized_val a) (sym ez ∙ k)) f))

    pub symbol_unsized : {r : Bool} {w' : List ℕ} → z ≡ None → Gives w₂ nothing r w' → Goes (given nodes symbols regions) (λ s. symbol_val s.env (ref_of nodes n)) w o (end_in r w') w' o₂
    symbol_unsized k e = from_size k (gives_goes e)

    pub symbol_loads : {bits : ℕ} {r : Bool} {w' o' : List ℕ} → z ≡ Some bits → LoadsAt regions a (type bits true) w₂ o₂ r w' o'
        → Goes (given nodes symbols regions) (λ s. symbol_val s.env (ref_of nodes n)) w o (end_in r w') w' o'
    symbol_loads k l = from_size k (l.goes nodes symbols)

-- ---- a variable is read

abbrev read_val : Env → ℕ → Option Val → Act Val
read_val E x z = elim z [ Some v ↦ done v | None ↦ symbol_val E x ]

reads_as : (E : Env) (x : ℕ) → read_variable E x ≡ (get x done >>= read_val E x)
unfolding read_variable symbol_val
reads_as E x = refl

get_goes : {g : How → Given} (k : Scene → Option Val → Act Val) (n : ℕ) {v : Option Val} {w o : List ℕ} {e : Ending Val} {w' o' : List ℕ}
    → v ≡ find n (variables_in (frame_part w)) → Goes g (λ x. k x v) w o e w' o' → Goes g (λ x. get n done >>= k x) w o e w' o'
get_goes k n p r = record { how = r.how; units = r.units; runs = λ h e q. get_runs k n p (r.runs h e q) }

slot_here : (w : List ℕ) {x name : ℕ} {slot t : Option Val} → name ≡ x → slot ≡ find name (variables_in (frame_part w)) → slot ≡ t → t ≡ find x (variables_in (frame_part w))
slot_here w en es p = sym p ∙ es ∙ ap (λ (y : ℕ). find y (variables_in (frame_part w))) en

module _ {w : List ℕ} {x name : ℕ} {slot : Option Val} (en : name ≡ x) (es : slot ≡ find name (variables_in (frame_part w))) {g : How → Given} {o : List ℕ} where
  read_goes : {v : Val} {e : Ending Val} {w' : List ℕ} → slot ≡ Some v → Goes g (λ s. done v) w o e w' o → Goes g (λ s. read_variable s.env x) w o e w' o
  read_goes p r = acts (λ h s _. reads_as s.env x) (get_goes (λ s. read_val s.env x) x (slot_here w en es p) r)

  pub set_read : {r : Bool} {v : Val} {w' : List ℕ} → slot ≡ Some v → Gives w v r w' → Goes g (λ s. read_variable s.env x) w o (end_in r w') w' o
  set_read p e = read_goes p (gives_goes e)

  pub set_goes : {v : Val} → slot ≡ Some v → Goes g (λ s. read_variable s.env x) w o (ended v) w o
  set_goes {v} p = read_goes p (done_goes (λ _. v) (λ h s m. refl))

  -- one that is not set, as a symbol
  pub unset_read : {e : Ending Val} {w' o' : List ℕ} → slot ≡ None → Goes g (λ s. symbol_val s.env x) w o e w' o' → Goes g (λ s. read_variable s.env x) w o e w' o'
  unset_read p r = acts (λ h s _. reads_as s.env x) (get_goes (λ s. read_val s.env x) x (slot_here w en es p) r)

-- ---- a value at hand

module _ {b : List ℕ} {n : ℕ} {w : List ℕ} {kind : ℕ} (p : kind ≡ kind_of b n) where
  pub constant_at_hand : {u : Val} → kind ≡ 0 → u ≡ known_val (value_of b n) (type (width_of b n * 8) true) → AtHand b n w (Some u)
  unfolding eval_as
  constant_at_hand k eu = record { goes = λ v e g o t h. standing 0 (sym p ∙ k) (λ ts _. done_goes _ (λ _ x m. sym eu ∙ cc)) h }

  pub variable_at_hand : {name : ℕ} {slot : Option Val} → kind ≡ 1 → name ≡ ref_of b n → slot ≡ find name (variables_in (frame_part w)) → AtHand b n w slot
  unfolding eval_as
  variable_at_hand k en es = record { goes = λ v e g o t h. standing 1 (sym p ∙ k) (λ ts _. set_goes en es e) h }

pub not_at_hand : {b : List ℕ} {n : ℕ} {w : List ℕ} → AtHand b n w None
not_at_hand = record { goes = λ v e. absurd (none-some v e) }

-- ---- an address is taken

address_other : (E : Env) (t : Term) → is Var t ≡ false → address_val E t ≡ done (unknown_val (type 64 false))
unfolding address_val
address_other E t e = rw (e, address_val)

abbrev place_val : Option ℕ → Val
place_val z = elim z [ None ↦ unknown_val (type 64 false) | Some n ↦ known_val n (type 64 false) ]

address_var : (E : Env) (t : Term) → is Var t ≡ true → address_val E t ≡ ask address_of (node t).ref (λ z. done (place_val z))
unfolding address_val
address_var E t e = rw (e, address_val)

module _ (nodes symbols : List ℕ) (n k : ℕ) {w o : List ℕ} (p : k ≡ kind_of nodes n) where
  pub other_address : {r : Bool} {w' : List ℕ} → (k ≡ 1 → ⊥) → Gives w (unknown_val (type 64 false)) r w' → Addresses nodes symbols n w o r w' o
  unfolding look
  other_address {r} {w'} ne e = record { goes = go }
    where
      go : (regions : List ℕ) (t : Tree) → Stands nodes n t → Goes (given nodes symbols regions) (λ x. address_val x.env (look x.env t)) w o (end_in r w') w' o
      go regions _ (stands {ts = ts} i h) = acts (λ j x _. address_other x.env _ (ne_eqb _ _ (λ z. ne (p ∙ z)))) (gives_goes e)

  module _ (k1 : k ≡ 1) {r₁ : Option ℕ} {w₁ o₁ : List ℕ} (e₁ : AsksSymbol nodes symbols question.AddressOf n w o r₁ w₁ o₁) where
    from_address : {r : Bool} {w' : List ℕ} (y : Option ℕ) → r₁ ≡ y → Gives w₁ (place_val y) r w' → Addresses nodes symbols n w o r w' o₁
    unfolding look
    from_address {r} {w'} y ey e = record { goes = go }
      where
        go : (regions : List ℕ) (t : Tree) → Stands nodes n t → Goes (given nodes symbols regions) (λ x. address_val x.env (look x.env t)) w o (end_in r w') w' o₁
        go regions _ (stands {ts = ts} i h) =
            acts (λ j x _. address_var x.env _ (eq-eqb _ _ (sym p ∙ k1))) (asks_goes (λ x z. done (place_val z)) (asks_as ey (e₁.asks regions)) (gives_goes e))

    pub known_address : {r : Bool} {w' : List ℕ} {a : ℕ} (v : Val) → r₁ ≡ Some a → v ≡ known_val a (type 64 false) → Gives w₁ v r w' → Addresses nodes symbols n w o r w' o₁
    known_address {r} {w'} {a} v e ev q = from_address (Some a) e (subst (λ (z : Val). Gives w₁ z r w') ev q)

    pub unknown_address_lem : {r : Bool} {w' : List ℕ} → r₁ ≡ None → Gives w₁ (unknown_val (type 64 false)) r w' → Addresses nodes symbols n w o r w' o₁
    unknown_address_lem e q = from_address None e q

-- ---- a name is written

abbrev sized_write : ℕ → ℕ → Val → Option ℕ → Act Val
sized_write x a v z = elim z [ None ↦ fail (no_width x) | Some bits ↦ let c = cast_to v (type bits v.signed) in store_val a c >> done c ]

abbrev placed_write : ℕ → Val → Option ℕ → Act Val
placed_write x v z = elim z [ None ↦ set x v (done v) | Some a ↦ ask size_of x (λ size. sized_write x a v (width_in size)) ]

-- with what is told of it
abbrev and_told : ℕ → Act Val → Act Did
and_told x m = m >>= λ u. done (did_write x u)

bind_done : {A B C : Type 0} (m : Act A) (b : B) (f : B → Act C) → ((m >> done b) >>= f) ≡ (m >> f b)
unfolding ◌>>=◌
bind_done (done a) b f = refl
bind_done (fail y) b f = refl
bind_done (ask κ q k) b f = ap (ask κ q) (λ i a. bind_done (k a) b f i)
bind_done (act p k) b f = ap (act p) (λ i a. bind_done (k a) b f i)

-- a variable is set, and that is told
set_told : {g : How → Given} {x name : ℕ} {v c : Val} {w w₁ w' o : List ℕ} {r : Bool} → name ≡ x → c ≡ v → Changes w (setting name c) w₁ → Tells w₁ (did_write name c) r w'
    → Goes g (λ s. and_told x (set x v (done v))) w o (told_end r w') w' o
set_told {g} {x} {name} {v} {c} {w} {w₁} {w'} {o} {r} en ec ch t =
    let sets : Changes w (setting x v) w₁ = subst (λ (u : Val). Changes w (setting x u) w₁) ec (subst (λ (j : ℕ). Changes w (setting j c) w₁) en ch) in
    let tells : Tells w₁ (did_write x v) r w' = subst (λ (u : Val). Tells w₁ (did_write x u) r w') ec (subst (λ (j : ℕ). Tells w₁ (did_write j c) r w') en t) in
    let s : Goes g (λ y. set x v (done v)) w o (ended v) w₁ o = record {
      how = how_same w w₁ sets.registers;
      units = units_same w w₁ sets.registers;
      runs = λ h e p. subst (λ (a : Counts). Runs (g h) (λ y. set x v (done v)) w o (counts_in w) (ended v) w₁ o a) (sym (counts_same w w₁ sets.registers)) (set_runs v sets p);
    } in
    goes _ s (tells_goes tells)

module _ {nodes symbols : List ℕ} {n : ℕ} {w o w₁ o₁ : List ℕ} {r₁ : Option ℕ} {name : ℕ} (v : Val) (e₁ : AsksSymbol nodes symbols question.AddressOf n w o r₁ w₁ o₁) (en : name ≡ ref_of nodes n) where
  pub symbol_sets : {w₂ w' : List ℕ} {r : Bool} → r₁ ≡ None → Changes w₁ (setting name v) w₂ → Tells w₂ (did_write name v) r w' → WritesSymbol nodes symbols n v w o r w' o₁
  unfolding write_symbol ◌>>=◌
  symbol_sets k c t = record {
    goes = λ regions.
        asks_goes (λ x z. and_told (ref_of nodes n) (placed_write (ref_of nodes n) v z)) (asks_as k (e₁.asks regions)) (set_told en refl c t);
  }

  module _ {a : ℕ} (k₁ : r₁ ≡ Some a) {w₂ o₂ : List ℕ} {r₂ : Option ℕ} (e₂ : AsksSymbol nodes symbols question.SizeOf n w₁ o₁ r₂ w₂ o₂) {z : Option ℕ} (ez : z ≡ width_in r₂) where
    from_width : {y : Option ℕ} {e : Ending Did} {w' : List ℕ} → z ≡ y → (regions : List ℕ) → Goes (given nodes symbols regions) (λ s. and_told (ref_of nodes n) (sized_write (ref_of nodes n) a v y)) w₂ o₂ e w' o₂
        → Goes (given nodes symbols regions) (λ s. and_told (ref_of nodes n) (write_symbol (ref_of nodes n) v)) w o e w' o₂
    unfolding write_symbol ◌>>=◌
    from_width k regions f =
        asks_goes (λ x y. and_told (ref_of nodes n) (placed_write (ref_of nodes n) v y)) (asks_as k₁ (e₁.asks regions))
        (asks_goes (λ x y. and_told (ref_of nodes n) (sized_write (ref_of nodes n) a v (width_in y))) (e₂.asks regions)
        (acts (λ h x _. ap (λ (y : Option ℕ). and_told (ref_of nodes n) (sized_write (ref_of nodes n) a v y)) (sym ez ∙ k)) f))

    pub symbol_fails : {w' : List ℕ} {r : Bool} → z ≡ None → GivesShort w₂ (Why NoWidth name) r w' → WritesSymbol nodes symbols n v w o r w' o₂
    unfolding ◌>>=◌
    symbol_fails {w'} k e = record { goes = λ regions. from_width k regions (short_goes (told_in w') e (ap (λ (j : ℕ). Some (no_width j)) en)) }

    module _ {c : Val} {bits : ℕ} (k : z ≡ Some bits) (ec : c ≡ cast_to v (type bits v.signed)) where
      stores_as : and_told (ref_of nodes n) (sized_write (ref_of nodes n) a v (Some bits)) ≡ (store_val a c >> done (did_write (ref_of nodes n) c))
      stores_as =
          ap (λ (u : Val). and_told (ref_of nodes n) (store_val a u >> done u)) (sym ec)
          ∙ bind_done (store_val a c) c (λ y. done (did_write (ref_of nodes n) y))

      pub symbol_stores : {w₃ w' : List ℕ} (ok : Bool) {r : Bool} → Works (store_val a c) w₂ (unit_in ok w₃) w₃ → ok ≡ true → Tells w₃ (did_write name c) r w' → WritesSymbol nodes symbols n v w o r w' o₂
      symbol_stores {w₃} {w'} ok {r} s q t = record {
        goes = λ regions. from_width k regions
            (acts (λ h x _. stores_as) (goes _ (told (sym (by_true (short_in w₃) q refl)) (s.goes (given nodes symbols regions) o₂)) (tells_goes (subst (λ (j : ℕ). Tells w₃ (did_write j c) r w') en t))));
      }

      pub symbol_unstored : {w' : List ℕ} (ok : Bool) → Works (store_val a c) w₂ (unit_in ok w') w' → ok ≡ false → WritesSymbol nodes symbols n v w o false w' o₂
      symbol_unstored ok s q = record {
        goes = λ regions. from_width k regions (acts (λ h x _. stores_as) (halts _ _ (told (sym (by_false tt q refl)) (s.goes (given nodes symbols regions) o₂))));
      }

-- ---- a variable is written

abbrev write_as : ℕ → Val → Option Ty → Act Val
write_as x v z = elim z [ Some t ↦ set x (cast_to v t) (done (cast_to v t)) | None ↦ write_symbol x v ]

writes_as : (E : Env) (x : ℕ) (v : Val) → write_variable E x v ≡ write_as x v (E.declared x)
unfolding write_variable write_symbol
writes_as E x v = refl

val_var : (E : Env) (l : Term) (v : Val) → is Var l ≡ true → assign_val E l v ≡ and_told (node l).ref (write_variable E (node l).ref v)
unfolding assign_val
val_var E l v e = rw (e, assign_val)

module _ {nodes : List ℕ} {n : ℕ} {v : Val} {w : List ℕ} {name : ℕ} (at : VarAt nodes n) (en : name ≡ ref_of nodes n) where
  -- a run of what is written with the type that the tables tell
  from_declared : {r : Bool} {symbols o w' o' : List ℕ} (z : Option Ty) → z ≡ declared_at (tables w) name → ((regions : List ℕ) → Goes (given nodes symbols regions) (λ x. and_told (ref_of nodes n) (write_as (ref_of nodes n) v z)) w o (told_end r w') w' o')
      → Writes nodes symbols n v w o r w' o'
  unfolding look
  from_declared {r} {symbols} {o} {w'} {o'} z ez f = record { goes = go }
    where
      go : (regions : List ℕ) (t : Tree) → Stands nodes n t → Goes (given nodes symbols regions) (λ x. assign_val x.env (look x.env t) v) w o (told_end r w') w' o'
      go regions _ (stands {ts = ts} i h) =
          acts
          (λ j x m. val_var x.env (look x.env (tree (node_of nodes n) ts)) v (eq-eqb _ _ at.var)
          ∙ ap (and_told (ref_of nodes n)) (writes_as x.env (ref_of nodes n) v ∙ ap (write_as (ref_of nodes n) v) (sym (m.declared (ref_of nodes n) (var_name at.var at.fine)) ∙ ap (declared_at (tables w)) (sym en) ∙ sym ez)))
          (f regions)

module _ {nodes : List ℕ} {n : ℕ} {v : Val} {w : List ℕ} {name : ℕ} {d : Option Ty} (at : VarAt nodes n) (en : name ≡ ref_of nodes n)
    (ed : d ≡ declared_at (tables w) name) where
  declared_writes : {t : Ty} {c : Val} {r : Bool} {symbols o w₁ w' : List ℕ} → d ≡ Some t → c ≡ cast_to v t → Changes w (setting name c) w₁ → Tells w₁ (did_write name c) r w' → Writes nodes symbols n v w o r w' o
  declared_writes {t} p ec ch e = from_declared at en (Some t) (sym p ∙ ed) (λ regions. set_told en ec ch e)

  pub if_declared : {t : Ty} {c : Val} {r : Bool} {w₁ w' : List ℕ} → d ≡ Some t → c ≡ cast_to v t → Changes w (setting name c) w₁ → Tells w₁ (did_write name c) r w' → IfDeclared nodes n v w r w'
  if_declared {w' = w'} p ec ch e = record {
    yes = λ z symbols o. subst (λ (y : Bool). Writes nodes symbols n v w o y w' o) z (declared_writes p ec ch e);
    no = λ z. absurd (true≢false (sym e.yes ∙ z));
  }

  pub if_undeclared : d ≡ None → IfDeclared nodes n v w false w
  if_undeclared p = record { yes = λ z. absurd (true≢false (sym z)); no = λ _. (sym p ∙ ed ∙ ap (declared_at (tables w)) en, refl) }

-- one that is declared was assigned; one that is not is written as a symbol
pub declared_written : {nodes symbols : List ℕ} {n : ℕ} {v : Val} {w w₁ o : List ℕ} {q : Bool} → IfDeclared nodes n v w q w₁ → q ≡ true → Writes nodes symbols n v w o true w₁ o
declared_written {symbols = symbols} {o = o} d z = d.yes z symbols o

module _ {nodes : List ℕ} {n : ℕ} {v : Val} {w : List ℕ} {q : Bool} {w₁ : List ℕ} (d : IfDeclared nodes n v w q w₁) (z : q ≡ false) where
  pub undeclared_fit : Fit w (counts_in w).stored → Fit w₁ (counts_in w₁).stored
  undeclared_fit f = subst (λ (y : List ℕ). Fit y (counts_in y).stored) (sym (d.no z).1) f

  pub undeclared_symbols : {symbols : List ℕ} → SymbolsRead nodes symbols (tables w) → SymbolsRead nodes symbols (tables w₁)
  undeclared_symbols {symbols} s = subst (λ (y : List ℕ). SymbolsRead nodes symbols (tables y)) (sym (d.no z).1) s

pub symbol_writes : {nodes symbols : List ℕ} {n : ℕ} {v : Val} {w w₁ o : List ℕ} {q r : Bool} {w' o' : List ℕ} → VarAt nodes n → IfDeclared nodes n v w q w₁ → q ≡ false
    → WritesSymbol nodes symbols n v w₁ o r w' o' → Writes nodes symbols n v w o r w' o'
symbol_writes {nodes} {symbols} {n} {v} {w} {w₁} {o} {r = r} {w' = w'} {o' = o'} at d z e =
    let there : WritesSymbol nodes symbols n v w o r w' o' = subst (λ (y : List ℕ). WritesSymbol nodes symbols n v y o r w' o') (d.no z).1 e in
    from_declared at refl None (d.no z).0 (λ regions. there.goes regions)
