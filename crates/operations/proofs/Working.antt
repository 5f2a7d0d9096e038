-- What an operation does to the workspace alone, as a run on the code's host: bytes stored, at an address, through a pointer, as a field. Assumes nothing.
use Rattle.std.proofs.Common.{◌≡◌, ℕ, suc, ◌+◌, ◌/◌, ◌%◌, ◌^◌, ◌<◌, Bool, true, false, List, [], ◌∷◌, length, sym, refl, ap, ◌∙◌, subst, ap₂}
use Rattle.std.specs.Prelude.{None, Result, Ok, Err}
use Rattle.layout.specs.Number.{le}
use Rattle.value.specs.declared.Ty.{Ty}
use Rattle.value.specs.declared.Val.{Val}
use Rattle.value.specs.Value.{cast_to}
use Rattle.memory.specs.Overlay.{store, stores}
use Rattle.memory.specs.Entries.{limit}
use Rattle.memory.specs.declared.Full.{Full as NoRoom}
use Rattle.definition.specs.Question.{World}
use Rattle.definition.specs.Act.{Act, done, fail, End, gave, unknown_value, unknown_address, value_written, ◌>>◌}
use Rattle.definition.specs.Memory.{pokes, store_val}
use Rattle.definition.specs.Evaluate.{did}
use Rattle.definition.specs.Host.{hosted}
use Rattle.workspace.specs.Parts.{registers_part}
use Rattle.workspace.specs.Registers.{word_at, value_at}
use Rattle.workspace.specs.View.{View, view, Fit, Does, storing}
use Rattle.workspace.specs.Post.{StoresCells, SetsWord}
use Rattle.hosting.specs.declared.Counts.{Counts}
use Rattle.stream.specs.declared.Reason.TheVariants.{UnknownAddress, UnknownValue}
use Rattle.hosting.specs.declared.Short.TheVariants.{Full, Why}
use Rattle.hosting.specs.Held.{Held, held, code_host, with_view, with_stored}
use Rattle.hosting.specs.Ending.{Ending, ended, short, short_of}
use Rattle.hosting.specs.Runs.{Runs}
use Rattle.hosting.proofs.Keeping.{kept_ready}
use Rattle.operations.specs.Registers.{counts_in, units_of, how_in, short_in, result_in, told_end, unit_in}
use Rattle.operations.specs.Going.{Works}
use Rattle.operations.specs.Steps.{GivesShort, Tells, store_through, store_field}
use Rattle.operations.proofs.Registers.{units_same, how_same, does_counts, does_how, stored_word, result_value, stored_set, stored_how}
use Rattle.operations.proofs.Going.{goes, halts, acts, told, aside_after, by_true, by_false, tells_goes, short_goes}

-- with as many entries as the registers say
pub fit_word : (w : List ℕ) (stored : ℕ) → stored ≡ word_at (registers_part w) 0 → Fit w (counts_in w).stored → Fit w stored
fit_word w stored e f = subst (Fit w) (sym (e ∙ stored_word w)) f

-- ---- bytes stored

pokes_hosted : (w : World) (second : Bool) (bs : List ℕ) (a : ℕ) (s : Held) → hosted (code_host w second) (pokes a bs) s ≡ (gave tt, with_view (storing a bs s.view) s)
unfolding hosted code_host pokes stores
pokes_hosted w second [] a s = refl
pokes_hosted w second (b ∷ bs) a s = pokes_hosted w second bs (suc a) (with_view (storing' s) s)
  where
    storing' : Held → View
    storing' t = record { variables = t.view.variables; memory = store (a % 2 ^ 64) b t.view.memory; pending = t.view.pending }

store_known : (a : ℕ) (v : Val) → v.known ≡ true → store_val a v ≡ pokes a (le (v.bits / 8) v.number)
unfolding store_val
store_known a v e = rw (e, store_val)

store_unknown : (a : ℕ) (v : Val) → v.known ≡ false → store_val a v ≡ fail (unknown_value a)
unfolding store_val
store_unknown a v e = rw (e, store_val)

-- the number of entries is put in the registers
pokes_works : {w w₁ w' : List ℕ} {n : ℕ} (address : ℕ) (bs : List ℕ) → Does w (counts_in w).stored (storing address bs) w₁ n → SetsWord w₁ 0 n w' → Works (pokes address bs) w (ended tt) w'
unfolding held
pokes_works {w} {w₁} {w'} {n} address bs d s = record {
  goes = λ g o. record {
    how = stored_how s ∙ does_how d;
    units = ap units_of (stored_set s ∙ ap (with_stored n) (does_counts d));
    runs = λ h _ p.
        let a = with_stored n (counts_in w) in
        let there : Runs (g h) (λ x. pokes address bs) w o (counts_in w) (ended tt) w₁ o a = record {
          ready = kept_ready d.tables d.fit p;
          came = λ x m. pokes_hosted x.world (g h).how.second bs address (held w o (counts_in w)) ∙ ap₂ (λ (z : View) (q : List ℕ). (gave tt, record { view = z; out = o; questions = q; tally = (counts_in w).tally })) (sym d.holds) (sym d.questions);
          tables = d.tables;
        } in
        subst (λ (b : Counts). Runs (g h) (λ x. pokes address bs) w o (counts_in w) (ended tt) w' o b) (sym (stored_set s ∙ ap (with_stored n) (does_counts d))) (aside_after s.aside there);
  };
}

pokes_full : {w w' : List ℕ} (address : ℕ) (bs : List ℕ) → limit < length (stores address bs (view w (counts_in w).stored).memory) → how_in w' ≡ how_in w → units_of (counts_in w') ≡ units_of (counts_in w) → Works (pokes address bs) w (short None) w'
unfolding held
pokes_full {w} address bs l e u = record {
  goes = λ g o. record {
    how = e;
    units = u;
    runs = λ h _ p. record {
      ready = tt;
      came = λ x m. subst (λ (z : End (Unit {0}) × Held). limit < length z.1.view.memory) (sym (pokes_hosted x.world (g h).how.second bs address (held w o (counts_in w)))) l;
      tables = tt;
    };
  };
}

-- works told by an equal act and ending
works_as : {A : Type 0} {m n : Act A} {w w' : List ℕ} {e e' : Ending A} → n ≡ m → e' ≡ e → Works m w e w' → Works n w e' w'
works_as p q h = record { goes = λ g o. acts (λ _ x _. p) (told q (h.goes g o)) }

module _ (w : List ℕ) (address : ℕ) (v : Val) where
  pub value_unknown : (r : Bool) (w' : List ℕ) → v.known ≡ false → GivesShort w (Why UnknownValue address) r w' → Works (store_val address v) w (unit_in r w') w'
  value_unknown r w' e p = record { goes = λ g o. acts (λ _ x _. store_unknown address v e) (short_goes tt p refl) }

  module _ (stored : ℕ) (w₁ : List ℕ) (s : Result ℕ NoRoom) (k : v.known ≡ true) (e : stored ≡ word_at (registers_part w) 0) (h : StoresCells w stored address (le (v.bits / 8) v.number) w₁ s) where
    here : StoresCells w (counts_in w).stored address (le (v.bits / 8) v.number) w₁ s
    here = subst (λ (n : ℕ). StoresCells w n address (le (v.bits / 8) v.number) w₁ s) (e ∙ stored_word w) h

    pub value_stored : (n : ℕ) (w' : List ℕ) → s ≡ Ok n → SetsWord w₁ 0 n w' → Works (store_val address v) w (ended tt) w'
    value_stored n w' c p =
        works_as (store_known address v k) refl (pokes_works address (le (v.bits / 8) v.number) (subst (StoresCells w (counts_in w).stored address (le (v.bits / 8) v.number) w₁) c here) p)

    pub value_full : (r : Bool) (w' : List ℕ) {x : NoRoom} → s ≡ Err x → GivesShort w₁ Full r w' → Works (store_val address v) w (unit_in r w') w'
    value_full r w' {x} f p =
        let full : StoresCells w (counts_in w).stored address (le (v.bits / 8) v.number) w₁ (Err x) = subst (StoresCells w (counts_in w).stored address (le (v.bits / 8) v.number) w₁) f here in
        works_as (store_known address v k) (by_false tt p.no p.why) (pokes_full address (le (v.bits / 8) v.number) full.0 (p.beside.how ∙ how_same w w₁ full.2) (ap units_of p.beside.counts ∙ units_same w w₁ full.2))

-- ---- through a pointer, and a field

through_known : (n : ℕ) (p : Val) (t : Ty) (v : Val) → p.known ≡ true → store_through n p t v ≡ (store_val p.number (cast_to v t) >> done (did (value_written p.number (cast_to v t))))
unfolding store_through
through_known n p t v e = rw (e, store_through)

through_unknown : (n : ℕ) (p : Val) (t : Ty) (v : Val) → p.known ≡ false → store_through n p t v ≡ fail (unknown_address n)
unfolding store_through
through_unknown n p t v e = rw (e, store_through)

module _ (w : List ℕ) (n : ℕ) (p : Val) (t : Ty) (v : Val) (ep : p ≡ value_at (registers_part w) 0) where
  of_result : {e : Ending _} {w' : List ℕ} → Works (store_through n p t v) w e w' → Works (store_through n (result_in w) t v) w e w'
  of_result h = works_as (ap (λ (u : Val). store_through n u t v) (sym (ep ∙ result_value w))) refl h

  pub store_nowhere : (r : Bool) (w' : List ℕ) → p.known ≡ false → GivesShort w (Why UnknownAddress n) r w' → Works (store_through n (result_in w) t v) w (told_end r w') w'
  store_nowhere r w' e f = of_result (record { goes = λ g o. acts (λ _ x _. through_unknown n p t v e) (short_goes _ f refl) })

  module _ (c : Val) (b : Bool) (w₁ : List ℕ) (e : p.known ≡ true) (ec : c ≡ cast_to v t) (h : Works (store_val p.number c) w (unit_in b w₁) w₁) where
    same : store_through n p t v ≡ (store_val p.number c >> done (did (value_written p.number c)))
    same = through_known n p t v e ∙ ap (λ (u : Val). store_val p.number u >> done (did (value_written p.number u))) (sym ec)

    pub store_short : b ≡ false → Works (store_through n (result_in w) t v) w (short (short_of (short_in w₁))) w₁
    store_short q = of_result (record { goes = λ g o. acts (λ _ x _. same) (halts _ _ (told (sym (by_false tt q refl)) (h.goes g o))) })

    pub store_through_lem : (r : Bool) (w' : List ℕ) → b ≡ true → Tells w₁ (did (value_written p.number c)) r w' → Works (store_through n (result_in w) t v) w (told_end r w') w'
    store_through_lem r w' q f = of_result (record { goes = λ g o. acts (λ _ x _. same) (goes _ (told (sym (by_true (short_in w₁) q refl)) (h.goes g o)) (tells_goes f)) })

pub field_works : (w : List ℕ) (address offset : ℕ) (t : Ty) (v : Val) (place : ℕ) (c : Val) (u : Ty) (i : ℕ) (r : Bool) (w' : List ℕ) → i ≡ offset → place ≡ (address + i) % 2 ^ 64 → u ≡ t → v ≡ value_at (registers_part w) 0
    → c ≡ cast_to v u → Works (store_val place c) w (unit_in r w') w' → Works (store_field address offset t (result_in w)) w (unit_in r w') w'
unfolding store_field
field_works w address offset t v place c u i r w' ei ep eu ev ec h = works_as same refl h
  where
    result : result_in w ≡ v
    result = sym (ev ∙ result_value w)

    same : store_val ((address + offset) % 2 ^ 64) (cast_to (result_in w) t) ≡ store_val place c
    same = rw (result, ep, ec, eu, ei)
