-- What asking the world is, as a run on the code's host: a question answered and written, and loads. Assumes nothing.
use Rattle.std.proofs.Common.{◌≡◌, ℕ, zero, suc, ◌+◌, ◌-◌, ◌/◌, ◌%◌, ◌^◌, ◌<◌, ◌≤◌, max, Bool, not, eqb, List, ◌∷◌, length, drop, sym, refl, ap, ◌∙◌, subst, ap₂, mod-eq_of_lt, arith}
use Rattle.std.specs.Prelude.{Option, None, Some}
use borrow.Rule.Slice.PartMut.{mid_of, put_mid}
use Rattle.layout.specs.Format.{bool_of}
use Rattle.layout.specs.Number.{le, num}
use Rattle.value.specs.declared.Ty.{Ty}
use Rattle.value.specs.declared.Val.{Val}
use Rattle.value.specs.Value.{type, known_val, unknown_val}
use Rattle.memory.specs.Overlay.{Overlay, Cell, byte_or, find, to_byte}
use Rattle.memory.specs.Overlay as over
use Rattle.memory.specs.declared.Image.{Image}
use Rattle.definition.specs.Question.{Asked, Question, Answer, World, Entry, Span, read_at, cut}
use Rattle.definition.specs.Act.{Act, done, ask, End, gave, ◌>>=◌}
use Rattle.definition.specs.Memory.{gather, loaded, load}
use Rattle.definition.specs.Host.{hosted}
use Rattle.definition.proofs.Hosts.{go_on_from, hosted_bind}
use Rattle.index.specs.Regions.{RegionsIndexed, ReadFrom}
use Rattle.stream.specs.Stream.{placed, advanced, Sent}
use Rattle.stream.specs.Pieces.{question_bytes, read_entry}
use Rattle.stream.proofs.StreamLaws.{length_placed}
use Rattle.workspace.specs.Parts.{workspace_size, registers_part, tables_place, tables, regions_place, regions_size, regions_part, questions_place, questions_part}
use Rattle.workspace.specs.Registers.{word_at}
use Rattle.workspace.specs.View.{View, view, Fit}
use Rattle.workspace.specs.Post.{SetsWord, PutsQuestions}
use Rattle.workspace.proofs.LendLaws.{regions_lent, questions_lent, questions_back}
use Rattle.value.proofs.EncodingLaws.{flag_read}
use Rattle.hosting.specs.declared.How.{How}
use Rattle.hosting.specs.declared.Counts.{Counts}
use Rattle.hosting.specs.Scene.{Given, given, Scene, Ready, Meant}
use Rattle.hosting.specs.Held.{Held, held, code_host, asked, with_asked}
use Rattle.hosting.specs.Ending.{Ending, ended}
use Rattle.hosting.specs.Runs.{Came, Runs}
use Rattle.hosting.proofs.Running.{kept_on}
use Rattle.hosting.proofs.Keeping.{kept_ready}
use Rattle.operations.specs.Registers.{counts_in, units_of, how_in, end_in}
use Rattle.operations.specs.Going.{Goes}
use Rattle.operations.specs.Steps.{Gives}
use Rattle.operations.specs.Asking.{Sends, Asks, found_val, LoadsAt}
use Rattle.operations.proofs.Registers.{stored_word, asked_word, regions_word, second_word, asked_set, asked_how, counts_same, how_same}
use Rattle.operations.proofs.Going.{goes, acts, gives_goes}

-- ---- bytes sent

pub sends_held : (e : Entry) {w o w' o' : List ℕ} → Sends (question_bytes e) w o w' o' → held w' o' (counts_in w') ≡ asked (how_in w).second e (held w o (counts_in w))
unfolding held asked
sends_held e {w} {o} {w'} {o'} s =
    ap (λ (v : View). record { view = v; out = o'; questions = questions_part w'; tally = (counts_in w').tally }) (s.kept.holds (counts_in w').stored)
    ∙ ap₂ (λ (l q : List ℕ). record { view = view w (counts_in w').stored; out = l; questions = q; tally = (counts_in w').tally }) s.part s.questions
    ∙ ap (λ (b : Counts). record {
      view = view w b.stored;
      out = placed (how_in w).second o (counts_in w).tally.asked (question_bytes e);
      questions = placed (not (how_in w).second) (questions_part w) (counts_in w).tally.asked (question_bytes e);
      tally = b.tally;
    }) s.counts

-- what a writer did beside the tables keeps the part's length
sent_length : (w : List ℕ) {on : Bool} {piece q : List ℕ} {place next : ℕ} → Sent on (mid_of questions_place (length w - questions_place) w) place piece q next
    → length q ≡ length (mid_of questions_place (length w - questions_place) w)
sent_length w {on} {piece} {q} {place} u = ap length u.part ∙ length_placed on (mid_of questions_place (length w - questions_place) w) place piece

-- from what a writer of a piece did twice, in the record and beside the tables, with the cursor that the registers hold
pub sends_of : (piece w o : List ℕ) (place k cursor next : ℕ) (q w' o' : List ℕ) → workspace_size ≤ length w → place ≡ word_at (registers_part w) 2 → k ≡ word_at (registers_part w) 8
    → Sent (not (eqb k 0)) o place piece o' cursor → Sent (not (not (eqb k 0))) (mid_of questions_place (length w - questions_place) w) place piece q next
    → SetsWord (put_mid questions_place (length w - questions_place) w q) 2 cursor w' → Sends piece w o w' o'
sends_of piece w o place k cursor next q w' o' room ep ek s u h =
    let on : not (eqb k 0) ≡ (how_in w).second = flag_read k ∙ ap bool_of ek ∙ second_word w in
    let at : place ≡ (counts_in w).tally.asked = ep ∙ asked_word w in
    let n = length w - questions_place in
    let w₁ = put_mid questions_place n w q in
    let b : PutsQuestions w q w₁ = questions_back w q room (sent_length w u) in
    record {
      kept = record {
        holds = λ m. h.aside.holds m ∙ b.kept.holds m;
        fit = λ m f. h.aside.fit m (b.kept.fit m f);
        size = h.aside.size ∙ b.kept.size;
      };
      tables = h.aside.tables ∙ b.tables;
      part = s.part ∙ ap₂ (λ (z : Bool) (i : ℕ). placed z o i piece) on at;
      questions =
          h.aside.questions
          ∙ b.questions
          ∙ u.part
          ∙ ap (λ (l : List ℕ). placed (not (not (eqb k 0))) l place piece) (questions_lent w)
          ∙ ap₂ (λ (z : Bool) (i : ℕ). placed (not z) (questions_part w) i piece) on at;
      counts = asked_set h ∙ ap (with_asked cursor) (counts_same w w₁ b.registers) ∙ ap (λ (c : ℕ). with_asked c (counts_in w)) (s.cursor ∙ ap (λ (i : ℕ). advanced i (length piece)) at);
      how = asked_how h ∙ how_same w w₁ b.registers;
    }

-- the workspace is as large as before, and in order
pub sends_room : (piece w o w' o' : List ℕ) (n : ℕ) → Sends piece w o w' o' → Fit w n → workspace_size ≤ length w'
sends_room piece w o w' o' n s f = omega (arith, s.kept.size, f.room)

pub sends_fit : (piece w o w' o' : List ℕ) (stored : ℕ) → Sends piece w o w' o' → stored ≡ word_at (registers_part w) 0 → Fit w (counts_in w).stored → Fit w' stored
sends_fit piece w o w' o' stored s e f = s.kept.fit stored (subst (Fit w) (sym (e ∙ stored_word w)) f)

-- ---- a question

-- the entry that is sent is a question with its answer
pub sends_asks : {g : How → Given} {κ : Asked} {q : Question κ} {y : Answer κ} (e : Entry) {w o w' o' : List ℕ} → ((h : How) (x : Scene) → Meant (g h) x (tables w) → x.world κ (cut κ q) ≡ y) → e ≡ (κ, (cut κ q, y))
    → Sends (question_bytes e) w o w' o' → Asks g κ q y w o w' o'
sends_asks e {w} {o} f i s = record {
  kept = s.kept;
  tables = s.tables;
  answer = f;
  held = sends_held e s ∙ ap (λ (z : Entry). asked (how_in w).second z (held w o (counts_in w))) i;
  stored = ap (λ (b : Counts). b.stored) s.counts;
  units = ap units_of s.counts;
  how = s.how;
}

pub asks_as : {g : How → Given} {κ : Asked} {q : Question κ} {y z : Answer κ} {w o w' o' : List ℕ} → y ≡ z → Asks g κ q y w o w' o' → Asks g κ q z w o w' o'
asks_as {g} {κ} {q} {w = w} {o = o} {w' = w'} {o' = o'} e s = subst (λ (v : Answer κ). Asks g κ q v w o w' o') e s

asked_ready : {g : How → Given} {κ : Asked} {q : Question κ} {y : Answer κ} {w o w' o' : List ℕ} (h : How) → Asks g κ q y w o w' o' → Ready (g h) w (counts_in w) → Ready (g h) w' (counts_in w')
asked_ready {w = w} {w' = w'} h s p = kept_ready s.tables (subst (Fit w') (sym s.stored) (s.kept.fit (counts_in w).stored p.fit)) p

-- it is asked, and then goes on with its answer
pub asks_goes : {A : Type 0} {nodes symbols regions : List ℕ} {κ : Asked} {q : Question κ} {y : Answer κ} (k : Scene → Answer κ → Act A) {w o w₁ o₁ : List ℕ} {e : Ending A} {w' o' : List ℕ}
    → Asks (given nodes symbols regions) κ q y w o w₁ o₁ → Goes (given nodes symbols regions) (λ x. k x y) w₁ o₁ e w' o' → Goes (given nodes symbols regions) (λ x. ask κ q (k x)) w o e w' o'
unfolding hosted code_host
asks_goes {A} {nodes} {symbols} {regions} {κ} {q} {y} k {w} {o} {w₁} {o₁} {e} {w'} {o'} s r = record { how = r.how ∙ s.how; units = r.units ∙ s.units; runs = λ h i p. on h i (r.runs h (s.how ∙ i) (asked_ready h s p)) }
  where
    on : (h : How) → how_in w ≡ h → Runs (given nodes symbols regions h) (λ x. k x y) w₁ o₁ (counts_in w₁) e w' o' (counts_in w')
        → Runs (given nodes symbols regions h) (λ x. ask κ q (k x)) w o (counts_in w) e w' o' (counts_in w')
    on h i u = record {
      ready = u.ready;
      came = λ x m.
          let host = code_host x.world h.second in
          let a = held w o (counts_in w) in
          let there : asked h.second (κ, (cut κ q, y)) a ≡ held w₁ o₁ (counts_in w₁) = ap (λ (z : How). asked z.second (κ, (cut κ q, y)) a) (sym i) ∙ sym s.held in
          let step : hosted host (k x (x.world κ (cut κ q))) (asked h.second (κ, (cut κ q, x.world κ (cut κ q))) a) ≡ hosted host (k x y) (held w₁ o₁ (counts_in w₁)) =
          ap (λ (z : Answer κ). hosted host (k x z) (asked h.second (κ, (cut κ q, z)) a)) (s.answer h x m) ∙ ap (hosted host (k x y)) there in
          subst (λ (z : End A × Held). Came z e (held w' o' (counts_in w'))) (sym step) (u.came x (subst (Meant (given nodes symbols regions h) x) (sym s.tables) m));
      tables = kept_on e (λ t. t ∙ s.tables) u.tables;
    }

-- ---- a load

-- the regions' index, lent as a part of the workspace
pub regions_here : (regions w : List ℕ) (count : ℕ) → count ≡ word_at (registers_part w) 7 → RegionsIndexed regions (regions_part (tables w)) (how_in w).regions
    → RegionsIndexed regions (mid_of (tables_place + regions_place) regions_size w) count
regions_here regions w count e h = subst (λ (p : List ℕ). RegionsIndexed regions p count) (sym (regions_lent w)) (subst (RegionsIndexed regions (regions_part (tables w))) (sym (e ∙ regions_word w)) h)

module _ (w : List ℕ) (t : Ty) (found : Option ℕ) (r : Bool) (w' : List ℕ) where
  found_as_lem : (v : Val) → v ≡ found_val t found → Gives w v r w' → Gives w (found_val t found) r w'
  found_as_lem v e g = subst (λ (u : Val). Gives w u r w') e g

  pub found_known : (n : ℕ) (v : Val) → found ≡ Some n → v ≡ known_val n (type t.bits t.signed) → Gives w v r w' → Gives w (found_val t found) r w'
  found_known n v e ev g = found_as_lem v (ev ∙ ap (found_val t) (sym e)) g

  pub found_unknown : found ≡ None → Gives w (unknown_val (type t.bits t.signed)) r w' → Gives w (found_val t found) r w'
  found_unknown e g = found_as_lem _ (ap (found_val t) (sym e)) g

found_byte : (z : Option Cell) (image : List ℕ) → byte_or z image ≡ byte_or (to_byte z) image
found_byte None image = refl
found_byte (Some c) image = refl

abbrev cons_if : ℕ → Option (List ℕ) → Option (List ℕ)
cons_if b r = elim r [ None ↦ None | Some bs ↦ Some (b ∷ bs) ]

-- one byte, and then those that the rest comes to
gather_after : (w : World) (second : Bool) (m : Act (Option (List ℕ))) (rest : Option (List ℕ)) (s : Held) → hosted (code_host w second) m s ≡ (gave rest, s) → (y : Option ℕ)
    → hosted {A = Option (List ℕ)} (code_host w second) (elim y [ None ↦ done None | Some b ↦ m >>= λ r. done (cons_if b r) ]) s ≡ (gave (elim y [ None ↦ None | Some b ↦ cons_if b rest ]), s)
unfolding hosted
gather_after w second m rest s h None = refl
gather_after w second m rest s h (Some b) =
    hosted_bind (code_host w second) (λ r. done (cons_if b r)) m s
    ∙ ap (λ (p : End (Option (List ℕ)) × Held). go_on_from p.0 p.1 (λ r s'. hosted (code_host w second) (done (cons_if b r)) s')) h

-- the bytes gathered are those of the memory that is held
gather_hosted : (w : World) (second : Bool) (n a : ℕ) (image : List ℕ) (s : Held) → hosted (code_host w second) (gather n a image) s ≡ (gave (over.gather s.view.memory image a n), s)
unfolding hosted code_host gather over.gather ◌>>=◌
gather_hosted w second zero a image s = refl
gather_hosted w second (suc n) a image s =
    let rest = over.gather s.view.memory (drop 1 image) (suc a) n in
    gather_after w second (gather n (suc a) (drop 1 image)) rest s (gather_hosted w second n (suc a) (drop 1 image) s) (byte_or (find (a % 2 ^ 64) s.view.memory) image)
    ∙ ap (λ (y : Option ℕ). (gave (elim y [ None ↦ None | Some b ↦ cons_if b rest ]), s)) (found_byte (find (a % 2 ^ 64) s.view.memory) image)

gather_goes : {g : How → Given} (n address : ℕ) (image : List ℕ) {w o : List ℕ} → Goes g (λ x. gather n address image) w o (ended (over.gather (view w (counts_in w).stored).memory image address n)) w o
unfolding held
gather_goes {g} n address image {w} {o} = record {
  how = refl;
  units = refl;
  runs = λ h _ p. record { ready = p; came = λ x m. gather_hosted x.world (g h).how.second n address image (held w o (counts_in w)); tables = refl };
}

loaded_as_lem : (t : Ty) (z : Option (List ℕ)) → loaded t z ≡ found_val t (elim z [ None ↦ None | Some bs ↦ Some (num bs) ])
loaded_as_lem t None = refl
loaded_as_lem t (Some bs) = refl

found_is : (m : Overlay Cell) (image : List ℕ) (address n : ℕ) (t : Ty) → loaded t (over.gather m image address n) ≡ found_val t (over.load m image address n)
unfolding over.load
found_is m image address n t = loaded_as_lem t (over.gather m image address n)

-- a question of so many bytes fits its fields
span_fits : (address size : ℕ) → address < 2 ^ 64 → size ≤ 8 → cut read_at (record { address = address; size = size }) ≡ record { address = address; size = size }
unfolding cut
span_fits address size h l = ap₂ (λ (a n : ℕ). record { address = a; size = n }) (mod-eq_of_lt (omega arith)) (mod-eq_of_lt (omega arith))

reads : {regions w o w' o' : List ℕ} (nodes symbols : List ℕ) (address size : ℕ) (image : Image) → address < 2 ^ 64 → size ≤ 8 → ReadFrom regions address size image
    → Sends (question_bytes (read_entry address size image.count image.number)) w o w' o'
    → Asks (given nodes symbols regions) read_at (record { address = address; size = size }) (le image.count image.number) w o w' o'
reads nodes symbols address size image ha hs r s =
    let fits = span_fits address size ha hs in
    sends_asks (read_entry address size image.count image.number) (λ h x m. ap (x.world read_at) fits ∙ m.images address size ∙ sym r.bytes) (ap (λ (q : Span). (read_at, (q, le image.count image.number))) (sym fits)) s

load_is : (address : ℕ) (t : Ty) (n : ℕ) → n ≡ max (t.bits / 8) 1 → load address t ≡ ask read_at (record { address = address; size = n }) (λ im. gather n address im >>= λ bs. done (loaded t bs))
unfolding load ◌>>=◌
load_is address t n e = rw e

pub load_asks : {regions w o w₁ o' w' : List ℕ} {address bytes stored : ℕ} {t : Ty} (image : Image) {found : Option ℕ} {r : Bool} → bytes ≡ max (t.bits / 8) 1 → bytes ≤ 8 → address < 2 ^ 64
    → ReadFrom regions address bytes image → Sends (question_bytes (read_entry address bytes image.count image.number)) w o w₁ o'
    → stored ≡ word_at (registers_part w) 0 → found ≡ over.load (view w₁ stored).memory (le image.count image.number) address bytes → Gives w₁ (found_val t found) r w'
    → LoadsAt regions address t w o r w' o'
load_asks {regions} {w} {o} {w₁} {o'} {w'} {address} {bytes} {stored} {t} image {found} {r} eb lb la rd sd es ef e = record { goes = λ nodes symbols. go nodes symbols }
  where
    go : (nodes symbols : List ℕ) → Goes (given nodes symbols regions) (λ x. load address t) w o (end_in r w') w' o'
    go nodes symbols =
        let s : Asks (given nodes symbols regions) read_at (record { address = address; size = bytes }) (le image.count image.number) w o w₁ o' = reads nodes symbols address bytes image la lb rd sd in
        let bs = le image.count image.number in
        let got = loaded t (over.gather (view w₁ (counts_in w₁).stored).memory bs address bytes) in
        let same : found_val t found ≡ got =
        ap (found_val t) ef ∙ sym (found_is (view w₁ stored).memory bs address bytes t) ∙ ap (λ (n : ℕ). loaded t (over.gather (view w₁ n).memory bs address bytes)) (es ∙ stored_word w ∙ sym s.stored) in
        acts (λ _ x _. load_is address t bytes eb)
        (asks_goes (λ x im. gather bytes address im >>= λ z. done (loaded t z)) s (goes (λ x z. done (loaded t z)) (gather_goes bytes address bs) (gives_goes (subst (λ (v : Val). Gives w₁ v r w') same e))))
