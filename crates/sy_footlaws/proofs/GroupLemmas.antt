-- What is kept of the earlier groups goes on saying what their items did, and tells each touch that meets one of theirs.
use Rattle.std.proofs.Common.{refl, sym, ap, ◌∙◌, subst, inl, inr, ◌⊎◌, ◌<◌, ◌≢◌}
use Rattle.std.specs.List.{list_any}
use Rattle.std.specs.Prelude.{Bool, List, [], None, Option, Some, false, true, length, pos, ℕ, ℤ, ◌&&◌, ◌||◌, ◌++◌, ◌∷◌, ◌≡◌}
use Rattle.std.proofs.lemmas.Bool.{and_right, and_from, and_parts, or_from, or_left, or_right, or_cases, cond-true, cond-false, cases_Bool, cases_eq, both_ways}
use Rattle.std.proofs.lemmas.List.Folds.{list_any-append}
use Rattle.sy_access.specs.Logs.{same_cell}
use Rattle.sy_access.specs.declared.cells.Cell.{Cell}
use Rattle.sy_access.specs.declared.cells.Cell.TheVariants.{Buffer, Local}
use Rattle.sy_access.proofs.Written.{equal_from_same, same_itself}
use Rattle.sy_meaning.specs.declared.runs.Step.{Step}
use Rattle.sy_meaning.specs.declared.runs.Step.TheVariants as steps
use Rattle.sy_meaning.specs.Items.{cell_of, clashes, is_write}
use Rattle.sy_meaning.specs.Kernels.{buffer_steps, is_buffer_cell, log_of, noted}
use Rattle.sy_meaning.specs.Orders.{meets}
use Rattle.sy_foot.specs.Earlier.{state_after, state_meets, state_of}
use Rattle.sy_foot.specs.Footprints.{Advances, Notes, after_read, after_write, kept, written_by, written_with}
use Rattle.sy_foot.specs.GroupLogs.{cell_log}
use Rattle.sy_foot.specs.Numbering.{number_at, shared_total}
use Rattle.sy_foot.specs.Summaries.{meets_at, state_at, states_of, writes_of}
use Rattle.sy_foot.specs.Writes.{is_listed, is_written, number_of, shared_writes}
use Rattle.sy_foot.specs.declared.earlier.EarlierGroups.{EarlierGroups}
use Rattle.sy_foot.specs.declared.earlier.State.TheVariants.{Untouched}
use Rattle.sy_foot.specs.declared.entry.Entry.{Entry}
use Rattle.sy_foot.specs.declared.footprint.Footprint.{Footprint}
use Rattle.sy_foot.specs.declared.numbering.CellNumbers.{CellNumbers}
use Rattle.sy_foot.proofs.CellLemmas.{buffer-below, local-above}
use Rattle.sy_footlaws.specs.Courses.{Course, all_steps, nothing_yet, touched, touches, with_step, writes, wrote}
use Rattle.sy_footlaws.specs.Groups.{Absorbs, AreNumbered, GroupsStandFor, IsLogOf, state_left, writes_made}
use Rattle.sy_footlaws.specs.Standing.{EntrySays, Says, StandsFor}
use Rattle.sy_footlaws.proofs.CourseLemmas.{all-more, read-clashes, write-clashes, wrote-untouched}
use Rattle.sy_footlaws.proofs.StandingLemmas.{read-cell}
use Rattle.sy_footlaws.proofs.LogLemmas.{cells-append, local-again, log-buffer, log-local, log-read, logs-joined, noted-again, noted-first, shared-same}

-- ---- states

pub touched_if : (c : Cell) (ss : List Step) → wrote c ss ≡ true → touched c ss ≡ true
touched_if c [] h = absurd cc
touched_if c (s ∷ ss) h =
    elim (or_cases (writes c s) (wrote c ss) h) [
      | inl e ↦ or_left _ _ (and_parts (touches c s) (is_write s) e).0
      | inr e ↦ or_right (touches c s) _ (touched_if c ss e)
    ]

left_read : (t w : Bool) → state_meets false (Some (state_left t w)) ≡ w
left_read t true = refl
left_read true false = refl
left_read false false = refl

left_write : (t w : Bool) → (t ≡ false → w ≡ false) → state_meets true (Some (state_left t w)) ≡ t
left_write true true h = refl
left_write false true h = absurd (let z : true ≡ false = h refl in cc)
left_write true false h = refl
left_write false false h = refl

-- `meets` is told of each step exactly
pub meets-told : (m : CellNumbers) (g : EarlierGroups) (ss : List Step) (s : Step) (root i n : ℕ) → GroupsStandFor m g ss → cell_of s ≡ Buffer root i → number_at m (Buffer root i) ≡ Some n → meets_at g n (is_write s) ≡ list_any (clashes s) ss
meets-told m g ss (steps.Read c line) root i n stands of_cell at =
    let it = ap (state_meets false) (stands.states root i n at) ∙ left_read (touched (Buffer root i) ss) (wrote (Buffer root i) ss) in
    it ∙ sym (read-clashes c line ss ∙ ap (λ d. wrote d ss) of_cell)
meets-told m g ss (steps.Wrote c z line) root i n stands of_cell at =
    let it = ap (state_meets true) (stands.states root i n at) ∙ left_write (touched (Buffer root i) ss) (wrote (Buffer root i) ss) (wrote-untouched (Buffer root i) ss) in
    it ∙ sym (write-clashes c z line ss ∙ ap (λ d. touched d ss) of_cell)

none_added : (tb wb : Bool) → Some (state_left tb wb) ≡ Some (state_left (tb || false) (wb || false))
none_added true true = refl
none_added true false = refl
none_added false true = refl
none_added false false = refl

some_added : (tb wb wa : Bool) → state_meets wa (Some (state_left tb wb)) ≡ false → Some (state_of wa) ≡ Some (state_left (tb || true) (wb || wa))
some_added true true true h = refl
some_added true false true h = refl
some_added false true true h = refl
some_added false false true h = refl
some_added true true false h = absurd cc
some_added false true false h = absurd cc
some_added true false false h = refl
some_added false false false h = refl

-- what the group did to a cell goes to what the earlier ones did
absorbed_cell : (f : Footprint) (z : ℤ) (c : Cell) (r : Course) (tb wb : Bool) (o : Option Entry) → Says f z c r o → ((e : Entry) → o ≡ Some e → state_meets e.wrote (Some (state_left tb wb)) ≡ false) → state_after (Some (state_left tb wb)) o ≡ Some (state_left (tb || touched c (all_steps r)) (wb || wrote c (all_steps r)))
absorbed_cell f z c r tb wb None said clean =
    none_added tb wb ∙ (ap (λ t. Some (state_left (tb || t) (wb || false))) (sym said) ∙ ap (λ w. Some (state_left (tb || touched c (all_steps r)) (wb || w))) (sym (wrote-untouched c (all_steps r) said)))
absorbed_cell f z c r tb wb (Some e) said clean =
    some_added tb wb e.wrote (clean e refl) ∙ (ap (λ t. Some (state_left (tb || t) (wb || e.wrote))) (sym said.touching) ∙ ap (λ w. Some (state_left (tb || touched c (all_steps r)) (wb || w))) said.writing)

-- a cell that the group wrote wasn't written before
wrote_apart : (f : Footprint) (z : ℤ) (c : Cell) (r : Course) (tb wb : Bool) (o : Option Entry) → Says f z c r o → ((e : Entry) → o ≡ Some e → state_meets e.wrote (Some (state_left tb wb)) ≡ false) → wrote c (all_steps r) ≡ true → wb ≡ false
wrote_apart f z c r tb wb None said clean h = absurd (both_ways (wrote c (all_steps r)) (wrote-untouched c (all_steps r) said) h)
wrote_apart f z c r tb false (Some e) said clean h = refl
wrote_apart f z c r tb true (Some e) said clean h = absurd (let z : true ≡ false = clean e refl in cc)

apart_from : (m : CellNumbers) (opening : Cell → ℤ) (g h : EarlierGroups) (f : Footprint) (ss : List Step) (r : Course) → GroupsStandFor m g ss → StandsFor m opening f r → AreNumbered m (all_steps r) → Absorbs g h f → (c : Cell) → is_buffer_cell c ≡ true → wrote c (all_steps r) ≡ true → wrote c ss ≡ false
apart_from m opening g h f ss r groups stands numbered a (Local slot i) buffer w = absurd (let z : false ≡ true = buffer in cc)
apart_from m opening g h f ss r groups stands numbered a (Buffer root i) buffer w =
    let c = Buffer root i in
    let x = numbered c (touched_if c (all_steps r) w) in
    let clean : (e : Entry) → kept f x.0 ≡ Some e → state_meets e.wrote (Some (state_left (touched c ss) (wrote c ss))) ≡ false = λ e is. sym (ap (state_meets e.wrote) (groups.states root i x.0 x.1)) ∙ a.clean x.0 e is in
    wrote_apart f (opening c) c r (touched c ss) (wrote c ss) (kept f x.0) (stands.cells c x.0 x.1) clean w

pub absorbed-on : (m : CellNumbers) (opening : Cell → ℤ) (g h : EarlierGroups) (f : Footprint) (ss : List Step) (r : Course) → GroupsStandFor m g ss → StandsFor m opening f r → IsLogOf m f r → AreNumbered m (all_steps r) → Absorbs g h f → GroupsStandFor m h (ss ++ all_steps r)
absorbed-on m opening g h f ss r groups stands log numbered a =
    record {
      shared = a.shared ∙ groups.shared;
      states = λ root i n at.
          let c = Buffer root i in
          let clean : (e : Entry) → kept f n ≡ Some e → state_meets e.wrote (Some (state_left (touched c ss) (wrote c ss))) ≡ false = λ e is. sym (ap (state_meets e.wrote) (groups.states root i n at)) ∙ a.clean n e is in
          a.joined n ∙ (ap (λ s. state_after s (kept f n)) (groups.states root i n at) ∙ (absorbed_cell f (opening c) c r (touched c ss) (wrote c ss) (kept f n) (stands.cells c n at) clean ∙ (ap (λ t. Some (state_left t (wrote c ss || wrote c (all_steps r)))) (sym (list_any-append (touches c) ss (all_steps r))) ∙ ap (λ w. Some (state_left (touched c (ss ++ all_steps r)) w)) (sym (list_any-append (writes c) ss (all_steps r))))));
      log =
          let apart : (c : Cell) → is_buffer_cell c ≡ true → wrote c (all_steps r) ≡ true → wrote c ss ≡ false = apart_from m opening g h f ss r groups stands numbered a in
          ap (cell_log m) (a.writes ∙ ap (λ k. writes_of g ++ shared_writes k (kept f) (written_by f)) groups.shared) ∙ (cells-append m (writes_of g) (shared_writes (shared_total m) (kept f) (written_by f)) ∙ (ap (λ l. l ++ cell_log m (shared_writes (shared_total m) (kept f) (written_by f))) groups.log ∙ (ap (λ l. log_of (writes_made ss) ++ l) log ∙ sym (logs-joined ss (all_steps r) apart))));
    }

-- ---- a group's log, at each touch

read_number : (f : Footprint) (n : ℕ) (z : ℤ) (o : Option Entry) → is_written o ≡ true → (after_read f n z o).number ≡ number_of (pos 0) o
read_number f n z None h = absurd cc
read_number f n z (Some e) h = refl

pub log-kept : (m : CellNumbers) (f g : Footprint) (r t : Course) (start turn : ℕ) → all_steps t ≡ all_steps r → IsLogOf m f r → Advances f g start turn → IsLogOf m g t
log-kept m f g r t start turn same is on =
    ap (λ cs. cell_log m (shared_writes (shared_total m) (kept g) cs)) on.written ∙ (ap (cell_log m) (shared-same (shared_total m) (kept f) (kept g) (written_by f) (λ d listed low. ap (number_of (pos 0)) (on.entries d))) ∙ (is ∙ ap (λ l. log_of (writes_made l)) (sym same)))

pub log-begins : (m : CellNumbers) (f : Footprint) → written_by f ≡ [] → IsLogOf m f nothing_yet
log-begins m f none = ap (λ cs. cell_log m (shared_writes (shared_total m) (kept f) cs)) none

pub groups-begin : (m : CellNumbers) (g : EarlierGroups) → length (states_of g) ≡ shared_total m → ((c : ℕ) → c < shared_total m → state_at g c ≡ Some Untouched) → writes_of g ≡ [] → GroupsStandFor m g []
groups-begin m g shared untouched none =
    record { shared = shared; states = λ root i n at. untouched n (buffer-below m root i n at); log = ap (cell_log m) none }

pub log-reads-on : (m : CellNumbers) (f g : Footprint) (r : Course) (c : Cell) (n line : ℕ) (z : ℤ) → IsLogOf m f r → written_by g ≡ written_by f → Notes f g (after_read f n z (kept f n)) → IsLogOf m g (with_step r (steps.Read c line))
log-reads-on m f g r c n line z is same notes =
    let own = read-cell f n z in
    let e = after_read f n z (kept f n) in
    let shared = shared_total m in
    let numbers : (d : ℕ) → is_listed d (written_by f) ≡ true → d < shared → number_of (pos 0) (kept g d) ≡ number_of (pos 0) (kept f d) = λ d listed low. elim (cases_eq d n) [
      | inl here ↦
          let wrote_it : is_written (kept f n) ≡ true = subst (λ j. is_written (kept f j) ≡ true) here (f.first_writes.told d ∙ listed) in
          let now : kept g d ≡ Some e = ap (kept g) (here ∙ sym own) ∙ notes.here in
          ap (number_of (pos 0)) now ∙ (read_number f n z (kept f n) wrote_it ∙ ap (λ j. number_of (pos 0) (kept f j)) (sym here))
      | inr other ↦ ap (number_of (pos 0)) (notes.others d (λ k. other (k ∙ own)))
    ] in
    ap (λ cs. cell_log m (shared_writes shared (kept g) cs)) same ∙ (ap (cell_log m) (shared-same shared (kept f) (kept g) (written_by f) numbers) ∙ (is ∙ sym (ap (λ l. log_of (writes_made l)) (all-more r (steps.Read c line)) ∙ log-read (all_steps r) c line)))

listed_written : (f : Footprint) (n : ℕ) (b : Bool) → is_written (kept f n) ≡ b → is_listed n (written_by f) ≡ b
listed_written f n b h = sym (f.first_writes.told n) ∙ h

other_kept : (f g : Footprint) (n : ℕ) (x : ℤ) → Notes f g (after_write f n x) → (d : ℕ) → d ≢ n → kept g d ≡ kept f d
other_kept f g n x notes d ne = notes.others d ne

buffer_write : (m : CellNumbers) (f g : Footprint) (c : Cell) (n : ℕ) (x : ℤ) → number_at m c ≡ Some n → n < shared_total m → written_by g ≡ written_with f n → Notes f g (after_write f n x) → cell_log m (shared_writes (shared_total m) (kept g) (written_by g)) ≡ noted (c, x) (cell_log m (shared_writes (shared_total m) (kept f) (written_by f)))
buffer_write m f g c n x at low now notes =
    let shared = shared_total m in
    let cs = written_by f in
    let number : number_of (pos 0) (kept g n) ≡ x = ap (number_of (pos 0)) notes.here in
    elim (cases_Bool (is_written (kept f n))) [
      | inl q ↦
          ap (λ l. cell_log m (shared_writes shared (kept g) l)) (now ∙ cond-true (is_written (kept f n)) cs _ q) ∙ noted-again m shared (kept f) (kept g) c n x cs at low number (other_kept f g n x notes) f.first_writes.once (listed_written f n true q)
      | inr q ↦
          ap (λ l. cell_log m (shared_writes shared (kept g) l)) (now ∙ cond-false (is_written (kept f n)) cs _ q) ∙ noted-first m shared (kept f) (kept g) c n x cs at low number (other_kept f g n x notes) (listed_written f n false q)
    ]

pub log-writes-on : (m : CellNumbers) (f g : Footprint) (r : Course) (c : Cell) (n line : ℕ) (x : ℤ) → IsLogOf m f r → number_at m c ≡ Some n → written_by g ≡ written_with f n → Notes f g (after_write f n x) → IsLogOf m g (with_step r (steps.Wrote c x line))
log-writes-on m f g r (Buffer root i) n line x is at now notes =
    let c = Buffer root i in
    buffer_write m f g c n x at (buffer-below m root i n at) now notes ∙ (ap (noted (c, x)) is ∙ sym (ap (λ l. log_of (writes_made l)) (all-more r (steps.Wrote c x line)) ∙ log-buffer (all_steps r) root i x line))
log-writes-on m f g r (Local slot i) n line x is at now notes =
    let c = Local slot i in
    ap (λ l. cell_log m (shared_writes (shared_total m) (kept g) l)) now ∙ (ap (cell_log m) (local-again (shared_total m) (kept f) (kept g) n (is_written (kept f n)) (written_by f) (local-above m slot i n at).0 (other_kept f g n x notes)) ∙ (is ∙ sym (ap (λ l. log_of (writes_made l)) (all-more r (steps.Wrote c x line)) ∙ log-local (all_steps r) slot i x line)))

-- ---- clashes of two groups

-- one step touches what other steps wrote, or writes what they touched
step_meets : (s : Step) (ss : List Step) (c : Cell) → touches c s ≡ true → wrote c ss ≡ true → list_any (clashes s) ss ≡ true
step_meets (steps.Read d line) ss c t w =
    let same : c ≡ d = equal_from_same c d t in read-clashes d line ss ∙ (ap (λ x. wrote x ss) (sym same) ∙ w)
step_meets (steps.Wrote d z line) ss c t w =
    let same : c ≡ d = equal_from_same c d t in
    write-clashes d z line ss ∙ (ap (λ x. touched x ss) (sym same) ∙ touched_if c ss w)

step_meets_write : (s : Step) (ss : List Step) (c : Cell) → writes c s ≡ true → touched c ss ≡ true → list_any (clashes s) ss ≡ true
step_meets_write (steps.Read d line) ss c w t = absurd (both_ways (same_cell c d && false) (and_right (same_cell c d) false refl) w)
step_meets_write (steps.Wrote d z line) ss c w t =
    let same : c ≡ d = equal_from_same c d (and_parts (same_cell c d) true w).0 in
    write-clashes d z line ss ∙ (ap (λ x. touched x ss) (sym same) ∙ t)

-- a step of a cell of a buffer is among those that groups are told apart by
kept_step : (s : Step) (ss ts : List Step) (c : Cell) → is_buffer_cell c ≡ true → touches c s ≡ true → meets (buffer_steps (s ∷ ss)) ts ≡ (list_any (clashes s) ts || meets (buffer_steps ss) ts)
kept_step s ss ts c b t =
    let same : c ≡ cell_of s = equal_from_same c (cell_of s) t in
    let is_buffer : is_buffer_cell (cell_of s) ≡ true = subst (λ (x : Cell). is_buffer_cell x ≡ true) same b in
    ap (λ (l : List Step). meets l ts) (cond-true (is_buffer_cell (cell_of s)) (s ∷ buffer_steps ss) (buffer_steps ss) is_buffer)

meets_more : (s : Step) (ss ts : List Step) → meets (buffer_steps ss) ts ≡ true → meets (buffer_steps (s ∷ ss)) ts ≡ true
meets_more s ss ts h =
    elim (cases_Bool (is_buffer_cell (cell_of s))) [
      | inl q ↦ ap (λ (l : List Step). meets l ts) (cond-true (is_buffer_cell (cell_of s)) (s ∷ buffer_steps ss) (buffer_steps ss) q) ∙ or_right (list_any (clashes s) ts) _ h
      | inr q ↦ ap (λ (l : List Step). meets l ts) (cond-false (is_buffer_cell (cell_of s)) (s ∷ buffer_steps ss) (buffer_steps ss) q) ∙ h
    ]

touch_meets : (ss ts : List Step) (c : Cell) → is_buffer_cell c ≡ true → touched c ss ≡ true → wrote c ts ≡ true → meets (buffer_steps ss) ts ≡ true
touch_meets [] ts c b t w = absurd cc
touch_meets (s ∷ ss) ts c b t w =
    elim (or_cases (touches c s) (touched c ss) t) [
      | inl e ↦ kept_step s ss ts c b e ∙ or_left _ _ (step_meets s ts c e w)
      | inr e ↦ meets_more s ss ts (touch_meets ss ts c b e w)
    ]

write_meets : (ss ts : List Step) (c : Cell) → is_buffer_cell c ≡ true → wrote c ss ≡ true → touched c ts ≡ true → meets (buffer_steps ss) ts ≡ true
write_meets [] ts c b w t = absurd cc
write_meets (s ∷ ss) ts c b w t =
    elim (or_cases (writes c s) (wrote c ss) w) [
      | inl e ↦ kept_step s ss ts c b (and_parts (touches c s) (is_write s) e).0 ∙ or_left _ _ (step_meets_write s ts c e t)
      | inr e ↦ meets_more s ss ts (write_meets ss ts c b e t)
    ]

entry_meets : (w tb wb : Bool) → state_meets w (Some (state_left tb wb)) ≡ true → (wb ≡ true) ⊎ ((w ≡ true) × (tb ≡ true))
entry_meets w tb true h = inl refl
entry_meets w true false h = inr (h, refl)
entry_meets w false false h = absurd (let z : false ≡ true = h in cc)

-- an entry that meets the earlier groups is a step that does
said_meets : (f : Footprint) (z : ℤ) (c : Cell) (r : Course) (ss : List Step) (o : Option Entry) (e : Entry) → is_buffer_cell c ≡ true → Says f z c r o → o ≡ Some e → state_meets e.wrote (Some (state_left (touched c ss) (wrote c ss))) ≡ true → meets (buffer_steps (all_steps r)) ss ≡ true
said_meets f z c r ss None e b said is h = absurd (let q : None ≡ Some e = is in cc)
said_meets f z c r ss (Some x) e b said is h =
    let same : x ≡ e = cc in
    let says : EntrySays f z c r e = subst (λ (y : Entry). EntrySays f z c r y) same said in
    elim (entry_meets e.wrote (touched c ss) (wrote c ss) h) [
      | inl w ↦ touch_meets (all_steps r) ss c b says.touching w
      | inr p ↦ write_meets (all_steps r) ss c b (sym says.writing ∙ p.0) p.1
    ]

pub meets-clash : (m : CellNumbers) (opening : Cell → ℤ) (g : EarlierGroups) (f : Footprint) (ss : List Step) (r : Course) (root i n : ℕ) (e : Entry) → GroupsStandFor m g ss → StandsFor m opening f r → number_at m (Buffer root i) ≡ Some n → kept f n ≡ Some e → meets_at g n e.wrote ≡ true → meets (buffer_steps (all_steps r)) ss ≡ true
meets-clash m opening g f ss r root i n e groups stands at is h =
    said_meets f (opening (Buffer root i)) (Buffer root i) r ss (kept f n) e refl (stands.cells (Buffer root i) n at) is (sym (ap (state_meets e.wrote) (groups.states root i n at)) ∙ h)

-- where no entry meets them, no step does
no_touch : (tb wb : Bool) (w : Bool) → state_meets w (Some (state_left tb wb)) ≡ false → (wb ≡ false) × (w ≡ true → tb ≡ false)
no_touch tb true w h = absurd (let z : true ≡ false = h in cc)
no_touch true false true h = absurd (let z : true ≡ false = h in cc)
no_touch true false false h = (refl, λ e. absurd (let z : false ≡ true = e in cc))
no_touch false false w h = (refl, λ e. refl)

Calm : Cell → List Step → List Step → Type 0
Calm c ss ts = (touched c ss ≡ true → wrote c ts ≡ false) × (wrote c ss ≡ true → touched c ts ≡ false)

said_calm : (f : Footprint) (z : ℤ) (c : Cell) (r : Course) (ss : List Step) (o : Option Entry) → Says f z c r o → ((e : Entry) → o ≡ Some e → state_meets e.wrote (Some (state_left (touched c ss) (wrote c ss))) ≡ false) → Calm c (all_steps r) ss
unfolding Calm
said_calm f z c r ss None said clean = (λ t. absurd (both_ways (touched c (all_steps r)) said t), λ w. absurd (both_ways (wrote c (all_steps r)) (wrote-untouched c (all_steps r) said) w))
said_calm f z c r ss (Some e) said clean =
    let p = no_touch (touched c ss) (wrote c ss) e.wrote (clean e refl) in
    (λ t. p.0, λ w. p.1 (said.writing ∙ w))

calm_step : (s : Step) (ts : List Step) → (touches (cell_of s) s ≡ true → wrote (cell_of s) ts ≡ false) → (writes (cell_of s) s ≡ true → touched (cell_of s) ts ≡ false) → list_any (clashes s) ts ≡ false
calm_step (steps.Read c line) ts t w = read-clashes c line ts ∙ t (same_itself c)
calm_step (steps.Wrote c z line) ts t w = write-clashes c z line ts ∙ w (and_from _ _ (same_itself c) refl)

calm_steps : (ss ts : List Step) → ((c : Cell) → is_buffer_cell c ≡ true → Calm c ss ts) → meets (buffer_steps ss) ts ≡ false
unfolding Calm
calm_steps [] ts calm = refl
calm_steps (s ∷ ss) ts calm =
    let rest = calm_steps ss ts (λ c b. (λ t. (calm c b).0 (or_right (touches c s) _ t), λ w. (calm c b).1 (or_right (writes c s) _ w))) in
    elim (cases_Bool (is_buffer_cell (cell_of s))) [
      | inl q ↦
          let here = calm_step s ts (λ t. (calm (cell_of s) q).0 (or_left _ _ t)) (λ w. (calm (cell_of s) q).1 (or_left _ _ w)) in
          ap (λ (l : List Step). meets l ts) (cond-true (is_buffer_cell (cell_of s)) (s ∷ buffer_steps ss) (buffer_steps ss) q) ∙ or_from _ _ here rest
      | inr q ↦ ap (λ (l : List Step). meets l ts) (cond-false (is_buffer_cell (cell_of s)) (s ∷ buffer_steps ss) (buffer_steps ss) q) ∙ rest
    ]

calm_cell : (m : CellNumbers) (opening : Cell → ℤ) (g : EarlierGroups) (f : Footprint) (ss : List Step) (r : Course) → GroupsStandFor m g ss → StandsFor m opening f r → AreNumbered m (all_steps r) → ((c : ℕ) (e : Entry) → kept f c ≡ Some e → meets_at g c e.wrote ≡ false) → (c : Cell) → is_buffer_cell c ≡ true → Calm c (all_steps r) ss
unfolding Calm
calm_cell m opening g f ss r groups stands numbered clean (Local slot i) b = absurd (let z : false ≡ true = b in cc)
calm_cell m opening g f ss r groups stands numbered clean (Buffer root i) b =
    let c = Buffer root i in
    let calm_at = λ (x : (n : ℕ) × (number_at m c ≡ Some n)). said_calm f (opening c) c r ss (kept f x.0) (stands.cells c x.0 x.1) (λ e is. sym (ap (state_meets e.wrote) (groups.states root i x.0 x.1)) ∙ clean x.0 e is) in
    (λ t. (calm_at (numbered c t)).0 t, λ w. (calm_at (numbered c (touched_if c (all_steps r) w))).1 w)

pub clean-calm : (m : CellNumbers) (opening : Cell → ℤ) (g : EarlierGroups) (f : Footprint) (ss : List Step) (r : Course) → GroupsStandFor m g ss → StandsFor m opening f r → AreNumbered m (all_steps r) → ((c : ℕ) (e : Entry) → kept f c ≡ Some e → meets_at g c e.wrote ≡ false) → meets (buffer_steps (all_steps r)) ss ≡ false
clean-calm m opening g f ss r groups stands numbered clean = calm_steps (all_steps r) ss (calm_cell m opening g f ss r groups stands numbered clean)
