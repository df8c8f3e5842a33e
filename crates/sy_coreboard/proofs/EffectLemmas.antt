-- What an act of one entry keeps of the core.
use Rattle.std.proofs.Common.{◌≡◌, ◌≢◌, ℕ, ℤ, List, length, Bool, true, false, Option, Some, None, ◌⊎◌, refl, sym, ap, ◌∙◌, subst, inl, inr}
use Rattle.std.specs.Prelude.{slice_get, option_map, IsSome, not, ◌&&◌, ◌||◌, ◌==◌, nat_le}
use Rattle.std.specs.List.{list_any, list_all}
use Rattle.std.proofs.lemmas.Bool.{cases_Bool, cases_eq}
use Rattle.sy_access.specs.declared.access.Need.{Need}
use Rattle.sy_access.specs.Needs.{conflict, is_apart}
use Rattle.sy_work.specs.Programs.{Input}
use Rattle.sy_onecopy.specs.declared.Entry.{Entry}
use Rattle.sy_onecopy.specs.declared.Stage.{Stage}
use Rattle.sy_onecopy.specs.declared.Stage.TheVariants.{Granted}
use Rattle.sy_onecopy.specs.Each.{changed_at}
use Rattle.sy_onecopy.specs.Before.{is_done, is_free}
use Rattle.sy_needs.specs.Order.{needs_meet}
use Rattle.sy_onecopy.specs.Copies.{makes, uses}
use Rattle.sy_needs.specs.Versions.{renews, covers, forgoes, replaces}
use Rattle.sy_onecopy.specs.Outcome.{values_at, inputs}
use Rattle.sy_onecopy.specs.Settle.{with_stage}
use Rattle.sy_settling.specs.Orderly.{IsAt, IsFreeAt, IsOrderly}
use Rattle.sy_settling.proofs.ListLemmas.{get-changed, get-changed_other, length-each, some_is, and_left, and_right}
use Rattle.sy_settling.proofs.ElementLemmas.{mapped, values-mapped, inputs-kept, meet_comm}
use Rattle.sy_settling.proofs.EffectLemmas.{Act}
use Rattle.sy_settling.proofs.FreeLemmas.{free-pending, free-unheld, pending-open, free-changed, strangers}
use Rattle.sy_settling.proofs.OrderlyEffectLemmas.{Acts}
use Rattle.sy_sound.specs.Sound.{IsHeld, IsSound}
use Rattle.sy_sound.proofs.InputLemmas.{stands_at}
use Rattle.sy_sound.proofs.ListLemmas.{All-at}
use Rattle.sy_coreboard.specs.Core.{Core, is_used, HasCopies, IsOut, IsMoving, IsKept}
use Rattle.sy_coreboard.specs.Events.{Publishes}
use Rattle.sy_coreboard.proofs.NeedLemmas.{among, all-at, unmet, names_it, one_place, covering, replaced, made_named, conflicts_with_all, writes_all, not_both, held_within, named_here}
use Rattle.sy_coreboard.specs.Sources.{IsLive, HasSource}
use Rattle.sy_coreboard.proofs.LiveLemmas.{live_back}

pub no_copy : {T A : Type 0} (o : Option T) → o ≡ None → IsSome o → A
no_copy None e h = absurd cc
no_copy (Some x) e h = absurd cc

-- an entry that has its copies makes no version of a root that another needs at a place where it isn't current
pub makes_none : (c : Core) (k j : ℕ) (x y : Entry) (r : ℕ) → IsKept c → IsAt c.board.entries k x → IsAt c.board.entries j y → HasCopies c x → is_used c.board y r ≡ true → c.copies y.place r ≡ None → needs_meet x.needs x.place y.needs y.place ≡ false → makes x r ≡ false
unfolding makes renews replaces covers forgoes
makes_none c k j x y r kept gx gy has used none met = elim (cases_Bool (makes x r)) [
  | inr v ↦ v
  | inl v ↦
      let count = length (values_at c.board.buffers r) in
      let place = one_place x y r count v used met in
      elim (cases_Bool (uses x r count)) [
        | inl u ↦ no_copy (c.copies x.place r) (ap (λ p. c.copies p r) place ∙ none) (has r u)
        | inr u ↦
            let all = replaced x r count u (made_named r x.needs v) in
            let cover = λ (n : Need). n.buffer == r && n.from == 0 && nat_le count n.to in
            let fresh = λ (n : Need). not (n.buffer == r) || n.no_init in
            let a = among cover x.needs (and_left (list_any cover x.needs) (list_all fresh x.needs) all) in
            let b = among (λ n. n.buffer == r) y.needs (names_it r count y used) in
            let has_all = covering r count a.need a.passes in
            let wrote = writes_all a.need r has_all.0 (all-at fresh x.needs a.place a.need (and_right (list_any cover x.needs) (list_all fresh x.needs) all) a.at) (All-at (IsHeld c.board.buffers) x.needs a.place a.need (stands_at c.board k x kept.sound gx).held a.at).honest in
            let named = named_here b.need r b.passes in
            let within = held_within c.board.buffers b.need r named (All-at (IsHeld c.board.buffers) y.needs b.place b.need (stands_at c.board j y kept.sound gy).held b.at) in
            not_both (conflict a.need b.need) (is_apart a.need x.place b.need y.place)
            (unmet cover (λ n. n.buffer == r) x.needs y.needs x.place y.place met a b)
            (conflicts_with_all a.need b.need r count has_all.0 has_all.1 has_all.2 wrote named within.0 within.1)
      ]
]

-- ---- the act

-- the entry e at k acts, and the roots that it made stand at its place alone
pub record Acted (old new : Core) (a : Act) (k : ℕ) (e : Entry) (made : ℕ → Bool) : Type 0 where
  pub entries : new.board.entries ≡ changed_at (with_stage a.stage) k old.board.entries
  pub buffers : new.board.buffers ≡ mapped a.cells old.board.buffers
  pub orderly : IsOrderly new.board
  pub sound : IsSound new.board
  pub made_by : (r : ℕ) → made r ≡ true → makes e r ≡ true
  pub same : (r : ℕ) → made r ≡ false → values_at new.board.buffers r ≡ values_at old.board.buffers r
  pub copies : Publishes old new e.place made
  pub none : new.out k ≡ None
  pub out : (j : ℕ) → j ≢ k → new.out j ≡ old.out j
  pub moving : (p r : ℕ) → new.moving p r ≡ old.moving p r

-- the same, with what held before it
record Scene (old new : Core) (a : Act) (k : ℕ) (e : Entry) (made : ℕ → Bool) : Type 0 where
  kept : IsKept old
  acts : Acts old.board a k e
  has : HasCopies old e
  acted : Acted old new a k e made

same_count : (old new : Core) (a : Act) (k : ℕ) (e : Entry) (made : ℕ → Bool) (r : ℕ) → Scene old new a k e made → length (values_at new.board.buffers r) ≡ length (values_at old.board.buffers r)
same_count old new a k e made r s =
    ap (λ l. length (values_at l r)) s.acted.buffers ∙ ap length (values-mapped a.cells old.board.buffers r) ∙ length-each (a.cells r) 0 (values_at old.board.buffers r)

was_used : (old new : Core) (a : Act) (k : ℕ) (e : Entry) (made : ℕ → Bool) (y : Entry) (r : ℕ) → Scene old new a k e made → is_used new.board y r ≡ true → is_used old.board y r ≡ true
was_used old new a k e made y r s u = ap (uses y r) (sym (same_count old new a k e made r s)) ∙ u

-- what another entry has at its place stays there
copies_stay : (old new : Core) (a : Act) (k j : ℕ) (e y : Entry) (made : ℕ → Bool) → Scene old new a k e made → needs_meet e.needs e.place y.needs y.place ≡ false → HasCopies old y → HasCopies new y
copies_stay old new a k j e y made s met has r u =
    let was = was_used old new a k e made y r s u in
    elim (cases_Bool (made r)) [
      | inl v ↦
          let place = one_place e y r (length (values_at old.board.buffers r)) (s.acted.made_by r v) was met in
          subst IsSome (sym (ap (λ p. new.copies p r) (sym place) ∙ s.acted.copies.renewed r v)) refl
      | inr v ↦ subst IsSome (sym (s.acted.copies.others y.place r v)) (has r was)
    ]

own_copies : (old new : Core) (a : Act) (k : ℕ) (e : Entry) (made : ℕ → Bool) (st : Stage) → Scene old new a k e made → HasCopies new (with_stage st e)
unfolding uses
own_copies old new a k e made st s r u = elim (cases_Bool (made r)) [
  | inl v ↦ subst IsSome (sym (s.acted.copies.renewed r v)) refl
  | inr v ↦ subst IsSome (sym (s.acted.copies.others e.place r v)) (s.has r (was_used old new a k e made e r s u))
]

-- another entry that may take effect still may
stays_free : (old new : Core) (a : Act) (k j : ℕ) (e y : Entry) (made : ℕ → Bool) → Scene old new a k e made → j ≢ k → IsFreeAt old.board.entries j y → IsFreeAt new.board.entries j y
stays_free old new a k j e y made s ne f = (
  ap (λ l. slice_get l j) s.acted.entries ∙ get-changed_other (with_stage a.stage) k j old.board.entries ne ∙ f.0,
  ap (λ l. is_free l j y) s.acted.entries ∙ free-changed a.stage k j old.board.entries e y s.acts.at s.acts.undone f.1,
)

-- and doesn't meet the one that acts
apart : (old new : Core) (a : Act) (k j : ℕ) (e y : Entry) (made : ℕ → Bool) → Scene old new a k e made → j ≢ k → IsFreeAt old.board.entries j y → needs_meet e.needs e.place y.needs y.place ≡ false
apart old new a k j e y made s ne f =
    strangers old.board.entries k j e y (λ q. ne (sym q)) s.acts.at f.0 s.acts.undone (pending-open y.stage (free-pending old.board.entries j y f.1)) s.acts.unheld (free-unheld old.board.entries j y f.1)

acted-out : (old new : Core) (a : Act) (k : ℕ) (e : Entry) (made : ℕ → Bool) (j : ℕ) (given : List Input) → Scene old new a k e made → new.out j ≡ Some given → IsOut new j given
acted-out old new a k e made j given s h = elim (cases_eq j k) [
  | inl q ↦ absurd (let z : None ≡ Some given = sym (ap new.out q ∙ s.acted.none) ∙ h in cc)
  | inr ne ↦
      let o = s.kept.out j given (sym (s.acted.out j ne) ∙ h) in
      let met = apart old new a k j e o.entry made s ne o.free in
      record {
        entry = o.entry;
        node = o.node;
        queue = o.queue;
        command = o.command;
        work = o.work;
        free = stays_free old new a k j e o.entry made s ne o.free;
        inputs = o.inputs ∙ sym (ap (λ l. inputs l o.entry.needs) s.acted.buffers ∙ inputs-kept o.entry.needs a.cells e.needs o.entry.place e.place old.board.buffers s.acts.of.keeps (meet_comm e.needs o.entry.needs e.place o.entry.place met));
        copies = copies_stay old new a k j e o.entry made s met o.copies;
      }
]

acted-moving : (old new : Core) (a : Act) (k : ℕ) (e : Entry) (made : ℕ → Bool) (p r : ℕ) (v : List ℤ) → Scene old new a k e made → new.moving p r ≡ Some v → IsMoving new p r v
acted-moving old new a k e made p r v s h =
    let m = s.kept.moving p r v (sym (s.acted.moving p r) ∙ h) in
    let ne : m.at ≢ k = λ q.
    (let is : m.entry ≡ e = some_is (sym m.free.0 ∙ ap (slice_get old.board.entries) q ∙ s.acts.at) in
    let none : old.copies e.place r ≡ None = ap (λ (y : Entry). old.copies y.place r) (sym is) ∙ ap (λ i. old.copies i r) m.placed ∙ m.none in
    no_copy (old.copies e.place r) none (s.has r (subst (λ y. is_used old.board y r ≡ true) is m.needed))) in
    let met = apart old new a k m.at e m.entry made s ne m.free in
    let unmade : makes e r ≡ false = makes_none old k m.at e m.entry r s.kept s.acts.at m.free.0 s.has m.needed (ap (λ i. old.copies i r) m.placed ∙ m.none) met in
    let off : made r ≡ false = elim (cases_Bool (made r)) [
      | inl t ↦ absurd (let z : true ≡ false = sym (s.acted.made_by r t) ∙ unmade in cc)
      | inr t ↦ t
    ] in
    record {
      at = m.at;
      entry = m.entry;
      free = stays_free old new a k m.at e m.entry made s ne m.free;
      needed = ap (uses m.entry r) (same_count old new a k e made r s) ∙ m.needed;
      placed = m.placed;
      none = s.acted.copies.others p r off ∙ m.none;
      current = m.current ∙ sym (s.acted.same r off);
    }

acted-copies : (old new : Core) (a : Act) (k : ℕ) (e : Entry) (made : ℕ → Bool) (p r : ℕ) (v : List ℤ) → Scene old new a k e made → new.copies p r ≡ Some v → v ≡ values_at new.board.buffers r
acted-copies old new a k e made p r v s h = elim (cases_Bool (made r)) [
  | inl t ↦ elim (cases_eq p e.place) [
    | inl q ↦ some_is (sym h ∙ ap (λ i. new.copies i r) q ∙ s.acted.copies.renewed r t)
    | inr ne ↦ absurd (let z : None ≡ Some v = sym (s.acted.copies.elsewhere p r t ne) ∙ h in cc)
  ]
  | inr t ↦ s.kept.copies p r v (sym (s.acted.copies.others p r t) ∙ h) ∙ sym (s.acted.same r t)
]

-- an entry of the new board was there, but for its stage
was_there : (old new : Core) (a : Act) (k : ℕ) (e : Entry) (made : ℕ → Bool) (j : ℕ) (y : Entry) → Scene old new a k e made → IsAt new.board.entries j y → ((j ≢ k) × IsAt old.board.entries j y) ⊎ (y ≡ with_stage a.stage e)
was_there old new a k e made j y s g = elim (cases_eq j k) [
  | inl q ↦ inr (some_is (sym g ∙ ap (λ l. slice_get l j) s.acted.entries ∙ ap (slice_get (changed_at (with_stage a.stage) k old.board.entries)) q ∙ get-changed (with_stage a.stage) k old.board.entries ∙ ap (option_map (with_stage a.stage)) s.acts.at))
  | inr ne ↦ inl (ne, sym (get-changed_other (with_stage a.stage) k j old.board.entries ne) ∙ sym (ap (λ l. slice_get l j) s.acted.entries) ∙ g)
]

acted-granted : (old new : Core) (a : Act) (k : ℕ) (e : Entry) (made : ℕ → Bool) (j : ℕ) (y : Entry) → Scene old new a k e made → IsAt new.board.entries j y → y.stage ≡ Granted → HasCopies new y
acted-granted old new a k e made j y s g st = elim (was_there old new a k e made j y s g) [
  | inl w ↦
      let met = strangers old.board.entries k j e y (λ q. w.0 (sym q)) s.acts.at w.1 s.acts.undone (ap is_done st) s.acts.unheld (s.kept.orderly.open_first j y w.1 st) in
      copies_stay old new a k j e y made s met (s.kept.granted j y w.1 st)
  | inr is ↦ subst (HasCopies new) (sym is) (own_copies old new a k e made a.stage s)
]

acted-source : (old new : Core) (a : Act) (k : ℕ) (e : Entry) (made : ℕ → Bool) (r : ℕ) → Scene old new a k e made → IsLive new.board r → HasSource new.copies r
acted-source old new a k e made r s l = elim (cases_Bool (made r)) [
  | inl v ↦ (e.place, subst IsSome (sym (s.acted.copies.renewed r v)) refl)
  | inr v ↦
      let h = s.kept.sources r (live_back old.board new.board a k e r s.acts s.acted.entries s.acted.buffers l) in
      (h.0, subst IsSome (sym (s.acted.copies.others h.0 r v)) h.1)
]

pub acted-keeps : (old new : Core) (a : Act) (k : ℕ) (e : Entry) (made : ℕ → Bool) → IsKept old → Acts old.board a k e → HasCopies old e → Acted old new a k e made → IsKept new
acted-keeps old new a k e made kept acts has acted =
    let s : Scene old new a k e made = record { kept = kept; acts = acts; has = has; acted = acted } in
    record {
      orderly = acted.orderly;
      sound = acted.sound;
      copies = λ p r v h. acted-copies old new a k e made p r v s h;
      out = λ j given h. acted-out old new a k e made j given s h;
      granted = λ j y g st. acted-granted old new a k e made j y s g st;
      moving = λ p r v h. acted-moving old new a k e made p r v s h;
      sources = λ r l. acted-source old new a k e made r s l;
    }
