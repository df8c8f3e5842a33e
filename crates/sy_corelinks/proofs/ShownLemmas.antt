-- Calls of the copies as events of the core that they show.
use Rattle.std.proofs.Common.{◌≡◌, ◌≢◌, ℕ, ◌+◌, ◌-◌, ℤ, List, [], ◌∷◌, length, Bool, true, false, Option, Some, None, refl, sym, ap, ◌∙◌, subst, inl, inr, arith}
use Rattle.std.specs.Prelude.{slice_get, IsSome, ◌&&◌, ◌||◌, ◌==◌, if◌then◌else◌}
use Rattle.std.proofs.lemmas.Bool.{cases_eq}
use Rattle.std.proofs.lemmas.Bool.Decides.{nat_tests}
use Rattle.sy_access.specs.declared.access.Need.{Need}
use Rattle.sy_access.specs.declared.cells.Cell.{Cell}
use Rattle.sy_needs.specs.Versions.{renews}
use Rattle.sy_work.specs.Programs.{OutcomeOf, Input}
use Rattle.sy_work.specs.declared.commands.Command.{Command}
use Rattle.sy_work.specs.declared.commands.Outcome.{Outcome}
use Rattle.sy_work.specs.declared.commands.Outcome.TheVariants.{Wrote, Failed}
use Rattle.sy_onecopy.specs.declared.Entry.{Entry}
use Rattle.sy_onecopy.specs.declared.Work.TheVariants.{Node}
use Rattle.sy_onecopy.specs.State.{Board}
use Rattle.sy_onecopy.specs.Before.{is_done}
use Rattle.sy_onecopy.specs.Copies.{makes}
use Rattle.sy_onecopy.specs.Outcome.{values_at, buffers_after}
use Rattle.sy_onecopy.specs.Settle.{took}
use Rattle.sy_settling.specs.Orderly.{IsAt, IsFreeAt}
use Rattle.sy_settling.proofs.ListLemmas.{some_is, length-each}
use Rattle.sy_settling.proofs.ElementLemmas.{values-mapped, buffer_by, mapped}
use Rattle.sy_settling.proofs.OrderlyEffectLemmas.{act_at, act_at-acts, effect-act}
use Rattle.sy_settling.proofs.SettleLemmas.{effect-entries}
use Rattle.sy_copies.specs.declared.buffer.Buffer.{Buffer}
use Rattle.sy_copies.specs.Current.{copy_at, len_at}
use Rattle.sy_copies.specs.Calls.{version, Installs as Puts, Publishes as Renews, Drops as Ends}
use Rattle.sy_sound.specs.Sound.{IsSound}
use Rattle.sy_coreboard.specs.Core.{Core, IsKept, HasCopies}
use Rattle.std.specs.List.{list_any}
use Rattle.sy_access.specs.Needs.{writes}
use Rattle.sy_work.specs.Moves.{writes_from}
use Rattle.sy_work.specs.declared.asks.Ask.TheVariants.{CloseHost}
use Rattle.sy_onecopy.specs.declared.Stage.{Stage}
use Rattle.sy_onecopy.specs.declared.Stage.TheVariants as stage
use Rattle.sy_onecopy.specs.Step.{apply, begin_ask, access_from}
use Rattle.sy_settling.proofs.AskLemmas.{closing as closing_act, after_close-is, closing-acts}
use Rattle.sy_settling.proofs.OrderlyEffectLemmas.{Acts}
use Rattle.sy_sound.specs.Sound.{IsHeld}
use Rattle.sy_sound.proofs.InputLemmas.{stands_at}
use Rattle.sy_sound.proofs.ListLemmas.{All-at}
use Rattle.sy_links.proofs.PutBackLemmas.{put_back_is}
use Rattle.sy_coreboard.proofs.HostLemmas.{ClosedIs, CloseIs, close_is, access_alone, none_after}
use Rattle.sy_coreboard.specs.Events.{Installs, Finishes, Drops, Takes, Hears, ClosedAccess, closed_access_by, closed_access_at, closed_access_found, closed_access, Closes, Publishes, Renews as CoreRenews}
use Rattle.sy_coreboard.specs.Sources.{IsLive}
use Rattle.sy_coreboard.proofs.NeedLemmas.{made_named}
use Rattle.sy_coreboard.proofs.LiveLemmas.{live_back, live_same, named_live}
use Rattle.sy_coreboard.proofs.TaskLemmas.{finish-keeps, undone_free}
use Rattle.sy_links.proofs.VersionLemmas.{version_is, sound-fresh}
use Rattle.sy_corelinks.specs.Shown.{Shows, log_by}

eq_comm : (a b : ℕ) → (a == b) ≡ (b == a)
eq_comm a b = elim (cases_eq a b) [
  | inl e ↦ subst (λ i. (a == i) ≡ (i == a)) e refl
  | inr ne ↦ (let l : (a == b) ≡ false = grind (arith, nat_tests) in let r : (b == a) ≡ false = grind (arith, nat_tests) in l ∙ sym r)
]

-- ---- a copy is installed

pub installs_core : (old new : List (Option Buffer)) (c : Core) (place buffer : ℕ) (values : List ℤ) → Shows old c → Puts old new place buffer values → (d : Core) × Installs c d place buffer values × Shows new d
installs_core old new c place buffer values s f =
    let d : Core = record {
      board = c.board;
      copies = λ p r. copy_at new p r;
      out = c.out;
      moving = λ p r. if r == buffer && p == place then None else c.moving p r;
    } in
    let event : Installs c d place buffer values = record {
      board = refl;
      copies = λ p r.
          f.copies p r
          ∙ ap (λ v. if v && place == p then Some values else copy_at old p r) (eq_comm buffer r)
          ∙ ap (λ v. if r == buffer && v then Some values else copy_at old p r) (eq_comm place p)
          ∙ ap (λ o. if r == buffer && p == place then Some values else o) (sym (s.values p r));
      out = λ j. refl;
      moving = λ p r. refl;
    } in
    let shown : Shows new d = record { count = f.made ∙ s.count; values = λ p r. refl; lens = λ r l. f.lens r ∙ s.lens r l } in
    (d, event, shown)

-- ---- a command finishes

other_place : (a b : ℕ) → a ≢ b → (a == b) ≡ false
other_place a b ne = grind (arith, nat_tests)

same_place : (a : ℕ) → (a == a) ≡ true
same_place a = grind (arith, nat_tests)

took_buffers : (b : Board) (k : ℕ) (needs : List Need) (o : Outcome) → (took b k needs o).buffers ≡ buffers_after needs (log_by o) b.buffers
unfolding took
took_buffers b k needs (Wrote log) = refl
took_buffers b k needs (Failed fault) = refl

some_has : (o : Option (List ℤ)) (w : List ℤ) → IsSome o → ((v : List ℤ) → o ≡ Some v → v ≡ w) → o ≡ Some w
some_has (Some v) w h f = ap Some (f v refl)
some_has None w h f = absurd cc

-- a root of which an undone entry makes a version may be named
made_live : (b : Board) (k : ℕ) (e : Entry) (r : ℕ) → IsSound b → IsAt b.entries k e → is_done e.stage ≡ false → makes e r ≡ true → IsLive b r
unfolding makes renews
made_live b k e r sound g d m = named_live b k e r sound g d (made_named r e.needs m)

-- what is published for an undone entry that has its copies
record Published (old new : List (Option Buffer)) (c : Core) (k : ℕ) (e : Entry) (log : List (Cell × ℤ)) : Type 0 where
  kept : IsKept c
  at : IsAt c.board.entries k e
  undone : is_done e.stage ≡ false
  has : HasCopies c e
  shows : Shows old c
  renews : Renews old new e.place e.needs log

abbrev count_at : Core → ℕ → ℕ
count_at c r = length (values_at c.board.buffers r)

-- the version that stands at a place
versioned : (old new : List (Option Buffer)) (c : Core) (k : ℕ) (e : Entry) (log : List (Cell × ℤ)) (p r : ℕ) → Published old new c k e log → makes e r ≡ true → copy_at new p r ≡ (if e.place == p then Some (version e.needs log r (count_at c r) (copy_at old e.place r)) else None)
unfolding makes
versioned old new c k e log p r h m = h.renews.versions p r (count_at c r) m (h.shows.lens r (made_live c.board k e r h.kept.sound h.at h.undone m))

-- which is what the board has
version-values : (old new : List (Option Buffer)) (c : Core) (k : ℕ) (e : Entry) (log : List (Cell × ℤ)) (r : ℕ) → Published old new c k e log → makes e r ≡ true → version e.needs log r (count_at c r) (copy_at old e.place r) ≡ values_at (buffers_after e.needs log c.board.buffers) r
version-values old new c k e log r h m =
    version_is e log c.board.buffers r (copy_at old e.place r) (sound-fresh c.board k e h.kept.sound h.at) m
    (λ u. sym (h.shows.values e.place r) ∙ some_has (c.copies e.place r) (values_at c.board.buffers r) (h.has r u) (λ v w. h.kept.copies e.place r v w))

renewed-values : (old new : List (Option Buffer)) (c : Core) (k : ℕ) (e : Entry) (log : List (Cell × ℤ)) (r : ℕ) → Published old new c k e log → makes e r ≡ true → copy_at new e.place r ≡ Some (values_at (buffers_after e.needs log c.board.buffers) r)
renewed-values old new c k e log r h m =
    versioned old new c k e log e.place r h m
    ∙ ap (λ v. if v then Some (version e.needs log r (count_at c r) (copy_at old e.place r)) else None) (same_place e.place)
    ∙ ap Some (version-values old new c k e log r h m)

stale-elsewhere : (old new : List (Option Buffer)) (c : Core) (k : ℕ) (e : Entry) (log : List (Cell × ℤ)) (p r : ℕ) → Published old new c k e log → makes e r ≡ true → p ≢ e.place → copy_at new p r ≡ None
stale-elsewhere old new c k e log p r h m ne =
    versioned old new c k e log p r h m
    ∙ ap (λ v. if v then Some (version e.needs log r (count_at c r) (copy_at old e.place r)) else None) (other_place e.place p (λ q. ne (sym q)))

kept-elsewhere : (old new : List (Option Buffer)) (c : Core) (k : ℕ) (e : Entry) (log : List (Cell × ℤ)) (p r : ℕ) → Published old new c k e log → makes e r ≡ false → copy_at new p r ≡ c.copies p r
unfolding makes
kept-elsewhere old new c k e log p r h m = h.renews.others p r m ∙ sym (h.shows.values p r)

finishes-at : (old new : List (Option Buffer)) (c d : Core) (k : ℕ) (e : Entry) (o : Outcome) → d.board ≡ took c.board k e.needs o → ((p r : ℕ) → d.copies p r ≡ copy_at new p r) → ((j : ℕ) → d.out j ≡ (if j == k then None else c.out j)) → ((p r : ℕ) → d.moving p r ≡ c.moving p r) → Published old new c k e (log_by o) → Finishes c d k e o
finishes-at old new c d k e o board copies out moving h = record {
  board = board;
  copies = record {
    renewed = λ r m. copies e.place r ∙ renewed-values old new c k e (log_by o) r h m ∙ ap Some (ap (λ l. values_at l r) (sym (took_buffers c.board k e.needs o)) ∙ ap (λ (b : Board). values_at b.buffers r) (sym board));
    elsewhere = λ p r m ne. copies p r ∙ stale-elsewhere old new c k e (log_by o) p r h m ne;
    others = λ p r m. copies p r ∙ kept-elsewhere old new c k e (log_by o) p r h m;
  };
  out = out;
  moving = moving;
}

pub finishes_core : (old new : List (Option Buffer)) (c : Core) (k n q : ℕ) (e : Entry) (w : Command) (given : List Input) (o : Outcome) → IsKept c → c.out k ≡ Some given → IsAt c.board.entries k e → e.work ≡ Node n q w → Shows old c → Renews old new e.place e.needs (log_by o) → (d : Core) × Finishes c d k e o × Shows new d
finishes_core old new c k n q e w given o kept h g work s f =
    let was = kept.out k given h in
    let is : was.entry ≡ e = some_is (sym was.free.0 ∙ g) in
    let free : IsFreeAt c.board.entries k e = subst (λ x. IsFreeAt c.board.entries k x) is was.free in
    let d : Core = record {
      board = took c.board k e.needs o;
      copies = λ p r. copy_at new p r;
      out = λ j. if j == k then None else c.out j;
      moving = c.moving;
    } in
    let there : Published old new c k e (log_by o) = record { kept = kept; at = g; undone = undone_free c.board k e free; has = subst (HasCopies c) is was.copies; shows = s; renews = f } in
    let event : Finishes c d k e o = finishes-at old new c d k e o refl (λ p r. refl) (λ j. refl) (λ p r. refl) there in
    let out : OutcomeOf = λ u i. o in
    let x = finish-keeps out c d k n q e w given kept h g work event in
    let a = act_at out c.board e in
    let shown : Shows new d = record {
      count = f.made ∙ s.count ∙ sym (ap length x.acted.buffers ∙ length-each (buffer_by a.cells) 0 c.board.buffers);
      values = λ p r. refl;
      lens = λ r l.
          (let before = live_back c.board d.board a k e r (act_at-acts out c.board k e g x.ready.free) x.acted.entries x.acted.buffers l in
          f.lens r ∙ s.lens r before ∙ ap Some (sym (ap (λ b. length (values_at b r)) x.acted.buffers ∙ ap length (values-mapped a.cells c.board.buffers r) ∙ length-each (a.cells r) 0 (values_at c.board.buffers r))));
    } in
    (d, event, shown)

-- ---- a host access is closed

if_some : {A : Type 0} (v : Bool) (x y : A) → (if v then Some x else None) ≡ Some y → (v ≡ true) × (x ≡ y)
if_some true x y h = (refl, some_is h)
if_some false x y h = absurd cc

counted_by : (j : ℕ) (x : Entry) (values : List ℤ) (st : Stage) (ns : List Need) (a : ClosedAccess) → closed_access_by j x values st ns ≡ Some a → length values ≡ a.need.to - a.need.from
counted_by j x values stage.Granted (n ∷ ns) a h =
    let r = if_some (length values == n.to - n.from) (record { at = j; entry = x; need = n }) a h in
    let e : length values ≡ n.to - n.from = (let t = r.0 in grind (arith, nat_tests)) in
    subst (λ (z : ClosedAccess). length values ≡ z.need.to - z.need.from) r.1 e
counted_by j x values stage.Granted [] a h = absurd cc
counted_by j x values stage.Pending ns a h = absurd cc
counted_by j x values stage.Done ns a h = absurd cc
counted_by j x values (stage.Failed f) ns a h = absurd cc

counted_at : (j : ℕ) (values : List ℤ) (o : Option Entry) (a : ClosedAccess) → closed_access_at j values o ≡ Some a → length values ≡ a.need.to - a.need.from
counted_at j values None a h = absurd cc
counted_at j values (Some x) a h = counted_by j x values x.stage x.needs a h

counted_found : (entries : List Entry) (values : List ℤ) (o : Option ℕ) (a : ClosedAccess) → closed_access_found entries values o ≡ Some a → length values ≡ a.need.to - a.need.from
counted_found entries values None a h = absurd cc
counted_found entries values (Some j) a h = counted_at j values (slice_get entries j) a h

counted : (entries : List Entry) (t k : ℕ) (values : List ℤ) (a : ClosedAccess) → closed_access entries t k values ≡ Some a → length values ≡ a.need.to - a.need.from
unfolding closed_access
counted entries t k values a h = counted_found entries values (access_from 0 entries t k) a h

or_none : (v : Bool) → (v || false) ≡ v
or_none true = refl
or_none false = refl

makes_one : (e : Entry) (n : Need) (r : ℕ) → e.needs ≡ n ∷ [] → makes e r ≡ (n.buffer == r && writes n.mode)
unfolding makes renews
makes_one e n r h = ap (list_any (λ (x : Need). x.buffer == r && writes x.mode)) h ∙ or_none (n.buffer == r && writes n.mode)

-- what the closed access says of the board
record ClosedAt (c : Core) (t k : ℕ) (values : List ℤ) (a : ClosedAccess) : Type 0 where
  is : ClosedIs (begin_ask c.board t) t k (apply (begin_ask c.board t) t (CloseHost k values)) values a
  at : IsAt c.board.entries a.at a.entry
  alone : a.entry.needs ≡ a.need ∷ []
  count : a.need.from + length values ≡ a.need.to

closed-at : (c : Core) (t k : ℕ) (values : List ℤ) (a : ClosedAccess) → IsKept c → closed_access c.board.entries t k values ≡ Some a → ClosedAt c t k values a
closed-at c t k values a kept h =
    let b = c.board in
    let is : ClosedIs (begin_ask b t) t k (apply (begin_ask b t) t (CloseHost k values)) values a = subst (CloseIs (begin_ask b t) t k (apply (begin_ask b t) t (CloseHost k values)) values) h (close_is b t k values) in
    let at : IsAt b.entries a.at a.entry = is.at in
    let stands = stands_at b a.at a.entry kept.sound at in
    let one : is.rest ≡ [] = none_after a.need is.rest (ap length (sym is.needs) ∙ access_alone b.buffers a.entry.needs a.entry.work t k is.named stands.suits) in
    let alone : a.entry.needs ≡ a.need ∷ [] = is.needs ∙ ap (λ l. a.need ∷ l) one in
    let up = (All-at (IsHeld b.buffers) a.entry.needs 0 a.need stands.held (ap (λ l. slice_get l 0) alone)).up in
    let counted_is = counted b.entries t k values a h in
    record { is = is; at = at; alone = alone; count = omega (arith, up, counted_is) }

pub closes_core : (old new : List (Option Buffer)) (c : Core) (t k : ℕ) (values : List ℤ) (a : ClosedAccess) → IsKept c → closed_access c.board.entries t k values ≡ Some a → Shows old c → Renews old new a.entry.place (a.need ∷ []) (writes_from a.need.buffer a.need.from values) → (d : Core) × Closes c d t k values × Shows new d
closes_core old new c t k values a kept h s f =
    let b = c.board in
    let log = writes_from a.need.buffer a.need.from values in
    let x = closed-at c t k values a kept h in
    let act = closing_act a.need values in
    let d : Core = record {
      board = apply (begin_ask b t) t (CloseHost k values);
      copies = λ p r. copy_at new p r;
      out = c.out;
      moving = c.moving;
    } in
    let after_is : d.board.buffers ≡ mapped act.cells b.buffers = ap (λ (z : Board). z.buffers) x.is.board in
    let put : d.board.buffers ≡ buffers_after a.entry.needs log b.buffers =
    after_is ∙ sym (ap (λ (z : Board). z.buffers) (after_close-is b a.need values a.at)) ∙ put_back_is b a.need values x.count ∙ ap (λ l. buffers_after l log b.buffers) (sym x.alone) in
    let undone : is_done a.entry.stage ≡ false = ap is_done x.is.granted in
    let there : Published old new c a.at a.entry log = record { kept = kept; at = x.at; undone = undone; has = kept.granted a.at a.entry x.at x.is.granted; shows = s; renews = subst (λ l. Renews old new a.entry.place l log) (sym x.alone) f } in
    let renewed : Publishes c d a.entry.place (λ r. a.need.buffer == r && writes a.need.mode) = record {
      renewed = λ r m. renewed-values old new c a.at a.entry log r there (makes_one a.entry a.need r x.alone ∙ m) ∙ ap (λ l. Some (values_at l r)) (sym put);
      elsewhere = λ p r m ne. stale-elsewhere old new c a.at a.entry log p r there (makes_one a.entry a.need r x.alone ∙ m) ne;
      others = λ p r m. kept-elsewhere old new c a.at a.entry log p r there (makes_one a.entry a.need r x.alone ∙ m);
    } in
    let event : Closes c d t k values = record {
      board = refl;
      copies = subst (CoreRenews c d) (sym h) renewed;
      out = λ j. refl;
      moving = λ p r. refl;
    } in
    let acts : Acts b act a.at a.entry = closing-acts b a.at a.entry a.need [] values kept.orderly x.at x.is.granted x.alone in
    let shown : Shows new d = record {
      count = f.made ∙ s.count ∙ sym (ap length after_is ∙ length-each (buffer_by act.cells) 0 b.buffers);
      values = λ p r. refl;
      lens = λ r l.
          (let before = live_back b d.board act a.at a.entry r acts (ap (λ (z : Board). z.entries) x.is.board) after_is l in
          f.lens r ∙ s.lens r before ∙ ap Some (sym (ap (λ z. length (values_at z r)) after_is ∙ ap length (values-mapped act.cells b.buffers r) ∙ length-each (act.cells r) 0 (values_at b.buffers r))));
    } in
    (d, event, shown)

-- ---- the copies of a root are dropped

pub drops_core : (old new : List (Option Buffer)) (c : Core) (buffer : ℕ) → (IsLive c.board buffer → ⊥) → Shows old c → Ends old new buffer → (d : Core) × Drops c d buffer × Shows new d
drops_core old new c buffer dead s f =
    let d : Core = record {
      board = c.board;
      copies = λ p r. copy_at new p r;
      out = c.out;
      moving = c.moving;
    } in
    let event : Drops c d buffer = record {
      board = refl;
      copies = λ p r. f.copies p r ∙ ap (λ v. if v then None else copy_at old p r) (eq_comm buffer r) ∙ ap (λ o. if r == buffer then None else o) (sym (s.values p r));
      out = λ j. refl;
      moving = λ p r. refl;
    } in
    let shown : Shows new d = record {
      count = f.made ∙ s.count;
      values = λ p r. refl;
      lens = λ r l. f.lens r ∙ ap (λ v. if v then None else len_at old r) (other_place buffer r (λ e. dead (subst (IsLive c.board) (sym e) l))) ∙ s.lens r l;
    } in
    (d, event, shown)

-- ---- the copies stay as they are

pub stays_shown : (copies : List (Option Buffer)) (c d : Core) → d.board.entries ≡ c.board.entries → d.board.buffers ≡ c.board.buffers → ((p r : ℕ) → d.copies p r ≡ c.copies p r) → Shows copies c → Shows copies d
stays_shown copies c d es bs same s = record {
  count = s.count ∙ ap length (sym bs);
  values = λ p r. same p r ∙ s.values p r;
  lens = λ r l. s.lens r (live_same c.board d.board r es bs l) ∙ ap (λ b. Some (length (values_at b r))) (sym bs);
}

pub takes_shown : (copies : List (Option Buffer)) (c d : Core) (k : ℕ) (e : Entry) → IsFreeAt c.board.entries k e → Takes c d k e → Shows copies c → Shows copies d
takes_shown copies c d k e f t s =
    let b = c.board in
    let out : OutcomeOf = λ u i. Wrote [] in
    let a = act_at out b e in
    let board = t.board out in
    let entries = ap (λ (z : Board). z.entries) board ∙ effect-entries out b k e in
    let buffers = ap (λ (z : Board). z.buffers) (board ∙ effect-act out b k e) in
    record {
      count = s.count ∙ sym (ap length buffers ∙ length-each (buffer_by a.cells) 0 b.buffers);
      values = λ p r. t.copies p r ∙ s.values p r;
      lens = λ r l.
          (let before = live_back b d.board a k e r (act_at-acts out b k e f.0 f.1) entries buffers l in
          s.lens r before ∙ ap Some (sym (ap (λ z. length (values_at z r)) buffers ∙ ap length (values-mapped a.cells b.buffers r) ∙ length-each (a.cells r) 0 (values_at b.buffers r))));
    }

pub hears_shown : (copies : List (Option Buffer)) (c d : Core) (t : ℕ) → Hears c d t → Shows copies c → Shows copies d
hears_shown copies c d t h s = stays_shown copies c d (ap (λ (b : Board). b.entries) h.board) (ap (λ (b : Board). b.buffers) h.board) h.copies s
