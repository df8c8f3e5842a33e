-- What each event keeps of the core.
use Rattle.std.proofs.Common.{◌≡◌, ◌≢◌, ℕ, ℤ, List, length, true, false, Option, Some, None, ◌⊎◌, refl, sym, ap, ◌∙◌, subst, inl, inr, arith}
use Rattle.std.specs.Prelude.{slice_get, IsSome, ◌&&◌, ◌==◌, if◌then◌else◌}
use Rattle.std.proofs.lemmas.Bool.{cases_Bool, cases_eq}
use Rattle.std.proofs.lemmas.Bool.Decides.{nat_tests}
use Rattle.sy_work.specs.Programs.{OutcomeOf, Program, Input}
use Rattle.sy_work.specs.declared.commands.Command.{Command}
use Rattle.sy_onecopy.specs.declared.Entry.{Entry}
use Rattle.sy_onecopy.specs.declared.Work.{Work}
use Rattle.sy_onecopy.specs.declared.Work.TheVariants.{Node}
use Rattle.sy_onecopy.specs.State.{Board, Thread}
use Rattle.sy_onecopy.specs.Copies.{makes}
use Rattle.sy_onecopy.specs.Outcome.{values_at, inputs}
use Rattle.sy_onecopy.specs.Settle.{took, effect, settle}
use Rattle.sy_settling.specs.Orderly.{IsAt, IsFreeAt, IsOrderly}
use Rattle.sy_settling.proofs.ListLemmas.{each-same, some_is}
use Rattle.sy_settling.proofs.ElementLemmas.{values-mapped}
use Rattle.sy_settling.proofs.AskLemmas.{told-length}
use Rattle.sy_settling.proofs.OrderlyEffectLemmas.{act_at, act_at-of, act_at-acts, effect-act, Ready, orderly-effect}
use Rattle.sy_settling.proofs.SettleLemmas.{effect-entries, effect-settle}
use Rattle.sy_sound.specs.Sound.{IsSound}
use Rattle.sy_sound.proofs.SoundLemmas.{effect-sound}
use Rattle.sy_lagging.specs.Lagging.{state_of, give_and_hear, catch_up}
use Rattle.sy_coreboard.specs.Core.{Core, is_used, HasCopies, IsOut, IsMoving, IsKept, StandsFor}
use Rattle.sy_coreboard.specs.Events.{Begins, Moves, Installs, Finishes, Drops}
use Rattle.sy_coreboard.proofs.EffectLemmas.{Acted, acted-keeps}
use Rattle.sy_onecopy.specs.Before.{is_done}
use Rattle.sy_settling.proofs.FreeLemmas.{free-pending, pending-open}
use Rattle.sy_coreboard.specs.Sources.{IsLive, HasSource}
use Rattle.sy_coreboard.proofs.LiveLemmas.{used_live}
use Rattle.sy_coreboard.proofs.NeedLemmas.{unmade-unwritten}

here_if : {A : Type 0} (k : ℕ) (a b : A) → (if k == k then a else b) ≡ a
here_if k a b = let h : (k == k) ≡ true = grind (arith, nat_tests) in ap (λ t. if t then a else b) h

other_if : {A : Type 0} (j k : ℕ) (a b : A) → j ≢ k → (if j == k then a else b) ≡ b
other_if j k a b ne = let h : (j == k) ≡ false = grind (arith, nat_tests) in ap (λ t. if t then a else b) h

-- ---- a command finishes

-- an effect leaves the numbers of roots of which its entry makes no version
pub effect-same : (out : OutcomeOf) (b : Board) (k : ℕ) (e : Entry) (r : ℕ) → makes e r ≡ false → values_at (effect out b k e e.work).buffers r ≡ values_at b.buffers r
effect-same out b k e r h =
    let a = act_at out b e in
    ap (λ (z : Board). values_at z.buffers r) (effect-act out b k e)
    ∙ values-mapped a.cells b.buffers r
    ∙ each-same (a.cells r) 0 (values_at b.buffers r) (λ i v p q. (act_at-of out b e).keeps.keeps r i v (unmade-unwritten e r i h))

finish_board : (out : OutcomeOf) (b : Board) (k : ℕ) (e : Entry) (w : Work) (n q : ℕ) (c : Command) (given : List Input) → w ≡ Node n q c → given ≡ inputs b.buffers e.needs → took b k e.needs (out c given) ≡ effect out b k e w
unfolding effect
finish_board out b k e w n q c given h g = ap (λ l. took b k e.needs (out c l)) g ∙ ap (effect out b k e) (sym h)

-- what is known of a command that finishes
pub record Finished (out : OutcomeOf) (old new : Core) (k : ℕ) (e : Entry) : Type 0 where
  pub ready : Ready old.board k e
  pub board : new.board ≡ effect out old.board k e e.work
  pub acted : Acted old new (act_at out old.board e) k e (makes e)
  pub kept : IsKept new

pub finish-keeps : (out : OutcomeOf) (old new : Core) (k n q : ℕ) (e : Entry) (c : Command) (given : List Input) → IsKept old → old.out k ≡ Some given → IsAt old.board.entries k e → e.work ≡ Node n q c → Finishes old new k e (out c given) → Finished out old new k e
finish-keeps out old new k n q e c given kept h g w f =
    let b = old.board in
    let o = kept.out k given h in
    let is : o.entry ≡ e = some_is (sym o.free.0 ∙ g) in
    let free : IsFreeAt b.entries k e = subst (λ x. IsFreeAt b.entries k x) is o.free in
    let ready : Ready b k e = record { orderly = kept.orderly; at = g; free = free.1 } in
    let board : new.board ≡ effect out b k e e.work = f.board ∙ finish_board out b k e e.work n q c given w (o.inputs ∙ ap (λ (x : Entry). inputs b.buffers x.needs) is) in
    let acted : Acted old new (act_at out b e) k e (makes e) = record {
      entries = ap (λ (z : Board). z.entries) board ∙ effect-entries out b k e;
      buffers = ap (λ (z : Board). z.buffers) (board ∙ effect-act out b k e);
      orderly = subst IsOrderly (sym board) (orderly-effect out b k e ready);
      sound = subst IsSound (sym board) (effect-sound out b k e e.work kept.sound);
      made_by = λ r m. m;
      same = λ r m. ap (λ (z : Board). values_at z.buffers r) board ∙ effect-same out b k e r m;
      copies = f.copies;
      none = f.out k ∙ here_if k None (old.out k);
      out = λ j ne. f.out j ∙ other_if j k None (old.out j) ne;
      moving = f.moving;
    } in
    record {
      ready = ready;
      board = board;
      acted = acted;
      kept = acted-keeps old new (act_at out b e) k e (makes e) kept (act_at-acts out b k e g free.1) (subst (HasCopies old) is o.copies) acted;
    }

-- an effect on the core is none on what it stands for
pub stands_after : (p : Program) (order : List ℕ) (xs : List Thread) (old new : Core) (k : ℕ) (e : Entry) → StandsFor p order xs old → Ready old.board k e → new.board ≡ effect p.outcome old.board k e e.work → IsKept new → StandsFor p order xs new
stands_after p order xs old new k e s ready board kept = record {
  reached = s.reached ∙ ap Some (ap (λ z. give_and_hear z xs) (sym (ap (settle p.outcome) board ∙ effect-settle p.outcome old.board k e ready)));
  members = s.members ∙ sym (ap (λ (z : Board). length z.waits) (board ∙ effect-act p.outcome old.board k e) ∙ told-length (act_at p.outcome old.board e).due old.board.waits);
  kept = kept;
}

pub finish-stands : (p : Program) (order : List ℕ) (xs : List Thread) (old new : Core) (k n q : ℕ) (e : Entry) (c : Command) (given : List Input) → StandsFor p order xs old → old.out k ≡ Some given → IsAt old.board.entries k e → e.work ≡ Node n q c → Finishes old new k e (p.outcome c given) → StandsFor p order xs new
finish-stands p order xs old new k n q e c given s h g w f =
    let x = finish-keeps p.outcome old new k n q e c given s.kept h g w f in
    stands_after p order xs old new k e s x.ready x.board x.kept

-- ---- tasks begin, and copies are installed

-- the board stays as it is
record Stays (old new : Core) : Type 0 where
  kept : IsKept old
  board : new.board ≡ old.board
  grows : (p r : ℕ) → IsSome (old.copies p r) → IsSome (new.copies p r)

has_more : (old new : Core) (y : Entry) → Stays old new → HasCopies old y → HasCopies new y
has_more old new y s has r u = s.grows y.place r (has r (ap (λ b. is_used b y r) (sym s.board) ∙ u))

free_same : (old new : Core) (k : ℕ) (y : Entry) → Stays old new → IsFreeAt old.board.entries k y → IsFreeAt new.board.entries k y
free_same old new k y s f = subst (λ (b : Board). IsFreeAt b.entries k y) (sym s.board) f

out_more : (old new : Core) (k : ℕ) (given : List Input) → Stays old new → IsOut old k given → IsOut new k given
out_more old new k given s o = record {
  entry = o.entry;
  node = o.node;
  queue = o.queue;
  command = o.command;
  work = o.work;
  free = free_same old new k o.entry s o.free;
  inputs = o.inputs ∙ ap (λ (b : Board). inputs b.buffers o.entry.needs) (sym s.board);
  copies = has_more old new o.entry s o.copies;
}

moving_more : (old new : Core) (p r : ℕ) (v : List ℤ) → Stays old new → IsMoving old p r v → new.copies p r ≡ None → IsMoving new p r v
moving_more old new p r v s m none = record {
  at = m.at;
  entry = m.entry;
  free = free_same old new m.at m.entry s m.free;
  needed = ap (λ b. is_used b m.entry r) s.board ∙ m.needed;
  placed = m.placed;
  none = none;
  current = m.current ∙ ap (λ (b : Board). values_at b.buffers r) (sym s.board);
}

stay_kept : (old new : Core) → Stays old new → ((p r : ℕ) (v : List ℤ) → new.copies p r ≡ Some v → v ≡ values_at old.board.buffers r) → ((k : ℕ) (given : List Input) → new.out k ≡ Some given → IsOut old k given) → ((p r : ℕ) (v : List ℤ) → new.moving p r ≡ Some v → IsMoving old p r v × (new.copies p r ≡ None)) → IsKept new
stay_kept old new s agree out moving = record {
  orderly = subst IsOrderly (sym s.board) s.kept.orderly;
  sound = subst IsSound (sym s.board) s.kept.sound;
  copies = λ p r v h. agree p r v h ∙ ap (λ (b : Board). values_at b.buffers r) (sym s.board);
  out = λ k given h. out_more old new k given s (out k given h);
  granted = λ k e g st. has_more old new e s (s.kept.granted k e (ap (λ (b : Board). slice_get b.entries k) (sym s.board) ∙ g) st);
  moving = λ p r v h. (let m = moving p r v h in moving_more old new p r v s m.0 m.1);
  sources = λ r l. (let h = s.kept.sources r (subst (λ (b : Board). IsLive b r) s.board l) in (h.0, s.grows h.0 r h.1));
}

stay_stands : (p : Program) (order : List ℕ) (xs : List Thread) (old new : Core) → StandsFor p order xs old → new.board ≡ old.board → IsKept new → StandsFor p order xs new
stay_stands p order xs old new s board kept = record {
  reached = s.reached ∙ ap (λ b. Some (catch_up p.outcome (state_of b xs))) (sym board);
  members = s.members ∙ ap (λ (b : Board). length b.waits) (sym board);
  kept = kept;
}

pick_out : (j k : ℕ) (given x : List Input) (o : Option (List Input)) → (if j == k then Some given else o) ≡ Some x → ((j ≡ k) × (given ≡ x)) ⊎ (o ≡ Some x)
pick_out j k given x o h = elim (cases_eq j k) [
  | inl e ↦ inl (e, some_is (sym (here_if k (Some given) o) ∙ subst (λ i. (if i == k then Some given else o) ≡ Some x) e h))
  | inr ne ↦ inr (sym (other_if j k (Some given) o ne) ∙ h)
]

same_copies : (old new : Core) → ((p r : ℕ) → new.copies p r ≡ old.copies p r) → (p r : ℕ) → IsSome (old.copies p r) → IsSome (new.copies p r)
same_copies old new c p r h = subst IsSome (sym (c p r)) h

begin_stays : (old new : Core) (k : ℕ) (given : List Input) → IsKept old → Begins old new k given → Stays old new
begin_stays old new k given kept f = record { kept = kept; board = f.board; grows = same_copies old new f.copies }

pub begin-keeps : (old new : Core) (k : ℕ) (given : List Input) → IsKept old → IsOut old k given → Begins old new k given → IsKept new
begin-keeps old new k given kept o f =
    stay_kept old new (begin_stays old new k given kept f)
    (λ p r v h. kept.copies p r v (sym (f.copies p r) ∙ h))
    (λ j x h. elim (pick_out j k given x (old.out j) (sym (f.out j) ∙ h)) [
      | inl w ↦ subst (λ i. IsOut old i x) (sym w.0) (subst (IsOut old k) w.1 o)
      | inr w ↦ kept.out j x w
    ])
    (λ p r v h. (let m = kept.moving p r v (sym (f.moving p r) ∙ h) in (m, f.copies p r ∙ m.none)))

pub begin-stands : (p : Program) (order : List ℕ) (xs : List Thread) (old new : Core) (k : ℕ) (given : List Input) → StandsFor p order xs old → IsOut old k given → Begins old new k given → StandsFor p order xs new
begin-stands p order xs old new k given s o f = stay_stands p order xs old new s f.board (begin-keeps old new k given s.kept o f)

-- a place and a buffer are these, or not
pick_cell : {T : Type 0} (p r place buffer : ℕ) (x o : Option T) → ((r ≡ buffer) × (p ≡ place) × ((if r == buffer && p == place then x else o) ≡ x)) ⊎ ((if r == buffer && p == place then x else o) ≡ o)
pick_cell p r place buffer x o = elim (cases_Bool (r == buffer && p == place)) [
  | inl v ↦ inl (let a : r ≡ buffer = grind (arith, nat_tests) in let b : p ≡ place = grind (arith, nat_tests) in (a, b, ap (λ t. if t then x else o) v))
  | inr v ↦ inr (ap (λ t. if t then x else o) v)
]

pub moves-stands : (p : Program) (order : List ℕ) (xs : List Thread) (old new : Core) (place buffer : ℕ) (values : List ℤ) → StandsFor p order xs old → IsMoving old place buffer values → Moves old new place buffer values → StandsFor p order xs new
moves-stands p order xs old new place buffer values s m f =
    stay_stands p order xs old new s f.board
    (stay_kept old new (record { kept = s.kept; board = f.board; grows = same_copies old new f.copies })
    (λ q r v h. s.kept.copies q r v (sym (f.copies q r) ∙ h))
    (λ j x h. s.kept.out j x (sym (f.out j) ∙ h))
    (λ q r v h. elim (pick_cell q r place buffer (Some values) (old.moving q r)) [
      | inl w ↦
          let is : values ≡ v = some_is (sym w.2 ∙ sym (f.moving q r) ∙ h) in
          let here : IsMoving old q r v = subst (λ l. IsMoving old q r l) is (subst (λ i. IsMoving old i r values) (sym w.1) (subst (λ i. IsMoving old place i values) (sym w.0) m)) in
          (here, f.copies q r ∙ here.none)
      | inr w ↦ (let n = s.kept.moving q r v (sym w ∙ sym (f.moving q r) ∙ h) in (n, f.copies q r ∙ n.none))
    ]))

installed_grows : (old new : Core) (place buffer : ℕ) (values : List ℤ) → Installs old new place buffer values → (p r : ℕ) → IsSome (old.copies p r) → IsSome (new.copies p r)
installed_grows old new place buffer values f p r h = elim (pick_cell p r place buffer (Some values) (old.copies p r)) [
  | inl w ↦ subst IsSome (sym (f.copies p r ∙ w.2)) refl
  | inr w ↦ subst IsSome (sym (f.copies p r ∙ w)) h
]

pub installs-stands : (p : Program) (order : List ℕ) (xs : List Thread) (old new : Core) (place buffer : ℕ) (values : List ℤ) → StandsFor p order xs old → old.moving place buffer ≡ Some values → Installs old new place buffer values → StandsFor p order xs new
installs-stands p order xs old new place buffer values s m f =
    let moved = s.kept.moving place buffer values m in
    stay_stands p order xs old new s f.board
    (stay_kept old new (record { kept = s.kept; board = f.board; grows = installed_grows old new place buffer values f })
    (λ q r v h. elim (pick_cell q r place buffer (Some values) (old.copies q r)) [
      | inl w ↦ sym (some_is (sym w.2 ∙ sym (f.copies q r) ∙ h)) ∙ moved.current ∙ ap (values_at old.board.buffers) (sym w.0)
      | inr w ↦ s.kept.copies q r v (sym w ∙ sym (f.copies q r) ∙ h)
    ])
    (λ j x h. s.kept.out j x (sym (f.out j) ∙ h))
    (λ q r v h. elim (cases_Bool (r == buffer && q == place)) [
      | inl t ↦ absurd (let z : None ≡ Some v = sym (ap (λ b. if b then None else old.moving q r) t) ∙ sym (f.moving q r) ∙ h in cc)
      | inr t ↦ (let n = s.kept.moving q r v (sym (ap (λ b. if b then None else old.moving q r) t) ∙ sym (f.moving q r) ∙ h) in (n, f.copies q r ∙ ap (λ b. if b then Some values else old.copies q r) t ∙ n.none))
    ]))

-- ---- the copies of a root are dropped

record Dropping (old new : Core) (q : ℕ) : Type 0 where
  kept : IsKept old
  dead : IsLive old.board q → ⊥
  drops : Drops old new q

still_there : (old new : Core) (q p r : ℕ) → Dropping old new q → IsLive old.board r → new.copies p r ≡ old.copies p r
still_there old new q p r d l = d.drops.copies p r ∙ other_if r q None (old.copies p r) (λ e. absurd (d.dead (subst (IsLive old.board) e l)))

still_has : (old new : Core) (q k : ℕ) (e : Entry) → Dropping old new q → IsAt old.board.entries k e → is_done e.stage ≡ false → HasCopies old e → HasCopies new e
still_has old new q k e d g undone has r u =
    let was = ap (λ (b : Board). is_used b e r) (sym d.drops.board) ∙ u in
    let l = used_live old.board k e r (length (values_at old.board.buffers r)) d.kept.sound g undone was in
    subst IsSome (sym (still_there old new q e.place r d l)) (has r was)

none_still : (old new : Core) (q p r : ℕ) → Dropping old new q → old.copies p r ≡ None → new.copies p r ≡ None
none_still old new q p r d h = elim (cases_eq r q) [
  | inl e ↦ d.drops.copies p r ∙ subst (λ i. (if i == q then None else old.copies p i) ≡ None) (sym e) (here_if q None (old.copies p q))
  | inr ne ↦ d.drops.copies p r ∙ other_if r q None (old.copies p r) ne ∙ h
]

copy_was : (old new : Core) (q p r : ℕ) (v : List ℤ) → Dropping old new q → new.copies p r ≡ Some v → old.copies p r ≡ Some v
copy_was old new q p r v d h = elim (cases_eq r q) [
  | inl e ↦ absurd (let z : None ≡ Some v = sym (d.drops.copies p r ∙ subst (λ i. (if i == q then None else old.copies p i) ≡ None) (sym e) (here_if q None (old.copies p q))) ∙ h in cc)
  | inr ne ↦ sym (d.drops.copies p r ∙ other_if r q None (old.copies p r) ne) ∙ h
]

pub undone_free : (b : Board) (k : ℕ) (e : Entry) → IsFreeAt b.entries k e → is_done e.stage ≡ false
undone_free b k e f = pending-open e.stage (free-pending b.entries k e f.1)

drop-kept : (old new : Core) (q : ℕ) → Dropping old new q → IsKept new
drop-kept old new q d =
    let same = d.drops.board in
    record {
      orderly = subst IsOrderly (sym same) d.kept.orderly;
      sound = subst IsSound (sym same) d.kept.sound;
      copies = λ p r v h. d.kept.copies p r v (copy_was old new q p r v d h) ∙ ap (λ (b : Board). values_at b.buffers r) (sym same);
      out = λ k given h.
          (let o = d.kept.out k given (sym (d.drops.out k) ∙ h) in
          record {
            entry = o.entry;
            node = o.node;
            queue = o.queue;
            command = o.command;
            work = o.work;
            free = subst (λ (b : Board). IsFreeAt b.entries k o.entry) (sym same) o.free;
            inputs = o.inputs ∙ ap (λ (b : Board). inputs b.buffers o.entry.needs) (sym same);
            copies = still_has old new q k o.entry d o.free.0 (undone_free old.board k o.entry o.free) o.copies;
          });
      granted = λ k e g st.
          (let at : IsAt old.board.entries k e = ap (λ (b : Board). slice_get b.entries k) (sym same) ∙ g in
          still_has old new q k e d at (ap is_done st) (d.kept.granted k e at st));
      moving = λ p r v h.
          (let m = d.kept.moving p r v (sym (d.drops.moving p r) ∙ h) in
          record {
            at = m.at;
            entry = m.entry;
            free = subst (λ (b : Board). IsFreeAt b.entries m.at m.entry) (sym same) m.free;
            needed = ap (λ (b : Board). is_used b m.entry r) same ∙ m.needed;
            placed = m.placed;
            none = none_still old new q p r d m.none;
            current = m.current ∙ ap (λ (b : Board). values_at b.buffers r) (sym same);
          });
      sources = λ r l.
          (let was = subst (λ (b : Board). IsLive b r) same l in
          let h = d.kept.sources r was in
          (h.0, subst IsSome (sym (still_there old new q h.0 r d was)) h.1));
    }

pub drops-stands : (p : Program) (order : List ℕ) (xs : List Thread) (old new : Core) (q : ℕ) → StandsFor p order xs old → (IsLive old.board q → ⊥) → Drops old new q → StandsFor p order xs new
drops-stands p order xs old new q s dead d = stay_stands p order xs old new s d.board (drop-kept old new q (record { kept = s.kept; dead = dead; drops = d }))

-- ---- where a copy comes from

pub missed-source : (c : Core) (k : ℕ) (e : Entry) (r : ℕ) → IsKept c → IsFreeAt c.board.entries k e → is_used c.board e r ≡ true → HasSource c.copies r
missed-source c k e r kept f u = kept.sources r (used_live c.board k e r (length (values_at c.board.buffers r)) kept.sound f.0 (undone_free c.board k e f) u)
