-- Host accesses and ends of buffers that take effect, accesses that are closed, and threads that hear.
use Rattle.std.proofs.Common.{◌≡◌, ℕ, ◌+◌, ◌-◌, ◌<◌, ℤ, List, [], ◌∷◌, ◌++◌, length, Bool, true, false, Option, Some, None, refl, sym, ap, ◌∙◌, subst, arith}
use Rattle.std.specs.Prelude.{slice_get, IsSome, ◌^◌, ◌&&◌, ◌||◌, ◌==◌, nat_le, nat_lt, if◌then◌else◌}
use Rattle.sy_access.specs.declared.access.Need.{Need}
use Rattle.sy_access.specs.Needs.{writes, has_cell}
use Rattle.sy_work.specs.Programs.{OutcomeOf, Program, Input}
use Rattle.sy_work.specs.declared.asks.Ask.{Ask}
use Rattle.sy_work.specs.declared.asks.Ask.TheVariants.{CloseHost}
use Rattle.sy_work.specs.declared.asks.Answer.TheVariants.{Done as Answered}
use Rattle.sy_onecopy.specs.declared.Entry.{Entry}
use Rattle.sy_onecopy.specs.declared.Work.{Work}
use Rattle.sy_onecopy.specs.declared.Work.TheVariants.{Node, Access, End}
use Rattle.sy_onecopy.specs.declared.Stage.{Stage}
use Rattle.sy_onecopy.specs.declared.Stage.TheVariants as stage
use Rattle.sy_onecopy.specs.declared.Waits.{Waits}
use Rattle.sy_onecopy.specs.declared.Waits.TheVariants.{Ready as NoWait}
use Rattle.sy_onecopy.specs.Each.{changed_at}
use Rattle.sy_onecopy.specs.State.{Board, Thread}
use Rattle.sy_onecopy.specs.Copies.{makes}
use Rattle.sy_needs.specs.Versions.{renews}
use Rattle.sy_needs.specs.Elements.{is_written}
use Rattle.sy_onecopy.specs.Outcome.{values_at, inputs}
use Rattle.sy_onecopy.specs.Settle.{to_stage, reply, effect}
use Rattle.sy_onecopy.specs.Step.{apply, begin_ask, is_access, access_from, put_back, after_close, close_entry, close_at, close_found, given, once_heard, hear, threads_after}
use Rattle.sy_onecopy.specs.Sequence.{seq, is_command}
use Rattle.sy_settling.specs.Orderly.{IsAt, IsFreeAt, IsOrderly, is_idle}
use Rattle.sy_settling.proofs.ListLemmas.{some_is, or_false, each-same}
use Rattle.sy_settling.proofs.ElementLemmas.{values-mapped}
use Rattle.sy_settling.proofs.EffectLemmas.{after}
use Rattle.sy_settling.proofs.AskLemmas.{closing as closing_act, after_close-is, closing-acts, access_found}
use Rattle.sy_settling.proofs.OrderlyEffectLemmas.{Acts, act_at, act_at-acts, effect-act, Ready, orderly-effect}
use Rattle.sy_settling.proofs.SettleLemmas.{effect-entries}
use Rattle.sy_settling.proofs.LegalOrderLemmas.{orderly-begin_ask, orderly-apply}
use Rattle.sy_sound.specs.Sound.{IsSound, Suit}
use Rattle.sy_sound.proofs.InputLemmas.{stands_at}
use Rattle.std.specs.List.{list_any}
use Rattle.sy_onecopy.specs.declared.Buffer.{Buffer}
use Rattle.sy_onecopy.specs.Before.{is_pending}
use Rattle.sy_settling.proofs.FreeLemmas.{free-pending}
use Rattle.sy_sound.proofs.SoundLemmas.{effect-sound, asked-sound, await-sound}
use Rattle.sy_lagging.specs.Lagging.{state_of, catch_up}
use Rattle.sy_coreboard.specs.Core.{Core, is_used, HasCopies, IsOut, IsKept, StandsFor}
use Rattle.sy_coreboard.specs.Events.{CanAsk, ClosedAccess, closed_access_by, closed_access_at, closed_access_found, closed_access, Renews, Closes, Takes, Hears}
use Rattle.sy_settling.proofs.DeferredLemmas.{Asking, asking_idle, asking_may, orderly-told, over_idle}
use Rattle.sy_lagging.proofs.HearLemmas.{catch_up-hear}
use Rattle.sy_coreboard.proofs.EffectLemmas.{acted-keeps}
use Rattle.sy_coreboard.proofs.TaskLemmas.{stands_after}
use Rattle.sy_coreboard.proofs.AskLemmas.{members_by, ask-reached, asked-kept, asking, quiet_same}
use Rattle.std.proofs.lemmas.Option.{slice_get_within}
use Rattle.sy_coreboard.proofs.NeedLemmas.{and_off}
use Rattle.sy_coreboard.proofs.LiveLemmas.{lives_same, live_same}

-- ---- a host access is granted, or the end of a buffer is done

host_buffers : (out : OutcomeOf) (b : Board) (k : ℕ) (e : Entry) (w : Work) → is_command w ≡ false → (effect out b k e w).buffers ≡ b.buffers
unfolding effect
host_buffers out b k e (Node n q c) h = absurd cc
host_buffers out b k e (Access t i) h = refl
host_buffers out b k e (End t r) h = refl

not_node : (c : Core) (k : ℕ) (e : Entry) (given : List Input) → IsOut c k given → IsAt c.board.entries k e → is_command e.work ≡ false → {A : Type 0} → A
not_node c k e given o g h = absurd (let z : true ≡ false = sym (ap is_command o.work) ∙ ap (λ (x : Entry). is_command x.work) (some_is (sym o.free.0 ∙ g)) ∙ h in cc)

not_out : (c : Core) (k : ℕ) (e : Entry) (o : Option (List Input)) → c.out k ≡ o → IsKept c → IsAt c.board.entries k e → is_command e.work ≡ false → o ≡ None
not_out c k e None h kept g w = refl
not_out c k e (Some x) h kept g w = not_node c k e x (kept.out k x h) g w

pub takes-stands : (p : Program) (order : List ℕ) (xs : List Thread) (old new : Core) (k : ℕ) (e : Entry) → StandsFor p order xs old → IsFreeAt old.board.entries k e → is_command e.work ≡ false → HasCopies old e → Takes old new k e → StandsFor p order xs new
takes-stands p order xs old new k e s f host has t =
    let out = p.outcome in
    let b = old.board in
    let board = t.board out in
    let ready : Ready b k e = record { orderly = s.kept.orderly; at = f.0; free = f.1 } in
    let kept = acted-keeps old new (act_at out b e) k e (λ r. false) s.kept (act_at-acts out b k e f.0 f.1) has (record {
      entries = ap (λ (z : Board). z.entries) board ∙ effect-entries out b k e;
      buffers = ap (λ (z : Board). z.buffers) (board ∙ effect-act out b k e);
      orderly = subst IsOrderly (sym board) (orderly-effect out b k e ready);
      sound = subst IsSound (sym board) (effect-sound out b k e e.work s.kept.sound);
      made_by = λ r m. absurd cc;
      same = λ r m. ap (λ (z : Board). values_at z.buffers r) board ∙ ap (λ l. values_at l r) (host_buffers out b k e e.work host);
      copies = record { renewed = λ r m. absurd cc; elsewhere = λ q r m ne. absurd cc; others = λ q r m. t.copies q r };
      none = t.out k ∙ not_out old k e (old.out k) refl s.kept f.0 host;
      out = λ j ne. t.out j;
      moving = t.moving;
    }) in
    stands_after p order xs old new k e s ready board kept

-- ---- a thread hears

pub hears-stands : (p : Program) (order : List ℕ) (xs : List Thread) (old new : Core) (t : ℕ) (w : Waits) → StandsFor p order xs old → slice_get old.board.waits t ≡ Some w → once_heard (given old.board w) ≡ NoWait → Hears old new t → StandsFor p order (changed_at (hear (given old.board w)) t xs) new
hears-stands p order xs old new t w s g over h =
    let ys = changed_at (hear (given old.board w)) t xs in
    let next : seq p order ≡ Some (catch_up p.outcome (state_of new.board ys)) =
    s.reached ∙ ap Some (sym (catch_up-hear p.outcome (state_of old.board xs) t w s.kept.orderly g over)) ∙ ap (λ b. Some (catch_up p.outcome (state_of b ys))) (sym h.board) in
    let idle_now = ap is_idle g ∙ over_idle old.board w over in
    let has = λ (y : Entry) (c : HasCopies old y). (let d : HasCopies new y = λ r u. subst IsSome (sym (h.copies y.place r)) (c r (ap (λ (b : Board). is_used b y r) (sym h.board) ∙ u)) in d) in
    record {
      reached = next;
      members = members_by p order (state_of new.board ys) next;
      kept = record {
        orderly = subst IsOrderly (sym h.board) (orderly-told old.board t s.kept.orderly idle_now);
        sound = subst IsSound (sym h.board) (await-sound old.board t NoWait s.kept.sound);
        copies = λ q r v c. s.kept.copies q r v (sym (h.copies q r) ∙ c) ∙ ap (λ (b : Board). values_at b.buffers r) (sym h.board);
        out = λ k x c.
            (let o = s.kept.out k x (sym (h.out k) ∙ c) in
            record {
              entry = o.entry;
              node = o.node;
              queue = o.queue;
              command = o.command;
              work = o.work;
              free = subst (λ (b : Board). IsFreeAt b.entries k o.entry) (sym h.board) o.free;
              inputs = o.inputs ∙ ap (λ (b : Board). inputs b.buffers o.entry.needs) (sym h.board);
              copies = has o.entry o.copies;
            });
        granted = λ k e at st. has e (s.kept.granted k e (ap (λ (b : Board). slice_get b.entries k) (sym h.board) ∙ at) st);
        moving = λ q r v c.
            (let m = s.kept.moving q r v (sym (h.moving q r) ∙ c) in
            record {
              at = m.at;
              entry = m.entry;
              free = subst (λ (b : Board). IsFreeAt b.entries m.at m.entry) (sym h.board) m.free;
              needed = ap (λ (b : Board). is_used b m.entry r) h.board ∙ m.needed;
              placed = m.placed;
              none = h.copies q r ∙ m.none;
              current = m.current ∙ ap (λ (b : Board). values_at b.buffers r) (sym h.board);
            });
        sources = λ r l.
            (let was = live_same old.board new.board r (ap (λ (b : Board). b.entries) h.board) (ap (λ (b : Board). b.buffers) h.board) l in
            let z = s.kept.sources r was in
            (z.0, subst IsSome (sym (h.copies z.0 r)) z.1));
      };
    }

-- ---- a host access is closed

pub record ClosedIs (b : Board) (t k : ℕ) (d : Board) (values : List ℤ) (c : ClosedAccess) : Type 0 where
  pub board : d ≡ reply (after (closing_act c.need values) c.at b) t Answered
  pub at : IsAt b.entries c.at c.entry
  pub granted : c.entry.stage ≡ stage.Granted
  pub rest : List Need
  pub needs : c.entry.needs ≡ c.need ∷ rest
  pub named : is_access c.entry.work t k ≡ true

abbrev pub CloseIs : Board → ℕ → ℕ → Board → List ℤ → Option ClosedAccess → Type 0
CloseIs b t k d values None = d ≡ b
CloseIs b t k d values (Some c) = ClosedIs b t k d values c

close_if : (b : Board) (t k : ℕ) (values : List ℤ) (j : ℕ) (x : Entry) (n : Need) (ns : List Need) → IsAt b.entries j x → x.stage ≡ stage.Granted → x.needs ≡ n ∷ ns → is_access x.work t k ≡ true → (v : Bool) → CloseIs b t k (if v then reply (to_stage (put_back b n values) j stage.Done) t Answered else b) values (if v then Some (record { at = j; entry = x; need = n }) else None)
close_if b t k values j x n ns g h m w true = record { board = ap (λ z. reply z t Answered) (after_close-is b n values j); at = g; granted = h; rest = ns; needs = m; named = w }
close_if b t k values j x n ns g h m w false = refl

close_by : (b : Board) (t k : ℕ) (values : List ℤ) (j : ℕ) (x : Entry) (st : Stage) (ns : List Need) → IsAt b.entries j x → is_access x.work t k ≡ true → x.stage ≡ st → x.needs ≡ ns → CloseIs b t k (close_entry b t values j st ns) values (closed_access_by j x values st ns)
unfolding close_entry after_close
close_by b t k values j x stage.Granted (n ∷ ns) g w h m = close_if b t k values j x n ns g h m w (length values == n.to - n.from)
close_by b t k values j x stage.Granted [] g w h m = refl
close_by b t k values j x stage.Pending ns g w h m = refl
close_by b t k values j x stage.Done ns g w h m = refl
close_by b t k values j x (stage.Failed f) ns g w h m = refl

close_at_is : (b : Board) (t k : ℕ) (values : List ℤ) (j : ℕ) (o : Option Entry) → slice_get b.entries j ≡ o → ((x : Entry) → o ≡ Some x → is_access x.work t k ≡ true) → CloseIs b t k (close_at b t values j o) values (closed_access_at j values o)
unfolding close_at
close_at_is b t k values j None g w = refl
close_at_is b t k values j (Some x) g w = close_by b t k values j x x.stage x.needs g (w x refl) refl refl

close_found_is : (b : Board) (t k : ℕ) (values : List ℤ) (o : Option ℕ) → access_from 0 b.entries t k ≡ o → CloseIs b t k (close_found b t values o) values (closed_access_found b.entries values o)
unfolding close_found
close_found_is b t k values None h = refl
close_found_is b t k values (Some j) h =
    let f = access_found 0 j t k b.entries h in
    let g : IsAt b.entries j f.entry = subst (λ m. IsAt b.entries m f.entry) ((let c : f.place ≡ 0 + f.place = omega arith in c) ∙ f.counted) f.at in
    close_at_is b t k values j (slice_get b.entries j) refl (λ x e. ap (λ (y : Entry). is_access y.work t k) (some_is (sym e ∙ g)) ∙ f.named)

pub close_is : (b : Board) (t k : ℕ) (values : List ℤ) → CloseIs (begin_ask b t) t k (apply (begin_ask b t) t (CloseHost k values)) values (closed_access b.entries t k values)
unfolding apply closed_access
close_is b t k values = close_found_is (begin_ask b t) t k values (access_from 0 b.entries t k) refl

pub access_alone : (buffers : List Buffer) (needs : List Need) (w : Work) (t k : ℕ) → is_access w t k ≡ true → Suit buffers needs w → length needs ≡ 1
access_alone buffers needs (Node n q c) t k h s = absurd cc
access_alone buffers needs (Access u i) t k h s = s
access_alone buffers needs (End u r) t k h s = absurd cc

pub none_after : (n : Need) (ns : List Need) → length (n ∷ ns) ≡ 1 → ns ≡ []
none_after n [] h = refl
none_after n (m ∷ ns) h = absurd (omega (arith, h))

made_off : (n : Need) (r i : ℕ) → (n.buffer == r && writes n.mode) ≡ false → is_written (n ∷ []) r i ≡ false
unfolding is_written has_cell
made_off n r i h = or_false (has_cell n r i && writes n.mode) false (and_off (n.buffer == r) (nat_le n.from i && nat_lt i n.to) (writes n.mode) h) refl

makes_first : (n : Need) (ns : List Need) (r : ℕ) (e : Entry) → e.needs ≡ n ∷ ns → (n.buffer == r && writes n.mode) ≡ true → makes e r ≡ true
unfolding makes renews
makes_first n ns r e h m =
    ap (list_any (λ (x : Need). x.buffer == r && writes x.mode)) h ∙ ap (λ v. v || list_any (λ (x : Need). x.buffer == r && writes x.mode) ns) m

-- a granted access is no command that is out
undone_out : (c : Core) (k : ℕ) (e : Entry) (o : Option (List Input)) → c.out k ≡ o → IsKept c → IsAt c.board.entries k e → e.stage ≡ stage.Granted → o ≡ None
undone_out c k e None h kept g st = refl
undone_out c k e (Some x) h kept g st =
    let o = kept.out k x h in
    let is : o.entry ≡ e = some_is (sym o.free.0 ∙ g) in
    absurd (let z : false ≡ true = ap is_pending (sym (ap (λ (y : Entry). y.stage) is ∙ st)) ∙ free-pending c.board.entries k o.entry o.free.1 in cc)

none_grows : (b : Board) (k : ℕ) (values : List ℤ) (xs : List Thread) → threads_after b (CloseHost k values) xs ≡ xs
unfolding threads_after
none_grows b k values xs = refl

closes_by : (old new : Core) (t k : ℕ) (values : List ℤ) (o : Option ClosedAccess) → IsKept old → Asking old.board t (CloseHost k values) → old.board.steps < 2 ^ 24 → Closes old new t k values → Renews old new o → CloseIs (begin_ask old.board t) t k (apply (begin_ask old.board t) t (CloseHost k values)) values o → IsKept new
closes_by old new t k values None kept a early f same is =
    let b = old.board in
    let board : new.board ≡ begin_ask b t = f.board ∙ is in
    asked-kept old new t (CloseHost k values) kept a early (record {
      board = f.board;
      copies = λ p r lt. same p r;
      fresh = λ p r v le h. kept.copies p r v (sym (same p r) ∙ h) ∙ sym (ap (λ (z : Board). values_at z.buffers r) board);
      out = f.out;
      moving = f.moving;
      sources = λ r le l. absurd (let lt = slice_get_within new.board.buffers r l.root l.there in let n = ap (λ (z : Board). length z.buffers) board in omega (arith, le, lt, n));
    }) (quiet_same b new.board (ap (λ (z : Board). z.entries) board) (ap (λ (z : Board). z.buffers) board)) (lives_same b new.board (ap (λ (z : Board). z.entries) board) (ap (λ (z : Board). z.buffers) board))
closes_by old new t k values (Some c) kept a early f published is =
    let b = old.board in
    let board = f.board ∙ is.board in
    let one : is.rest ≡ [] = none_after c.need is.rest (ap length (sym is.needs) ∙ access_alone b.buffers c.entry.needs c.entry.work t k is.named (stands_at b c.at c.entry kept.sound is.at).suits) in
    let alone : c.entry.needs ≡ c.need ∷ [] = is.needs ∙ ap (λ l. c.need ∷ l) one in
    let act = closing_act c.need values in
    let acts : Acts b act c.at c.entry = closing-acts b c.at c.entry c.need [] values kept.orderly is.at is.granted alone in
    let written = λ (r i : ℕ) (h : (c.need.buffer == r && writes c.need.mode) ≡ false). (let z : is_written c.entry.needs r i ≡ false = ap (λ l. is_written l r i) alone ∙ made_off c.need r i h in z) in
    acted-keeps old new act c.at c.entry (λ r. c.need.buffer == r && writes c.need.mode) kept acts (kept.granted c.at c.entry is.at is.granted) (record {
      entries = ap (λ (z : Board). z.entries) board;
      buffers = ap (λ (z : Board). z.buffers) board;
      orderly = subst IsOrderly (sym f.board) (orderly-apply (begin_ask b t) t (CloseHost k values) (orderly-begin_ask b t a.orderly (asking_idle b t (CloseHost k values) a)) (asking_may b t (CloseHost k values) a));
      sound = subst IsSound (sym f.board) (asked-sound b t (CloseHost k values) kept.sound early);
      made_by = λ r m. makes_first c.need [] r c.entry alone m;
      same = λ r m.
          ap (λ (z : Board). values_at z.buffers r) board
          ∙ values-mapped act.cells b.buffers r
          ∙ each-same (act.cells r) 0 (values_at b.buffers r) (λ i v x y. acts.of.keeps.keeps r i v (written r i m));
      copies = published;
      none = f.out c.at ∙ undone_out old c.at c.entry (old.out c.at) refl kept is.at is.granted;
      out = λ j ne. f.out j;
      moving = f.moving;
    })

pub closes-stands : (p : Program) (order : List ℕ) (xs : List Thread) (old new : Core) (t k : ℕ) (values : List ℤ) → StandsFor p order xs old → CanAsk p xs old t (CloseHost k values) → Closes old new t k values → StandsFor p (order ++ t ∷ []) xs new
closes-stands p order xs old new t k values s a f =
    let q : Ask = CloseHost k values in
    let reached = ask-reached p order xs old new t q s a f.board ∙ ap (λ l. Some (catch_up p.outcome (state_of new.board l))) (none_grows new.board k values xs) in
    record {
      reached = reached;
      members = members_by p (order ++ t ∷ []) (state_of new.board xs) reached;
      kept = closes_by old new t k values (closed_access old.board.entries t k values) s.kept (asking p order xs old t q s a) a.early f f.copies (close_is old.board t k values);
    }
