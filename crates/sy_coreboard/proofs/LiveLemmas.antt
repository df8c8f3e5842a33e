-- Which roots may still be named once an entry has acted or a thread has asked.
use Rattle.std.proofs.Common.{◌≡◌, ℕ, zero, suc, ◌+◌, ◌<◌, List, [], ◌∷◌, ◌++◌, length, Bool, true, false, Option, Some, None, ◌⊎◌, refl, sym, ap, ◌∙◌, inl, inr, arith, ◌≤◌}
use Rattle.std.specs.Prelude.{slice_get, option_map, ◌^◌, ◌&&◌, ◌||◌, ◌==◌, nat_lt, nat_le, not, if◌then◌else◌}
use Rattle.std.specs.List.{list_all}
use Rattle.std.proofs.lemmas.Bool.{cases_eq, cases_order}
use Rattle.std.proofs.lemmas.Bool.Decides.{nat_tests}
use Rattle.sy_range.specs.LinearIds.{product}
use Rattle.sy_access.specs.declared.access.Need.{Need}
use Rattle.sy_work.specs.declared.asks.Ask.{Ask}
use Rattle.sy_work.specs.declared.asks.Ask.TheVariants.{Print, MakeBuffer, MakeSub, EndBuffer, OpenHost, CloseHost, MakeContext, MakeQueue, Submit, WaitNode, WaitQueue, ThrowQueue, Spawn, Join, Finish, Halt, Barrier, Collect}
use Rattle.sy_work.specs.declared.asks.Submission.{Submission}
use Rattle.sy_work.specs.declared.asks.NewQueue.{NewQueue}
use Rattle.sy_work.specs.declared.asks.NewBuffer.{NewBuffer}
use Rattle.sy_work.specs.declared.endings.KernelError.{KernelError}
use Rattle.sy_onecopy.specs.declared.Buffer.{Buffer}
use Rattle.sy_onecopy.specs.declared.Origin.{Origin}
use Rattle.sy_onecopy.specs.declared.Origin.TheVariants.{Vector, Range, Part}
use Rattle.sy_onecopy.specs.declared.Queue.{Queue}
use Rattle.sy_onecopy.specs.declared.Entry.{Entry}
use Rattle.sy_onecopy.specs.declared.Waits.{Waits}
use Rattle.sy_onecopy.specs.declared.Waits.TheVariants.{OnNode, OnQueue, OnThread}
use Rattle.sy_onecopy.specs.Each.{changed_at}
use Rattle.sy_onecopy.specs.State.{Board}
use Rattle.sy_onecopy.specs.Before.{is_done}
use Rattle.sy_onecopy.specs.Copies.{names, uses}
use Rattle.sy_onecopy.specs.Settle.{with_stage}
use Rattle.sy_onecopy.specs.Step.{apply, begin_ask, add_buffer, made_buffer, made_part, part_buffer, new_buffer, has_count, live_elements, is_root, is_part, count_of, after_print, with_end, end_entry, end_root, end_buffer, opened_host, access_entry, accesses, made_context, made_queue, after_submit, wait_if, after_throw, throw_queue, after_spawn, error_on, node_entry, is_root_need, are_root_needs, are_different, are_below, has_needs, holds_together, writes_if_fresh}
use Rattle.sy_settling.specs.Orderly.{IsAt}
use Rattle.sy_settling.proofs.ListLemmas.{get-changed, get-changed_other, get-append, some_is, and_left}
use Rattle.sy_settling.proofs.ElementLemmas.{mapped, buffer_by, get-mapped}
use Rattle.sy_settling.proofs.EffectLemmas.{Act}
use Rattle.sy_settling.proofs.OrderlyEffectLemmas.{Acts}
use Rattle.sy_coreboard.specs.Events.{keeps_copies}
use Rattle.sy_sound.specs.Sound.{IsHeld, IsSound}
use Rattle.sy_sound.proofs.InputLemmas.{stands_at}
use Rattle.sy_sound.proofs.ListLemmas.{All-at}
use Rattle.sy_coreboard.proofs.NeedLemmas.{among, all-at, names_it, named_here}
use Rattle.sy_coreboard.specs.Sources.{IsWanted, IsLive}

-- ---- an entry acts

pub mapped_some : {A : Type 0} (f : A → A) (o : Option A) (x : A) → option_map f o ≡ Some x → (y : A) × (o ≡ Some y) × (f y ≡ x)
mapped_some f None x h = absurd cc
mapped_some f (Some y) x h = (y, refl, some_is h)

wanted_back : (b : Board) (c : Board) (a : Act) (k : ℕ) (e : Entry) (r : ℕ) → Acts b a k e → c.entries ≡ changed_at (with_stage a.stage) k b.entries → IsWanted c r → IsWanted b r
wanted_back b c a k e r acts en w = elim (cases_eq w.place k) [
  | inl q ↦
      let is : w.entry ≡ with_stage a.stage e = some_is (sym w.at ∙ ap (λ l. slice_get l w.place) en ∙ ap (slice_get (changed_at (with_stage a.stage) k b.entries)) q ∙ get-changed (with_stage a.stage) k b.entries ∙ ap (option_map (with_stage a.stage)) acts.at) in
      record { place = k; entry = e; at = acts.at; undone = acts.undone; named = ap (λ (x : Entry). names x r) (sym is) ∙ w.named }
  | inr ne ↦ record {
    place = w.place;
    entry = w.entry;
    at = sym (get-changed_other (with_stage a.stage) k w.place b.entries ne) ∙ ap (λ l. slice_get l w.place) (sym en) ∙ w.at;
    undone = w.undone;
    named = w.named;
  }
]

pub live_back : (b c : Board) (a : Act) (k : ℕ) (e : Entry) (r : ℕ) → Acts b a k e → c.entries ≡ changed_at (with_stage a.stage) k b.entries → c.buffers ≡ mapped a.cells b.buffers → IsLive c r → IsLive b r
live_back b c a k e r acts en bs l =
    let f = buffer_by a.cells r in
    let m = mapped_some f (slice_get b.buffers r) l.root (sym (get-mapped a.cells b.buffers r) ∙ ap (λ z. slice_get z r) (sym bs) ∙ l.there) in
    record {
      root = m.0;
      there = m.1;
      own = ap (λ (x : Buffer). is_part x.origin) m.2 ∙ l.own;
      wanted = elim l.wanted [
        | inl u ↦ inl (ap (λ (x : Buffer). x.ended) m.2 ∙ u)
        | inr w ↦ inr (wanted_back b c a k e r acts en w)
      ];
    }

-- ---- a thread asks

pub below_or_not : (a b : ℕ) → (a < b) ⊎ (b ≤ a)
below_or_not a b = elim (cases_order a b) [
  | inl e ↦ inr (omega (arith, e))
  | inr o ↦ elim o [
    | inl lt ↦ inl lt
    | inr lt ↦ inr (omega (arith, lt))
  ]
]

pub at_end : (xs : List Entry) (x e : Entry) (k : ℕ) → IsAt (xs ++ x ∷ []) k e → IsAt xs k e ⊎ (x ≡ e)
at_end [] x e zero g = inr (some_is g)
at_end [] x e (suc k) g = absurd cc
at_end (y ∷ ys) x e zero g = inl g
at_end (y ∷ ys) x e (suc k) g = at_end ys x e k g

-- the root hasn't ended
abbrev pub Unended : Board → ℕ → Type 0
Unended b r = (y : Buffer) × (slice_get b.buffers r ≡ Some y) × (y.ended ≡ false)

-- what may be named was so before
pub record Lives (b c : Board) : Type 0 where
  pub buffers : (r : ℕ) (x : Buffer) → r < length b.buffers → slice_get c.buffers r ≡ Some x → (y : Buffer) × (slice_get b.buffers r ≡ Some y) × (y.origin ≡ x.origin) × (x.ended ≡ false → y.ended ≡ false)
  pub entries : (k : ℕ) (e : Entry) (r : ℕ) → IsAt c.entries k e → is_done e.stage ≡ false → names e r ≡ true → IsAt b.entries k e ⊎ Unended b r

pub lives_back : (b c : Board) (r : ℕ) → Lives b c → r < length b.buffers → IsLive c r → IsLive b r
lives_back b c r g lt l =
    let m = g.buffers r l.root lt l.there in
    record {
      root = m.0;
      there = m.1;
      own = ap is_part m.2 ∙ l.own;
      wanted = elim l.wanted [
        | inl u ↦ inl (m.3 u)
        | inr w ↦ elim (g.entries w.place w.entry r w.at w.undone w.named) [
          | inl at ↦ inr (record { place = w.place; entry = w.entry; at = at; undone = w.undone; named = w.named })
          | inr u ↦ inl (ap (λ (x : Buffer). x.ended) (some_is (sym m.1 ∙ u.1)) ∙ u.2)
        ]
      ];
    }

pub lives_same : (b c : Board) → c.entries ≡ b.entries → c.buffers ≡ b.buffers → Lives b c
lives_same b c e h = record {
  buffers = λ r x lt g. (x, ap (λ l. slice_get l r) (sym h) ∙ g, refl, λ u. u);
  entries = λ k x r g d n. inl (ap (λ l. slice_get l k) (sym e) ∙ g);
}

lives_if : (b y z : Board) (v : Bool) → (v ≡ true → Lives b y) → Lives b z → Lives b (if v then y else z)
lives_if b y z true f g = f refl
lives_if b y z false f g = g

lives_added : (b c : Board) (x : Entry) → c.entries ≡ b.entries ++ x ∷ [] → c.buffers ≡ b.buffers → ((r : ℕ) → names x r ≡ true → Unended b r) → Lives b c
lives_added b c x e h u = record {
  buffers = λ r y lt g. (y, ap (λ l. slice_get l r) (sym h) ∙ g, refl, λ z. z);
  entries = λ k y r g d n. elim (at_end b.entries x y k (ap (λ l. slice_get l k) (sym e) ∙ g)) [
    | inl w ↦ inl w
    | inr w ↦ inr (u r (ap (λ (z : Entry). names z r) w ∙ n))
  ];
}

ended_back : (q : ℕ) (bs : List Buffer) (r : ℕ) (x : Buffer) → slice_get (changed_at with_end q bs) r ≡ Some x → (y : Buffer) × (slice_get bs r ≡ Some y) × (y.origin ≡ x.origin) × (x.ended ≡ false → y.ended ≡ false)
ended_back q [] r x g = absurd cc
ended_back zero (y ∷ ys) zero x g =
    let is : with_end y ≡ x = some_is g in
    (y, refl, ap (λ (z : Buffer). z.origin) is, λ u. absurd (let z : true ≡ false = ap (λ (z : Buffer). z.ended) is ∙ u in cc))
ended_back zero (y ∷ ys) (suc r) x g = (x, g, refl, λ u. u)
ended_back (suc q) (y ∷ ys) zero x g = (y, refl, ap (λ (z : Buffer). z.origin) (some_is g), λ u. ap (λ (z : Buffer). z.ended) (some_is g) ∙ u)
ended_back (suc q) (y ∷ ys) (suc r) x g = ended_back q ys r x g

whole_named : (r i : ℕ) → ((r == i) || false) ≡ true → r ≡ i
whole_named r i h = grind (arith, nat_tests)

end_root-lives : (b : Board) (t r : ℕ) (x : Buffer) (o : Origin) → slice_get b.buffers r ≡ Some x → x.ended ≡ false → Lives b (end_root b t r x o)
unfolding end_root
end_root-lives b t r x Vector g u = record {
  buffers = λ i y lt h. ended_back r b.buffers i y h;
  entries = λ k y i h d n. elim (at_end b.entries (end_entry t r x) y k h) [
    | inl w ↦ inl w
    | inr w ↦ inr (let is : r ≡ i = whole_named r i (ap (λ (z : Entry). names z i) w ∙ n) in (x, ap (slice_get b.buffers) (sym is) ∙ g, u))
  ];
}
end_root-lives b t r x Range g u = record { buffers = λ i y lt h. ended_back r b.buffers i y h; entries = λ k y i h d n. inl h }
end_root-lives b t r x Part g u = record { buffers = λ i y lt h. ended_back r b.buffers i y h; entries = λ k y i h d n. inl h }

end_if : (b : Board) (t r : ℕ) (x : Buffer) (v : Bool) → slice_get b.buffers r ≡ Some x → x.ended ≡ v → Lives b (if v then b else end_root b t r x x.origin)
end_if b t r x true g u = lives_same b b refl refl
end_if b t r x false g u = end_root-lives b t r x x.origin g u

not_is : (v : Bool) → not v ≡ true → v ≡ false
not_is true h = absurd cc
not_is false h = refl

end_buffer-lives : (b : Board) (t r : ℕ) (o : Option Buffer) → slice_get b.buffers r ≡ o → Lives b (end_buffer b t r o)
unfolding end_buffer
end_buffer-lives b t r None g = lives_same b b refl refl
end_buffer-lives b t r (Some x) g = end_if b t r x x.ended g refl

root_unended : (o : Option Buffer) → is_root o ≡ true → (y : Buffer) × (o ≡ Some y) × (y.ended ≡ false)
root_unended None h = absurd cc
root_unended (Some x) h = (x, refl, not_is x.ended (and_left (not x.ended) (not (is_part x.origin)) h))

need_unended : (b : Board) (n : Need) (r : ℕ) → n.buffer ≡ r → is_root_need b.buffers n ≡ true → Unended b r
unfolding is_root_need
need_unended b n r e h =
    let t = and_left (is_root (slice_get b.buffers n.buffer)) (nat_le n.from n.to && (nat_le n.to (count_of (slice_get b.buffers n.buffer)) && writes_if_fresh n)) h in
    let u = root_unended (slice_get b.buffers n.buffer) t in
    (u.0, ap (slice_get b.buffers) (sym e) ∙ u.1, u.2)

needs_unended : (b : Board) (e : Entry) (r : ℕ) → list_all (is_root_need b.buffers) e.needs ≡ true → names e r ≡ true → Unended b r
needs_unended b e r h n =
    let a = among (λ (m : Need). m.buffer == r) e.needs n in
    need_unended b a.need r (named_here a.need r a.passes) (all-at (is_root_need b.buffers) e.needs a.place a.need h a.at)

holds_roots : (b : Board) (m : Submission) → holds_together b m ≡ true → list_all (is_root_need b.buffers) m.needs ≡ true
unfolding holds_together are_root_needs
holds_roots b m h =
    and_left (list_all (is_root_need b.buffers) m.needs) (are_different m.needs)
    (and_left (list_all (is_root_need b.buffers) m.needs && are_different m.needs) (are_below b.nodes m.after && has_needs m.needs m.command) h)

after_submit-lives : (b : Board) (t : ℕ) (m : Submission) (o : Option Queue) → Lives b (after_submit b t m o)
unfolding after_submit
after_submit-lives b t m None = lives_same b b refl refl
after_submit-lives b t m (Some x) = lives_if b _ b (holds_together b m)
    (λ h. lives_added b _ (node_entry b.nodes m x) refl refl (λ r n. needs_unended b (node_entry b.nodes m x) r (holds_roots b m h) n)) (lives_same b b refl refl)

opened_host-lives : (b : Board) (t : ℕ) (m : Need) → Lives b (opened_host b t m)
unfolding opened_host
opened_host-lives b t m = lives_if b _ b (is_root_need b.buffers m)
    (λ h. lives_added b _ (access_entry t (accesses b.entries t) m) refl refl (λ r n. needs_unended b (access_entry t (accesses b.entries t) m) r (ap (λ v. v && true) h) n)) (lives_same b b refl refl)

added-lives : (b : Board) (t : ℕ) (x : Buffer) → Lives b (add_buffer b t x)
added-lives b t x = record {
  buffers = λ r y lt g. (y, sym (get-append b.buffers (x ∷ []) r lt) ∙ g, refl, λ u. u);
  entries = λ k y r g d n. inl g;
}

made_buffer-lives : (b : Board) (t : ℕ) (m : NewBuffer) → Lives b (made_buffer b t m)
unfolding made_buffer
made_buffer-lives b t m =
    lives_if b _ b (has_count (product m.range) m.init)
    (λ h. lives_if b (add_buffer b t (new_buffer m)) _ (nat_le (live_elements b.buffers + product m.range) (2 ^ 22)) (λ k. added-lives b t (new_buffer m)) (lives_same b _ refl refl))
    (lives_same b b refl refl)

made_part-lives : (b : Board) (t parent base count : ℕ) → Lives b (made_part b t parent base count)
unfolding made_part
made_part-lives b t parent base count =
    lives_if b (add_buffer b t part_buffer) b (is_root (slice_get b.buffers parent) && nat_le (base + count) (count_of (slice_get b.buffers parent))) (λ h. added-lives b t part_buffer) (lives_same b b refl refl)

after_print-lives : (b : Board) (t : ℕ) (bytes : List ℕ) → Lives b (after_print b t bytes)
unfolding after_print
after_print-lives b t bytes = lives_if b _ _ (nat_le (length b.output + length bytes) (2 ^ 24)) (λ h. lives_same b _ refl refl) (lives_same b _ refl refl)

made_context-lives : (b : Board) (t : ℕ) → Lives b (made_context b t)
unfolding made_context
made_context-lives b t = lives_if b _ _ (nat_lt b.places 17) (λ h. lives_same b _ refl refl) (lives_same b _ refl refl)

made_queue-lives : (b : Board) (t : ℕ) (m : NewQueue) → Lives b (made_queue b t m)
unfolding made_queue
made_queue-lives b t m = lives_if b _ b (nat_lt 0 m.context && nat_lt m.context b.places) (λ h. lives_same b _ refl refl) (lives_same b b refl refl)

after_throw-lives : (b : Board) (t : ℕ) (o : Option KernelError) → Lives b (after_throw b t o)
after_throw-lives b t None = lives_same b _ refl refl
after_throw-lives b t (Some e) = lives_same b _ refl refl

throw_queue-lives : (b : Board) (t q : ℕ) → Lives b (throw_queue b t q)
unfolding throw_queue
throw_queue-lives b t q = lives_if b _ b (nat_lt q (length b.queues)) (λ h. after_throw-lives b t (error_on q b.entries)) (lives_same b b refl refl)

after_spawn-lives : (b : Board) (t : ℕ) → Lives b (after_spawn b t)
unfolding after_spawn
after_spawn-lives b t = lives_if b _ _ (nat_lt (length b.waits) 64) (λ h. lives_same b _ refl refl) (lives_same b _ refl refl)

wait_if-lives : (v : Bool) (b : Board) (t : ℕ) (w : Waits) → Lives b (wait_if v b t w)
wait_if-lives true b t w = lives_same b _ refl refl
wait_if-lives false b t w = lives_same b b refl refl

pub apply-lives : (b : Board) (t : ℕ) (q : Ask) → keeps_copies q ≡ true → Lives b (apply b t q)
unfolding apply
apply-lives b t (Print bytes) n = after_print-lives b t bytes
apply-lives b t (MakeBuffer m) n = made_buffer-lives b t m
apply-lives b t (MakeSub parent base range) n = made_part-lives b t parent base (product range)
apply-lives b t (EndBuffer r) n = end_buffer-lives b t r (slice_get b.buffers r) refl
apply-lives b t (OpenHost m) n = opened_host-lives b t m
apply-lives b t (CloseHost k values) n = absurd cc
apply-lives b t (MakeContext device) n = made_context-lives b t
apply-lives b t (MakeQueue m) n = made_queue-lives b t m
apply-lives b t (Submit m) n = after_submit-lives b t m (slice_get b.queues m.queue)
apply-lives b t (WaitNode m) n = wait_if-lives (nat_lt m b.nodes) b t (OnNode m)
apply-lives b t (WaitQueue m) n = wait_if-lives (nat_lt m (length b.queues)) b t (OnQueue m b.nodes)
apply-lives b t (ThrowQueue m) n = throw_queue-lives b t m
apply-lives b t (Spawn body captures) n = after_spawn-lives b t
apply-lives b t (Join u) n = wait_if-lives (nat_lt u (length b.waits)) b t (OnThread u)
apply-lives b t (Finish v) n = lives_same b _ refl refl
apply-lives b t (Halt x) n = lives_same b _ refl refl
apply-lives b t (Barrier place line) n = lives_same b b refl refl
apply-lives b t (Collect place line call) n = lives_same b b refl refl

pub lives_begin_ask : (b : Board) (t : ℕ) (c : Board) → Lives (begin_ask b t) c → Lives b c
lives_begin_ask b t c g = record { buffers = g.buffers; entries = g.entries }

-- ---- who may be named

pub live_same : (b c : Board) (r : ℕ) → c.entries ≡ b.entries → c.buffers ≡ b.buffers → IsLive c r → IsLive b r
live_same b c r e h l = record {
  root = l.root;
  there = ap (λ z. slice_get z r) (sym h) ∙ l.there;
  own = l.own;
  wanted = elim l.wanted [
    | inl u ↦ inl u
    | inr w ↦ inr (record { place = w.place; entry = w.entry; at = ap (λ z. slice_get z w.place) (sym e) ∙ w.at; undone = w.undone; named = w.named })
  ];
}

-- a root that an entry names, which isn't done, may be named
pub named_live : (b : Board) (k : ℕ) (e : Entry) (r : ℕ) → IsSound b → IsAt b.entries k e → is_done e.stage ≡ false → names e r ≡ true → IsLive b r
named_live b k e r sound g d named =
    let a = among (λ (n : Need). n.buffer == r) e.needs named in
    let h = All-at (IsHeld b.buffers) e.needs a.place a.need (stands_at b k e sound g).held a.at in
    record {
      root = h.root;
      there = ap (slice_get b.buffers) (sym (named_here a.need r a.passes)) ∙ h.there;
      own = h.own;
      wanted = inr (record { place = k; entry = e; at = g; undone = d; named = named });
    }

pub used_live : (b : Board) (k : ℕ) (e : Entry) (r count : ℕ) → IsSound b → IsAt b.entries k e → is_done e.stage ≡ false → uses e r count ≡ true → IsLive b r
used_live b k e r count sound g d u = named_live b k e r sound g d (names_it r count e u)
