-- What is kept stays right when a node is added and when one is done, and tells which nodes are ready.
use Rattle.std.proofs.Common.{◌≡◌, ◌≢◌, ◌⊎◌, inl, inr, ℕ, zero, suc, ◌+◌, ◌<◌, List, [], ◌∷◌, ◌++◌, length, map, Bool, true, false, ◌||◌, Option, Some, None, refl, sym, ap, ◌∙◌, subst, arith, set, take, add-one, get_or}
use Rattle.std.specs.Prelude.{slice_get, option_map, unwrap_or, ◌==◌, if◌then◌else◌}
use Rattle.std.specs.List.{filter, flat_map}
use Rattle.std.proofs.lemmas.Bool.{eqb-true, eq-eqb, cases_Bool, cases_lt, or_cases}
use Rattle.std.proofs.lemmas.Option.{slice_get-map, slice_get_within, slice_get-get_or, get_or_from_slice_get}
use Rattle.std.proofs.lemmas.List.{map-append, map-set, length-map, append-nil, append_assoc, length_push}
use Rattle.std.proofs.lemmas.List.Elements.{filter-append}
use Rattle.sy_access.specs.declared.access.Need.{Need}
use Rattle.sy_access.specs.Needs.{writes}
use Rattle.sy_graph.specs.declared.node.Node.{Node}
use Rattle.sy_graph.specs.Before.{before, meet, names, is_ready}
use Rattle.sy_needs.specs.Order.{meets_one, meets, both_on}
use Rattle.sy_graph.proofs.ReadyLemmas.{ready_from, ready_tells}
use Rattle.sy_index.specs.declared.slot.Slot.{Slot}
use Rattle.sy_index.specs.Lists.{one_if, count, Has}
use Rattle.sy_index.specs.Cover.{covered, superseded}
use Rattle.sy_index.specs.Slots.{changed, with_successor, with_fewer, linked, told, node_of, nodes_of, edges, At, holds_slot, holds_at, superseded_at, pending, idle, candidates, root_numbers, queue_numbers, Follows, Reached, Covered, Queued, IsIndex}
use Rattle.sy_index.proofs.CoverLemmas.{any_passes, meets_tells, queue_before, covered_before, covered_meets, covered_writes, superseded_tells, covered_covered}
use Rattle.sy_index.proofs.CountLemmas.{count-append, has_filtered, filtered_passes}
use Rattle.sy_index.proofs.EdgeLemmas.{Grew, linked_from, linked_both, length-linked, edges_other, edges_new, edges-push, edges_some, edges-at, edges-taken, at_taken, taken_at, edges-told, Fewer, told_from, told_both, at_pushed, pushed_at, pushed_last}

has_left : (xs ys : List ℕ) (n : ℕ) → Has xs n → Has (xs ++ ys) n
has_left xs ys n h = omega (arith, count-append xs ys n)

has_right : (xs ys : List ℕ) (n : ℕ) → Has ys n → Has (xs ++ ys) n
has_right xs ys n h = omega (arith, count-append xs ys n)

has_in_flat : (f : Need → List ℕ) (xs : List Need) (i : ℕ) (a : Need) (n : ℕ) → slice_get xs i ≡ Some a → Has (f a) n → Has (flat_map f xs) n
has_in_flat f [] i a n e h = absurd cc
has_in_flat f (x ∷ xs) zero a n e h = let same : x ≡ a = cc in has_left (f x) (flat_map f xs) n (rw same h)
has_in_flat f (x ∷ xs) (suc i) a n e h = has_right (f x) (flat_map f xs) n (has_in_flat f xs i a n e h)

has_at : (xs : List ℕ) (i a n : ℕ) → slice_get xs i ≡ Some a → (a == n) ≡ true → Has xs n
has_at [] i a n e h = absurd cc
has_at (x ∷ xs) zero a n e h = let same : x ≡ a = cc in let one : one_if (x == n) ≡ 1 = rw same (ap one_if h) in omega arith
has_at (x ∷ xs) (suc i) a n e h = let r = has_at xs i a n e h in omega arith

queue_cases : (a b : Option ℕ) → both_on a b ≡ true → (q : ℕ) × (a ≡ Some q) × (b ≡ Some q)
queue_cases (Some p) (Some q) h = (q, ap (λ (v : ℕ). let r : Option ℕ = Some v in r) (eqb-true p q h), refl)
queue_cases (Some p) None h = absurd cc
queue_cases None b h = absurd cc

has_root : (R : Bool → ℕ → List ℕ) (root m : ℕ) (v w : Bool) → (v || w) ≡ true → Has (R v root) m → Has (R true root ++ (if w then R false root else [])) m
has_root R root m true w one h = has_left (R true root) _ m h
has_root R root m false true one h = has_right (R true root) (R false root) m h
has_root R root m false false one h = absurd cc

-- a candidate that comes before y, which is m or what m comes before
record Found (S : List (Option Slot)) (R : Bool → ℕ → List ℕ) (Q : ℕ → List ℕ) (m : ℕ) (x : Slot) (y : Node) : Type 0 where
  by : ℕ
  slot : Slot
  at : At S by slot
  among : Has (candidates R Q y) by
  holds : before slot.node by y ≡ true
  start : (by ≡ m) ⊎ ((m < by) × (before x.node m slot.node ≡ true))

in_root : (R : Bool → ℕ → List ℕ) (Q : ℕ → List ℕ) (y : Node) (j : ℕ) (c : Need) (k : ℕ) → slice_get y.needs j ≡ Some c → Has (root_numbers R c) k → Has (candidates R Q y) k
unfolding candidates
in_root R Q y j c k e h = has_right (y.after ++ queue_numbers Q y.in_order) _ k (has_in_flat (root_numbers R) y.needs j c k e h)

in_queue : (R : Bool → ℕ → List ℕ) (Q : ℕ → List ℕ) (y : Node) (q k : ℕ) → y.in_order ≡ Some q → Has (Q q) k → Has (candidates R Q y) k
unfolding candidates
in_queue R Q y q k e h =
    let listed : Has (queue_numbers Q y.in_order) k = subst (λ (v : Option ℕ). Has (queue_numbers Q v) k) (sym e) h in
    has_left (y.after ++ queue_numbers Q y.in_order) _ k (has_right y.after _ k listed)

in_after : (R : Bool → ℕ → List ℕ) (Q : ℕ → List ℕ) (y : Node) (k : ℕ) → names y k ≡ true → Has (candidates R Q y) k
unfolding candidates names
in_after R Q y k h =
    let one = any_passes (λ n. n == k) y.after h in
    has_left (y.after ++ queue_numbers Q y.in_order) _ k (has_left y.after _ k (has_at y.after one.0 one.1 k one.2 one.3))

before_cases : (x : Node) (m : ℕ) (y : Node) → before x m y ≡ true → (meet x y ≡ true) ⊎ ((names y m || both_on x.in_order y.in_order) ≡ true)
unfolding before
before_cases x m y h = or_cases (meet x y) _ h

-- the needs that meet
record Meeting (x y : Node) : Type 0 where
  left : ℕ
  a : Need
  right : ℕ
  c : Need
  at_a : slice_get x.needs left ≡ Some a
  at_c : slice_get y.needs right ≡ Some c
  meeting : meets_one a x.place y.place c ≡ true

meet_tells : (x y : Node) → meet x y ≡ true → Meeting x y
unfolding meet
meet_tells x y h =
    let one = any_passes (λ a. meets a x.place y.needs y.place) x.needs h in
    let two = any_passes (λ b. meets_one one.1 x.place y.place b) y.needs one.3 in
    record { left = one.0; a = one.1; right = two.0; c = two.1; at_a = one.2; at_c = two.2; meeting = two.3 }

found_by_needs : (S : List (Option Slot)) (R : Bool → ℕ → List ℕ) (Q : ℕ → List ℕ) → IsIndex S R Q → (m : ℕ) (x : Slot) (y : Node) → At S m x → before x.node m y ≡ true → (i : ℕ) (a : Need) (j : ℕ) (c : Need) → slice_get x.node.needs i ≡ Some a → slice_get y.needs j ≡ Some c → meets_one a x.node.place y.place c ≡ true → Found S R Q m x y
found_by_needs S R Q index m x y at h i a j c at_a at_c k =
    let t = meets_tells a x.node.place y.place c k in
    elim (index.rooted m x i a at at_a) [
      | inl listed ↦ record {
        by = m;
        slot = x;
        at = at;
        among = in_root R Q y j c m at_c (has_root R c.buffer m (writes a.mode) (writes c.mode) t.1 (subst (λ (v : ℕ). Has (R (writes a.mode) v) m) t.0 listed));
        holds = h;
        start = inl refl;
      }
      | inr by ↦ record {
        by = by.by;
        slot = by.slot;
        at = by.at;
        among = in_root R Q y j c by.by at_c (has_left (R true c.buffer) _ by.by (subst (λ (v : ℕ). Has (R true v) by.by) t.0 by.listed));
        holds = covered_meets a x.node.place by.slot.node by.by y j c by.covers at_c k;
        start = inr (by.later, covered_before x.node m by.slot.node i a at_a by.covers);
      }
    ]

found_by_queue : (S : List (Option Slot)) (R : Bool → ℕ → List ℕ) (Q : ℕ → List ℕ) → IsIndex S R Q → (m : ℕ) (x : Slot) (y : Node) → At S m x → before x.node m y ≡ true → (q : ℕ) → x.node.in_order ≡ Some q → y.in_order ≡ Some q → Found S R Q m x y
found_by_queue S R Q index m x y at h q ex ey =
    elim (index.queued m x q at ex) [
      | inl listed ↦ record { by = m; slot = x; at = at; among = in_queue R Q y q m ey listed; holds = h; start = inl refl }
      | inr by ↦ record {
        by = by.by;
        slot = by.slot;
        at = by.at;
        among = in_queue R Q y q by.by ey by.listed;
        holds = queue_before by.slot.node by.by y q by.same ey;
        start = inr (by.later, queue_before x.node m by.slot.node q ex by.same);
      }
    ]

-- what comes before y is reached through a candidate
found : (S : List (Option Slot)) (R : Bool → ℕ → List ℕ) (Q : ℕ → List ℕ) → IsIndex S R Q → (m : ℕ) (x : Slot) (y : Node) → At S m x → before x.node m y ≡ true → Found S R Q m x y
found S R Q index m x y at h =
    elim (before_cases x.node m y h) [
      | inl k ↦ (let t = meet_tells x.node y k in found_by_needs S R Q index m x y at h t.left t.a t.right t.c t.at_a t.at_c t.meeting)
      | inr k ↦ elim (or_cases (names y m) _ k) [
        | inl l ↦ record { by = m; slot = x; at = at; among = in_after R Q y m l; holds = h; start = inl refl }
        | inr l ↦ (let one = queue_cases x.node.in_order y.in_order l in found_by_queue S R Q index m x y at h one.0 one.1 one.2)
      ]
    ]

holds_from : (S : List (Option Slot)) (y : Node) (m : ℕ) (x : Slot) → At S m x → before x.node m y ≡ true → holds_at S y m ≡ true
unfolding holds_at
holds_from S y m x at h = rw at h

holds_tells : (m : ℕ) (y : Node) (o : Option (Option Slot)) → holds_slot (unwrap_or o None) m y ≡ true → (x : Slot) × (o ≡ Some (Some x)) × (before x.node m y ≡ true)
holds_tells m y (Some (Some x)) h = (x, refl, h)
holds_tells m y (Some None) h = absurd cc
holds_tells m y None h = absurd cc

holder : (S : List (Option Slot)) (y : Node) (m : ℕ) → holds_at S y m ≡ true → (x : Slot) × At S m x × (before x.node m y ≡ true)
unfolding holds_at
holder S y m h = holds_tells m y (slice_get S m) h

within : (S : List (Option Slot)) (m : ℕ) (x : Slot) → At S m x → m < length S
within S m x at = slice_get_within S m (Some x) at

no_edges : (S : List (Option Slot)) (R : Bool → ℕ → List ℕ) (Q : ℕ → List ℕ) → IsIndex S R Q → edges S (length S) ≡ 0
no_edges S R Q index =
    elim (cases_lt 0 (edges S (length S))) [
      | inl some ↦ (let r = edges_some S (length S) some in
          let f = index.sound r.0 r.1 (length S) r.2 r.3 in
          absurd (omega (arith, within S (length S) f.slot f.at)))
      | inr none ↦ omega arith
    ]

-- lists that keep all that is pending serve as well
pub lists_kept : (S : List (Option Slot)) (R R' : Bool → ℕ → List ℕ) (Q Q' : ℕ → List ℕ) → IsIndex S R Q → ((w : Bool) (k m : ℕ) → m < length S → Has (R w k) m → Has (R' w k) m) → ((k m : ℕ) → m < length S → Has (Q k) m → Has (Q' k) m) → IsIndex S R' Q'
lists_kept S R R' Q Q' index roots queues = record {
  counted = index.counted;
  sound = index.sound;
  complete = index.complete;
  rooted = λ m x i a at e. elim (index.rooted m x i a at e) [
    | inl h ↦ inl (roots (writes a.mode) a.buffer m (within S m x at) h)
    | inr c ↦ inr (record {
      by = c.by;
      slot = c.slot;
      at = c.at;
      later = c.later;
      listed = roots true a.buffer c.by (within S c.by c.slot c.at) c.listed;
      covers = c.covers;
    })
  ];
  queued = λ m x q at e. elim (index.queued m x q at e) [
    | inl h ↦ inl (queues q m (within S m x at) h)
    | inr c ↦ inr (record { by = c.by; slot = c.slot; at = c.at; later = c.later; listed = queues q c.by (within S c.by c.slot c.at) c.listed; same = c.same })
  ];
}

-- the same end of a chain, where the slots have the same nodes
start_along : (m by : ℕ) (x x' z z' : Node) → x' ≡ x → z' ≡ z → (by ≡ m) ⊎ ((m < by) × (before x m z ≡ true)) → (by ≡ m) ⊎ ((m < by) × (before x' m z' ≡ true))
start_along m by x x' z z' ex ez (inl h) = inl h
start_along m by x x' z z' ex ez (inr h) = inr (h.0, rw ex (rw ez h.1))

module _ (S : List (Option Slot)) (R R' : Bool → ℕ → List ℕ) (Q Q' : ℕ → List ℕ) (new : Slot) (P : List ℕ)
    (index : IsIndex S R Q) (gathered : P ≡ filter (holds_at S new.node) (candidates R Q new.node))
    (roots : (w : Bool) (k m : ℕ) → Has (R w k) m → Has (R' w k) m) (queues : (k m : ℕ) → Has (Q k) m → Has (Q' k) m)
    (rooted_new : (i : ℕ) (a : Need) → slice_get new.node.needs i ≡ Some a → Has (R' (writes a.mode) a.buffer) (length S))
    (queued_new : (q : ℕ) → new.node.in_order ≡ Some q → Has (Q' q) (length S))
    (waits_new : new.waits ≡ length P) (next_new : new.next ≡ []) where
  holds_of : (m : ℕ) → Has P m → (x : Slot) × At S m x × (before x.node m new.node ≡ true)
  holds_of m h = holder S new.node m (filtered_passes (holds_at S new.node) (candidates R Q new.node) m (subst (λ (v : List ℕ). Has v m) gathered h))

  all_there : (m : ℕ) → Has P m → (x : Slot) × At S m x
  all_there m h = let r = holds_of m h in (r.0, r.1)

  gathered_of : (m : ℕ) (x : Slot) → At S m x → before x.node m new.node ≡ true → Has (candidates R Q new.node) m → Has P m
  gathered_of m x at h among = subst (λ (v : List ℕ). Has v m) (sym gathered) (has_filtered (holds_at S new.node) (candidates R Q new.node) m (holds_from S new.node m x at h) among)

  last : (m : ℕ) (y : Slot) → At (linked S (length S) P ++ Some new ∷ []) m y → ((x : Slot) × At S m x × Grew x y (length S) P m) ⊎ ((m ≡ length S) × (y ≡ new))
  last m y at = elim (at_pushed (linked S (length S) P) new m y at) [
    | inl h ↦ inl (linked_both S (length S) P m y h)
    | inr h ↦ inr (h.0 ∙ length-linked S (length S) P, h.1)
  ]

  stays : (m : ℕ) (x : Slot) → At S m x → (y : Slot) × At (linked S (length S) P ++ Some new ∷ []) m y × Grew x y (length S) P m
  stays m x at = let r = linked_from S (length S) P m x at in (r.0, pushed_at (linked S (length S) P) new m r.0 r.1, r.2)

  new_at : At (linked S (length S) P ++ Some new ∷ []) (length S) new
  new_at = pushed_last (linked S (length S) P) new (length S) (length-linked S (length S) P)

  counted_new : (n : ℕ) (y : Slot) → At (linked S (length S) P ++ Some new ∷ []) n y → y.waits ≡ edges (linked S (length S) P ++ Some new ∷ []) n
  counted_new n y at =
      let pushed = edges-push (linked S (length S) P) new n next_new in
      elim (last n y at) [
        | inl r ↦ (let lt = within S n r.0 r.1 in
            let other = edges_other S (length S) P n (λ h. omega arith) all_there in
            let was = index.counted n r.0 r.1 in
            let same = r.2.waits in omega arith)
        | inr r ↦ (let e : y.waits ≡ length P = ap (λ (s : Slot). s.waits) r.1 ∙ waits_new in
            let here : edges (linked S (length S) P) n ≡ edges (linked S (length S) P) (length S) = ap (edges (linked S (length S) P)) r.0 in
            let none = no_edges S R Q index in
            let all = edges_new S (length S) P all_there in omega arith)
      ]

  sound_new : (m : ℕ) (x : Slot) (n : ℕ) → At (linked S (length S) P ++ Some new ∷ []) m x → Has x.next n → Follows (linked S (length S) P ++ Some new ∷ []) m x n
  sound_new m x n at h =
      elim (last m x at) [
        | inl r ↦ elim (r.2.only n h) [
          | inl old ↦ (let f = index.sound m r.0 n r.1 old in
              let g = stays n f.slot f.at in
              record { later = f.later; slot = g.0; at = g.1; after = rw r.2.node (rw g.2.node f.after) })
          | inr both ↦ (let o = holds_of m both.1 in
              let same : o.0 ≡ r.0 = cc in
              let lt = within S m r.0 r.1 in
              record {
                later = omega (arith, both.0);
                slot = new;
                at = rw both.0 new_at;
                after = rw r.2.node (subst (λ (s : Slot). before s.node m new.node ≡ true) same o.2);
              })
        ]
        | inr r ↦ absurd (let none : count x.next n ≡ 0 = ap (λ (s : Slot). count s.next n) r.1 ∙ ap (λ (l : List ℕ). count l n) next_new in omega arith)
      ]

  reached_old : (m : ℕ) (x old : Slot) (n : ℕ) → x.node ≡ old.node → Reached S m old n → Reached (linked S (length S) P ++ Some new ∷ []) m x n
  reached_old m x old n same r =
      let g = stays r.by r.slot r.at in
      record { by = r.by; slot = g.0; at = g.1; edge = g.2.kept n r.edge; start = start_along m r.by old.node x.node r.slot.node g.0.node same g.2.node r.start }

  reached_new : (m : ℕ) (x old : Slot) → x.node ≡ old.node → At S m old → before old.node m new.node ≡ true → Reached (linked S (length S) P ++ Some new ∷ []) m x (length S)
  reached_new m x old same at h =
      let f = found S R Q index m old new.node at h in
      let g = stays f.by f.slot f.at in
      record {
        by = f.by;
        slot = g.0;
        at = g.1;
        edge = g.2.named (gathered_of f.by f.slot f.at f.holds f.among);
        start = start_along m f.by old.node x.node f.slot.node g.0.node same g.2.node f.start;
      }

  complete_new : (m : ℕ) (x : Slot) (n : ℕ) (y : Slot) → m < n → At (linked S (length S) P ++ Some new ∷ []) m x → At (linked S (length S) P ++ Some new ∷ []) n y → before x.node m y.node ≡ true → Reached (linked S (length S) P ++ Some new ∷ []) m x n
  complete_new m x n y lt at_m at_n h =
      elim (last m x at_m) [
        | inl r ↦ elim (last n y at_n) [
          | inl s ↦ reached_old m x r.0 n r.2.node (index.complete m r.0 n s.0 lt r.1 s.1 (subst (λ (v : Node). before v m s.0.node ≡ true) r.2.node (subst (λ (v : Node). before x.node m v ≡ true) s.2.node h)))
          | inr s ↦ (let here : before r.0.node m new.node ≡ true = subst (λ (v : Node). before v m new.node ≡ true) r.2.node (subst (λ (v : Slot). before x.node m v.node ≡ true) s.1 h) in
              rw s.0 (reached_new m x r.0 r.2.node r.1 here))
        ]
        | inr r ↦ elim (last n y at_n) [
          | inl s ↦ absurd (let l = within S n s.0 s.1 in omega (arith, r.0))
          | inr s ↦ absurd (omega (arith, r.0, s.0))
        ]
      ]

  covered_grown : (m p : ℕ) (a : Need) → Covered S R m p a → Covered (linked S (length S) P ++ Some new ∷ []) R' m p a
  covered_grown m p a c =
      let g = stays c.by c.slot c.at in
      record { by = c.by; slot = g.0; at = g.1; later = c.later; listed = roots true a.buffer c.by c.listed; covers = rw g.2.node c.covers }

  queued_grown : (m q : ℕ) → Queued S Q m q → Queued (linked S (length S) P ++ Some new ∷ []) Q' m q
  queued_grown m q c =
      let g = stays c.by c.slot c.at in
      record { by = c.by; slot = g.0; at = g.1; later = c.later; listed = queues q c.by c.listed; same = rw g.2.node c.same }

  index_added : IsIndex (linked S (length S) P ++ Some new ∷ []) R' Q'
  index_added = record {
    counted = counted_new;
    sound = sound_new;
    complete = complete_new;
    rooted = λ m x i a at e. elim (last m x at) [
      | inl r ↦ elim (index.rooted m r.0 i a r.1 (subst (λ (v : Node). slice_get v.needs i ≡ Some a) r.2.node e)) [
        | inl h ↦ inl (roots (writes a.mode) a.buffer m h)
        | inr c ↦ inr (rw r.2.node (covered_grown m r.0.node.place a c))
      ]
      | inr r ↦ inl (rw r.0 (rooted_new i a (subst (λ (v : Slot). slice_get v.node.needs i ≡ Some a) r.1 e)))
    ];
    queued = λ m x q at e. elim (last m x at) [
      | inl r ↦ elim (index.queued m r.0 q r.1 (subst (λ (v : Node). v.in_order ≡ Some q) r.2.node e)) [
        | inl h ↦ inl (queues q m h)
        | inr c ↦ inr (queued_grown m q c)
      ]
      | inr r ↦ inl (rw r.0 (queued_new q (subst (λ (v : Slot). v.node.in_order ≡ Some q) r.1 e)))
    ];
  }

-- what stands once a node is appended, in the words of the code
pub record Added (S A : List (Option Slot)) (R : Bool → ℕ → List ℕ) (Q : ℕ → List ℕ) (n : ℕ) (new : Slot) : Type 0 where
  pub index : IsIndex A R Q
  pub at : At A n new
  pub end : length A ≡ suc n

pub added : (S A : List (Option Slot)) (R R' : Bool → ℕ → List ℕ) (Q Q' : ℕ → List ℕ) (new : Slot) (P ms : List ℕ) (n : ℕ) → IsIndex S R Q → A ≡ linked S (length S) ms ++ Some new ∷ [] → ms ≡ P → n ≡ length S → P ≡ filter (holds_at S new.node) (candidates R Q new.node)
    → ((w : Bool) (k m : ℕ) → Has (R w k) m → Has (R' w k) m) → ((k m : ℕ) → Has (Q k) m → Has (Q' k) m)
    → ((i : ℕ) (a : Need) → slice_get new.node.needs i ≡ Some a → Has (R' (writes a.mode) a.buffer) n)
    → ((q : ℕ) → new.node.in_order ≡ Some q → Has (Q' q) n)
    → new.waits ≡ length P → new.next ≡ []
    → Added S A R' Q' n new
added S A R R' Q Q' new P ms n index is all size gathered roots queues rooted queued waits next =
    let same : A ≡ linked S (length S) P ++ Some new ∷ [] = is ∙ ap (λ (v : List ℕ). linked S (length S) v ++ Some new ∷ []) all in
    let long : length (linked S (length S) P ++ Some new ∷ []) ≡ suc n = omega (arith, length_push (linked S (length S) P) (Some new), length-linked S (length S) P) in
    record {
      index = subst (λ (v : List (Option Slot)). IsIndex v R' Q') (sym same) (index_added S R R' Q Q' new P index gathered roots queues
          (λ i a e. subst (λ (v : ℕ). Has (R' (writes a.mode) a.buffer) v) size (rooted i a e))
          (λ q e. subst (λ (v : ℕ). Has (Q' q) v) size (queued q e))
          waits next);
      at = subst (λ (v : List (Option Slot)). At v n new) (sym same) (pushed_last (linked S (length S) P) new n (length-linked S (length S) P ∙ sym size));
      end = ap length same ∙ long;
    }

superseded_slot_tells : (S : List (Option Slot)) (m root : ℕ) (x : Slot) (y : Node) → At S m x → superseded_at S m root y ≡ true → superseded x.node root y ≡ true
unfolding superseded_at
superseded_slot_tells S m root x y at h = rw at at h

-- the last node takes the place of the nodes that it supersedes
module _ (S : List (Option Slot)) (R R' : Bool → ℕ → List ℕ) (Q Q' : ℕ → List ℕ) (n : ℕ) (y : Slot)
    (index : IsIndex S R Q) (at_y : At S n y) (end : length S ≡ suc n)
    (roots : (w : Bool) (k m : ℕ) → Has (R w k) m → Has (R' w k) m ⊎ ((m ≢ n) × (superseded_at S m k y.node ≡ true)))
    (queues : (k m : ℕ) → Has (Q k) m → Has (Q' k) m ⊎ ((m ≢ n) × (y.node.in_order ≡ Some k)))
    (rooted_y : (i : ℕ) (a : Need) → slice_get y.node.needs i ≡ Some a → Has (R (writes a.mode) a.buffer) n)
    (queued_y : (q : ℕ) → y.node.in_order ≡ Some q → Has (Q q) n) where
  earlier : (m : ℕ) (x : Slot) → At S m x → m ≢ n → m < n
  earlier m x at apart = let lt = within S m x at in omega arith

  rooted_kept : (i : ℕ) (a : Need) → slice_get y.node.needs i ≡ Some a → Has (R' (writes a.mode) a.buffer) n
  rooted_kept i a e = elim (roots (writes a.mode) a.buffer n (rooted_y i a e)) [ inl h ↦ h | inr g ↦ absurd (g.0 refl) ]

  queued_kept : (q : ℕ) → y.node.in_order ≡ Some q → Has (Q' q) n
  queued_kept q e = elim (queues q n (queued_y q e)) [ inl h ↦ h | inr g ↦ absurd (g.0 refl) ]

  covered_by_y : (m p : ℕ) (a : Need) → m < n → covered a p y.node ≡ true → Covered S R' m p a
  covered_by_y m p a lt h =
      let w = covered_writes a p y.node h in
      let k : Has (R' (writes w.need.mode) w.need.buffer) n = rooted_kept w.place w.need w.is in
      let listed : Has (R' true a.buffer) n = subst (λ (v : ℕ). Has (R' true v) n) w.root (subst (λ (v : Bool). Has (R' v w.need.buffer) n) w.written k) in
      record { by = n; slot = y; at = at_y; later = lt; listed = listed; covers = h }

  rooted_shed : (m : ℕ) (x : Slot) (i : ℕ) (a : Need) → At S m x → slice_get x.node.needs i ≡ Some a → Has (R' (writes a.mode) a.buffer) m ⊎ Covered S R' m x.node.place a
  rooted_shed m x i a at e =
      elim (index.rooted m x i a at e) [
        | inl h ↦ elim (roots (writes a.mode) a.buffer m h) [
          | inl k ↦ inl k
          | inr g ↦ inr (covered_by_y m x.node.place a (earlier m x at g.0) (superseded_tells x.node a.buffer y.node i a (superseded_slot_tells S m a.buffer x y.node at g.1) e refl))
        ]
        | inr c ↦ elim (roots true a.buffer c.by c.listed) [
          | inl k ↦ inr (record { by = c.by; slot = c.slot; at = c.at; later = c.later; listed = k; covers = c.covers })
          | inr g ↦ (let lt = earlier c.by c.slot c.at g.0 in
              let over : m < n = omega (arith, c.later) in
              inr (covered_by_y m x.node.place a over (covered_covered a x.node.place c.slot.node y.node c.covers (superseded_slot_tells S c.by a.buffer c.slot y.node c.at g.1))))
        ]
      ]

  queued_by_y : (m q : ℕ) → m < n → y.node.in_order ≡ Some q → Queued S Q' m q
  queued_by_y m q lt e = record { by = n; slot = y; at = at_y; later = lt; listed = queued_kept q e; same = e }

  queued_shed : (m : ℕ) (x : Slot) (q : ℕ) → At S m x → x.node.in_order ≡ Some q → Has (Q' q) m ⊎ Queued S Q' m q
  queued_shed m x q at e =
      elim (index.queued m x q at e) [
        | inl h ↦ elim (queues q m h) [
          | inl k ↦ inl k
          | inr g ↦ inr (queued_by_y m q (earlier m x at g.0) g.1)
        ]
        | inr c ↦ elim (queues q c.by c.listed) [
          | inl k ↦ inr (record { by = c.by; slot = c.slot; at = c.at; later = c.later; listed = k; same = c.same })
          | inr g ↦ (let lt = earlier c.by c.slot c.at g.0 in
              let over : m < n = omega (arith, c.later) in
              inr (queued_by_y m q over g.1))
        ]
      ]

  pub index_shed : IsIndex S R' Q'
  index_shed = record { counted = index.counted; sound = index.sound; complete = index.complete; rooted = rooted_shed; queued = queued_shed }

-- the same for the node that is found at its number
pub index_shed_at : (S : List (Option Slot)) (R R' : Bool → ℕ → List ℕ) (Q Q' : ℕ → List ℕ) (n : ℕ) (new : Slot) (y : Node) → IsIndex S R Q → At S n new → length S ≡ suc n → Some y ≡ node_of (pending S n)
    → ((w : Bool) (k m : ℕ) → Has (R w k) m → Has (R' w k) m ⊎ ((m ≢ n) × (superseded_at S m k y ≡ true)))
    → ((k m : ℕ) → Has (Q k) m → Has (Q' k) m ⊎ ((m ≢ n) × (y.in_order ≡ Some k)))
    → ((i : ℕ) (a : Need) → slice_get new.node.needs i ≡ Some a → Has (R (writes a.mode) a.buffer) n)
    → ((q : ℕ) → new.node.in_order ≡ Some q → Has (Q q) n)
    → IsIndex S R' Q'
index_shed_at S R R' Q Q' n new y index at end is roots queues rooted_new queued_new =
    let named : node_of (pending S n) ≡ Some new.node = ap (λ (o : Option (Option Slot)). node_of (unwrap_or o None)) at in
    let same : y ≡ new.node = cc in
    index_shed S R R' Q Q' n new index at end
    (λ w k m h. elim (roots w k m h) [ inl l ↦ inl l | inr g ↦ inr (g.0, subst (λ (v : Node). superseded_at S m k v ≡ true) same g.1) ])
    (λ k m h. elim (queues k m h) [ inl l ↦ inl l | inr g ↦ inr (g.0, subst (λ (v : Node). v.in_order ≡ Some k) same g.1) ])
    rooted_new queued_new

-- no pending node comes before one that waits for none
first_of : (S : List (Option Slot)) (R : Bool → ℕ → List ℕ) (Q : ℕ → List ℕ) (n : ℕ) (d : Slot) → IsIndex S R Q → At S n d → d.waits ≡ 0 → (m : ℕ) (x : Slot) → m < n → At S m x → before x.node m d.node ≡ false
first_of S R Q n d index at_d free m x lt at =
    elim (cases_Bool (before x.node m d.node)) [
      | inr apart ↦ apart
      | inl comes ↦ (let r = index.complete m x n d lt at at_d comes in
          let some = edges-at S n r.by r.slot r.at in
          let all = index.counted n d at_d in
          let edge = r.edge in
          absurd (omega arith))
    ]

module _ (S : List (Option Slot)) (R R' : Bool → ℕ → List ℕ) (Q Q' : ℕ → List ℕ) (n : ℕ) (d : Slot)
    (index : IsIndex S R Q) (at_d : At S n d) (free : d.waits ≡ 0)
    (roots : (w : Bool) (k m : ℕ) → m ≢ n → Has (R w k) m → Has (R' w k) m) (queues : (k m : ℕ) → m ≢ n → Has (Q k) m → Has (Q' k) m) where
  left : (m : ℕ) (y : Slot) → At (told (set S n None) d.next) m y → (x : Slot) × (n ≢ m) × At S m x × Fewer x y d.next m
  left m y at = let r = told_both (set S n None) d.next m y at in let o = at_taken S n m r.0 r.1 in (r.0, o.0, o.1, r.2)

  remains : (m : ℕ) (x : Slot) → n ≢ m → At S m x → (y : Slot) × At (told (set S n None) d.next) m y × Fewer x y d.next m
  remains m x apart at = told_from (set S n None) d.next m x (taken_at S n m x apart at)

  -- what a pending node comes before isn't the node that is done
  goes_on : (m : ℕ) (x : Slot) (by : ℕ) (z : Slot) → At S m x → At S by z → (m < by) × (before x.node m z.node ≡ true) → n ≢ by
  goes_on m x by z at_m at_by h = λ e.
      let here : At S n z = subst (λ (v : ℕ). At S v z) (sym e) at_by in
      let same : z ≡ d = cc in
      let comes : before x.node m d.node ≡ true = subst (λ (v : Slot). before x.node m v.node ≡ true) same h.1 in
      let not : before x.node m d.node ≡ false = first_of S R Q n d index at_d free m x (subst (λ (v : ℕ). m < v) (sym e) h.0) at_m in
      absurd cc

  goes_from : (m : ℕ) (x : Slot) (by : ℕ) (z : Slot) → n ≢ m → At S m x → At S by z → (by ≡ m) ⊎ ((m < by) × (before x.node m z.node ≡ true)) → n ≢ by
  goes_from m x by z apart at_m at_by (inl same) = λ e. apart (e ∙ same)
  goes_from m x by z apart at_m at_by (inr h) = goes_on m x by z at_m at_by h

  reached_left : (m : ℕ) (x old : Slot) (k : ℕ) → n ≢ m → At S m old → x.node ≡ old.node → Reached S m old k → Reached (told (set S n None) d.next) m x k
  reached_left m x old k apart at same r =
      let g = remains r.by r.slot (goes_from m old r.by r.slot apart at r.at r.start) r.at in
      record {
        by = r.by;
        slot = g.0;
        at = g.1;
        edge = subst (λ (v : List ℕ). Has v k) (sym g.2.next) r.edge;
        start = start_along m r.by old.node x.node r.slot.node g.0.node same g.2.node r.start;
      }

  covered_left : (m : ℕ) (x : Slot) (i : ℕ) (a : Need) → At S m x → slice_get x.node.needs i ≡ Some a → Covered S R m x.node.place a → Covered (told (set S n None) d.next) R' m x.node.place a
  covered_left m x i a at e c =
      let apart = goes_on m x c.by c.slot at c.at (c.later, covered_before x.node m c.slot.node i a e c.covers) in
      let g = remains c.by c.slot apart c.at in
      record { by = c.by; slot = g.0; at = g.1; later = c.later; listed = roots true a.buffer c.by (λ h. apart (sym h)) c.listed; covers = rw g.2.node c.covers }

  queued_left : (m : ℕ) (x : Slot) (q : ℕ) → At S m x → x.node.in_order ≡ Some q → Queued S Q m q → Queued (told (set S n None) d.next) Q' m q
  queued_left m x q at e c =
      let apart = goes_on m x c.by c.slot at c.at (c.later, queue_before x.node m c.slot.node q e c.same) in
      let g = remains c.by c.slot apart c.at in
      record { by = c.by; slot = g.0; at = g.1; later = c.later; listed = queues q c.by (λ h. apart (sym h)) c.listed; same = rw g.2.node c.same }

  pub index_done : IsIndex (told (set S n None) d.next) R' Q'
  index_done = record {
    counted = λ m y at.
        let r = left m y at in
        let told_same = edges-told (set S n None) d.next m in
        let taken = edges-taken S m n d at_d in
        let was = index.counted m r.0 r.2 in
        omega (arith, r.3.waits);
    sound = λ m x k at h.
        let r = left m x at in
        let here : Has r.0.next k = subst (λ (v : List ℕ). Has v k) r.3.next h in
        let f = index.sound m r.0 k r.2 here in
        let apart : n ≢ k = (λ e.
        let some = edges-at S k m r.0 r.2 in
        let none = index.counted n d at_d in
        let same : edges S n ≡ edges S k = ap (edges S) e in
        omega arith) in
        let g = remains k f.slot apart f.at in
        record { later = f.later; slot = g.0; at = g.1; after = subst (λ (v : Node). before v m g.0.node ≡ true) (sym r.3.node) (subst (λ (v : Node). before r.0.node m v ≡ true) (sym g.2.node) f.after) };
    complete = λ m x k y lt at_m at_k h.
        let r = left m x at_m in
        let s = left k y at_k in
        reached_left m x r.0 k r.1 r.2 r.3.node (index.complete m r.0 k s.0 lt r.2 s.2 (subst (λ (v : Node). before v m s.0.node ≡ true) r.3.node (subst (λ (v : Node). before x.node m v ≡ true) s.3.node h)));
    rooted = λ m x i a at e.
        let r = left m x at in
        let need : slice_get r.0.node.needs i ≡ Some a = subst (λ (v : Node). slice_get v.needs i ≡ Some a) r.3.node e in
        elim (index.rooted m r.0 i a r.2 need) [
          | inl h ↦ inl (roots (writes a.mode) a.buffer m (λ h. r.1 (sym h)) h)
          | inr c ↦ inr (rw r.3.node (covered_left m r.0 i a r.2 need c))
        ];
    queued = λ m x q at e.
        let r = left m x at in
        let queue : r.0.node.in_order ≡ Some q = subst (λ (v : Node). v.in_order ≡ Some q) r.3.node e in
        elim (index.queued m r.0 q r.2 queue) [
          | inl h ↦ inl (queues q m (λ h. r.1 (sym h)) h)
          | inr c ↦ inr (queued_left m r.0 q r.2 queue c)
        ];
  }

node_there : (S : List (Option Slot)) (m : ℕ) (z : Node) → slice_get (nodes_of S) m ≡ Some (Some z) → (x : Slot) × At S m x × (x.node ≡ z)
unfolding nodes_of
node_there [] m z e = absurd cc
node_there (None ∷ S) zero z e = absurd cc
node_there (Some x ∷ S) zero z e = (x, refl, cc)
node_there (o ∷ S) (suc m) z e = node_there S m z e

there_node : (S : List (Option Slot)) (m : ℕ) (x : Slot) → At S m x → slice_get (nodes_of S) m ≡ Some (Some x.node)
unfolding nodes_of
there_node S m x at = slice_get-map node_of S m ∙ ap (λ (o : Option (Option Slot)). option_map node_of o) at

idle_tells : (o : Option (Option Slot)) → idle (unwrap_or o None) ≡ true → (x : Slot) × (o ≡ Some (Some x)) × (x.waits ≡ 0)
idle_tells (Some (Some x)) h = (x, refl, eqb-true x.waits 0 h)
idle_tells (Some None) h = absurd cc
idle_tells None h = absurd cc

bool_same : (a b : Bool) → (a ≡ true → b ≡ true) → (b ≡ true → a ≡ true) → a ≡ b
bool_same true b f g = sym (f refl)
bool_same false true f g = g refl
bool_same false false f g = refl

idle_is_ready : (S : List (Option Slot)) (R : Bool → ℕ → List ℕ) (Q : ℕ → List ℕ) (n : ℕ) → IsIndex S R Q → idle (pending S n) ≡ true → is_ready (nodes_of S) n ≡ true
idle_is_ready S R Q n index h =
    let o = idle_tells (slice_get S n) h in
    ready_from (nodes_of S) n (
      o.0.node,
      there_node S n o.0 o.1,
      λ m z lt at. let r = node_there S m z at in subst (λ (v : Node). before v m o.0.node ≡ false) r.2 (first_of S R Q n o.0 index o.1 o.2 m r.0 lt r.1),
    )

-- what is left where a node is ready
pub ready_slot : (S : List (Option Slot)) (R : Bool → ℕ → List ℕ) (Q : ℕ → List ℕ) (n : ℕ) → IsIndex S R Q → is_ready (nodes_of S) n ≡ true → (x : Slot) × At S n x × (x.waits ≡ 0)
ready_slot S R Q n index h =
    let t = ready_tells (nodes_of S) n h in
    let o = node_there S n t.0 t.1 in
    let all = index.counted n o.0 o.1 in (
      o.0,
      o.1,
      elim (cases_lt 0 (edges S n)) [
        | inl some ↦ (let r = edges_some S n some in
            let f = index.sound r.0 r.1 n r.2 r.3 in
            let same : f.slot.node ≡ t.0 = (let k : f.slot ≡ o.0 = (let a = f.at in let b = o.1 in cc) in ap (λ (s : Slot). s.node) k ∙ o.2) in
            let apart : before r.1.node r.0 t.0 ≡ false = t.2 r.0 r.1.node f.later (there_node S r.0 r.1 r.2) in
            let comes : before r.1.node r.0 t.0 ≡ true = subst (λ (v : Node). before r.1.node r.0 v ≡ true) same f.after in
            absurd cc)
        | inr none ↦ omega arith
      ],
    )

pub idle_is : (S : List (Option Slot)) (R : Bool → ℕ → List ℕ) (Q : ℕ → List ℕ) (n : ℕ) → IsIndex S R Q → idle (pending S n) ≡ is_ready (nodes_of S) n
idle_is S R Q n index = bool_same _ _ (idle_is_ready S R Q n index) (λ h. let r = ready_slot S R Q n index h in rw r.1 (eq-eqb r.0.waits 0 r.2))

pub length-nodes_of : (S : List (Option Slot)) → length (nodes_of S) ≡ length S
unfolding nodes_of
length-nodes_of S = length-map S node_of

nodes_of-changed : (f : Slot → Slot) → ((s : Slot) → (f s).node ≡ s.node) → (S : List (Option Slot)) (m : ℕ) → nodes_of (changed f S m) ≡ nodes_of S
unfolding nodes_of changed
nodes_of-changed f keeps [] m = refl
nodes_of-changed f keeps (None ∷ S) zero = refl
nodes_of-changed f keeps (Some s ∷ S) zero = ap (λ (v : Node). Some v ∷ map node_of S) (keeps s)
nodes_of-changed f keeps (o ∷ S) (suc m) = ap (λ (v : List (Option Node)). node_of o ∷ v) (nodes_of-changed f keeps S m)

pub nodes_of-linked : (S : List (Option Slot)) (n : ℕ) (ms : List ℕ) → nodes_of (linked S n ms) ≡ nodes_of S
unfolding linked
nodes_of-linked S n [] = refl
nodes_of-linked S n (m ∷ ms) = nodes_of-linked (changed (with_successor n) S m) n ms ∙ nodes_of-changed (with_successor n) (λ s. refl) S m

pub nodes_of-told : (S : List (Option Slot)) (ms : List ℕ) → nodes_of (told S ms) ≡ nodes_of S
unfolding told
nodes_of-told S [] = refl
nodes_of-told S (m ∷ ms) = nodes_of-told (changed with_fewer S m) ms ∙ nodes_of-changed with_fewer (λ s. refl) S m

pub nodes_of-taken : (S : List (Option Slot)) (n : ℕ) → nodes_of (set S n None) ≡ set (nodes_of S) n None
unfolding nodes_of
nodes_of-taken S n = map-set node_of S n None

pub nodes_of-pushed : (S : List (Option Slot)) (s : Slot) → nodes_of (S ++ Some s ∷ []) ≡ nodes_of S ++ Some s.node ∷ []
unfolding nodes_of
nodes_of-pushed S s = map-append node_of S (Some s ∷ [])

pub nodes_of-nil : nodes_of [] ≡ []
unfolding nodes_of
nodes_of-nil = refl

flat_more : (f : Need → List ℕ) (xs : List Need) (i : ℕ) (a : Need) → slice_get xs i ≡ Some a → flat_map f (take (suc i) xs) ≡ flat_map f (take i xs) ++ f a
flat_more f [] i a e = absurd cc
flat_more f (x ∷ xs) zero a e = let same : x ≡ a = cc in rw same (append-nil (f a))
flat_more f (x ∷ xs) (suc i) a e = ap (λ (v : List ℕ). f x ++ v) (flat_more f xs i a e) ∙ sym (append_assoc (f x) (flat_map f (take i xs)) (f a))

gathered_more : (h : ℕ → Bool) (front : List ℕ) (f : Need → List ℕ) (xs : List Need) (i : ℕ) (a : Need) (old new : List ℕ) → slice_get xs i ≡ Some a → old ≡ filter h (front ++ flat_map f (take i xs)) → new ≡ old ++ filter h (f a) → new ≡ filter h (front ++ flat_map f (take (i + 1) xs))
gathered_more h front f xs i a old new e was now =
    let more : flat_map f (take (i + 1) xs) ≡ flat_map f (take i xs) ++ f a = rw add-one (flat_more f xs i a e) in
    rw more (rw (sym (append_assoc front (flat_map f (take i xs)) (f a))) (rw (filter-append h (front ++ flat_map f (take i xs)) (f a)) (now ∙ ap (λ (v : List ℕ). v ++ filter h (f a)) was)))

pub candidates_is : (R : Bool → ℕ → List ℕ) (Q : ℕ → List ℕ) (y : Node) → y.after ++ queue_numbers Q y.in_order ++ flat_map (root_numbers R) y.needs ≡ candidates R Q y
unfolding candidates
candidates_is R Q y = refl

-- an item of a loop over the needs, which the need at i is
pub has_here : (f : Bool → ℕ → List ℕ) (xs ys : List Need) (i j : ℕ) (a d : Need) (w : Bool) (n : ℕ) → ys ≡ xs → j ≡ i → slice_get xs i ≡ Some a → w ≡ writes (get_or ys j d).mode → Has (f w (get_or ys j d).buffer) n → Has (f (writes a.mode) a.buffer) n
has_here f xs ys i j a d w n same at e is h =
    let item : get_or ys j d ≡ a = ap (λ (v : List Need). get_or v j d) same ∙ ap (λ (v : ℕ). get_or xs v d) at ∙ get_or_from_slice_get xs i a d e in
    subst (λ (v : Need). Has (f (writes v.mode) v.buffer) n) item (subst (λ (v : Bool). Has (f v (get_or ys j d).buffer) n) is h)

pub gathered_at : (h : ℕ → Bool) (front : List ℕ) (f : Need → List ℕ) (xs ys : List Need) (i : ℕ) (d : Need) (old new : List ℕ) → ys ≡ xs → i < length ys → old ≡ filter h (front ++ flat_map f (take i xs)) → new ≡ old ++ filter h (f (get_or ys i d)) → new ≡ filter h (front ++ flat_map f (take (i + 1) xs))
gathered_at h front f xs ys i d old new same lt was now =
    let at : slice_get xs i ≡ Some (get_or ys i d) = subst (λ (v : List Need). slice_get v i ≡ Some (get_or ys i d)) same (slice_get-get_or ys i d lt) in
    gathered_more h front f xs i (get_or ys i d) old new at was now
