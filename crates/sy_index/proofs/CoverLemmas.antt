-- What a need or a node meets that covers another one.
use Rattle.std.proofs.Common.{◌≡◌, ℕ, zero, suc, ◌<◌, ◌≤◌, Bool, true, false, not, ◌||◌, ◌⊎◌, inl, inr, List, [], ◌∷◌, Some, eqb, ltb, leb, refl, sym, ap, ◌∙◌, subst, arith}
use Rattle.std.specs.Prelude.{slice_get}
use Rattle.std.specs.List.{list_any, list_all}
use Rattle.std.proofs.lemmas.Bool.{and_parts, and_from, or_cases, or_left, or_right, leb-true, ltb-true, eqb-true, le-leb, lt-ltb, eq-eqb}
use Rattle.sy_access.specs.declared.access.Need.{Need}
use Rattle.sy_access.specs.Needs.{writes, one_writes, is_empty, shares, conflict, is_apart}
use Rattle.sy_graph.specs.declared.node.Node.{Node}
use Rattle.sy_graph.specs.Before.{before, meet, names}
use Rattle.sy_needs.specs.Order.{meets_one, meets, both_on}
use Rattle.sy_index.specs.Cover.{within, covers, covered, superseded}

-- an element of the list passes the test
passes_step : {A : Type 0} (p : A → Bool) (x : A) (xs : List A) → (list_any p xs ≡ true → (i : ℕ) × (a : A) × (slice_get xs i ≡ Some a) × (p a ≡ true)) → (b : Bool) → p x ≡ b → (b || list_any p xs) ≡ true → (i : ℕ) × (a : A) × (slice_get (x ∷ xs) i ≡ Some a) × (p a ≡ true)
passes_step p x xs rest true e h = (zero, x, refl, e)
passes_step p x xs rest false e h = let r = rest h in (suc r.0, r.1, r.2, r.3)

pub any_passes : {A : Type 0} (p : A → Bool) (xs : List A) → list_any p xs ≡ true → (i : ℕ) × (a : A) × (slice_get xs i ≡ Some a) × (p a ≡ true)
any_passes p [] h = absurd cc
any_passes p (x ∷ xs) h = passes_step p x xs (any_passes p xs) (p x) refl h

passes_any : {A : Type 0} (p : A → Bool) (xs : List A) (i : ℕ) (a : A) → slice_get xs i ≡ Some a → p a ≡ true → list_any p xs ≡ true
passes_any p [] i a e h = absurd cc
passes_any p (x ∷ xs) zero a e h = let same : x ≡ a = cc in or_left (p x) (list_any p xs) (ap p same ∙ h)
passes_any p (x ∷ xs) (suc i) a e h = or_right (p x) (list_any p xs) (passes_any p xs i a e h)

all_pass : {A : Type 0} (p : A → Bool) (xs : List A) (i : ℕ) (a : A) → list_all p xs ≡ true → slice_get xs i ≡ Some a → p a ≡ true
all_pass p [] i a h e = absurd cc
all_pass p (x ∷ xs) zero a h e = let same : x ≡ a = cc in ap p (sym same) ∙ (and_parts (p x) _ h).0
all_pass p (x ∷ xs) (suc i) a h e = all_pass p xs i a (and_parts (p x) _ h).1 e

record Covers (a : Need) (p : ℕ) (b : Need) (q : ℕ) : Type 0 where
  root : a.buffer ≡ b.buffer
  written : writes b.mode ≡ true
  whole : (b.to ≤ b.from) ⊎ ((p ≡ q) × (a.from < a.to) × (b.from ≤ a.from) × (a.to ≤ b.to))

covers_tells : (a : Need) (p : ℕ) (b : Need) (q : ℕ) → covers a p b q ≡ true → Covers a p b q
unfolding covers
covers_tells a p b q h =
    let rest = and_parts (eqb a.buffer b.buffer) _ h in
    let more = and_parts (writes b.mode) _ rest.1 in
    record {
      root = eqb-true _ _ rest.0;
      written = more.0;
      whole = elim (or_cases (is_empty b) (within a p b q) more.1) [
        | inl void ↦ inl (leb-true _ _ void)
        | inr k ↦ (let one = and_parts (eqb p q) _ k in
            let two = and_parts (ltb a.from a.to) _ one.1 in
            let three = and_parts (leb b.from a.from) _ two.1 in
            inr (eqb-true _ _ one.0, ltb-true _ _ two.0, leb-true _ _ three.0, leb-true _ _ three.1))
      ];
    }

covers_from : (a : Need) (p : ℕ) (b : Need) (q : ℕ) → Covers a p b q → covers a p b q ≡ true
unfolding covers
covers_from a p b q h =
    and_from _ _ (eq-eqb _ _ h.root) (and_from _ _ h.written (elim h.whole [
      | inl void ↦ or_left (is_empty b) (within a p b q) (le-leb _ _ void)
      | inr k ↦ or_right (is_empty b) (within a p b q) (and_from _ _ (eq-eqb _ _ k.0) (and_from _ _ (lt-ltb _ _ k.1) (and_from _ _ (le-leb _ _ k.2) (le-leb _ _ k.3))))
    ]))

abbrev Shared : Need → Need → Type 0
Shared a b = (a.to ≤ a.from) ⊎ ((b.to ≤ b.from) ⊎ ((a.from < b.to) × (b.from < a.to)))

shared_tells : (a b : Need) → shares a b ≡ true → Shared a b
shared_tells a b h =
    elim (or_cases (is_empty a) _ h) [
      | inl void ↦ inl (leb-true _ _ void)
      | inr k ↦ elim (or_cases (is_empty b) _ k) [
        | inl void ↦ inr (inl (leb-true _ _ void))
        | inr l ↦ (let ends = and_parts (ltb a.from b.to) _ l in inr (inr (ltb-true _ _ ends.0, ltb-true _ _ ends.1)))
      ]
    ]

shared_from : (a b : Need) → Shared a b → shares a b ≡ true
shared_from a b (inl void) = or_left (is_empty a) _ (le-leb _ _ void)
shared_from a b (inr (inl void)) = or_right (is_empty a) _ (or_left (is_empty b) _ (le-leb _ _ void))
shared_from a b (inr (inr ends)) = or_right (is_empty a) _ (or_right (is_empty b) _ (and_from _ _ (lt-ltb _ _ ends.0) (lt-ltb _ _ ends.1)))

conflict_tells : (a b : Need) → conflict a b ≡ true → (a.buffer ≡ b.buffer) × Shared a b × (one_writes a b ≡ true)
unfolding conflict
conflict_tells a b h =
    let rest = and_parts (eqb a.buffer b.buffer) _ h in
    let more = and_parts (shares a b) _ rest.1 in
    (eqb-true _ _ rest.0, shared_tells a b more.0, more.1)

conflict_from : (a b : Need) → a.buffer ≡ b.buffer → Shared a b → one_writes a b ≡ true → conflict a b ≡ true
unfolding conflict
conflict_from a b root shared one = and_from _ _ (eq-eqb _ _ root) (and_from _ _ (shared_from a b shared) one)

apart_tells : (a : Need) (p : ℕ) (b : Need) (q : ℕ) → is_apart a p b q ≡ true → (a.buffer ≡ b.buffer) × (not (eqb p q) ≡ true) × (one_writes a b ≡ true)
unfolding is_apart
apart_tells a p b q h =
    let rest = and_parts (eqb a.buffer b.buffer) _ h in
    let more = and_parts (not (eqb p q)) _ rest.1 in
    (eqb-true _ _ rest.0, more.0, more.1)

apart_from : (a : Need) (p : ℕ) (b : Need) (q : ℕ) → a.buffer ≡ b.buffer → not (eqb p q) ≡ true → one_writes a b ≡ true → is_apart a p b q ≡ true
unfolding is_apart
apart_from a p b q root other one = and_from _ _ (eq-eqb _ _ root) (and_from _ _ other one)

pub meets_tells : (a : Need) (p q : ℕ) (b : Need) → meets_one a p q b ≡ true → (a.buffer ≡ b.buffer) × (one_writes a b ≡ true)
meets_tells a p q b h =
    elim (or_cases (conflict a b) (is_apart a p b q) h) [
      | inl k ↦ (let t = conflict_tells a b k in (t.0, t.2))
      | inr k ↦ (let t = apart_tells a p b q k in (t.0, t.2))
    ]

covers_conflicts : (a : Need) (p : ℕ) (b : Need) (q : ℕ) → Covers a p b q → conflict a b ≡ true
covers_conflicts a p b q h =
    conflict_from a b h.root
    (elim h.whole [ inl void ↦ inr (inl void) | inr k ↦ inr (inr (omega (arith, k.1, k.3), omega (arith, k.1, k.2))) ])
    (or_right (writes a.mode) (writes b.mode) h.written)

covers_meets : (a : Need) (p : ℕ) (b : Need) (q r : ℕ) (c : Need) → Covers a p b q → meets_one a p r c ≡ true → meets_one b q r c ≡ true
covers_meets a p b q r c h m =
    let root : b.buffer ≡ c.buffer = sym h.root ∙ (meets_tells a p r c m).0 in
    let one : one_writes b c ≡ true = or_left (writes b.mode) (writes c.mode) h.written in
    elim h.whole [
      | inl void ↦ or_left (conflict b c) _ (conflict_from b c root (inl void) one)
      | inr k ↦ elim (or_cases (conflict a c) (is_apart a p c r) m) [
        | inl l ↦ or_left (conflict b c) _ (conflict_from b c root (elim (conflict_tells a c l).1 [
          | inl void ↦ absurd (omega (arith, k.1, void))
          | inr s ↦ elim s [ inl void ↦ inr (inl void) | inr ends ↦ inr (inr (omega (arith, k.2, ends.0), omega (arith, k.3, ends.1))) ]
        ]) one)
        | inr l ↦ or_right (conflict b c) (is_apart b q c r) (apart_from b q c r root (subst (λ (v : ℕ). not (eqb v r) ≡ true) k.0 (apart_tells a p c r l).1) one)
      ]
    ]

covers_covers : (a : Need) (p : ℕ) (b : Need) (q : ℕ) (c : Need) (r : ℕ) → Covers a p b q → Covers b q c r → Covers a p c r
covers_covers a p b q c r h g = record {
  root = h.root ∙ g.root;
  written = g.written;
  whole = elim g.whole [
    | inl void ↦ inl void
    | inr l ↦ elim h.whole [
      | inl void ↦ absurd (omega (arith, l.1, void))
      | inr k ↦ inr (k.0 ∙ l.0, k.1, omega (arith, k.2, l.2), omega (arith, k.3, l.3))
    ]
  ];
}

-- the need that covers a
record ByNeed (a : Need) (p : ℕ) (y : Node) : Type 0 where
  place : ℕ
  need : Need
  is : slice_get y.needs place ≡ Some need
  covers : Covers a p need y.place

covered_tells : (a : Need) (p : ℕ) (y : Node) → covered a p y ≡ true → ByNeed a p y
unfolding covered
covered_tells a p y h =
    let r = any_passes (λ b. covers a p b y.place) y.needs h in
    record { place = r.0; need = r.1; is = r.2; covers = covers_tells a p r.1 y.place r.3 }

covered_from : (a : Need) (p : ℕ) (y : Node) (j : ℕ) (b : Need) → slice_get y.needs j ≡ Some b → Covers a p b y.place → covered a p y ≡ true
unfolding covered
covered_from a p y j b e h = passes_any (λ b. covers a p b y.place) y.needs j b e (covers_from a p b y.place h)

pub meets_before : (x : Node) (m : ℕ) (y : Node) (i : ℕ) (a : Need) (j : ℕ) (c : Need) → slice_get x.needs i ≡ Some a → slice_get y.needs j ≡ Some c → meets_one a x.place y.place c ≡ true → before x m y ≡ true
unfolding before meet
meets_before x m y i a j c at_a at_c h =
    let here : meets a x.place y.needs y.place ≡ true = passes_any (λ b. meets_one a x.place y.place b) y.needs j c at_c h in
    or_left (meet x y) _ (passes_any (λ a. meets a x.place y.needs y.place) x.needs i a at_a here)

pub queue_before : (x : Node) (m : ℕ) (y : Node) (q : ℕ) → x.in_order ≡ Some q → y.in_order ≡ Some q → before x m y ≡ true
unfolding before
queue_before x m y q ex ey =
    let same : both_on x.in_order y.in_order ≡ true = rw (ex, ey) (eq-eqb q q refl) in
    or_right (meet x y) _ (or_right (names y m) _ same)

-- a node that covers a need of x comes after x
pub covered_before : (x : Node) (m : ℕ) (y : Node) (i : ℕ) (a : Need) → slice_get x.needs i ≡ Some a → covered a x.place y ≡ true → before x m y ≡ true
covered_before x m y i a e h =
    let r = covered_tells a x.place y h in
    meets_before x m y i a r.place r.need e r.is (or_left (conflict a r.need) _ (covers_conflicts a x.place r.need y.place r.covers))

-- what the need a meets comes after a node that covers a
pub covered_meets : (a : Need) (p : ℕ) (z : Node) (k : ℕ) (y : Node) (j : ℕ) (c : Need) → covered a p z ≡ true → slice_get y.needs j ≡ Some c → meets_one a p y.place c ≡ true → before z k y ≡ true
covered_meets a p z k y j c h e m =
    let r = covered_tells a p z h in
    meets_before z k y r.place r.need j c r.is e (covers_meets a p r.need z.place y.place c r.covers m)

-- a node that covers a writes the root of a
pub record WritesRoot (y : Node) (k : ℕ) : Type 0 where
  pub place : ℕ
  pub need : Need
  pub is : slice_get y.needs place ≡ Some need
  pub root : need.buffer ≡ k
  pub written : writes need.mode ≡ true

pub covered_writes : (a : Need) (p : ℕ) (y : Node) → covered a p y ≡ true → WritesRoot y a.buffer
covered_writes a p y h =
    let r = covered_tells a p y h in
    record { place = r.place; need = r.need; is = r.is; root = sym r.covers.root; written = r.covers.written }

pub superseded_tells : (x : Node) (root : ℕ) (y : Node) (i : ℕ) (a : Need) → superseded x root y ≡ true → slice_get x.needs i ≡ Some a → a.buffer ≡ root → covered a x.place y ≡ true
unfolding superseded
superseded_tells x root y i a h e same =
    elim (or_cases (not (eqb a.buffer root)) _ (all_pass (λ b. not (eqb b.buffer root) || covered b x.place y) x.needs i a h e)) [
      | inl other ↦ absurd (let yes : eqb a.buffer root ≡ true = eq-eqb _ _ same in let no : not true ≡ true = ap not (sym yes) ∙ other in cc)
      | inr k ↦ k
    ]

-- what covers a node on a root covers what that node covers there
pub covered_covered : (a : Need) (p : ℕ) (y z : Node) → covered a p y ≡ true → superseded y a.buffer z ≡ true → covered a p z ≡ true
covered_covered a p y z h g =
    let r = covered_tells a p y h in
    let s = covered_tells r.need y.place z (superseded_tells y a.buffer z r.place r.need g r.is (sym r.covers.root)) in
    covered_from a p z s.place s.need s.is (covers_covers a p r.need y.place s.need z.place r.covers s.covers)
