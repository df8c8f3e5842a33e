-- Runs that take in what they overlap are apart, have the elements of all, and number each element once.
use Rattle.std.proofs.Common.{◌≡◌, refl, sym, ap, subst, ◌∙◌, ℕ, zero, suc, ◌+◌, ◌-◌, ◌<◌, ◌≤◌, Bool, true, false, ◌&&◌, ◌||◌, List, [], ◌∷◌, Option, Some, None, ◌⊎◌, inl, inr, arith}
use Rattle.std.specs.List.{list_any}
use Rattle.std.specs.Prelude.{⊤, slice_get, option_map, is_some, nat_lt, nat_le, nat_eq}
use Rattle.std.proofs.lemmas.Bool.{and_parts, and_from, or_cases, or_left, or_right, or_parts, or_from, eqb-true, eq-eqb, ltb-true, leb-true, lt-ltb, le-ltb, le-leb, cases_Bool, both_ways, cond-true, cond-false, cases_lt, false_from_ne_true}
use Rattle.sy_foot.specs.declared.runs.Run.{Run}
use Rattle.sy_foot.specs.Runs.{AreApart, element_at, greatest, has_element, inserted, is_in, least, length_of, number_in, overlap, total, united}

-- no element is in two runs, by recursion
abbrev pub Apart : List Run → Type 0
Apart [] = ⊤
Apart (x ∷ xs) = ((list i : ℕ) → has_element x list i ≡ true → is_in xs list i ≡ false) × Apart xs

in_none : (xs : List Run) (k l i : ℕ) (y : Run) → is_in xs l i ≡ false → slice_get xs k ≡ Some y → has_element y l i ≡ false
in_none [] k l i y h e = absurd (let z : None ≡ Some y = e in cc)
in_none (x ∷ xs) zero l i y h e =
    let same : x ≡ y = cc in let P : Run → Type 0 = λ z. has_element z l i ≡ false in subst P same (or_parts (has_element x l i) (is_in xs l i) h).0
in_none (x ∷ xs) (suc k) l i y h e = in_none xs k l i y (or_parts (has_element x l i) (is_in xs l i) h).1 e

pub apart-by_index : (xs : List Run) → Apart xs → AreApart xs
apart-by_index [] a j k l i x y below at_j at_k h = absurd (let z : None ≡ Some x = at_j in cc)
apart-by_index (z ∷ xs) a zero zero l i x y below at_j at_k h = absurd (omega (arith, below))
apart-by_index (z ∷ xs) a zero (suc k) l i x y below at_j at_k h =
    let same : z ≡ x = cc in
    let has_z : has_element z l i ≡ true = let P : Run → Type 0 = λ w. has_element w l i ≡ true in subst P (sym same) h in
    in_none xs k l i y (a.0 l i has_z) at_k
apart-by_index (z ∷ xs) a (suc j) zero l i x y below at_j at_k h = absurd (omega (arith, below))
apart-by_index (z ∷ xs) a (suc j) (suc k) l i x y below at_j at_k h = apart-by_index xs a.1 j k l i x y (omega (arith, below)) at_j at_k h

none_in : (xs : List Run) (l i : ℕ) → ((k : ℕ) (y : Run) → slice_get xs k ≡ Some y → has_element y l i ≡ false) → is_in xs l i ≡ false
none_in [] l i h = refl
none_in (x ∷ xs) l i h = or_from (has_element x l i) (is_in xs l i) (h 0 x refl) (none_in xs l i (λ k y e. h (suc k) y e))

pub apart-from_index : (xs : List Run) → AreApart xs → Apart xs
apart-from_index [] a = tt
apart-from_index (x ∷ xs) a =
    (λ l i h. none_in xs l i (λ k y e. a 0 (suc k) l i x y (omega arith) refl e h), apart-from_index xs (λ j k l i y z below at_j at_k h. a (suc j) (suc k) l i y z (omega (arith, below)) at_j at_k h))

-- ---- one run

-- the element is in the run
abbrev pub In : Run → ℕ → ℕ → Type 0
In x l i = (x.list ≡ l) × (x.from ≤ i) × (i < x.to)

pub in-has : (x : Run) (l i : ℕ) → has_element x l i ≡ true → In x l i
in-has x l i h =
    let p = and_parts _ _ h in
    let q = and_parts _ _ p.1 in
    (eqb-true _ _ p.0, leb-true _ _ q.0, ltb-true _ _ q.1)

pub has-in : (x : Run) (l i : ℕ) → In x l i → has_element x l i ≡ true
has-in x l i h = and_from _ _ (eq-eqb _ _ h.0) (and_from _ _ (le-leb _ _ h.1) (lt-ltb _ _ h.2))

same_bool : (a b : Bool) → (a ≡ true → b ≡ true) → (b ≡ true → a ≡ true) → a ≡ b
same_bool true b to from = sym (to refl)
same_bool false true to from = from refl
same_bool false false to from = refl

overlap-parts : (x y : Run) → overlap x y ≡ true → (x.list ≡ y.list) × (x.from < y.to) × (y.from < x.to)
overlap-parts x y h =
    let p = and_parts _ _ h in
    let q = and_parts _ _ p.1 in
    (eqb-true _ _ p.0, ltb-true _ _ q.0, ltb-true _ _ q.1)

-- both have an element
overlap-shared : (x y : Run) (l i : ℕ) → In x l i → In y l i → overlap x y ≡ true
overlap-shared x y l i p q =
    and_from _ _ (eq-eqb _ _ (p.0 ∙ sym q.0)) (and_from _ _ (lt-ltb x.from y.to (let a = p.1 in let b = q.2 in omega (arith, a, b))) (lt-ltb y.from x.to (let a = q.1 in let b = p.2 in omega (arith, a, b))))

least-parts : (a b : ℕ) → (least a b ≤ a) × (least a b ≤ b) × ((least a b ≡ a) ⊎ (least a b ≡ b))
least-parts a b =
    elim (cases_lt a b) [
      | inl h ↦ let e : least a b ≡ a = cond-true (nat_lt a b) a b (lt-ltb a b h) in (omega (arith, e), omega (arith, e, h), inl e)
      | inr h ↦ let e : least a b ≡ b = cond-false (nat_lt a b) a b (le-ltb a b h) in (omega (arith, e, h), omega (arith, e), inr e)
    ]

greatest-parts : (a b : ℕ) → (a ≤ greatest a b) × (b ≤ greatest a b) × ((greatest a b ≡ a) ⊎ (greatest a b ≡ b))
greatest-parts a b =
    elim (cases_lt a b) [
      | inl h ↦ let e : greatest a b ≡ b = cond-true (nat_lt a b) b a (lt-ltb a b h) in (omega (arith, e, h), omega (arith, e), inr e)
      | inr h ↦ let e : greatest a b ≡ a = cond-false (nat_lt a b) b a (le-ltb a b h) in (omega (arith, e), omega (arith, e, h), inl e)
    ]

-- what is between the ends of two runs that overlap is in one of them
between : (a b c d m n i : ℕ) → a < d → c < b → (m ≡ a) ⊎ (m ≡ c) → (n ≡ b) ⊎ (n ≡ d) → m ≤ i → i < n → ((a ≤ i) × (i < b)) ⊎ ((c ≤ i) × (i < d))
between a b c d m n i ad cb low high h k =
    elim (cases_lt i b) [
      | inl below ↦ elim (cases_lt i a) [
        | inl under ↦ inr (elim low [ inl e ↦ absurd (omega (arith, e, h, under)) | inr e ↦ (omega (arith, e, h), omega (arith, under, ad)) ])
        | inr over ↦ inl (over, below)
      ]
      | inr above ↦ inr (omega (arith, above, cb), elim high [ inl e ↦ absurd (omega (arith, e, k, above)) | inr e ↦ omega (arith, e, k) ])
    ]

in-united : (x y : Run) (l i : ℕ) → overlap x y ≡ true → In (united x y) l i → In x l i ⊎ In y l i
in-united x y l i o h =
    let p = overlap-parts x y o in
    let low = least-parts x.from y.from in
    let high = greatest-parts x.to y.to in
    elim (between x.from x.to y.from y.to (least x.from y.from) (greatest x.to y.to) i p.1 p.2 low.2 high.2 h.1 h.2) [
      | inl q ↦ inl (h.0, q.0, q.1)
      | inr q ↦ inr (sym p.0 ∙ h.0, q.0, q.1)
    ]

united-in : (x y : Run) (l i : ℕ) → overlap x y ≡ true → In x l i ⊎ In y l i → In (united x y) l i
united-in x y l i o h =
    let p = overlap-parts x y o in
    let low = least-parts x.from y.from in
    let high = greatest-parts x.to y.to in
    elim h [
      | inl q ↦ (q.0, let a = low.0 in let b = q.1 in omega (arith, a, b), let a = high.0 in let b = q.2 in omega (arith, a, b))
      | inr q ↦ (p.0 ∙ q.0, let a = low.1 in let b = q.1 in omega (arith, a, b), let a = high.1 in let b = q.2 in omega (arith, a, b))
    ]

has_united : (x y : Run) (l i : ℕ) → overlap x y ≡ true → has_element (united x y) l i ≡ (has_element x l i || has_element y l i)
has_united x y l i o =
    same_bool _ _
    (λ h. elim (in-united x y l i o (in-has (united x y) l i h)) [
      | inl q ↦ or_left _ _ (has-in x l i q)
      | inr q ↦ or_right _ _ (has-in y l i q)
    ])
    (λ h. has-in (united x y) l i (united-in x y l i o (elim (or_cases (has_element x l i) (has_element y l i) h) [
      | inl q ↦ inl (in-has x l i q)
      | inr q ↦ inr (in-has y l i q)
    ])))

-- ---- one run more

or_assoc : (a b c : Bool) → ((a || b) || c) ≡ (a || (b || c))
or_assoc true b c = refl
or_assoc false b c = refl

or_swap : (a b c : Bool) → (a || (b || c)) ≡ (b || (a || c))
or_swap true true c = refl
or_swap true false c = refl
or_swap false b c = refl

inserted-overlaps : (x y : Run) (ys : List Run) → overlap x y ≡ true → inserted x (y ∷ ys) ≡ inserted (united x y) ys
inserted-overlaps x y ys o = cond-true (overlap x y) _ _ o

inserted-beside : (x y : Run) (ys : List Run) → overlap x y ≡ false → inserted x (y ∷ ys) ≡ y ∷ inserted x ys
inserted-beside x y ys o = cond-false (overlap x y) _ _ o

-- it has its own elements and those of the others
pub in-inserted : (ys : List Run) (x : Run) (l i : ℕ) → is_in (inserted x ys) l i ≡ (has_element x l i || is_in ys l i)
in-inserted [] x l i = refl
in-inserted (y ∷ ys) x l i =
    elim (cases_Bool (overlap x y)) [
      | inl o ↦
          ap (λ (zs : List Run). is_in zs l i) (inserted-overlaps x y ys o) ∙ (in-inserted ys (united x y) l i ∙ (ap (λ b. b || is_in ys l i) (has_united x y l i o) ∙ or_assoc (has_element x l i) (has_element y l i) (is_in ys l i)))
      | inr o ↦
          ap (λ (zs : List Run). is_in zs l i) (inserted-beside x y ys o) ∙ (ap (λ b. has_element y l i || b) (in-inserted ys x l i) ∙ or_swap (has_element y l i) (has_element x l i) (is_in ys l i))
    ]

beside-has : (x y : Run) (l i : ℕ) → overlap x y ≡ false → has_element y l i ≡ true → has_element x l i ≡ false
beside-has x y l i o h =
    false_from_ne_true (has_element x l i) (λ k. both_ways (overlap x y) o (overlap-shared x y l i (in-has x l i k) (in-has y l i h)))

pub apart-inserted : (ys : List Run) (x : Run) → Apart ys → Apart (inserted x ys)
apart-inserted [] x a = (λ l i h. refl, tt)
apart-inserted (y ∷ ys) x a =
    elim (cases_Bool (overlap x y)) [
      | inl o ↦ subst Apart (sym (inserted-overlaps x y ys o)) (apart-inserted ys (united x y) a.1)
      | inr o ↦
          let first : (l i : ℕ) → has_element y l i ≡ true → is_in (inserted x ys) l i ≡ false =
          λ l i h. in-inserted ys x l i ∙ or_from (has_element x l i) (is_in ys l i) (beside-has x y l i o h) (a.0 l i h) in
          subst Apart (sym (inserted-beside x y ys o)) (first, apart-inserted ys x a.1)
    ]

-- ---- a need is within one run

abbrev pub contains : Run → Run → Bool
contains x r = nat_eq x.list r.list && (nat_le x.from r.from && nat_le r.to x.to)

abbrev pub is_held : List Run → Run → Bool
is_held xs r = list_any (λ x. contains x r) xs

contains-parts : (x r : Run) → contains x r ≡ true → (x.list ≡ r.list) × (x.from ≤ r.from) × (r.to ≤ x.to)
contains-parts x r h =
    let p = and_parts _ _ h in
    let q = and_parts _ _ p.1 in
    (eqb-true _ _ p.0, leb-true _ _ q.0, leb-true _ _ q.1)

contains-from : (x r : Run) → (x.list ≡ r.list) → (x.from ≤ r.from) → (r.to ≤ x.to) → contains x r ≡ true
contains-from x r a b c = and_from _ _ (eq-eqb _ _ a) (and_from _ _ (le-leb _ _ b) (le-leb _ _ c))

contains-united : (x y r : Run) → overlap x y ≡ true → (contains x r ≡ true) ⊎ (contains y r ≡ true) → contains (united x y) r ≡ true
contains-united x y r o h =
    let p = overlap-parts x y o in
    let low = least-parts x.from y.from in
    let high = greatest-parts x.to y.to in
    elim h [
      | inl k ↦ let q = contains-parts x r k in contains-from (united x y) r q.0 (let a = low.0 in let b = q.1 in omega (arith, a, b)) (let a = high.0 in let b = q.2 in omega (arith, a, b))
      | inr k ↦ let q = contains-parts y r k in contains-from (united x y) r (p.0 ∙ q.0) (let a = low.1 in let b = q.1 in omega (arith, a, b)) (let a = high.1 in let b = q.2 in omega (arith, a, b))
    ]

pub held-new : (ys : List Run) (x r : Run) → contains x r ≡ true → is_held (inserted x ys) r ≡ true
held-new [] x r h = or_left (contains x r) false h
held-new (y ∷ ys) x r h =
    elim (cases_Bool (overlap x y)) [
      | inl o ↦ subst (λ (zs : List Run). is_held zs r ≡ true) (sym (inserted-overlaps x y ys o)) (held-new ys (united x y) r (contains-united x y r o (inl h)))
      | inr o ↦ subst (λ (zs : List Run). is_held zs r ≡ true) (sym (inserted-beside x y ys o)) (or_right (contains y r) _ (held-new ys x r h))
    ]

pub held-old : (ys : List Run) (x r : Run) → is_held ys r ≡ true → is_held (inserted x ys) r ≡ true
held-old [] x r h = absurd cc
held-old (y ∷ ys) x r h =
    elim (cases_Bool (overlap x y)) [
      | inl o ↦ subst (λ (zs : List Run). is_held zs r ≡ true) (sym (inserted-overlaps x y ys o))
          (elim (or_cases (contains y r) (is_held ys r) h) [
            | inl k ↦ held-new ys (united x y) r (contains-united x y r o (inr k))
            | inr k ↦ held-old ys (united x y) r k
          ])
      | inr o ↦ subst (λ (zs : List Run). is_held zs r ≡ true) (sym (inserted-beside x y ys o))
          (elim (or_cases (contains y r) (is_held ys r) h) [
            | inl k ↦ or_left (contains y r) _ k
            | inr k ↦ or_right (contains y r) _ (held-old ys x r k)
          ])
    ]

-- what holds a run has its elements
held-in : (xs : List Run) (r : Run) (l i : ℕ) → is_held xs r ≡ true → In r l i → is_in xs l i ≡ true
held-in [] r l i h k = absurd cc
held-in (x ∷ xs) r l i h k =
    elim (or_cases (contains x r) (is_held xs r) h) [
      | inl c ↦ let q = contains-parts x r c in or_left _ _ (has-in x l i (q.0 ∙ k.0, (let a = q.1 in let b = k.1 in omega (arith, a, b)), (let a = q.2 in let b = k.2 in omega (arith, a, b))))
      | inr c ↦ or_right (has_element x l i) _ (held-in xs r l i c k)
    ]

-- ---- numbers

pub number-here : (base : ℕ) (x : Run) (xs : List Run) (l i : ℕ) → has_element x l i ≡ true → number_in base (x ∷ xs) l i ≡ Some (base + (i - x.from))
number-here base x xs l i h = cond-true (has_element x l i) _ _ h

pub number-later : (base : ℕ) (x : Run) (xs : List Run) (l i : ℕ) → has_element x l i ≡ false → number_in base (x ∷ xs) l i ≡ number_in (base + length_of x) xs l i
number-later base x xs l i h = cond-false (has_element x l i) _ _ h

-- what is in a run has a number
pub number-in : (xs : List Run) (base l i : ℕ) → is_some (number_in base xs l i) ≡ is_in xs l i
number-in [] base l i = refl
number-in (x ∷ xs) base l i =
    elim (cases_Bool (has_element x l i)) [
      | inl h ↦ ap (λ (o : Option ℕ). is_some o) (number-here base x xs l i h) ∙ sym (or_left (has_element x l i) (is_in xs l i) h)
      | inr h ↦ ap (λ (o : Option ℕ). is_some o) (number-later base x xs l i h) ∙ (number-in xs (base + length_of x) l i ∙ sym (ap (λ b. b || is_in xs l i) h))
    ]

some_same : (a b : ℕ) → Some a ≡ Some b → a ≡ b
some_same a b e = cc

at-here : (x : Run) (xs : List Run) (m : ℕ) → m < length_of x → element_at (x ∷ xs) m ≡ Some (x.list, x.from + m)
at-here x xs m h = cond-true (nat_lt m (length_of x)) _ _ (lt-ltb m (length_of x) h)

at-later : (x : Run) (xs : List Run) (m : ℕ) → length_of x ≤ m → element_at (x ∷ xs) m ≡ element_at xs (m - length_of x)
at-later x xs m h = cond-false (nat_lt m (length_of x)) _ _ (le-ltb m (length_of x) h)

place_same : (a b c d : ℕ) → a ≡ c → b ≡ d → ◌≡◌ {A = Option (ℕ × ℕ)} (Some (a, b)) (Some (c, d))
place_same a b c d p q = cc

-- a number is within the runs, and its element is the numbered one
pub number-at : (xs : List Run) (base l i n : ℕ) → number_in base xs l i ≡ Some n → (base ≤ n) × (n < base + total xs) × (element_at xs (n - base) ≡ Some (l, i))
number-at [] base l i n e = absurd (let z : None ≡ Some n = e in cc)
number-at (x ∷ xs) base l i n e =
    elim (cases_Bool (has_element x l i)) [
      | inl h ↦
          let q = in-has x l i h in
          let same : base + (i - x.from) ≡ n = some_same _ _ (sym (number-here base x xs l i h) ∙ e) in
          let a = q.1 in
          let b = q.2 in
          let within : n - base < length_of x = omega (arith, same, a, b) in
          (omega (arith, same), omega (arith, same, within), at-here x xs (n - base) within ∙ place_same x.list (x.from + (n - base)) l i q.0 (omega (arith, same, a)))
      | inr h ↦
          let r = number-at xs (base + length_of x) l i n (sym (number-later base x xs l i h) ∙ e) in
          let a = r.0 in
          let b = r.1 in
          let past : length_of x ≤ n - base = omega (arith, a) in
          let same : (n - base) - length_of x ≡ n - (base + length_of x) = omega (arith, a) in
          (omega (arith, a), omega (arith, b), at-later x xs (n - base) past ∙ (ap (element_at xs) same ∙ r.2))
    ]

-- each number below the total has an element
pub dense : (xs : List Run) (m : ℕ) → m < total xs → is_some (element_at xs m) ≡ true
dense [] m h = absurd (omega (arith, h))
dense (x ∷ xs) m h =
    elim (cases_lt m (length_of x)) [
      | inl k ↦ ap (λ (o : Option (ℕ × ℕ)). is_some o) (at-here x xs m k)
      | inr k ↦ ap (λ (o : Option (ℕ × ℕ)). is_some o) (at-later x xs m k) ∙ dense xs (m - length_of x) (omega (arith, h, k))
    ]

pub beyond : (xs : List Run) (m : ℕ) → total xs ≤ m → element_at xs m ≡ None
beyond [] m h = refl
beyond (x ∷ xs) m h = at-later x xs m (omega (arith, h)) ∙ beyond xs (m - length_of x) (omega (arith, h))

first_of : Option (ℕ × ℕ) → ℕ
first_of None = 0
first_of (Some p) = p.0

second_of : Option (ℕ × ℕ) → ℕ
second_of None = 0
second_of (Some p) = p.1

pub pair_parts : (a b c d : ℕ) → ◌≡◌ {A = Option (ℕ × ℕ)} (Some (a, b)) (Some (c, d)) → (a ≡ c) × (b ≡ d)
unfolding first_of second_of
pair_parts a b c d e = (ap first_of e, ap second_of e)

-- the element of a number is in a run
element-in : (xs : List Run) (m l i : ℕ) → element_at xs m ≡ Some (l, i) → is_in xs l i ≡ true
element-in [] m l i e = absurd (let z : None ≡ Some (l, i) = e in cc)
element-in (x ∷ xs) m l i e =
    elim (cases_lt m (length_of x)) [
      | inl k ↦
          let p = pair_parts _ _ l i (sym (at-here x xs m k) ∙ e) in
          let b = p.1 in
          or_left _ _ (has-in x l i (p.0, omega (arith, b), omega (arith, b, k)))
      | inr k ↦ or_right (has_element x l i) _ (element-in xs (m - length_of x) l i (sym (at-later x xs m k) ∙ e))
    ]

-- the element of a number has that number
pub element-number : (xs : List Run) (base m l i : ℕ) → Apart xs → element_at xs m ≡ Some (l, i) → number_in base xs l i ≡ Some (base + m)
element-number [] base m l i a e = absurd (let z : None ≡ Some (l, i) = e in cc)
element-number (x ∷ xs) base m l i a e =
    elim (cases_lt m (length_of x)) [
      | inl k ↦
          let p = pair_parts _ _ l i (sym (at-here x xs m k) ∙ e) in
          let b = p.1 in
          let at : i - x.from ≡ m = omega (arith, b) in
          number-here base x xs l i (has-in x l i (p.0, omega (arith, b), omega (arith, b, k))) ∙ ap (λ j. Some (base + j)) at
      | inr k ↦
          let f : element_at xs (m - length_of x) ≡ Some (l, i) = sym (at-later x xs m k) ∙ e in
          let other : has_element x l i ≡ false = false_from_ne_true (has_element x l i) (λ h. both_ways (is_in xs l i) (a.0 l i h) (element-in xs (m - length_of x) l i f)) in
          let sum : (base + length_of x) + (m - length_of x) ≡ base + m = omega (arith, k) in
          number-later base x xs l i other ∙ (element-number xs (base + length_of x) (m - length_of x) l i a.1 f ∙ ap (λ j. Some j) sum)
    ]

-- ---- the elements of a need are numbered from that of its first one on

abbrev pub from_first : Run → ℕ → Option ℕ → Option ℕ
from_first r i o = option_map (λ b. b + (i - r.from)) o

one_run_here : (base : ℕ) (x r : Run) (xs : List Run) (l i : ℕ) → contains x r ≡ true → In r l i → number_in base (x ∷ xs) l i ≡ from_first r i (number_in base (x ∷ xs) l r.from)
one_run_here base x r xs l i c k =
    let q = contains-parts x r c in
    let a = q.1 in
    let b = q.2 in
    let d = k.1 in
    let e = k.2 in
    let here = number-here base x xs l i (has-in x l i (q.0 ∙ k.0, omega (arith, a, d), omega (arith, b, e))) in
    let first = number-here base x xs l r.from (has-in x l r.from (q.0 ∙ k.0, a, omega (arith, b, d, e))) in
    let sum : base + (i - x.from) ≡ (base + (r.from - x.from)) + (i - r.from) = omega (arith, a, d) in
    here ∙ (ap (λ j. Some j) sum ∙ sym (ap (from_first r i) first))

pub one_run : (xs : List Run) (base : ℕ) (r : Run) (l i : ℕ) → Apart xs → is_held xs r ≡ true → In r l i → number_in base xs l i ≡ from_first r i (number_in base xs l r.from)
one_run [] base r l i a h k = absurd cc
one_run (x ∷ xs) base r l i a h k =
    elim (cases_Bool (contains x r)) [
      | inl c ↦ one_run_here base x r xs l i c k
      | inr c ↦
          let held : is_held xs r ≡ true = elim (or_cases (contains x r) (is_held xs r) h) [ inl d ↦ absurd (both_ways (contains x r) c d) | inr d ↦ d ] in
          let d = k.1 in
          let e = k.2 in
          let first : In r l r.from = (k.0, omega arith, omega (arith, d, e)) in
          let none = λ (j : ℕ) (in_r : In r l j). false_from_ne_true (has_element x l j) (λ m. both_ways (is_in xs l j) (a.0 l j m) (held-in xs r l j held in_r)) in
          number-later base x xs l i (none i k) ∙ (one_run xs (base + length_of x) r l i a.1 held k ∙ sym (ap (from_first r i) (number-later base x xs l r.from (none r.from first))))
    ]
