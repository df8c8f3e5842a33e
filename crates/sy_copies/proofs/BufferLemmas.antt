-- What each change of a buffer does to its copies and its room, and that it stays sound.
use Rattle.std.proofs.Common.{◌≡◌, ℕ, ℤ, pos, Bool, true, false, List, [], ◌∷◌, length, map, refl, sym, ap, ◌∙◌, Option, Some, None, eq-eqb, IsTrue, option_map, ◌⊎◌, inl, inr, ⊎_elim}
use Rattle.std.specs.Prelude.{if◌then◌else◌, ◌==◌, ◌&&◌, ◌||◌, not, unwrap_or}
use Rattle.std.specs.List.{list_all}
use Rattle.std.specs.Option.{is_some}
use Rattle.std.proofs.lemmas.Bool.{ne_eqb, eqb-true}
use Rattle.std.proofs.lemmas.List.{length-replicate}
use Rattle.std.proofs.lemmas.Option.{same_Some}
use Rattle.std.proofs.lemmas.Bool.Decides.{eqb_tells}
use Rattle.sy_access.specs.declared.access.Need.{Need}
use Rattle.sy_access.specs.declared.cells.Cell.{Cell}
use Rattle.sy_copies.specs.declared.slots.Slot.{Slot}
use Rattle.sy_copies.specs.declared.buffer.Buffer.{Buffer}
use Rattle.sy_copies.specs.Commands.{cells_after, start_of}
use Rattle.sy_needs.specs.Elements.{cell_after}
use Rattle.sy_needs.specs.Versions.{replaces}
use Rattle.sy_copies.specs.Slots.{slot_at, has_slot, with_slot, renewed_slot, slot_after}
use Rattle.sy_copies.specs.Places.{zeros, own_or, copy_in, first, current_slot, installed, stale_slot, reserved, published}
use Rattle.sy_copies.specs.Current.{zeros_like, has_length, IsSound}
use Rattle.sy_copies.specs.Calls.{first_copy, first_room, version}
use Rattle.sy_copies.proofs.ListLemmas.{length-each_from}

-- two choices in the other order, of which at most one is taken
two_choices : {A : Type 0} (a c : Bool) (x y o : A) → (a ≡ true → c ≡ false) → (if a then x else (if c then y else o)) ≡ (if c then y else (if a then x else o))
two_choices true true x y o h = absurd (let z : true ≡ false = h refl in cc)
two_choices true false x y o h = refl
two_choices false c x y o h = refl

one_choice : {A : Type 0} (c : Bool) (x y o : A) → (if c then y else o) ≡ (if c then y else (if c then x else o))
one_choice true x y o = refl
one_choice false x y o = refl

both : (a b : Bool) → IsTrue a → IsTrue b → IsTrue (a && b)
both true b h k = k
both false b h k = h

split : (a b : Bool) → IsTrue (a && b) → IsTrue a × IsTrue b
split true b h = (refl, h)
split false b h = absurd (let z : false ≡ true = h in cc)

-- the slot of a place once one place has another slot
pub slot_at-with : (ss : List Slot) (p q : ℕ) (y : Slot) → y.place ≡ p → slot_at (with_slot p y ss) q ≡ (if p == q then Some y else slot_at ss q)
slot_at-with [] p q y e = rw e refl
slot_at-with (s ∷ ss) p q y e =
    let new : (y.place == q) ≡ (p == q) = ap (λ n. n == q) e in
    ⊎_elim
    (λ h. let old : (s.place == q) ≡ (p == q) = ap (λ n. n == q) h.1 in rw (h.0, new, old) (one_choice (p == q) (Some s) (Some y) (slot_at ss q)))
    (λ h. rw h.0 (ap (λ (o : Option Slot). if s.place == q then Some s else o) (slot_at-with ss p q y e)
    ∙ two_choices (s.place == q) (p == q) (Some s) (Some y) (slot_at ss q) (λ t. ne_eqb p q (λ f. h.1 (eqb-true s.place q t ∙ sym f)))))
    (eqb_tells s.place p)

-- a slot that is found is of its place
slot_of_place : (ss : List Slot) (p : ℕ) (s : Slot) → slot_at ss p ≡ Some s → s.place ≡ p
slot_of_place [] p s h = absurd (let z : None ≡ Some s = h in cc)
slot_of_place (x ∷ xs) p s h =
    ⊎_elim
    (λ t. let same : Some x ≡ Some s = sym (rw t.0 refl) ∙ h in sym (ap (λ (y : Slot). y.place) (same_Some x s same)) ∙ t.1)
    (λ t. slot_of_place xs p s ((rw t.0 refl) ∙ h))
    (eqb_tells x.place p)

-- the slot of a place once each slot has changed
slot_at-map : (f : Slot → Slot) → ((s : Slot) → (f s).place ≡ s.place) → (ss : List Slot) (p : ℕ) → slot_at (map f ss) p ≡ option_map f (slot_at ss p)
slot_at-map f keeps [] p = refl
slot_at-map f keeps (s ∷ ss) p =
    let same : ((f s).place == p) ≡ (s.place == p) = ap (λ n. n == p) (keeps s) in
    ⊎_elim
    (λ t. rw (same, t.0) refl)
    (λ t. rw (same, t.0) (slot_at-map f keeps ss p))
    (eqb_tells s.place p)

-- a test that holds of each slot and of a new one
lengths-with : (len p : ℕ) (y : Slot) (ss : List Slot) → IsTrue (has_length len y) → IsTrue (list_all (has_length len) ss) → IsTrue (list_all (has_length len) (with_slot p y ss))
lengths-with len p y [] one all = both (has_length len y) true one refl
lengths-with len p y (s ∷ ss) one all =
    let parts = split (has_length len s) (list_all (has_length len) ss) all in
    ⊎_elim
    (λ t. rw t.0 (both (has_length len y) (list_all (has_length len) ss) one parts.1))
    (λ t. rw t.0 (both (has_length len s) (list_all (has_length len) (with_slot p y ss)) parts.0 (lengths-with len p y ss one parts.1)))
    (eqb_tells s.place p)

-- a slot that is found has its length
length_found : (len p : ℕ) (ss : List Slot) (s : Slot) → IsTrue (list_all (has_length len) ss) → slot_at ss p ≡ Some s → length s.values ≡ len
length_found len p [] s all h = absurd (let z : None ≡ Some s = h in cc)
length_found len p (x ∷ xs) s all h =
    let parts = split (has_length len x) (list_all (has_length len) xs) all in
    ⊎_elim
    (λ t. let same : Some x ≡ Some s = sym (rw t.0 refl) ∙ h in ap (λ (y : Slot). length y.values) (sym (same_Some x s same)) ∙ eqb-true (length x.values) len parts.0)
    (λ t. length_found len p xs s parts.1 ((rw t.0 refl) ∙ h))
    (eqb_tells x.place p)

lengths-map : (len : ℕ) (f : Slot → Slot) → ((s : Slot) → length (f s).values ≡ length s.values) → (ss : List Slot) → IsTrue (list_all (has_length len) ss) → IsTrue (list_all (has_length len) (map f ss))
lengths-map len f keeps [] all = all
lengths-map len f keeps (s ∷ ss) all =
    let parts = split (has_length len s) (list_all (has_length len) ss) all in
    both (has_length len (f s)) (list_all (has_length len) (map f ss)) (rw (keeps s) parts.0) (lengths-map len f keeps ss parts.1)

pub copy_first : (len : ℕ) (init : Option (List ℤ)) (p : ℕ) → copy_in (first len init) p ≡ first_copy len init p
unfolding copy_in first
copy_first len None p = refl
copy_first len (Some v) p = ⊎_elim (λ t. rw t.0 refl) (λ t. rw t.0 refl) (eqb_tells 0 p)

pub room_first : (len : ℕ) (init : Option (List ℤ)) (p : ℕ) → has_slot (first len init).slots p ≡ first_room init p
unfolding first
room_first len None p = refl
room_first len (Some v) p = ⊎_elim (λ t. rw t.0 refl) (λ t. rw t.0 refl) (eqb_tells 0 p)

pub len_first : (len : ℕ) (init : Option (List ℤ)) → (first len init).len ≡ len
unfolding first
len_first len None = refl
len_first len (Some v) = refl

pub sound_first : (len : ℕ) (init : Option (List ℤ)) → ((v : List ℤ) → init ≡ Some v → length v ≡ len) → IsSound (Some (first len init))
unfolding first
sound_first len None h = (refl, refl)
sound_first len (Some v) h = (refl, both (length v == len) true (eq-eqb (length v) len (h v refl)) refl)

-- what stands at a place whose slot is chosen
own_chosen : (c : Bool) (y : Slot) (o : Option Slot) (z : Option (List ℤ)) → own_or (if c then Some y else o) z ≡ (if c then own_or (Some y) z else own_or o z)
own_chosen true y o z = refl
own_chosen false y o z = refl

room_chosen : (c : Bool) (y : Slot) (o : Option Slot) → is_some (if c then Some y else o) ≡ (if c then true else is_some o)
room_chosen true y o = refl
room_chosen false y o = refl

pub copy_installed : (x : Buffer) (place p : ℕ) (v : List ℤ) → copy_in (installed place v x) p ≡ (if place == p then Some v else copy_in x p)
unfolding copy_in installed
copy_installed x place p v =
    rw (slot_at-with x.slots place p (current_slot place v) refl) (own_chosen (place == p) (current_slot place v) (slot_at x.slots p) x.zeros)

pub room_installed : (x : Buffer) (place p : ℕ) (v : List ℤ) → has_slot (installed place v x).slots p ≡ (if place == p then true else has_slot x.slots p)
unfolding installed
room_installed x place p v =
    rw (slot_at-with x.slots place p (current_slot place v) refl) (room_chosen (place == p) (current_slot place v) (slot_at x.slots p))

pub len_installed : (x : Buffer) (place : ℕ) (v : List ℤ) → (installed place v x).len ≡ x.len
unfolding installed
len_installed x place v = refl

pub sound_installed : (x : Buffer) (place : ℕ) (v : List ℤ) → length v ≡ x.len → IsSound (Some x) → IsSound (Some (installed place v x))
unfolding installed
sound_installed x place v e h = (h.0, lengths-with x.len place (current_slot place v) x.slots (eq-eqb (length v) x.len e) h.1)

-- a place that has no slot, and one that has
no_slot : (o : Option Slot) → is_some o ≡ false → o ≡ None
no_slot None h = refl
no_slot (Some s) h = absurd (let z : true ≡ false = h in cc)

bool_cases : (c : Bool) → (c ≡ true) ⊎ (c ≡ false)
bool_cases true = inl refl
bool_cases false = inr refl

reserved_there : (x : Buffer) (place : ℕ) → has_slot x.slots place ≡ true → reserved place x ≡ x
unfolding reserved
reserved_there x place h = rw h refl

with_stale : Buffer → ℕ → Buffer
with_stale x place = record x { slots = with_slot place (stale_slot place x.len) x.slots }

reserved_new : (x : Buffer) (place : ℕ) → has_slot x.slots place ≡ false → reserved place x ≡ with_stale x place
unfolding reserved with_stale
reserved_new x place h = rw h refl

copy_with_stale : (x : Buffer) (place p : ℕ) → slot_at x.slots place ≡ None → copy_in (with_stale x place) p ≡ copy_in x p
unfolding copy_in with_stale
copy_with_stale x place p h =
    ap (λ o. own_or o x.zeros) (slot_at-with x.slots place p (stale_slot place x.len) refl)
    ∙ own_chosen (place == p) (stale_slot place x.len) (slot_at x.slots p) x.zeros
    ∙ ⊎_elim
    (λ t. let none : slot_at x.slots p ≡ None = ap (slot_at x.slots) (sym t.1) ∙ h in rw (t.0, none) refl)
    (λ t. rw t.0 refl)
    (eqb_tells place p)

pub copy_reserved : (x : Buffer) (place p : ℕ) → copy_in (reserved place x) p ≡ copy_in x p
copy_reserved x place p =
    ⊎_elim
    (λ h. ap (λ y. copy_in y p) (reserved_there x place h))
    (λ h. ap (λ y. copy_in y p) (reserved_new x place h) ∙ copy_with_stale x place p (no_slot (slot_at x.slots place) h))
    (bool_cases (has_slot x.slots place))

pub room_reserved : (x : Buffer) (place p : ℕ) → has_slot (reserved place x).slots p ≡ (if place == p then true else has_slot x.slots p)
unfolding with_stale
room_reserved x place p =
    ⊎_elim
    (λ h. ap (λ (y : Buffer). has_slot y.slots p) (reserved_there x place h)
    ∙ ⊎_elim (λ t. rw t.0 (ap (has_slot x.slots) (sym t.1) ∙ h)) (λ t. rw t.0 refl) (eqb_tells place p))
    (λ h. ap (λ (y : Buffer). has_slot y.slots p) (reserved_new x place h)
    ∙ ap is_some (slot_at-with x.slots place p (stale_slot place x.len) refl)
    ∙ room_chosen (place == p) (stale_slot place x.len) (slot_at x.slots p))
    (bool_cases (has_slot x.slots place))

pub len_reserved : (x : Buffer) (place : ℕ) → (reserved place x).len ≡ x.len
unfolding reserved
len_reserved x place = ⊎_elim (λ h. rw h refl) (λ h. rw h refl) (bool_cases (has_slot x.slots place))

pub sound_reserved : (x : Buffer) (place : ℕ) → IsSound (Some x) → IsSound (Some (reserved place x))
unfolding reserved
sound_reserved x place h =
    ⊎_elim
    (λ t. rw t h)
    (λ t. rw t (h.0, lengths-with x.len place (stale_slot place x.len) x.slots (eq-eqb (length (zeros x.len)) x.len (length-replicate x.len (pos 0))) h.1))
    (bool_cases (has_slot x.slots place))

after_place : (p : ℕ) (replaced : Bool) (needs : List Need) (log : List (Cell × ℤ)) (b : ℕ) (s : Slot) → (slot_after p replaced needs log b s).place ≡ s.place
unfolding slot_after renewed_slot
after_place p replaced needs log b s = ⊎_elim (λ t. rw t.0 refl) (λ t. rw t.0 refl) (eqb_tells s.place p)

length_start : (c : Bool) (values : List ℤ) → length (start_of c (length values) values) ≡ length values
unfolding start_of
length_start true values = length-replicate (length values) (pos 0)
length_start false values = refl

after_length : (p : ℕ) (replaced : Bool) (needs : List Need) (log : List (Cell × ℤ)) (b : ℕ) (s : Slot) → length (slot_after p replaced needs log b s).values ≡ length s.values
unfolding slot_after renewed_slot cells_after
after_length p replaced needs log b s =
    ⊎_elim
    (λ t. rw t.0 (length-each_from (cell_after needs log b) 0 (start_of (replaced || not s.current) (length s.values) s.values) ∙ length_start (replaced || not s.current) s.values))
    (λ t. rw t.0 refl)
    (eqb_tells s.place p)

pub len_published : (x : Buffer) (place : ℕ) (needs : List Need) (log : List (Cell × ℤ)) (b : ℕ) → (published place needs log b x).len ≡ x.len
unfolding published
len_published x place needs log b = refl

pub sound_published : (x : Buffer) (place : ℕ) (needs : List Need) (log : List (Cell × ℤ)) (b : ℕ) → IsSound (Some x) → IsSound (Some (published place needs log b x))
unfolding published
sound_published x place needs log b h =
    (refl, lengths-map x.len (slot_after place (replaces needs b x.len) needs log b) (after_length place (replaces needs b x.len) needs log b) x.slots h.1)

is_some-map : (f : Slot → Slot) (o : Option Slot) → is_some (option_map f o) ≡ is_some o
is_some-map f None = refl
is_some-map f (Some s) = refl

pub room_published : (x : Buffer) (place : ℕ) (needs : List Need) (log : List (Cell × ℤ)) (b p : ℕ) → has_slot (published place needs log b x).slots p ≡ has_slot x.slots p
unfolding published
room_published x place needs log b p =
    let f : Slot → Slot = slot_after place (replaces needs b x.len) needs log b in
    ap is_some (slot_at-map f (after_place place (replaces needs b x.len) needs log b) x.slots p) ∙ is_some-map f (slot_at x.slots p)

-- stale slots show nothing
stale_slots : (place : ℕ) (replaced : Bool) (needs : List Need) (log : List (Cell × ℤ)) (b p : ℕ) (o : Option Slot) → ((s : Slot) → o ≡ Some s → s.place ≡ p) → (place ≡ p → ⊥) → own_or (option_map (slot_after place replaced needs log b) o) None ≡ None
unfolding slot_after
stale_slots place replaced needs log b p None h n = refl
stale_slots place replaced needs log b p (Some s) h n = rw (ne_eqb s.place place (λ e. n (sym e ∙ h s refl))) refl

-- what the new version starts from
start_shown : (current : Bool) (values : List ℤ) (len : ℕ) (z : Option (List ℤ)) → length values ≡ len → z ≡ zeros_like len z → is_some (if current then Some values else z) ≡ true → start_of (not current) (length values) values ≡ unwrap_or (if current then Some values else z) []
unfolding start_of
start_shown true values len z e like there = refl
start_shown false values len None e like there = absurd (let h : false ≡ true = there in cc)
start_shown false values len (Some w) e like there = ap zeros e ∙ sym (same_Some w (zeros len) like)

starts : (replaced : Bool) (s : Slot) (len : ℕ) (z : Option (List ℤ)) → length s.values ≡ len → z ≡ zeros_like len z → (replaced ≡ false → is_some (own_or (Some s) z) ≡ true) → start_of (replaced || not s.current) (length s.values) s.values ≡ start_of replaced len (unwrap_or (own_or (Some s) z) [])
unfolding start_of
starts true s len z e like there = ap zeros e
starts false s len z e like there = start_shown s.current s.values len z e like (there refl)

is_some_is : (o : Option Slot) → is_some o ≡ true → (s : Slot) × (o ≡ Some s)
is_some_is None h = absurd (let z : false ≡ true = h in cc)
is_some_is (Some s) h = (s, refl)

-- the version stands at the place
copy_published_here : (x : Buffer) (place : ℕ) (needs : List Need) (log : List (Cell × ℤ)) (b : ℕ) → IsSound (Some x) → IsTrue (has_slot x.slots place) → (replaces needs b x.len ≡ false → is_some (copy_in x place) ≡ true) → copy_in (published place needs log b x) place ≡ Some (version needs log b x.len (copy_in x place))
unfolding copy_in published version slot_after renewed_slot
copy_published_here x place needs log b sound room there =
    let f : Slot → Slot = slot_after place (replaces needs b x.len) needs log b in
    let found = is_some_is (slot_at x.slots place) room in
    let s : Slot = found.0 in
    let here : s.place ≡ place = slot_of_place x.slots place s found.1 in
    let same : length s.values ≡ x.len = length_found x.len place x.slots s sound.1 found.1 in
    let shown : copy_in x place ≡ own_or (Some s) x.zeros = ap (λ o. own_or o x.zeros) found.1 in
    ap (λ o. own_or o None) (slot_at-map f (after_place place (replaces needs b x.len) needs log b) x.slots place ∙ ap (option_map f) found.1)
    ∙ (rw (eq-eqb s.place place here)
    (ap (λ (l : List ℤ). Some (cells_after needs log b l))
    (starts (replaces needs b x.len) s x.len x.zeros same sound.0 (λ r. ap is_some (sym shown) ∙ there r)
    ∙ ap (λ o. start_of (replaces needs b x.len) x.len (unwrap_or o [])) (sym shown))))

-- and at no other
copy_published_there : (x : Buffer) (place : ℕ) (needs : List Need) (log : List (Cell × ℤ)) (b p : ℕ) → (place ≡ p → ⊥) → copy_in (published place needs log b x) p ≡ None
unfolding copy_in published
copy_published_there x place needs log b p other =
    let f : Slot → Slot = slot_after place (replaces needs b x.len) needs log b in
    ap (λ o. own_or o None) (slot_at-map f (after_place place (replaces needs b x.len) needs log b) x.slots p)
    ∙ stale_slots place (replaces needs b x.len) needs log b p (slot_at x.slots p) (λ s. slot_of_place x.slots p s) other

pub copy_published : (x : Buffer) (place : ℕ) (needs : List Need) (log : List (Cell × ℤ)) (b p : ℕ) → IsSound (Some x) → IsTrue (has_slot x.slots place) → (replaces needs b x.len ≡ false → is_some (copy_in x place) ≡ true) → copy_in (published place needs log b x) p ≡ (if place == p then Some (version needs log b x.len (copy_in x place)) else None)
copy_published x place needs log b p sound room there =
    ⊎_elim
    (λ t. rw (t.0, ← t.1) (copy_published_here x place needs log b sound room there))
    (λ t. rw t.0 (copy_published_there x place needs log b p t.1))
    (eqb_tells place p)
