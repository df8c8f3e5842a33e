-- What each call does to the list of buffers.
use Rattle.std.proofs.Common.{◌≡◌, ℕ, zero, suc, ◌+◌, ◌<◌, ◌≤◌, ℤ, Bool, true, false, List, [], ◌∷◌, ◌++◌, length, set, get_or, refl, sym, ap, ◌∙◌, arith, Option, Some, None, eq-eqb, IsTrue, IsSome, IfSome, option_map, subst, ◌⊎◌, inl, inr, ⊎_elim}
use Rattle.std.specs.Prelude.{if◌then◌else◌, ◌==◌, ◌&&◌}
use Rattle.std.specs.Option.{is_some}
use Rattle.std.proofs.lemmas.Bool.{ne_eqb}
use Rattle.std.proofs.lemmas.List.{length-set, length_push, set-get_or}
use Rattle.std.proofs.lemmas.Option.{same_Some}
use Rattle.std.proofs.lemmas.Bool.Decides.{eqb_tells}
use Rattle.sy_access.specs.declared.access.Need.{Need}
use Rattle.sy_access.specs.declared.cells.Cell.{Cell}
use Rattle.sy_copies.specs.declared.buffer.Buffer.{Buffer}
use Rattle.sy_needs.specs.Each.{each_from}
use Rattle.sy_needs.specs.Versions.{renews, replaces}
use Rattle.sy_copies.specs.Places.{copy_in, first, installed, reserved, published}
use Rattle.sy_copies.specs.Current.{buffer_at, copy_of, copy_at, len_of, len_at, room_of, has_room, IsSound, Sound, publish_at}
use Rattle.sy_copies.specs.Calls.{first_copy, first_room, Makes, Installs, Reserves, MayPublish, Publishes, Drops, version}
use Rattle.sy_copies.proofs.ListLemmas.{length-each_from}
use Rattle.sy_copies.proofs.BufferLemmas.{copy_first, room_first, len_first, sound_first, copy_installed, room_installed, len_installed, sound_installed, copy_reserved, room_reserved, len_reserved, sound_reserved, copy_published, room_published, len_published, sound_published}

-- the buffer that was written, and any other
set_here : (xs : List (Option Buffer)) (k : ℕ) (y : Option Buffer) → k < length xs → buffer_at (set xs k y) k ≡ y
set_here [] k y h = absurd (omega arith)
set_here (x ∷ xs) zero y h = refl
set_here (x ∷ xs) (suc k) y h = set_here xs k y (omega arith)

set_there : (xs : List (Option Buffer)) (k b : ℕ) (y : Option Buffer) → (k ≡ b → ⊥) → buffer_at (set xs k y) b ≡ buffer_at xs b
set_there [] k b y n = refl
set_there (x ∷ xs) zero zero y n = absurd (n refl)
set_there (x ∷ xs) zero (suc b) y n = refl
set_there (x ∷ xs) (suc k) zero y n = refl
set_there (x ∷ xs) (suc k) (suc b) y n = set_there xs k b y (λ e. n (ap suc e))

-- what is seen of a buffer where one buffer was written
one_set : {A : Type 0} (see : Option Buffer → A) (xs : List (Option Buffer)) (k b : ℕ) (y : Option Buffer) (r : A) → k < length xs → (k ≡ b → see y ≡ r) → ((k ≡ b → ⊥) → see (buffer_at xs b) ≡ r) → see (buffer_at (set xs k y) b) ≡ r
one_set see xs k b y r h here there =
    ⊎_elim
    (λ t. ap see (ap (buffer_at (set xs k y)) (sym t.1) ∙ set_here xs k y h) ∙ here t.1)
    (λ t. ap see (set_there xs k b y t.1) ∙ there t.1)
    (eqb_tells k b)

-- a fact of each buffer where one buffer was written
fact_set : (P : Option Buffer → Type 0) (xs : List (Option Buffer)) (k : ℕ) (y : Option Buffer) → k < length xs → P y → ((b : ℕ) → P (buffer_at xs b)) → (b : ℕ) → P (buffer_at (set xs k y) b)
fact_set P xs k y h new old b =
    ⊎_elim
    (λ t. subst P (sym (ap (buffer_at (set xs k y)) (sym t.1) ∙ set_here xs k y h)) new)
    (λ t. subst P (sym (set_there xs k b y t.1)) (old b))
    (eqb_tells k b)

push_here : (xs : List (Option Buffer)) (y : Option Buffer) → buffer_at (xs ++ y ∷ []) (length xs) ≡ y
push_here [] y = refl
push_here (x ∷ xs) y = push_here xs y

push_there : (xs : List (Option Buffer)) (b : ℕ) (y : Option Buffer) → (length xs ≡ b → ⊥) → buffer_at (xs ++ y ∷ []) b ≡ buffer_at xs b
push_there [] zero y n = absurd (n refl)
push_there [] (suc b) y n = refl
push_there (x ∷ xs) zero y n = refl
push_there (x ∷ xs) (suc b) y n = push_there xs b y (λ e. n (ap suc e))

one_pushed : {A : Type 0} (see : Option Buffer → A) (xs : List (Option Buffer)) (b : ℕ) (y : Option Buffer) (r : A) → (length xs ≡ b → see y ≡ r) → ((length xs ≡ b → ⊥) → see (buffer_at xs b) ≡ r) → see (buffer_at (xs ++ y ∷ []) b) ≡ r
one_pushed see xs b y r here there =
    ⊎_elim
    (λ t. ap see (ap (buffer_at (xs ++ y ∷ [])) (sym t.1) ∙ push_here xs y) ∙ here t.1)
    (λ t. ap see (push_there xs b y t.1) ∙ there t.1)
    (eqb_tells (length xs) b)

fact_pushed : (P : Option Buffer → Type 0) (xs : List (Option Buffer)) (y : Option Buffer) → P y → ((b : ℕ) → P (buffer_at xs b)) → (b : ℕ) → P (buffer_at (xs ++ y ∷ []) b)
fact_pushed P xs y new old b =
    ⊎_elim
    (λ t. subst P (sym (ap (buffer_at (xs ++ y ∷ [])) (sym t.1) ∙ push_here xs y)) new)
    (λ t. subst P (sym (push_there xs b y t.1)) (old b))
    (eqb_tells (length xs) b)

buffer_at-each : (f : ℕ → Option Buffer → Option Buffer) → ((i : ℕ) → f i None ≡ None) → (k : ℕ) (xs : List (Option Buffer)) (b : ℕ) → buffer_at (each_from f k xs) b ≡ f (k + b) (buffer_at xs b)
buffer_at-each f none k [] b = sym (none (k + b))
buffer_at-each f none k (x ∷ xs) zero = ap (λ n. f n x) (let e : k ≡ k + 0 = omega arith in e)
buffer_at-each f none k (x ∷ xs) (suc b) =
    buffer_at-each f none (suc k) xs b ∙ ap (λ n. f n (buffer_at xs b)) (let e : suc k + b ≡ k + suc b = omega arith in e)

-- a buffer that has a length is there
pub with_length : (xs : List (Option Buffer)) (k n : ℕ) → len_at xs k ≡ Some n → (x : Buffer) × (k < length xs) × (buffer_at xs k ≡ Some x) × (x.len ≡ n)
unfolding len_at
with_length [] k n h = absurd (let z : None ≡ Some n = h in cc)
with_length (None ∷ xs) zero n h = absurd (let z : None ≡ Some n = h in cc)
with_length (Some x ∷ xs) zero n h = (x, omega arith, refl, same_Some x.len n h)
with_length (x ∷ xs) (suc k) n h = let r = with_length xs k n h in (r.0, omega arith, r.2, r.3)

-- the buffer at a place is what a read there gives
pub read_there : (xs : List (Option Buffer)) (k : ℕ) (y : Option Buffer) → k < length xs → y ≡ get_or xs k y → y ≡ buffer_at xs k
read_there [] k y h e = absurd (omega arith)
read_there (x ∷ xs) zero y h e = e
read_there (x ∷ xs) (suc k) y h e = read_there xs k y (omega arith) e

pub installs : (old : List (Option Buffer)) (place k : ℕ) (v : List ℤ) (was is : Option Buffer) → len_at old k ≡ Some (length v) → was ≡ get_or old k was → is ≡ option_map (installed place v) was → Sound old → Installs old (set old k is) place k v × Sound (set old k is)
unfolding copy_at len_at has_room
installs old place k v was is sized read e sound =
    let r = with_length old k (length v) sized in
    let x : Buffer = r.0 in
    let there : buffer_at old k ≡ Some x = r.2 in
    let new : is ≡ Some (installed place v x) = e ∙ ap (option_map (installed place v)) (read_there old k was r.1 read ∙ there) in
    let at : (b : ℕ) → k ≡ b → buffer_at old b ≡ Some x = λ b t. ap (buffer_at old) (sym t) ∙ there in (
      record {
        made = length-set old k is;
        lens = λ b. one_set len_of old k b is (len_of (buffer_at old b)) r.1
            (λ t. ap len_of new ∙ (rw (at b t) (ap Some (len_installed x place v))))
            (λ n. refl);
        copies = λ p b. one_set (λ o. copy_of o p) old k b is (if k == b && place == p then Some v else copy_of (buffer_at old b) p) r.1
            (λ t. ap (λ o. copy_of o p) new ∙ (rw (eq-eqb k b t, at b t) (copy_installed x place p v)))
            (λ n. rw (ne_eqb k b n) refl);
        rooms = λ p b. one_set (λ o. room_of o p) old k b is (if k == b && place == p then true else room_of (buffer_at old b) p) r.1
            (λ t. ap (λ o. room_of o p) new ∙ (rw (eq-eqb k b t, at b t) (room_installed x place p v)))
            (λ n. rw (ne_eqb k b n) refl);
      },
      fact_set IsSound old k is r.1 (subst IsSound (sym new) (sound_installed x place v (sym r.3) (subst IsSound there (sound k)))) sound,
    )

bool_cases : (c : Bool) → (c ≡ true) ⊎ (c ≡ false)
bool_cases true = inl refl
bool_cases false = inr refl

either_same : (c : Bool) (x : Option Buffer) → (if c then x else x) ≡ x
either_same true x = refl
either_same false x = refl

some_is : {A : Type 0} (o : Option A) → IsSome o → (x : A) × (o ≡ Some x)
some_is None h = absurd (let z : false ≡ true = h in cc)
some_is (Some x) h = (x, refl)

pub reserves : (old : List (Option Buffer)) (place k : ℕ) (was is : Option Buffer) → IsSome (len_at old k) → was ≡ get_or old k was → is ≡ option_map (reserved place) was → Sound old → Reserves old (set old k is) place k × Sound (set old k is)
unfolding copy_at len_at has_room
reserves old place k was is sized read e sound =
    let size = some_is (len_at old k) sized in
    let r = with_length old k size.0 size.1 in
    let x : Buffer = r.0 in
    let there : buffer_at old k ≡ Some x = r.2 in
    let new : is ≡ Some (reserved place x) = e ∙ ap (option_map (reserved place)) (read_there old k was r.1 read ∙ there) in
    let at : (b : ℕ) → k ≡ b → buffer_at old b ≡ Some x = λ b t. ap (buffer_at old) (sym t) ∙ there in (
      record {
        made = length-set old k is;
        lens = λ b. one_set len_of old k b is (len_of (buffer_at old b)) r.1
            (λ t. ap len_of new ∙ (rw (at b t) (ap Some (len_reserved x place))))
            (λ n. refl);
        copies = λ p b. one_set (λ o. copy_of o p) old k b is (copy_of (buffer_at old b) p) r.1
            (λ t. ap (λ o. copy_of o p) new ∙ (rw (at b t) (copy_reserved x place p)))
            (λ n. refl);
        rooms = λ p b. one_set (λ o. room_of o p) old k b is (if k == b && place == p then true else room_of (buffer_at old b) p) r.1
            (λ t. ap (λ o. room_of o p) new ∙ (rw (eq-eqb k b t, at b t) (room_reserved x place p)))
            (λ n. rw (ne_eqb k b n) refl);
      },
      fact_set IsSound old k is r.1 (subst IsSound (sym new) (sound_reserved x place (subst IsSound there (sound k)))) sound,
    )

pub drops : (old : List (Option Buffer)) (k : ℕ) (is : Option Buffer) → k < length old → is ≡ None → Sound old → Drops old (set old k is) k × Sound (set old k is)
unfolding copy_at len_at has_room
drops old k is h e sound = (
  record {
    made = length-set old k is;
    lens = λ b. one_set len_of old k b is (if k == b then None else len_of (buffer_at old b)) h
        (λ t. ap len_of e ∙ (rw (eq-eqb k b t) refl)) (λ n. rw (ne_eqb k b n) refl);
    copies = λ p b. one_set (λ o. copy_of o p) old k b is (if k == b then None else copy_of (buffer_at old b) p) h
        (λ t. ap (λ o. copy_of o p) e ∙ (rw (eq-eqb k b t) refl)) (λ n. rw (ne_eqb k b n) refl);
    rooms = λ p b. one_set (λ o. room_of o p) old k b is (if k == b then false else room_of (buffer_at old b) p) h
        (λ t. ap (λ o. room_of o p) e ∙ (rw (eq-eqb k b t) refl)) (λ n. rw (ne_eqb k b n) refl);
  },
  fact_set IsSound old k is h (subst IsSound (sym e) tt) sound,
)

-- a number that no buffer has
past : (xs : List (Option Buffer)) (k : ℕ) → length xs ≤ k → buffer_at xs k ≡ None
past [] k h = refl
past (x ∷ xs) zero h = absurd (omega arith)
past (x ∷ xs) (suc k) h = past xs k (omega arith)

nothing : {A : Type 0} (see : Option Buffer → A) (old : List (Option Buffer)) (k b : ℕ) (z : A) → length old ≤ k → see None ≡ z → see (buffer_at old b) ≡ (if k == b then z else see (buffer_at old b))
nothing see old k b z h e =
    ⊎_elim (λ t. rw t.0 (ap see (ap (buffer_at old) (sym t.1) ∙ past old k h) ∙ e)) (λ t. rw t.0 refl) (eqb_tells k b)

pub drops_past : (old : List (Option Buffer)) (k : ℕ) → length old ≤ k → Drops old old k
unfolding copy_at len_at has_room
drops_past old k h = record {
  made = refl;
  lens = λ b. nothing len_of old k b None h refl;
  copies = λ p b. nothing (λ o. copy_of o p) old k b None h refl;
  rooms = λ p b. nothing (λ o. room_of o p) old k b false h refl;
}

pub makes : (old : List (Option Buffer)) (len : ℕ) (init : Option (List ℤ)) → ((v : List ℤ) → init ≡ Some v → length v ≡ len) → Sound old → Makes old (old ++ Some (first len init) ∷ []) len init (length old) × Sound (old ++ Some (first len init) ∷ [])
unfolding copy_at len_at has_room
makes old len init fits sound =
    let new : Option Buffer = Some (first len init) in (
      record {
        number = refl;
        made = length_push old new;
        lens = λ b. one_pushed len_of old b new (if length old == b then Some len else len_of (buffer_at old b))
            (λ t. rw (eq-eqb (length old) b t) (ap Some (len_first len init))) (λ n. rw (ne_eqb (length old) b n) refl);
        copies = λ p b. one_pushed (λ o. copy_of o p) old b new (if length old == b then first_copy len init p else copy_of (buffer_at old b) p)
            (λ t. rw (eq-eqb (length old) b t) (copy_first len init p)) (λ n. rw (ne_eqb (length old) b n) refl);
        rooms = λ p b. one_pushed (λ o. room_of o p) old b new (if length old == b then first_room init p else room_of (buffer_at old b) p)
            (λ t. rw (eq-eqb (length old) b t) (room_first len init p)) (λ n. rw (ne_eqb (length old) b n) refl);
      },
      fact_pushed IsSound old new (sound_first len init fits) sound,
    )

publish_none : (place : ℕ) (needs : List Need) (log : List (Cell × ℤ)) (i : ℕ) → publish_at place needs log needs i None ≡ None
unfolding publish_at
publish_none place needs log i = either_same (renews needs i) None

published_at : (old : List (Option Buffer)) (place : ℕ) (needs : List Need) (log : List (Cell × ℤ)) (b : ℕ) → buffer_at (each_from (publish_at place needs log needs) 0 old) b ≡ publish_at place needs log needs b (buffer_at old b)
published_at old place needs log b =
    buffer_at-each (publish_at place needs log needs) (publish_none place needs log) 0 old b
    ∙ ap (λ n. publish_at place needs log needs n (buffer_at old b)) (let e : 0 + b ≡ b = omega arith in e)

published_yes : (place : ℕ) (needs : List Need) (log : List (Cell × ℤ)) (b : ℕ) (x : Option Buffer) → renews needs b ≡ true → publish_at place needs log needs b x ≡ option_map (published place needs log b) x
unfolding publish_at
published_yes place needs log b x h = rw h refl

published_no : (place : ℕ) (needs : List Need) (log : List (Cell × ℤ)) (b : ℕ) (x : Option Buffer) → renews needs b ≡ false → publish_at place needs log needs b x ≡ x
unfolding publish_at
published_no place needs log b x h = rw h refl

-- what is seen of a buffer, renewed or not, where renewing keeps it
kept_seen : {A : Type 0} (see : Option Buffer → A) (old : List (Option Buffer)) (place : ℕ) (needs : List Need) (log : List (Cell × ℤ)) (b : ℕ) → ((x : Option Buffer) → see (option_map (published place needs log b) x) ≡ see x) → see (buffer_at (each_from (publish_at place needs log needs) 0 old) b) ≡ see (buffer_at old b)
kept_seen see old place needs log b keeps =
    ap see (published_at old place needs log b)
    ∙ ⊎_elim
    (λ h. ap see (published_yes place needs log b (buffer_at old b) h) ∙ keeps (buffer_at old b))
    (λ h. ap see (published_no place needs log b (buffer_at old b) h))
    (bool_cases (renews needs b))

len_kept : (place : ℕ) (needs : List Need) (log : List (Cell × ℤ)) (b : ℕ) (x : Option Buffer) → len_of (option_map (published place needs log b) x) ≡ len_of x
len_kept place needs log b None = refl
len_kept place needs log b (Some x) = ap Some (len_published x place needs log b)

room_kept : (place : ℕ) (needs : List Need) (log : List (Cell × ℤ)) (b p : ℕ) (x : Option Buffer) → room_of (option_map (published place needs log b) x) p ≡ room_of x p
room_kept place needs log b p None = refl
room_kept place needs log b p (Some x) = room_published x place needs log b p

sound_kept : (place : ℕ) (needs : List Need) (log : List (Cell × ℤ)) (b : ℕ) (x : Option Buffer) → IsSound x → IsSound (option_map (published place needs log b) x)
sound_kept place needs log b None h = tt
sound_kept place needs log b (Some x) h = sound_published x place needs log b h

pub publishes : (old : List (Option Buffer)) (place : ℕ) (needs : List Need) (log : List (Cell × ℤ)) → MayPublish old place needs → Sound old → Publishes old (each_from (publish_at place needs log needs) 0 old) place needs log × Sound (each_from (publish_at place needs log needs) 0 old)
unfolding copy_at len_at has_room
publishes old place needs log may sound = (
  record {
    made = length-each_from (publish_at place needs log needs) 0 old;
    lens = λ b. kept_seen len_of old place needs log b (len_kept place needs log b);
    versions = λ p b len renewed sized.
        let r = with_length old b len sized in
        let x : Buffer = r.0 in
        let room : IsTrue (room_of (Some x) place) = subst (λ o. IsTrue (room_of o place)) r.2 (may b renewed).room in
        let there : replaces needs b x.len ≡ false → is_some (copy_in x place) ≡ true = λ h. subst (λ o. IsSome (copy_of o place)) r.2 ((may b renewed).current len sized (ap (replaces needs b) (sym r.3) ∙ h)) in
        ap (λ o. copy_of o p) (published_at old place needs log b ∙ published_yes place needs log b (buffer_at old b) renewed ∙ ap (option_map (published place needs log b)) r.2)
        ∙ copy_published x place needs log b p (subst IsSound r.2 (sound b)) room there
        ∙ ap (λ n. if place == p then Some (version needs log b n (copy_in x place)) else None) r.3
        ∙ ap (λ o. if place == p then Some (version needs log b len (copy_of o place)) else None) (sym r.2);
    others = λ p b h. ap (λ o. copy_of o p) (published_at old place needs log b ∙ published_no place needs log b (buffer_at old b) h);
    rooms = λ p b. kept_seen (λ o. room_of o p) old place needs log b (room_kept place needs log b p);
  },
  λ b. subst IsSound (sym (published_at old place needs log b))
      (⊎_elim
      (λ h. subst IsSound (sym (published_yes place needs log b (buffer_at old b) h)) (sound_kept place needs log b (buffer_at old b) (sound b)))
      (λ h. subst IsSound (sym (published_no place needs log b (buffer_at old b) h)) (sound b))
      (bool_cases (renews needs b))),
)

-- a write of what stands there changes nothing
pub kept_set : (xs : List (Option Buffer)) (k : ℕ) (was is : Option Buffer) → was ≡ get_or xs k was → is ≡ was → set xs k is ≡ xs
kept_set xs k was is read e = ap (set xs k) (e ∙ read) ∙ set-get_or xs k was

pub within : (xs : List (Option Buffer)) (k : ℕ) → IsSome (len_at xs k) → k < length xs
within xs k h = let size = some_is (len_at xs k) h in (with_length xs k size.0 size.1).1

pub fitting : (len : ℕ) (init : Option (List ℤ)) → IfSome init (λ v. length v ≡ len) → (v : List ℤ) → init ≡ Some v → length v ≡ len
fitting len None h v e = absurd (let z : None ≡ Some v = e in cc)
fitting len (Some x) h v e = ap length (sym (same_Some x v e)) ∙ h

-- what is seen of a buffer that is not there, and of one that is read
pub see_past : {A : Type 0} (see : Option Buffer → A) (old now : List (Option Buffer)) (k : ℕ) → old ≡ now → length old ≤ k → see None ≡ see (buffer_at now k)
see_past see old now k e h = ap see (sym (past old k h) ∙ ap (λ l. buffer_at l k) e)

pub see_read : {A : Type 0} (see : Option Buffer → A) (old now : List (Option Buffer)) (k : ℕ) (y : Option Buffer) → old ≡ now → k < length old → y ≡ get_or old k y → see y ≡ see (buffer_at now k)
see_read see old now k y e h read = ap see (read_there old k y h read ∙ ap (λ l. buffer_at l k) e)
