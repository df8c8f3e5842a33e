-- Each call keeps that all current copies of a buffer are equal.
use Rattle.std.proofs.Common.{◌≡◌, ℕ, ℤ, Bool, true, false, List, [], refl, sym, ap, ◌∙◌, Option, Some, None, Result, Ok, Err, OnOk, OnErr, IsOk, IsTrue, ◌⊎◌, inl, inr, ⊎_elim}
use Rattle.std.specs.Prelude.{if◌then◌else◌, ◌==◌}
use Rattle.std.proofs.lemmas.Option.{same_Some}
use Rattle.std.proofs.lemmas.Bool.Decides.{eqb_tells}
use Rattle.sy_access.specs.declared.access.Need.{Need}
use Rattle.sy_access.specs.declared.cells.Cell.{Cell}
use Rattle.sy_copies.specs.declared.buffer.Buffer.{Buffer}
use Rattle.sy_needs.specs.Versions.{renews}
use Rattle.sy_copies.specs.Current.{copy_at, len_at, Agree, has_room, room_of, len_of, buffer_at}
use Rattle.sy_copies.specs.Calls.{first_copy, Makes, Installs, MayPublish, Publishes, Drops, version}

-- a choice whose other side is none
only : {A : Type 0} (c : Bool) (x y : A) → (if c then Some x else None) ≡ Some y → x ≡ y
only true x y h = same_Some x y h
only false x y h = absurd (let z : None ≡ Some y = h in cc)

pub agree_same : (old new : List (Option Buffer)) → ((p b : ℕ) → copy_at new p b ≡ copy_at old p b) → Agree old → Agree new
agree_same old new e h b p q v w a c = h b p q v w (sym (e p b) ∙ a) (sym (e q b) ∙ c)

first_equal : (len : ℕ) (init : Option (List ℤ)) (p q : ℕ) (v w : List ℤ) → first_copy len init p ≡ Some v → first_copy len init q ≡ Some w → v ≡ w
first_equal len None p q v w a c = same_Some v w (sym a ∙ c)
first_equal len (Some x) p q v w a c = sym (only (0 == p) x v a) ∙ only (0 == q) x w c

pub agree_makes : (old new : List (Option Buffer)) (len : ℕ) (init : Option (List ℤ)) (n : ℕ) → Makes old new len init n → Agree old → Agree new
agree_makes old new len init n made h b p q v w a c =
    ⊎_elim
    (λ t. first_equal len init p q v w (sym (made.copies p b ∙ (rw t.0 refl)) ∙ a) (sym (made.copies q b ∙ (rw t.0 refl)) ∙ c))
    (λ t. h b p q v w (sym (made.copies p b ∙ (rw t.0 refl)) ∙ a) (sym (made.copies q b ∙ (rw t.0 refl)) ∙ c))
    (eqb_tells n b)

pub agree_drops : (old new : List (Option Buffer)) (k : ℕ) → Drops old new k → Agree old → Agree new
agree_drops old new k dropped h b p q v w a c =
    ⊎_elim
    (λ t. absurd (let z : None ≡ Some v = sym (dropped.copies p b ∙ (rw t.0 refl)) ∙ a in cc))
    (λ t. h b p q v w (sym (dropped.copies p b ∙ (rw t.0 refl)) ∙ a) (sym (dropped.copies q b ∙ (rw t.0 refl)) ∙ c))
    (eqb_tells k b)

-- a copy of the buffer is the one that was installed, if the others equal it
chosen : (c : Bool) (v u : List ℤ) (o : Option (List ℤ)) → ((w : List ℤ) → o ≡ Some w → w ≡ v) → (if c then Some v else o) ≡ Some u → u ≡ v
chosen true v u o h e = sym (same_Some v u e)
chosen false v u o h e = h u e

pub agree_installs : (old new : List (Option Buffer)) (place k : ℕ) (x : List ℤ) → Installs old new place k x → Agree old → ((p : ℕ) (v : List ℤ) → copy_at old p k ≡ Some v → v ≡ x) → Agree new
agree_installs old new place k x put h same b p q v w a c =
    ⊎_elim
    (λ t. let each : (r : ℕ) (u : List ℤ) → copy_at new r b ≡ Some u → u ≡ x = λ r u e.
    chosen (place == r) x u (copy_at old r b) (λ z f. same r z (ap (copy_at old r) t.1 ∙ f)) (sym (put.copies r b ∙ (rw t.0 refl)) ∙ e) in
    each p v a ∙ sym (each q w c))
    (λ t. h b p q v w (sym (put.copies p b ∙ (rw t.0 refl)) ∙ a) (sym (put.copies q b ∙ (rw t.0 refl)) ∙ c))
    (eqb_tells k b)

-- a buffer with room has a length
room_len : (o : Option Buffer) (p : ℕ) → IsTrue (room_of o p) → (n : ℕ) × (len_of o ≡ Some n)
room_len None p h = absurd (let z : false ≡ true = h in cc)
room_len (Some x) p h = (x.len, refl)

sized : (c : List (Option Buffer)) (p b : ℕ) → IsTrue (has_room c p b) → (n : ℕ) × (len_at c b ≡ Some n)
unfolding has_room len_at
sized c p b h = room_len (buffer_at c b) p h

bool_cases : (c : Bool) → (c ≡ true) ⊎ (c ≡ false)
bool_cases true = inl refl
bool_cases false = inr refl

pub agree_publishes : (old new : List (Option Buffer)) (place : ℕ) (needs : List Need) (log : List (Cell × ℤ)) → MayPublish old place needs → Publishes old new place needs log → Agree old → Agree new
agree_publishes old new place needs log may made h b p q v w a c =
    ⊎_elim
    (λ t. let size = sized old place b (may b t).room in
    let x : List ℤ = version needs log b size.0 (copy_at old place b) in
    sym (only (place == p) x v (sym (made.versions p b size.0 t size.1) ∙ a)) ∙ only (place == q) x w (sym (made.versions q b size.0 t size.1) ∙ c))
    (λ t. h b p q v w (sym (made.others p b t) ∙ a) (sym (made.others q b t) ∙ c))
    (bool_cases (renews needs b))

-- what follows from either outcome
pub either_way : {T E : Type 0} (r : Result T E) {P Q G : Type 0} → OnOk r P → OnErr r Q → (P → G) → (Q → G) → G
either_way (Ok x) p q f g = f p
either_way (Err e) p q f g = g q

-- a call that fails only without room goes well with it
pub ok_unless : {T E : Type 0} (r : Result T E) {c : Bool} → OnErr r (c ≡ false) → IsTrue c → IsOk r
ok_unless (Ok x) h room = refl
ok_unless (Err e) h room = absurd (let z : false ≡ true = sym h ∙ room in cc)

-- no buffers
pub agree_none : Agree []
unfolding copy_at
agree_none b p q v w a c = absurd (let z : None ≡ Some v = a in cc)
