-- The number that an item reads is the one that the meaning gives it: that of the phase's store, or its own last write.
use Rattle.std.proofs.Common.{refl, sym, ap, ◌∙◌, subst, append_assoc, inl, inr}
use Rattle.std.specs.Prelude.{Bool, List, [], None, Option, Some, false, true, if◌then◌else◌, pos, reverse, unwrap_or, ℕ, ℤ, ◌&&◌, ◌++◌, ◌∷◌, ◌≡◌}
use Rattle.std.proofs.lemmas.Bool.{and_from, cond-false, or_parts, both_ways, cases_Bool}
use Rattle.std.proofs.lemmas.List.{reverse-append}
use mathlib.Core.List.{reverse-cons}
use Rattle.sy_access.specs.Logs.{logged, same_cell}
use Rattle.sy_access.specs.declared.cells.Cell.{Cell}
use Rattle.sy_access.proofs.Written.{equal_from_same, same_itself}
use Rattle.sy_meaning.specs.declared.runs.Step.{Step}
use Rattle.sy_meaning.specs.declared.runs.Step.TheVariants as steps
use Rattle.sy_meaning.specs.declared.runs.Store.{Store}
use Rattle.sy_meaning.specs.Items as phases
use Rattle.sy_meaning.specs.Items.{is_write, written}
use Rattle.sy_meaning.specs.Locations.{own, own_or_stored}
use Rattle.sy_foot.specs.Footprints.{kept, read_clashes}
use Rattle.sy_foot.specs.Numbering.{number_at}
use Rattle.sy_foot.specs.Writes.{number_of}
use Rattle.sy_foot.specs.declared.entry.Entry.{Entry}
use Rattle.sy_foot.specs.declared.footprint.Footprint.{Footprint}
use Rattle.sy_foot.specs.declared.numbering.CellNumbers.{CellNumbers}
use Rattle.sy_footlaws.specs.Courses.{Course, all_steps, number_after, phase_steps, wrote}
use Rattle.sy_footlaws.specs.Groups.{steps_of, writes_made}
use Rattle.sy_footlaws.specs.Standing.{Says, StandsFor}
use Rattle.sy_footlaws.proofs.CourseLemmas.{number-untouched, read-clashes}
use Rattle.sy_footlaws.proofs.LogLemmas.{made_append}
use Rattle.sy_footlaws.proofs.StandingLemmas.{read-clash}

same_swap : (a b : Cell) → same_cell a b ≡ same_cell b a
same_swap a b =
    elim (cases_Bool (same_cell a b)) [
      | inl h ↦ let e : a ≡ b = equal_from_same a b h in h ∙ sym (subst (λ (x : Cell). same_cell b x ≡ true) (sym e) (same_itself b))
      | inr h ↦
          elim (cases_Bool (same_cell b a)) [
            | inl k ↦ let e : b ≡ a = equal_from_same b a k in absurd (both_ways (same_cell a b) h (subst (λ (x : Cell). same_cell a x ≡ true) (sym e) (same_itself a)))
            | inr k ↦ h ∙ sym k
          ]
    ]

-- ---- the store of a phase

stored : List (Cell × ℤ) → Cell → ℤ
stored cells c = unwrap_or (logged cells c) (pos 0)

stored_more : (b : Bool) (y : ℤ) (o : Option ℤ) → (if b then y else unwrap_or o (pos 0)) ≡ unwrap_or (if b then Some y else o) (pos 0)
stored_more true y o = refl
stored_more false y o = refl

-- the number after steps is the one in the store behind their writes
store_after : (ss : List Step) (c : Cell) (cells : List (Cell × ℤ)) → number_after (stored cells c) c ss ≡ stored (reverse (writes_made ss) ++ cells) c
unfolding stored
store_after [] c cells = refl
store_after (steps.Read d line ∷ ss) c cells = store_after ss c cells
store_after (steps.Wrote d y line ∷ ss) c cells =
    let w : Cell × ℤ = (d, y) in
    let one : (if same_cell c d then y else stored cells c) ≡ stored (w ∷ cells) c = ap (λ b. if b then y else stored cells c) (same_swap c d) ∙ stored_more (same_cell d c) y (logged cells c) in
    let order : reverse (w ∷ writes_made ss) ++ cells ≡ reverse (writes_made ss) ++ (w ∷ cells) = ap (λ l. l ++ cells) (reverse-cons w (writes_made ss)) ∙ append_assoc (reverse (writes_made ss)) (w ∷ []) cells in
    ap (λ z. number_after z c ss) one ∙ (store_after ss c (w ∷ cells) ∙ ap (λ l. stored l c) (sym order))

-- the store after a phase
pub store-goes-on : (ss : List Step) (fs : List phases.Footprint) (cells : List (Cell × ℤ)) → written (record { cells = reverse (writes_made ss) ++ cells }) fs ≡ record { cells = reverse (writes_made (ss ++ steps_of fs)) ++ cells }
store-goes-on ss fs cells =
    let order = ap (λ l. l ++ cells) (ap reverse (made_append ss (steps_of fs)) ∙ reverse-append (writes_made ss) (writes_made (steps_of fs))) ∙ append_assoc (reverse (writes_made (steps_of fs))) (reverse (writes_made ss)) cells in
    ap (λ l. let s : Store = record { cells = l } in s) (sym order)

-- ---- an item's own writes

abbrev pub or_number : Option ℤ → ℤ → ℤ
or_number (Some y) z = y
or_number None z = z

abbrev pub either : Option ℤ → Option ℤ → Option ℤ
either (Some y) o = Some y
either None o = o

either_if : (b : Bool) (y : ℤ) (o p : Option ℤ) → either (if b then Some y else o) p ≡ (if b then Some y else either o p)
either_if true y o p = refl
either_if false y o p = refl

own_append : (xs ys : List Step) (c : Cell) → own (xs ++ ys) c ≡ either (own xs c) (own ys c)
own_append [] ys c = refl
own_append (steps.Read d line ∷ xs) ys c = own_append xs ys c
own_append (steps.Wrote d y line ∷ xs) ys c =
    ap (λ o. if same_cell d c then Some y else o) (own_append xs ys c) ∙ sym (either_if (same_cell d c) y (own xs c) (own ys c))

last_of : (o : Option ℤ) (b : Bool) (y z : ℤ) → or_number o (if b then y else z) ≡ or_number (either o (if b then Some y else None)) z
last_of (Some x) b y z = refl
last_of None true y z = refl
last_of None false y z = refl

either_none : (o : Option ℤ) → either o None ≡ o
either_none (Some x) = refl
either_none None = refl

own_after : (ss : List Step) (c : Cell) (z : ℤ) → number_after z c ss ≡ or_number (own (reverse ss) c) z
own_after [] c z = refl
own_after (steps.Read d line ∷ ss) c z =
    let s = steps.Read d line in
    let order = ap (λ l. own l c) (reverse-cons s ss) ∙ (own_append (reverse ss) (s ∷ []) c ∙ either_none (own (reverse ss) c)) in
    own_after ss c z ∙ ap (λ o. or_number o z) (sym order)
own_after (steps.Wrote d y line ∷ ss) c z =
    let s = steps.Wrote d y line in
    let order = ap (λ l. own l c) (reverse-cons s ss) ∙ own_append (reverse ss) (s ∷ []) c in
    own_after ss c (if same_cell c d then y else z) ∙ (ap (λ b. or_number (own (reverse ss) c) (if b then y else z)) (same_swap c d) ∙ (last_of (own (reverse ss) c) (same_cell d c) y z ∙ ap (λ o. or_number o z) (sym order)))

-- ---- what a read sees

after_append : (xs ys : List Step) (c : Cell) (z : ℤ) → number_after z c (xs ++ ys) ≡ number_after (number_after z c xs) c ys
after_append [] ys c z = refl
after_append (steps.Read d line ∷ xs) ys c z = after_append xs ys c z
after_append (steps.Wrote d y line ∷ xs) ys c z = after_append xs ys c (if same_cell c d then y else z)

unwritten : (ss : List Step) (c : Cell) (z : ℤ) → wrote c ss ≡ false → number_after z c ss ≡ z
unwritten [] c z h = refl
unwritten (steps.Read d line ∷ ss) c z h = unwritten ss c z (or_parts (same_cell c d && false) (wrote c ss) h).1
unwritten (steps.Wrote d y line ∷ ss) c z h =
    let p = or_parts (same_cell c d && true) (wrote c ss) h in
    let other : same_cell c d ≡ false = elim (cases_Bool (same_cell c d)) [ inl e ↦ absurd (both_ways (same_cell c d && true) p.0 (and_from _ _ e refl)) | inr e ↦ e ] in
    ap (λ x. number_after x c ss) (cond-false (same_cell c d) y z other) ∙ unwritten ss c z p.1

kept_number : (f : Footprint) (z : ℤ) (c : Cell) (r : Course) (o : Option Entry) → Says f z c r o → number_of z o ≡ number_after z c (all_steps r)
kept_number f z c r None said = sym (number-untouched z c (all_steps r) said)
kept_number f z c r (Some e) said = said.number

or_stored : (o : Option ℤ) (cells : List (Cell × ℤ)) (c : Cell) → or_number o (stored cells c) ≡ own_or_stored o cells c
unfolding stored
or_stored (Some y) cells c = refl
or_stored None cells c = refl

pub read-number : (m : CellNumbers) (opening : Cell → ℤ) (f : Footprint) (r : Course) (c : Cell) (n : ℕ) (cells : List (Cell × ℤ)) → StandsFor m opening f r → number_at m c ≡ Some n → read_clashes f (kept f n) ≡ false → opening c ≡ unwrap_or (logged cells c) (pos 0) → number_of (opening c) (kept f n) ≡ own_or_stored (own (reverse r.own) c) (reverse (writes_made r.before) ++ cells) c
unfolding stored
read-number m opening f r c n cells stands at calm first =
    let z = opening c in
    let said = stands.cells c n at in
    let early : wrote c r.earlier ≡ false = sym (read-clashes c 0 r.earlier) ∙ (sym (read-clash f z c 0 r (kept f n) said) ∙ calm) in
    let before = number_after z c r.before in
    let store : before ≡ stored (reverse (writes_made r.before) ++ cells) c = ap (λ x. number_after x c r.before) first ∙ store_after r.before c cells in
    kept_number f z c r (kept f n) said ∙ (after_append r.before (phase_steps r) c z ∙ (after_append r.earlier r.own c before ∙ (ap (λ x. number_after x c r.own) (unwritten r.earlier c before early ∙ store) ∙ (own_after r.own c (stored (reverse (writes_made r.before) ++ cells) c) ∙ or_stored (own (reverse r.own) c) (reverse (writes_made r.before) ++ cells) c))))
