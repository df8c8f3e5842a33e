-- The version of a root that a command makes of its place's copy, beside what the machine's board has.
use Rattle.std.proofs.Common.{◌≡◌, ℕ, zero, suc, ◌+◌, ◌<◌, ℤ, pos, List, [], ◌∷◌, length, Bool, true, false, Option, Some, refl, sym, ap, ◌∙◌, subst, arith}
use Rattle.std.specs.Prelude.{slice_get, replicate, unwrap_or, not, ◌&&◌, ◌||◌, ◌==◌, nat_le, nat_lt, if◌then◌else◌}
use Rattle.std.specs.List.{list_any, list_all}
use Rattle.std.proofs.lemmas.Bool.Decides.{nat_tests}
use Rattle.sy_access.specs.declared.access.Need.{Need}
use Rattle.sy_access.specs.declared.cells.Cell.{Cell}
use Rattle.sy_access.specs.declared.cells.Cell.TheVariants as cell
use Rattle.sy_access.specs.Needs.{has_cell}
use Rattle.sy_access.specs.Logs.{logged}
use Rattle.sy_needs.specs.Each.{each_from}
use Rattle.sy_needs.specs.Elements.{is_fresh_at, starts_zero, writes_at, is_written, at_start, cell_after}
use Rattle.sy_needs.specs.Versions.{renews, covers, forgoes, replaces}
use Rattle.sy_onecopy.specs.declared.Buffer.{Buffer}
use Rattle.sy_onecopy.specs.declared.Entry.{Entry}
use Rattle.sy_onecopy.specs.State.{Board}
use Rattle.sy_onecopy.specs.Copies.{makes, uses}
use Rattle.sy_onecopy.specs.Outcome.{buffer_after, buffers_after, values_at}
use Rattle.sy_onecopy.specs.Step.{writes_if_fresh}
use Rattle.sy_settling.proofs.ListLemmas.{some_is, and_left, and_right, and_true}
use Rattle.sy_settling.proofs.ElementLemmas.{values-mapped}
use Rattle.sy_sound.specs.Sound.{IsHeld, IsSound}
use Rattle.sy_sound.proofs.InputLemmas.{stands_at}
use Rattle.sy_sound.proofs.ListLemmas.{All-at}
use Rattle.sy_copies.specs.Commands.{cells_after, start_of}
use Rattle.sy_copies.specs.Calls.{version}
use Rattle.sy_coreboard.proofs.NeedLemmas.{among, all-at, made_named}

-- ---- the numbers that the board has

board_values : (needs : List Need) (log : List (Cell × ℤ)) (buffers : List Buffer) (r : ℕ) → values_at (buffers_after needs log buffers) r ≡ each_from (cell_after needs log r) 0 (values_at buffers r)
unfolding buffers_after buffer_after
board_values needs log buffers r = values-mapped (cell_after needs log) buffers r

-- ---- a root that is replaced

each_alike : (f : ℕ → ℤ → ℤ) (m : ℕ) (xs ys : List ℤ) → length xs ≡ length ys → ((i : ℕ) (x y : ℤ) → i < m + length xs → f i x ≡ f i y) → each_from f m xs ≡ each_from f m ys
each_alike f m [] [] e h = refl
each_alike f m [] (y ∷ ys) e h = absurd (omega (arith, e))
each_alike f m (x ∷ xs) [] e h = absurd (omega (arith, e))
each_alike f m (x ∷ xs) (y ∷ ys) e h =
    ap (λ v. v ∷ each_from f (suc m) xs) (h m x y (omega arith))
    ∙ ap (λ l. f m y ∷ l) (each_alike f (suc m) xs ys (let k : length xs ≡ length ys = omega (arith, e) in k) (λ i v w lt. h i v w (omega (arith, lt))))

length-zeros : (n : ℕ) → length (replicate n (pos 0)) ≡ n
length-zeros zero = refl
length-zeros (suc n) = ap suc (length-zeros n)

fresh_one : (a b c : Bool) → (not a || c) ≡ true → (not (a && b) || c) ≡ true
fresh_one true true c h = h
fresh_one true false c h = refl
fresh_one false b c h = refl

or_later : (a b : Bool) → b ≡ true → (a || b) ≡ true
or_later true b h = refl
or_later false b h = h

fresh_all : (r i : ℕ) (needs : List Need) → list_all (λ n. not (n.buffer == r) || n.no_init) needs ≡ true → list_all (is_fresh_at r i) needs ≡ true
unfolding has_cell
fresh_all r i [] h = refl
fresh_all r i (n ∷ ns) h =
    let f = λ (m : Need). not (m.buffer == r) || m.no_init in
    and_true (is_fresh_at r i n) (list_all (is_fresh_at r i) ns)
    (fresh_one (n.buffer == r) (nat_le n.from i && nat_lt i n.to) n.no_init (and_left (f n) (list_all f ns) h))
    (fresh_all r i ns (and_right (f n) (list_all f ns) h))

any_at : {A : Type 0} (g : A → Bool) (xs : List A) (k : ℕ) (x : A) → slice_get xs k ≡ Some x → g x ≡ true → list_any g xs ≡ true
any_at g [] k x e h = absurd cc
any_at g (y ∷ ys) zero x e h = ap (λ v. v || list_any g ys) (subst (λ z. g z ≡ true) (sym (some_is e)) h)
any_at g (y ∷ ys) (suc k) x e h = or_later (g y) (list_any g ys) (any_at g ys k x e h)

covered_cell : (n : Need) (r i count : ℕ) → (n.buffer == r && n.from == 0 && nat_le count n.to) ≡ true → (not (n.buffer == r) || n.no_init) ≡ true → writes_if_fresh n ≡ true → i < count → writes_at r i n ≡ true
unfolding has_cell
covered_cell n r i count h f w lt = grind (arith, nat_tests)

covered_written : (e : Entry) (r i count : ℕ) → list_all writes_if_fresh e.needs ≡ true → replaces e.needs r count ≡ true → i < count → is_written e.needs r i ≡ true
unfolding is_written replaces covers forgoes
covered_written e r i count honest h lt =
    let cover = λ (n : Need). n.buffer == r && n.from == 0 && nat_le count n.to in
    let fresh = λ (n : Need). not (n.buffer == r) || n.no_init in
    let a = among cover e.needs (and_left (list_any cover e.needs) (list_all fresh e.needs) h) in
    any_at (writes_at r i) e.needs a.place a.need a.at
    (covered_cell a.need r i count a.passes (all-at fresh e.needs a.place a.need (and_right (list_any cover e.needs) (list_all fresh e.needs) h) a.at) (all-at writes_if_fresh e.needs a.place a.need honest a.at) lt)

-- an element of a root that is replaced doesn't turn on its former number
replaced_cell : (e : Entry) (log : List (Cell × ℤ)) (r i count : ℕ) (x y : ℤ) → list_all writes_if_fresh e.needs ≡ true → replaces e.needs r count ≡ true → i < count → cell_after e.needs log r i x ≡ cell_after e.needs log r i y
unfolding cell_after at_start starts_zero replaces forgoes covers
replaced_cell e log r i count x y honest h lt =
    let cover = λ (n : Need). n.buffer == r && n.from == 0 && nat_le count n.to in
    let fresh = λ (n : Need). not (n.buffer == r) || n.no_init in
    let w = covered_written e r i count honest h lt in
    let z = fresh_all r i e.needs (and_right (list_any cover e.needs) (list_all fresh e.needs) h) in
    ap (λ t. if t then unwrap_or (logged log (cell.Buffer r i)) (if list_all (is_fresh_at r i) e.needs then pos 0 else x) else x) w
    ∙ ap (λ t. unwrap_or (logged log (cell.Buffer r i)) (if t then pos 0 else x)) z
    ∙ sym (ap (λ t. unwrap_or (logged log (cell.Buffer r i)) (if t then pos 0 else y)) z)
    ∙ sym (ap (λ t. if t then unwrap_or (logged log (cell.Buffer r i)) (if list_all (is_fresh_at r i) e.needs then pos 0 else y) else y) w)

-- ---- the version

from_start : (e : Entry) (log : List (Cell × ℤ)) (r : ℕ) (values : List ℤ) (copy : Option (List ℤ)) (v : Bool) → replaces e.needs r (length values) ≡ v → list_all writes_if_fresh e.needs ≡ true → (v ≡ false → copy ≡ Some values) → each_from (cell_after e.needs log r) 0 (if v then replicate (length values) (pos 0) else unwrap_or copy []) ≡ each_from (cell_after e.needs log r) 0 values
from_start e log r values copy true h honest has =
    each_alike (cell_after e.needs log r) 0 (replicate (length values) (pos 0)) values (length-zeros (length values))
    (λ i x y lt. replaced_cell e log r i (length values) x y honest h (let n = length-zeros (length values) in omega (arith, lt, n)))
from_start e log r values copy false h honest has = ap (λ o. each_from (cell_after e.needs log r) 0 (unwrap_or o [])) (has refl)

used_if : (e : Entry) (r count : ℕ) → makes e r ≡ true → replaces e.needs r count ≡ false → uses e r count ≡ true
unfolding makes uses renews
used_if e r count m h = ap (λ t. t && not (replaces e.needs r count)) (made_named r e.needs m) ∙ ap not h

pub version_is : (e : Entry) (log : List (Cell × ℤ)) (buffers : List Buffer) (r : ℕ) (copy : Option (List ℤ)) → list_all writes_if_fresh e.needs ≡ true → makes e r ≡ true → (uses e r (length (values_at buffers r)) ≡ true → copy ≡ Some (values_at buffers r)) → version e.needs log r (length (values_at buffers r)) copy ≡ values_at (buffers_after e.needs log buffers) r
unfolding version cells_after start_of
version_is e log buffers r copy honest m has =
    let values = values_at buffers r in
    let count = length values in
    from_start e log r values copy (replaces e.needs r count) refl honest (λ h. has (used_if e r count m h)) ∙ sym (board_values e.needs log buffers r)

-- ---- the needs of a sound board

fresh_writes : (buffers : List Buffer) (needs : List Need) → ((k : ℕ) (n : Need) → slice_get needs k ≡ Some n → IsHeld buffers n) → list_all writes_if_fresh needs ≡ true
fresh_writes buffers [] h = refl
fresh_writes buffers (n ∷ ns) h = and_true (writes_if_fresh n) (list_all writes_if_fresh ns) (h 0 n refl).honest (fresh_writes buffers ns (λ k m g. h (suc k) m g))

pub sound-fresh : (b : Board) (k : ℕ) (e : Entry) → IsSound b → slice_get b.entries k ≡ Some e → list_all writes_if_fresh e.needs ≡ true
sound-fresh b k e s g = fresh_writes b.buffers e.needs (λ j n at. All-at (IsHeld b.buffers) e.needs j n (stands_at b k e s g).held at)
