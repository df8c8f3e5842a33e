-- An entry as a change of elements.
use Rattle.std.proofs.Common.{◌≡◌, ℕ, zero, suc, ◌+◌, ◌-◌, ◌<◌, ◌≤◌, ℤ, List, [], ◌∷◌, take, drop, map, Bool, true, false, Some, refl, sym, ap, ◌∙◌, arith}
use Rattle.std.specs.Prelude.{slice_get, slice_index_or, ◌&&◌, ◌||◌, if◌then◌else◌, unwrap_or}
use Rattle.std.specs.List.{list_any}
use Rattle.std.proofs.lemmas.Bool.Decides.{nat_tests}
use Rattle.std.proofs.lemmas.Option.{same_Some, none-some}
use Rattle.sy_access.specs.declared.access.Need.{Need}
use Rattle.sy_access.specs.declared.cells.Cell.{Cell}
use Rattle.sy_access.specs.declared.cells.Cell.TheVariants as cell
use Rattle.sy_access.specs.Needs.{has_cell, conflict, is_apart, writes}
use Rattle.sy_access.specs.Logs.{logged}
use Rattle.sy_work.specs.Programs.{OutcomeOf, Input}
use Rattle.sy_onecopy.specs.declared.Buffer.{Buffer}
use Rattle.sy_onecopy.specs.declared.Entry.{Entry}
use Rattle.sy_onecopy.specs.declared.Work.{Work}
use Rattle.sy_onecopy.specs.declared.Work.TheVariants.{Node, Access, End}
use Rattle.sy_needs.specs.Each.{each_from}
use Rattle.sy_onecopy.specs.Before.{meet}
use Rattle.sy_needs.specs.Order.{meets_one}
use Rattle.sy_onecopy.specs.Outcome.{buffer_after, buffers_after, inputs, input, run_of, values_at}
use Rattle.sy_needs.specs.Elements.{is_written, writes_at, at_start, cell_after}
use Rattle.sy_onecopy.specs.Step.{cell_put, buffer_put}
use Rattle.sy_inorder.specs.Sequential.{log_of, put, after_work, some_has}
use Rattle.sy_inorder.proofs.BoolLemmas.{or_left, or_right, or_false, turned_round}

-- what happens to element i of buffer b
abbrev pub CellChange : Type 0
CellChange = ℕ → ℕ → ℤ → ℤ

abbrev pub kept : CellChange
kept b i v = v

abbrev pub over_one : CellChange → ℕ → Buffer → Buffer
over_one f b x = record x { values = each_from (f b) 0 x.values }

-- the change of all elements of all buffers
abbrev pub over : CellChange → List Buffer → List Buffer
over f bs = each_from (over_one f) 0 bs

each_from-id : {A : Type 0} (f : ℕ → A → A) (k : ℕ) (xs : List A) → ((i : ℕ) (x : A) → f i x ≡ x) → each_from f k xs ≡ xs
each_from-id f k [] h = refl
each_from-id f k (x ∷ xs) h = ap (λ y. y ∷ each_from f (suc k) xs) (h k x) ∙ ap (λ l. x ∷ l) (each_from-id f (suc k) xs h)

pub each_from-swap : {A : Type 0} (f g : ℕ → A → A) → ((i : ℕ) (x : A) → f i (g i x) ≡ g i (f i x)) → (k : ℕ) (xs : List A) → each_from f k (each_from g k xs) ≡ each_from g k (each_from f k xs)
each_from-swap f g h k [] = refl
each_from-swap f g h k (x ∷ xs) = ap (λ y. y ∷ each_from f (suc k) (each_from g (suc k) xs)) (h k x) ∙ ap (λ l. g k (f k x) ∷ l) (each_from-swap f g h (suc k) xs)

with_values : Buffer → List ℤ → Buffer
with_values x l = record x { values = l }

pub one_kept : (f : CellChange) (b : ℕ) (x : Buffer) → ((i : ℕ) (v : ℤ) → f b i v ≡ v) → over_one f b x ≡ x
unfolding with_values
one_kept f b x h = ap (with_values x) (each_from-id (f b) 0 x.values h)

pub over-kept : (bs : List Buffer) → over kept bs ≡ bs
over-kept bs = each_from-id (over_one kept) 0 bs (λ b x. one_kept kept b x (λ i v. refl))

-- ---- what an entry does to elements

pub cell_put_first : List Need → List ℤ → CellChange
cell_put_first [] values = kept
cell_put_first (n ∷ ns) values = if writes n.mode then cell_put n values else kept

pub cell_by : OutcomeOf → List ℤ → List Need → Work → List Input → CellChange
cell_by out values needs (Node n q c) given = cell_after needs (log_of (out c given))
cell_by out values needs (Access t i) given = cell_put_first needs values
cell_by out values needs (End t r) given = kept

put-over : (v : Bool) (n : Need) (values : List ℤ) (bs : List Buffer) → (if v then each_from (buffer_put n values) 0 bs else bs) ≡ over (if v then cell_put n values else kept) bs
unfolding buffer_put
put-over true n values bs = refl
put-over false n values bs = sym (over-kept bs)

pub after-over : (out : OutcomeOf) (values : List ℤ) (needs : List Need) (w : Work) (bs : List Buffer) → after_work out values needs w bs ≡ over (cell_by out values needs w (inputs bs needs)) bs
unfolding after_work cell_by buffers_after buffer_after put cell_put_first
after-over out values needs (Node n q c) bs = refl
after-over out values [] (Access t i) bs = sym (over-kept bs)
after-over out values (n ∷ ns) (Access t i) bs = put-over (writes n.mode) n values bs
after-over out values needs (End t r) bs = sym (over-kept bs)

-- an element that no need writes stays
abbrev pub Spares : CellChange → List Need → Type 0
Spares f needs = (b i : ℕ) (v : ℤ) → is_written needs b i ≡ false → f b i v ≡ v

unwritten : (a b : Bool) → b ≡ true → (a && b) ≡ false → a ≡ false
unwritten false b w h = refl
unwritten true b w h = let z : true ≡ false = sym w ∙ h in absurd cc

put_one : (n : Need) (values : List ℤ) (b i : ℕ) (x : ℤ) → has_cell n b i ≡ false → cell_put n values b i x ≡ x
unfolding cell_put
put_one n values b i x h = ap (λ c. if c then slice_index_or values (i - n.from) x else x) h

put_spares : (v : Bool) (n : Need) (ns : List Need) (values : List ℤ) → writes n.mode ≡ v → Spares (if v then cell_put n values else kept) (n ∷ ns)
unfolding is_written
put_spares true n ns values w b i x h =
    put_one n values b i x (unwritten (has_cell n b i) (writes n.mode) w (or_left (has_cell n b i && writes n.mode) (list_any (writes_at b i) ns) h))
put_spares false n ns values w b i x h = refl

pub cell_spares : (needs : List Need) (log : List (Cell × ℤ)) → Spares (cell_after needs log) needs
unfolding cell_after
cell_spares needs log b i x h = ap (λ t. if t then unwrap_or (logged log (cell.Buffer b i)) (at_start needs b i x) else x) h

pub by_spares : (out : OutcomeOf) (values : List ℤ) (needs : List Need) (w : Work) (given : List Input) → Spares (cell_by out values needs w given) needs
unfolding cell_by cell_put_first
by_spares out values needs (Node n q c) given b i x h = cell_spares needs (log_of (out c given)) b i x h
by_spares out values [] (Access t k) given b i x h = refl
by_spares out values (n ∷ ns) (Access t k) given b i x h = put_spares (writes n.mode) n ns values refl b i x h
by_spares out values needs (End t r) given b i x h = refl

-- ---- entries that do not meet

hit_free : (a b : Need) (r i : ℕ) → has_cell a r i ≡ true → conflict a b ≡ false → writes_at r i b ≡ false
unfolding has_cell conflict
hit_free a b r i h c = grind (arith, nat_tests)

hit_free_by : (a b : Need) (r i : ℕ) → writes_at r i a ≡ true → conflict a b ≡ false → has_cell b r i ≡ false
unfolding has_cell conflict
hit_free_by a b r i h c = grind (arith, nat_tests)

others_spare : (a : Need) (p q : ℕ) (ys : List Need) (r i : ℕ) → has_cell a r i ≡ true → list_any (meets_one a p q) ys ≡ false → list_any (writes_at r i) ys ≡ false
others_spare a p q [] r i h m = refl
others_spare a p q (y ∷ ys) r i h m =
    let c : conflict a y ≡ false = or_left (conflict a y) (is_apart a p y q) (or_left (meets_one a p q y) (list_any (meets_one a p q) ys) m) in
    or_false (writes_at r i y) (list_any (writes_at r i) ys) (hit_free a y r i h c) (others_spare a p q ys r i h (or_right (meets_one a p q y) (list_any (meets_one a p q) ys) m))

others_lack : (a : Need) (p q : ℕ) (ys : List Need) (r i : ℕ) → writes_at r i a ≡ true → list_any (meets_one a p q) ys ≡ false → list_any (λ n. has_cell n r i) ys ≡ false
others_lack a p q [] r i h m = refl
others_lack a p q (y ∷ ys) r i h m =
    let c : conflict a y ≡ false = or_left (conflict a y) (is_apart a p y q) (or_left (meets_one a p q y) (list_any (meets_one a p q) ys) m) in
    or_false (has_cell y r i) (list_any (λ n. has_cell n r i) ys) (hit_free_by a y r i h c) (others_lack a p q ys r i h (or_right (meets_one a p q y) (list_any (meets_one a p q) ys) m))

-- the first passes the test, or one of the rest does
first_or_rest : (a b c : Bool) → (a || b) ≡ true → (a ≡ true → c ≡ false) → (b ≡ true → c ≡ false) → c ≡ false
first_or_rest true b c h f g = f refl
first_or_rest false b c h f g = g h

none_written : (xs : List Need) (p q : ℕ) (ys : List Need) (r i : ℕ) → list_any (λ a. list_any (meets_one a p q) ys) xs ≡ false → list_any (λ n. has_cell n r i) xs ≡ true → list_any (writes_at r i) ys ≡ false
none_written [] p q ys r i m h = let z : false ≡ true = h in absurd cc
none_written (x ∷ xs) p q ys r i m h =
    first_or_rest (has_cell x r i) (list_any (λ n. has_cell n r i) xs) (list_any (writes_at r i) ys) h
    (λ g. others_spare x p q ys r i g (or_left (list_any (meets_one x p q) ys) (list_any (λ a. list_any (meets_one a p q) ys) xs) m))
    (λ g. none_written xs p q ys r i (or_right (list_any (meets_one x p q) ys) (list_any (λ a. list_any (meets_one a p q) ys) xs) m) g)

none_had : (xs : List Need) (p q : ℕ) (ys : List Need) (r i : ℕ) → list_any (λ a. list_any (meets_one a p q) ys) xs ≡ false → list_any (writes_at r i) xs ≡ true → list_any (λ n. has_cell n r i) ys ≡ false
none_had [] p q ys r i m h = let z : false ≡ true = h in absurd cc
none_had (x ∷ xs) p q ys r i m h =
    first_or_rest (writes_at r i x) (list_any (writes_at r i) xs) (list_any (λ n. has_cell n r i) ys) h
    (λ g. others_lack x p q ys r i g (or_left (list_any (meets_one x p q) ys) (list_any (λ a. list_any (meets_one a p q) ys) xs) m))
    (λ g. none_had xs p q ys r i (or_right (list_any (meets_one x p q) ys) (list_any (λ a. list_any (meets_one a p q) ys) xs) m) g)

-- of two entries that do not meet, neither writes an element that the other has
pub later_spares : (x y : Entry) (b i : ℕ) → meet x y ≡ false → some_has x.needs b i ≡ true → is_written y.needs b i ≡ false
unfolding meet some_has is_written
later_spares x y b i m h = none_written x.needs x.place y.place y.needs b i m h

pub earlier_spares : (x y : Entry) (b i : ℕ) → meet x y ≡ false → some_has y.needs b i ≡ true → is_written x.needs b i ≡ false
unfolding meet some_has is_written
earlier_spares x y b i m h = turned_round (list_any (writes_at b i) x.needs) (list_any (λ n. has_cell n b i) y.needs) (none_had x.needs x.place y.place y.needs b i m) h

had_first : (a b c d : Bool) → ((a && b) || c) ≡ true → (c ≡ true → d ≡ true) → (a || d) ≡ true
had_first true b c d h f = refl
had_first false b c d h f = f h

pub written_is_had : (needs : List Need) (b i : ℕ) → is_written needs b i ≡ true → some_has needs b i ≡ true
unfolding is_written some_has
written_is_had [] b i h = h
written_is_had (n ∷ ns) b i h = had_first (has_cell n b i) (writes n.mode) (list_any (writes_at b i) ns) (list_any (λ m. has_cell m b i) ns) h (written_is_had ns b i)

-- ---- the numbers that an entry is given

-- an element that a need has stays
abbrev pub Leaves : CellChange → List Need → Type 0
Leaves f needs = (b i : ℕ) (v : ℤ) → some_has needs b i ≡ true → f b i v ≡ v

each_from-drop : {A : Type 0} (f : ℕ → A → A) (k m : ℕ) (xs : List A) → drop m (each_from f k xs) ≡ each_from f (k + m) (drop m xs)
each_from-drop f k zero xs = ap (λ j. each_from f j xs) (let e : k ≡ k + 0 = omega arith in e)
each_from-drop f k (suc m) [] = refl
each_from-drop f k (suc m) (x ∷ xs) = each_from-drop f (suc k) m xs ∙ ap (λ j. each_from f j (drop m xs)) (let e : suc k + m ≡ k + suc m = omega arith in e)

each_from-fixed : {A : Type 0} (f : ℕ → A → A) (k n : ℕ) (xs : List A) → ((i : ℕ) (x : A) → k ≤ i → i < k + n → f i x ≡ x) → take n (each_from f k xs) ≡ take n xs
each_from-fixed f k zero xs h = refl
each_from-fixed f k (suc n) [] h = refl
each_from-fixed f k (suc n) (x ∷ xs) h =
    ap (λ y. y ∷ take n (each_from f (suc k) xs)) (h k x (omega arith) (omega arith))
    ∙ ap (λ l. x ∷ l) (each_from-fixed f (suc k) n xs (λ i y a b. h i y (omega arith) (omega arith)))

run_of-fixed : (f : ℕ → ℤ → ℤ) (from to : ℕ) (xs : List ℤ) → ((i : ℕ) (x : ℤ) → from ≤ i → i < to → f i x ≡ x) → run_of (each_from f 0 xs) from to ≡ run_of xs from to
unfolding run_of
run_of-fixed f from to xs h =
    ap (take (to - from)) (each_from-drop f 0 from xs ∙ ap (λ j. each_from f j (drop from xs)) (let e : 0 + from ≡ from = omega arith in e))
    ∙ each_from-fixed f from (to - from) (drop from xs) (λ i x a b. h i x a (omega arith))

values_from : (f : CellChange) (k : ℕ) (bs : List Buffer) (r : ℕ) → values_at (each_from (over_one f) k bs) r ≡ each_from (f (k + r)) 0 (values_at bs r)
values_from f k [] r = refl
values_from f k (x ∷ xs) zero = ap (λ j. each_from (f j) 0 x.values) (let e : k ≡ k + 0 = omega arith in e)
values_from f k (x ∷ xs) (suc r) = values_from f (suc k) xs r ∙ ap (λ j. each_from (f j) 0 (values_at xs r)) (let e : suc k + r ≡ k + suc r = omega arith in e)

pub values_over : (f : CellChange) (bs : List Buffer) (r : ℕ) → values_at (over f bs) r ≡ each_from (f r) 0 (values_at bs r)
values_over f bs r = values_from f 0 bs r ∙ ap (λ j. each_from (f j) 0 (values_at bs r)) (let e : 0 + r ≡ r = omega arith in e)

in_need : (n : Need) (i : ℕ) → n.from ≤ i → i < n.to → has_cell n n.buffer i ≡ true
unfolding has_cell
in_need n i a b = grind (arith, nat_tests)

-- the runs of all needs
abbrev pub SameRuns : List Buffer → List Buffer → List Need → Type 0
SameRuns bs cs ns = (k : ℕ) (n : Need) → slice_get ns k ≡ Some n → run_of (values_at bs n.buffer) n.from n.to ≡ run_of (values_at cs n.buffer) n.from n.to

map_input : (bs cs : List Buffer) (all ns : List Need) → SameRuns bs cs ns → map (input bs all) ns ≡ map (input cs all) ns
unfolding input
map_input bs cs all [] h = refl
map_input bs cs all (n ∷ ns) h =
    ap (λ l. (n.buffer, n.from, each_from (at_start all n.buffer) n.from l) ∷ map (input bs all) ns) (h 0 n refl)
    ∙ ap (λ l. input cs all n ∷ l) (map_input bs cs all ns (λ k m g. h (suc k) m g))

pub same_inputs : (bs cs : List Buffer) (needs : List Need) → SameRuns bs cs needs → inputs bs needs ≡ inputs cs needs
unfolding inputs
same_inputs bs cs needs h = map_input bs cs needs needs h

or_true_left : (a b : Bool) → a ≡ true → (a || b) ≡ true
or_true_left a b h = ap (λ x. x || b) h

or_true_right : (a b : Bool) → b ≡ true → (a || b) ≡ true
or_true_right true b h = refl
or_true_right false b h = h

has_by : (ns : List Need) (k : ℕ) (n : Need) (b i : ℕ) → slice_get ns k ≡ Some n → has_cell n b i ≡ true → list_any (λ m. has_cell m b i) ns ≡ true
has_by [] k n b i g h = absurd (none-some n g)
has_by (m ∷ ns) zero n b i g h = or_true_left (has_cell m b i) (list_any (λ m. has_cell m b i) ns) (ap (λ z. has_cell z b i) (same_Some m n g) ∙ h)
has_by (m ∷ ns) (suc k) n b i g h = or_true_right (has_cell m b i) (list_any (λ m. has_cell m b i) ns) (has_by ns k n b i g h)

pub left_inputs : (f : CellChange) (bs : List Buffer) (needs : List Need) → Leaves f needs → inputs (over f bs) needs ≡ inputs bs needs
unfolding some_has
left_inputs f bs needs h =
    same_inputs (over f bs) bs needs (λ k n g.
    ap (λ l. run_of l n.from n.to) (values_over f bs n.buffer)
    ∙ run_of-fixed (f n.buffer) n.from n.to (values_at bs n.buffer) (λ i x a b. h n.buffer i x (has_by needs k n n.buffer i g (in_need n i a b))))

-- ---- entries that do not meet commute

cell-swap : (f g : CellChange) (xs ys : List Need) → Spares f xs → Spares g ys → ((b i : ℕ) → is_written xs b i ≡ true → is_written ys b i ≡ false) → (b i : ℕ) (v : ℤ) → f b i (g b i v) ≡ g b i (f b i v)
cell-swap f g xs ys h k m b i v = by_side (is_written xs b i) refl
  where
    by_side : (s : Bool) → is_written xs b i ≡ s → f b i (g b i v) ≡ g b i (f b i v)
    by_side true e = ap (f b i) (k b i v (m b i e)) ∙ sym (k b i (f b i v) (m b i e))
    by_side false e = h b i (g b i v) e ∙ ap (g b i) (sym (h b i v e))

over-swap : (f g : CellChange) → ((b i : ℕ) (v : ℤ) → f b i (g b i v) ≡ g b i (f b i v)) → (bs : List Buffer) → over f (over g bs) ≡ over g (over f bs)
unfolding with_values
over-swap f g h bs = each_from-swap (over_one f) (over_one g) (λ b x. ap (with_values x) (each_from-swap (f b) (g b) (h b) 0 x.values)) 0 bs

pub after-left : (out : OutcomeOf) (v : List ℤ) (x : Entry) (ys : List Need) (bs : List Buffer) → ((b i : ℕ) → some_has ys b i ≡ true → is_written x.needs b i ≡ false) → inputs (after_work out v x.needs x.work bs) ys ≡ inputs bs ys
after-left out v x ys bs h =
    let f = cell_by out v x.needs x.work (inputs bs x.needs) in
    ap (λ l. inputs l ys) (after-over out v x.needs x.work bs) ∙ left_inputs f bs ys (λ b i w g. by_spares out v x.needs x.work (inputs bs x.needs) b i w (h b i g))

pub after-swap : (out : OutcomeOf) (u v : List ℤ) (x y : Entry) (bs : List Buffer) → meet x y ≡ false → after_work out u x.needs x.work (after_work out v y.needs y.work bs) ≡ after_work out v y.needs y.work (after_work out u x.needs x.work bs)
after-swap out u v x y bs m =
    let f = λ (given : List Input). cell_by out u x.needs x.work given in
    let g = λ (given : List Input). cell_by out v y.needs y.work given in
    let cs = after_work out v y.needs y.work bs in
    let ds = after_work out u x.needs x.work bs in
    let one : inputs cs x.needs ≡ inputs bs x.needs = after-left out v y x.needs bs (λ b i h. later_spares x y b i m h) in
    let two : inputs ds y.needs ≡ inputs bs y.needs = after-left out u x y.needs bs (λ b i h. earlier_spares x y b i m h) in
    after-over out u x.needs x.work cs
    ∙ ap (λ i. over (f i) cs) one
    ∙ ap (λ l. over (f (inputs bs x.needs)) l) (after-over out v y.needs y.work bs)
    ∙ over-swap (f (inputs bs x.needs)) (g (inputs bs y.needs)) (cell-swap (f (inputs bs x.needs)) (g (inputs bs y.needs)) x.needs y.needs (by_spares out u x.needs x.work (inputs bs x.needs)) (by_spares out v y.needs y.work (inputs bs y.needs)) (λ b i h. later_spares x y b i m (written_is_had x.needs b i h))) bs
    ∙ ap (λ l. over (g (inputs bs y.needs)) l) (sym (after-over out u x.needs x.work bs))
    ∙ ap (λ i. over (g i) ds) (sym two)
    ∙ sym (after-over out v y.needs y.work ds)
