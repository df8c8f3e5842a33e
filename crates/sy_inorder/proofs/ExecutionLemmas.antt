-- Executions of entries, in another order and over other buffers.
use Rattle.std.proofs.Common.{◌≡◌, ℕ, zero, suc, ◌+◌, ◌<◌, ◌≤◌, ℤ, List, [], ◌∷◌, ◌++◌, length, take, drop, Bool, true, false, Option, Some, None, refl, sym, ap, ◌∙◌, subst, arith}
use Rattle.std.specs.Prelude.{slice_get, not, ◌&&◌, if◌then◌else◌, option_map}
use Rattle.std.specs.List.{list_any}
use Rattle.std.proofs.lemmas.Option.{same_Some, none-some}
use Rattle.std.proofs.lemmas.Bool.Decides.{nat_tests}
use Rattle.sy_access.specs.declared.access.Need.{Need}
use Rattle.sy_access.specs.Needs.{has_cell, writes}
use Rattle.sy_work.specs.Programs.{OutcomeOf, Input}
use Rattle.sy_onecopy.specs.declared.Buffer.{Buffer}
use Rattle.sy_onecopy.specs.declared.Entry.{Entry}
use Rattle.sy_onecopy.specs.declared.Work.{Work}
use Rattle.sy_onecopy.specs.declared.Stage.{Stage}
use Rattle.sy_onecopy.specs.Each.{changed_at}
use Rattle.sy_needs.specs.Each.{each_from}
use Rattle.sy_onecopy.specs.Before.{meet, is_done}
use Rattle.sy_onecopy.specs.Outcome.{inputs, run_of, values_at, values_of}
use Rattle.sy_needs.specs.Elements.{is_written, writes_at}
use Rattle.sy_onecopy.specs.Settle.{with_stage}
use Rattle.sy_inorder.specs.Sequential.{after_work, numbers_of, some_has, element, Execution, execute_one, execute, is_over, is_any}
use Rattle.sy_inorder.proofs.BoolLemmas.{or_false}
use Rattle.sy_inorder.proofs.ListLemmas.{get_front}
use Rattle.sy_inorder.proofs.AskLemmas.{AreNamed}
use Rattle.sy_inorder.proofs.ElementLemmas.{CellChange, over, over_one, one_kept, values_over, cell_by, after-over, after-swap, after-left, by_spares, same_inputs}

-- an execution includes none but the entries that pass
abbrev pub tale : OutcomeOf → (ℕ → List ℤ) → (Entry → Bool) → Execution
tale out given includes = record { out = out; given = given; includes = includes }

abbrev pub is_open : Entry → Bool
is_open e = not (is_done e.stage)

-- each entry that is included has this property
abbrev pub EachIncluded : Execution → List Entry → (Entry → Type 0) → Type 0
EachIncluded s es P = (j : ℕ) (y : Entry) → slice_get es j ≡ Some y → s.includes y ≡ true → P y

included_by : (v : Bool) (s : Execution) (k : ℕ) (x y : Entry) (given : List ℤ) (bs : List Buffer) → s.includes y ≡ v → (s.includes y ≡ true → meet x y ≡ false) → (if v then after_work s.out (s.given k) y.needs y.work (after_work s.out given x.needs x.work bs) else after_work s.out given x.needs x.work bs) ≡ after_work s.out given x.needs x.work (if v then after_work s.out (s.given k) y.needs y.work bs else bs)
included_by true s k x y given bs e h = sym (after-swap s.out given (s.given k) x y bs (h e))
included_by false s k x y given bs e h = refl

-- an entry that meets none of those included may come first or last
pub pushed : (s : Execution) (k : ℕ) (es : List Entry) (x : Entry) (given : List ℤ) (bs : List Buffer) → EachIncluded s es (λ y. meet x y ≡ false) → execute s k es (after_work s.out given x.needs x.work bs) ≡ after_work s.out given x.needs x.work (execute s k es bs)
pushed s k [] x given bs h = refl
pushed s k (y ∷ es) x given bs h =
    ap (execute s (suc k) es) (included_by (s.includes y) s k x y given bs refl (h 0 y refl))
    ∙ pushed s (suc k) es x given (execute_one s k y bs) (λ j z g t. h (suc j) z g t)

-- no entry that is done meets an open one before it
abbrev pub Ordered : List Entry → Type 0
Ordered es = (i j : ℕ) (x y : Entry) → i < j → slice_get es i ≡ Some x → slice_get es j ≡ Some y → is_done x.stage ≡ false → is_done y.stage ≡ true → meet x y ≡ false

parted_by : (v : Bool) (out : OutcomeOf) (given : ℕ → List ℤ) (k : ℕ) (x : Entry) (es : List Entry) (bs : List Buffer) → is_done x.stage ≡ v → Ordered (x ∷ es) → ((cs : List Buffer) → execute (tale out given is_any) (suc k) es cs ≡ execute (tale out given is_open) (suc k) es (execute (tale out given is_over) (suc k) es cs)) → execute (tale out given is_any) (suc k) es (after_work out (given k) x.needs x.work bs) ≡ execute (tale out given is_open) (suc k) es (if not v then after_work out (given k) x.needs x.work (execute (tale out given is_over) (suc k) es (if v then after_work out (given k) x.needs x.work bs else bs)) else execute (tale out given is_over) (suc k) es (if v then after_work out (given k) x.needs x.work bs else bs))
parted_by true out given k x es bs e h more = more (after_work out (given k) x.needs x.work bs)
parted_by false out given k x es bs e h more =
    more (after_work out (given k) x.needs x.work bs)
    ∙ ap (execute (tale out given is_open) (suc k) es) (pushed (tale out given is_over) (suc k) es x (given k) bs (λ j y g t. h 0 (suc j) x y (omega arith) refl g e t))

-- the execution of all is that of the done ones, and then that of the open ones
pub parted : (out : OutcomeOf) (given : ℕ → List ℤ) (k : ℕ) (es : List Entry) (bs : List Buffer) → Ordered es → execute (tale out given is_any) k es bs ≡ execute (tale out given is_open) k es (execute (tale out given is_over) k es bs)
parted out given k [] bs h = refl
parted out given k (x ∷ es) bs h =
    parted_by (is_done x.stage) out given k x es bs refl h (λ cs. parted out given (suc k) es cs (λ i j y z lt a b c d. h (suc i) (suc j) y z (omega (arith, lt)) a b c d))

-- ---- what a execution leaves as it is

get_each : (f : ℕ → ℤ → ℤ) (k : ℕ) (xs : List ℤ) (i : ℕ) → slice_get (each_from f k xs) i ≡ option_map (f (k + i)) (slice_get xs i)
get_each f k [] i = refl
get_each f k (x ∷ xs) zero = ap (λ j. Some (f j x)) (let e : k ≡ k + 0 = omega arith in e)
get_each f k (x ∷ xs) (suc i) = get_each f (suc k) xs i ∙ ap (λ j. option_map (f j) (slice_get xs i)) (let e : suc k + i ≡ k + suc i = omega arith in e)

pub element-over : (f : CellChange) (bs : List Buffer) (b i : ℕ) → element (over f bs) b i ≡ option_map (f b i) (element bs b i)
element-over f bs b i =
    ap (λ l. slice_get l i) (values_over f bs b) ∙ get_each (f b) 0 (values_at bs b) i ∙ ap (λ j. option_map (f b j) (element bs b i)) (let e : 0 + i ≡ i = omega arith in e)

map_same : (f : ℤ → ℤ) (o : Option ℤ) → ((v : ℤ) → f v ≡ v) → option_map f o ≡ o
map_same f None h = refl
map_same f (Some v) h = ap Some (h v)

element-left : (out : OutcomeOf) (given : List ℤ) (x : Entry) (bs : List Buffer) (b i : ℕ) → is_written x.needs b i ≡ false → element (after_work out given x.needs x.work bs) b i ≡ element bs b i
element-left out given x bs b i h =
    let f = cell_by out given x.needs x.work (inputs bs x.needs) in
    ap (λ l. element l b i) (after-over out given x.needs x.work bs) ∙ element-over f bs b i ∙ map_same (f b i) (element bs b i) (λ v. by_spares out given x.needs x.work (inputs bs x.needs) b i v h)

element_by : (v : Bool) (s : Execution) (k : ℕ) (x : Entry) (bs : List Buffer) (b i : ℕ) → (v ≡ true → is_written x.needs b i ≡ false) → element (if v then after_work s.out (s.given k) x.needs x.work bs else bs) b i ≡ element bs b i
element_by true s k x bs b i h = element-left s.out (s.given k) x bs b i (h refl)
element_by false s k x bs b i h = refl

pub execute-element : (s : Execution) (k : ℕ) (es : List Entry) (bs : List Buffer) (b i : ℕ) → EachIncluded s es (λ y. is_written y.needs b i ≡ false) → element (execute s k es bs) b i ≡ element bs b i
execute-element s k [] bs b i h = refl
execute-element s k (x ∷ es) bs b i h =
    execute-element s (suc k) es (execute_one s k x bs) b i (λ j y g t. h (suc j) y g t) ∙ element_by (s.includes x) s k x bs b i (h 0 x refl)

inputs_by : (v : Bool) (s : Execution) (k : ℕ) (x : Entry) (bs : List Buffer) (ns : List Need) → (v ≡ true → (b i : ℕ) → some_has ns b i ≡ true → is_written x.needs b i ≡ false) → inputs (if v then after_work s.out (s.given k) x.needs x.work bs else bs) ns ≡ inputs bs ns
inputs_by true s k x bs ns h = after-left s.out (s.given k) x ns bs (h refl)
inputs_by false s k x bs ns h = refl

pub execute-inputs : (s : Execution) (k : ℕ) (es : List Entry) (bs : List Buffer) (ns : List Need) → EachIncluded s es (λ y. (b i : ℕ) → some_has ns b i ≡ true → is_written y.needs b i ≡ false) → inputs (execute s k es bs) ns ≡ inputs bs ns
execute-inputs s k [] bs ns h = refl
execute-inputs s k (x ∷ es) bs ns h =
    execute-inputs s (suc k) es (execute_one s k x bs) ns (λ j y g t. h (suc j) y g t) ∙ inputs_by (s.includes x) s k x bs ns (h 0 x refl)

-- ---- parts of a execution

pub cut : (s : Execution) (j k : ℕ) (es : List Entry) (bs : List Buffer) → execute s j es bs ≡ execute s (j + k) (drop k es) (execute s j (take k es) bs)
cut s j zero es bs = ap (λ m. execute s m es bs) (let e : j ≡ j + 0 = omega arith in e)
cut s j (suc k) [] bs = refl
cut s j (suc k) (x ∷ es) bs =
    cut s (suc j) k es (execute_one s j x bs) ∙ ap (λ m. execute s m (drop k es) (execute s (suc j) (take k es) (execute_one s j x bs))) (let e : suc j + k ≡ j + suc k = omega arith in e)

pub one_more : (s : Execution) (k : ℕ) (es : List Entry) (e : Entry) (bs : List Buffer) → execute s k (es ++ e ∷ []) bs ≡ execute_one s (k + length es) e (execute s k es bs)
one_more s k [] e bs = ap (λ m. execute_one s m e bs) (let z : k ≡ k + 0 = omega arith in z)
one_more s k (x ∷ es) e bs =
    one_more s (suc k) es e (execute_one s k x bs) ∙ ap (λ m. execute_one s m e (execute s (suc k) es (execute_one s k x bs))) (let z : suc k + length es ≡ k + suc (length es) = omega arith in z)

-- ---- an entry that changes its stage

-- only what the entries of the execution were given counts
pub same_given : (out : OutcomeOf) (g h : ℕ → List ℤ) (includes : Entry → Bool) (k : ℕ) (es : List Entry) (bs : List Buffer) → ((j : ℕ) → k ≤ j → h j ≡ g j) → execute (tale out h includes) k es bs ≡ execute (tale out g includes) k es bs
same_given out g h includes k [] bs e = refl
same_given out g h includes k (x ∷ es) bs e =
    ap (λ v. execute (tale out h includes) (suc k) es (if includes x then after_work out v x.needs x.work bs else bs)) (e k (omega arith))
    ∙ same_given out g h includes (suc k) es (execute_one (tale out g includes) k x bs) (λ j l. e j (omega (arith, l)))

pub still_open : (out : OutcomeOf) (g : ℕ → List ℤ) (b k : ℕ) (es : List Entry) (e : Entry) (s : Stage) (bs : List Buffer) → slice_get es k ≡ Some e → is_done e.stage ≡ false → is_done s ≡ false → execute (tale out g is_over) b (changed_at (with_stage s) k es) bs ≡ execute (tale out g is_over) b es bs
still_open out g b k [] e s bs at d t = absurd (none-some e at)
still_open out g b zero (x ∷ es) e s bs at d t =
    ap (λ v. execute (tale out g is_over) (suc b) es (if v then after_work out (g b) x.needs x.work bs else bs)) (t ∙ sym d ∙ ap (λ y. is_done y.stage) (sym (same_Some x e at)))
still_open out g b (suc k) (x ∷ es) e s bs at d t = still_open out g (suc b) k es e s (execute_one (tale out g is_over) b x bs) at d t

pub now_done : (out : OutcomeOf) (g h : ℕ → List ℤ) (b k : ℕ) (es : List Entry) (e : Entry) (s : Stage) (bs : List Buffer) → slice_get es k ≡ Some e → is_done e.stage ≡ false → is_done s ≡ true → ((j : ℕ) → (j ≡ b + k → ⊥) → h j ≡ g j) → ((j : ℕ) (y : Entry) → k < j → slice_get es j ≡ Some y → is_done y.stage ≡ true → meet e y ≡ false) → execute (tale out h is_over) b (changed_at (with_stage s) k es) bs ≡ after_work out (h (b + k)) e.needs e.work (execute (tale out g is_over) b es bs)
now_done out g h b k [] e s bs at d t same apart = absurd (none-some e at)
now_done out g h b zero (x ∷ es) e s bs at d t same apart =
    let x_is : x ≡ e = same_Some x e at in
    let here : b ≡ b + 0 = omega arith in
    let open_x : is_done x.stage ≡ false = ap (λ y. is_done y.stage) x_is ∙ d in
    ap (λ v. execute (tale out h is_over) (suc b) es (if v then after_work out (h b) x.needs x.work bs else bs)) t
    ∙ same_given out g h is_over (suc b) es (after_work out (h b) x.needs x.work bs) (λ j l. same j (λ q. omega (arith, l, q)))
    ∙ ap (λ y. execute (tale out g is_over) (suc b) es (after_work out (h b) y.needs y.work bs)) x_is
    ∙ pushed (tale out g is_over) (suc b) es e (h b) bs (λ j y i v. apart (suc j) y (omega arith) i v)
    ∙ ap (λ m. after_work out (h m) e.needs e.work (execute (tale out g is_over) (suc b) es bs)) here
    ∙ ap (λ v. after_work out (h (b + 0)) e.needs e.work (execute (tale out g is_over) (suc b) es (if v then after_work out (g b) x.needs x.work bs else bs))) (sym open_x)
now_done out g h b (suc k) (x ∷ es) e s bs at d t same apart =
    let place : suc b + k ≡ b + suc k = omega arith in
    ap (λ v. execute (tale out h is_over) (suc b) (changed_at (with_stage s) k es) (if is_done x.stage then after_work out v x.needs x.work bs else bs)) (same b (λ q. omega (arith, q)))
    ∙ now_done out g h (suc b) k es e s (execute_one (tale out g is_over) b x bs) at d t (λ j n. same j (λ q. n (omega (arith, q)))) (λ j y l i v. apart (suc j) y (omega (arith, l)) i v)
    ∙ ap (λ m. after_work out (h m) e.needs e.work (execute (tale out g is_over) (suc b) es (execute_one (tale out g is_over) b x bs))) place

-- ---- over buffers of the same numbers

row_of : Option (List ℤ) → List ℤ
row_of None = []
row_of (Some l) = l

row_at : (bs : List Buffer) (r : ℕ) → values_at bs r ≡ row_of (slice_get (numbers_of bs) r)
unfolding row_of
row_at [] r = refl
row_at (x ∷ bs) zero = refl
row_at (x ∷ bs) (suc r) = row_at bs r

pub same_rows : (bs cs : List Buffer) → numbers_of bs ≡ numbers_of cs → (r : ℕ) → values_at bs r ≡ values_at cs r
same_rows bs cs h r = row_at bs r ∙ ap (λ l. row_of (slice_get l r)) h ∙ sym (row_at cs r)

pub same_needs : (bs cs : List Buffer) (ns : List Need) → numbers_of bs ≡ numbers_of cs → inputs bs ns ≡ inputs cs ns
same_needs bs cs ns h = same_inputs bs cs ns (λ k n g. ap (λ l. run_of l n.from n.to) (same_rows bs cs h n.buffer))

numbers_from : (f : CellChange) (k : ℕ) (bs : List Buffer) → numbers_of (each_from (over_one f) k bs) ≡ each_from (λ b l. each_from (f b) 0 l) k (numbers_of bs)
numbers_from f k [] = refl
numbers_from f k (x ∷ bs) = ap (λ l. each_from (f k) 0 x.values ∷ l) (numbers_from f (suc k) bs)

pub same_after : (out : OutcomeOf) (given : List ℤ) (needs : List Need) (w : Work) (bs cs : List Buffer) → numbers_of bs ≡ numbers_of cs → numbers_of (after_work out given needs w bs) ≡ numbers_of (after_work out given needs w cs)
same_after out given needs w bs cs h =
    let f = λ (i : List Input). cell_by out given needs w i in
    ap numbers_of (after-over out given needs w bs)
    ∙ ap (λ i. numbers_of (over (f i) bs)) (same_needs bs cs needs h)
    ∙ numbers_from (f (inputs cs needs)) 0 bs
    ∙ ap (each_from (λ b l. each_from (f (inputs cs needs) b) 0 l) 0) h
    ∙ sym (numbers_from (f (inputs cs needs)) 0 cs)
    ∙ sym (ap numbers_of (after-over out given needs w cs))

-- ---- over one more buffer

length_each : {A : Type 0} (f : ℕ → A → A) (k : ℕ) (xs : List A) → length (each_from f k xs) ≡ length xs
length_each f k [] = refl
length_each f k (x ∷ xs) = ap suc (length_each f (suc k) xs)

pub length_after : (out : OutcomeOf) (given : List ℤ) (needs : List Need) (w : Work) (bs : List Buffer) → length (after_work out given needs w bs) ≡ length bs
length_after out given needs w bs = ap length (after-over out given needs w bs) ∙ length_each (over_one (cell_by out given needs w (inputs bs needs))) 0 bs

pub row_after : (out : OutcomeOf) (given : List ℤ) (needs : List Need) (w : Work) (bs : List Buffer) (r : ℕ) → length (values_at (after_work out given needs w bs) r) ≡ length (values_at bs r)
row_after out given needs w bs r =
    let f = cell_by out given needs w (inputs bs needs) in
    ap (λ l. length (values_at l r)) (after-over out given needs w bs) ∙ ap length (values_over f bs r) ∙ length_each (f r) 0 (values_at bs r)

each_more : {A : Type 0} (f : ℕ → A → A) (k : ℕ) (xs : List A) (x : A) → each_from f k (xs ++ x ∷ []) ≡ each_from f k xs ++ f (k + length xs) x ∷ []
each_more f k [] x = ap (λ j. f j x ∷ []) (let e : k ≡ k + 0 = omega arith in e)
each_more f k (y ∷ xs) x = ap (λ l. f k y ∷ l) (each_more f (suc k) xs x ∙ ap (λ j. each_from f (suc k) xs ++ f j x ∷ []) (let e : suc k + length xs ≡ k + suc (length xs) = omega arith in e))

not_there : (n : Need) (b i : ℕ) → n.buffer < b → has_cell n b i ≡ false
unfolding has_cell
not_there n b i h = grind (arith, nat_tests)

named_spare : (needs : List Need) (count i : ℕ) → AreNamed count needs → is_written needs count i ≡ false
unfolding AreNamed is_written
named_spare [] count i h = refl
named_spare (n ∷ ns) count i h =
    or_false (has_cell n count i && writes n.mode) (list_any (writes_at count i) ns) (ap (λ v. v && writes n.mode) (not_there n count i h.0)) (named_spare ns count i h.1)

pub named_at : (needs : List Need) (count k : ℕ) (n : Need) → AreNamed count needs → slice_get needs k ≡ Some n → n.buffer < count
unfolding AreNamed
named_at [] count k n h g = absurd (none-some n g)
named_at (m ∷ ns) count zero n h g = subst (λ z. z.buffer < count) (same_Some m n g) h.0
named_at (m ∷ ns) count (suc k) n h g = named_at ns count k n h.1 g

pub wider_rows : (bs : List Buffer) (x : Buffer) (r : ℕ) → r < length bs → values_at (bs ++ x ∷ []) r ≡ values_at bs r
wider_rows bs x r h = ap values_of (get_front bs x r h)

pub wider_inputs : (bs : List Buffer) (x : Buffer) (needs : List Need) → AreNamed (length bs) needs → inputs (bs ++ x ∷ []) needs ≡ inputs bs needs
wider_inputs bs x needs h = same_inputs (bs ++ x ∷ []) bs needs (λ k n g. ap (λ l. run_of l n.from n.to) (wider_rows bs x n.buffer (named_at needs (length bs) k n h g)))

after_wider : (out : OutcomeOf) (given : List ℤ) (needs : List Need) (w : Work) (bs : List Buffer) (x : Buffer) → AreNamed (length bs) needs → after_work out given needs w (bs ++ x ∷ []) ≡ after_work out given needs w bs ++ x ∷ []
after_wider out given needs w bs x h =
    let f = cell_by out given needs w (inputs bs needs) in
    after-over out given needs w (bs ++ x ∷ [])
    ∙ ap (λ i. over (cell_by out given needs w i) (bs ++ x ∷ [])) (wider_inputs bs x needs h)
    ∙ each_more (over_one f) 0 bs x
    ∙ ap (λ j. over f bs ++ over_one f j x ∷ []) (let e : 0 + length bs ≡ length bs = omega arith in e)
    ∙ ap (λ y. over f bs ++ y ∷ []) (one_kept f (length bs) x (λ i v. by_spares out given needs w (inputs bs needs) (length bs) i v (named_spare needs (length bs) i h)))
    ∙ ap (λ l. l ++ x ∷ []) (sym (after-over out given needs w bs))

wider_by : (v : Bool) (s : Execution) (k : ℕ) (e : Entry) (bs : List Buffer) (x : Buffer) → AreNamed (length bs) e.needs → (if v then after_work s.out (s.given k) e.needs e.work (bs ++ x ∷ []) else bs ++ x ∷ []) ≡ (if v then after_work s.out (s.given k) e.needs e.work bs else bs) ++ x ∷ []
wider_by true s k e bs x h = after_wider s.out (s.given k) e.needs e.work bs x h
wider_by false s k e bs x h = refl

pub length_by : (v : Bool) (s : Execution) (k : ℕ) (e : Entry) (bs : List Buffer) → length (if v then after_work s.out (s.given k) e.needs e.work bs else bs) ≡ length bs
length_by true s k e bs = length_after s.out (s.given k) e.needs e.work bs
length_by false s k e bs = refl

-- a buffer that no entry names stands beside the execution
pub wider_execute : (s : Execution) (k : ℕ) (es : List Entry) (bs : List Buffer) (x : Buffer) → ((j : ℕ) (e : Entry) → slice_get es j ≡ Some e → AreNamed (length bs) e.needs) → execute s k es (bs ++ x ∷ []) ≡ execute s k es bs ++ x ∷ []
wider_execute s k [] bs x h = refl
wider_execute s k (e ∷ es) bs x h =
    ap (execute s (suc k) es) (wider_by (s.includes e) s k e bs x (h 0 e refl))
    ∙ wider_execute s (suc k) es (execute_one s k e bs) x (λ j d g. subst (λ n. AreNamed n d.needs) (sym (length_by (s.includes e) s k e bs)) (h (suc j) d g))
