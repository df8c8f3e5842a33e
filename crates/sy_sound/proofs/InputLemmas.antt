-- What a node is given fits its command.
use Rattle.std.proofs.Common.{◌≡◌, ℕ, suc, ◌+◌, ◌-◌, ◌<◌, ◌≤◌, ℤ, Bool, true, false, List, [], ◌∷◌, length, map, drop, Option, Some, None, refl, sym, ap, ◌∙◌, subst, arith}
use Rattle.std.specs.Prelude.{◌≢◌, ◌^◌, ◌&&◌, ◌==◌, not, nat_le, if◌then◌else◌, slice_get, option_map, All, AllPairs}
use Rattle.std.specs.List.{list_any}
use Rattle.std.proofs.lemmas.Option.{same_Some, slice_get-map, slice_get_within}
use Rattle.std.proofs.lemmas.Bool.{and_parts, and_from, or_parts, not-true, both_ways, ltb-true, leb-true, eqb-true, eq-eqb}
use Rattle.std.proofs.lemmas.List.{length-map, length-take, length-drop}
use Rattle.std.proofs.lemmas.List.Elements.{All-nil, All-cons, All-head, All-tail, All-map, All-weaker}
use Rattle.sy_access.specs.declared.access.Need.{Need}
use Rattle.sy_access.specs.Needs.{writes}
use Rattle.sy_work.specs.Programs.{Input}
use Rattle.sy_work.specs.Inputs.{number_in, Differ, Agree, HasPlaces, results_number, InputsFit}
use Rattle.sy_work.specs.declared.commands.Command.{Command}
use Rattle.sy_work.specs.declared.commands.Command.TheVariants.{Single, Plain, Nd, Fill, Copy, Reduce}
use Rattle.sy_onecopy.specs.declared.Buffer.{Buffer}
use Rattle.sy_onecopy.specs.declared.Entry.{Entry}
use Rattle.sy_onecopy.specs.declared.Work.TheVariants.{Node}
use Rattle.sy_onecopy.specs.State.{Board}
use Rattle.sy_onecopy.specs.Outcome.{values_at, values_of, run_of, input, inputs}
use Rattle.sy_needs.specs.Elements.{at_start}
use Rattle.sy_onecopy.specs.Step.{is_alike, are_different, is_cell_need, has_needs}
use Rattle.sy_sound.specs.Sound.{IsHeld, Suit, Stands, IsSound}
use Rattle.sy_sound.proofs.ListLemmas.{length-each_from, slice_get-each_from, slice_get-drop, some_by_take, All-at, AllPairs-cons, all_pairs_by}

-- ---- one input

abbrev AreSmall : List Buffer → Type 0
AreSmall buffers = All (λ (x : Buffer). length x.values ≤ 2 ^ 22) buffers

run_count : (values : List ℤ) (from to : ℕ) → from ≤ to → to ≤ length values → length (run_of values from to) ≡ to - from
unfolding run_of
run_count values from to up within = omega (arith, up, within, length-take (to - from) (drop from values), length-drop from values)

-- as many numbers as the need has elements
pub input_count : (buffers : List Buffer) (needs : List Need) (n : Need) → IsHeld buffers n → length (input buffers needs n).2 ≡ n.to - n.from
unfolding input
input_count buffers needs n h =
    let w : n.to ≤ length (values_at buffers n.buffer) = subst (λ (o : Option Buffer). n.to ≤ length (values_of o)) (sym h.there) h.within in
    length-each_from (at_start needs n.buffer) n.from (run_of (values_at buffers n.buffer) n.from n.to) ∙ run_count (values_at buffers n.buffer) n.from n.to h.up w

need_small : (buffers : List Buffer) (n : Need) → AreSmall buffers → IsHeld buffers n → n.to ≤ 2 ^ 22
need_small buffers n s h =
    let w : n.to ≤ length h.root.values = h.within in
    let l : length h.root.values ≤ 2 ^ 22 = All-at (λ (x : Buffer). length x.values ≤ 2 ^ 22) buffers n.buffer h.root s h.there in
    omega (arith, w, l)

input_small : (buffers : List Buffer) (needs : List Need) (n : Need) → AreSmall buffers → IsHeld buffers n → length (input buffers needs n).2 ≤ 2 ^ 22
input_small buffers needs n s h = omega (arith, input_count buffers needs n h, need_small buffers n s h)

input_start : (buffers : List Buffer) (needs : List Need) (n : Need) → (input buffers needs n).1 ≡ n.from
unfolding input
input_start buffers needs n = refl

input_root : (buffers : List Buffer) (needs : List Need) (n : Need) → (input buffers needs n).0 ≡ n.buffer
unfolding input
input_root buffers needs n = refl

input_ends : (buffers : List Buffer) (needs : List Need) (n : Need) → AreSmall buffers → IsHeld buffers n → (input buffers needs n).1 + length (input buffers needs n).2 ≤ 2 ^ 32
input_ends buffers needs n s h =
    let u : n.from ≤ n.to = h.up in omega (arith, input_count buffers needs n h, need_small buffers n s h, input_start buffers needs n, u)

-- ---- two inputs

alike_by : (n m : Need) → m.buffer ≡ n.buffer → m.from ≡ n.from → m.to ≡ n.to → is_alike n m ≡ true
alike_by n m a b c = and_from _ _ (eq-eqb m.buffer n.buffer a) (and_from _ _ (eq-eqb m.from n.from b) (eq-eqb m.to n.to c))

differ_one : (buffers : List Buffer) (needs : List Need) (n m : Need) → IsHeld buffers n → IsHeld buffers m → is_alike n m ≡ false → Differ (input buffers needs n) (input buffers needs m)
differ_one buffers needs n m h k f a b l =
    let u : n.from ≤ n.to = h.up in
    let v : m.from ≤ m.to = k.up in
    let c : m.buffer ≡ n.buffer = sym (sym (input_root buffers needs n) ∙ a ∙ input_root buffers needs m) in
    let d : m.from ≡ n.from = sym (sym (input_start buffers needs n) ∙ b ∙ input_start buffers needs m) in
    let e : n.to - n.from ≡ m.to - m.from = sym (input_count buffers needs n h) ∙ l ∙ input_count buffers needs m k in
    both_ways (is_alike n m) f (alike_by n m c d (omega arith))

differ_from : (buffers : List Buffer) (needs : List Need) (n : Need) (ns : List Need) → IsHeld buffers n → All (IsHeld buffers) ns → list_any (is_alike n) ns ≡ false → All (λ m. Differ (input buffers needs n) (input buffers needs m)) ns
differ_from buffers needs n [] h k f = All-nil (λ m. Differ (input buffers needs n) (input buffers needs m))
differ_from buffers needs n (m ∷ ms) h k f =
    let o = or_parts (is_alike n m) (list_any (is_alike n) ms) f in
    All-cons (λ m. Differ (input buffers needs n) (input buffers needs m)) m ms
    (differ_one buffers needs n m h (All-head (IsHeld buffers) m ms k) o.0)
    (differ_from buffers needs n ms h (All-tail (IsHeld buffers) m ms k) o.1)

inputs_differ : (buffers : List Buffer) (needs : List Need) (ns : List Need) → All (IsHeld buffers) ns → are_different ns ≡ true → AllPairs Differ (map (input buffers needs) ns)
inputs_differ buffers needs [] k f = λ i j d lt within. absurd (omega (arith, within))
inputs_differ buffers needs (n ∷ ns) k f =
    let a = and_parts (not (list_any (is_alike n) ns)) (are_different ns) f in
    let held = All-tail (IsHeld buffers) n ns k in
    AllPairs-cons Differ (input buffers needs n) (map (input buffers needs) ns)
    (All-map (Differ (input buffers needs n)) (input buffers needs) ns
    (differ_from buffers needs n ns (All-head (IsHeld buffers) n ns k) held (not-true (list_any (is_alike n) ns) a.0)))
    (inputs_differ buffers needs ns held a.1)

-- each number of an input is that of its element as the command starts
abbrev AsItStarts : List Buffer → List Need → Input → Type 0
AsItStarts buffers needs x = (root e : ℕ) (v : ℤ) → number_in x root e ≡ Some v → option_map (at_start needs root e) (slice_get (values_at buffers root) e) ≡ Some v

chosen : (t : Bool) (o : Option ℤ) (v : ℤ) → (if t then o else None) ≡ Some v → (t ≡ true) × (o ≡ Some v)
chosen true o v e = (refl, e)
chosen false o v e = let z : None ≡ Some v = e in absurd cc

mapped : (f : ℤ → ℤ) (o r : Option ℤ) (v : ℤ) → ((y : ℤ) → o ≡ Some y → r ≡ Some y) → option_map f o ≡ Some v → option_map f r ≡ Some v
mapped f None r v g e = let z : None ≡ Some v = e in cc
mapped f (Some y) r v g e = ap (option_map f) (g y refl) ∙ e

in_run : (values : List ℤ) (from to e : ℕ) (y : ℤ) → from ≤ e → slice_get (run_of values from to) (e - from) ≡ Some y → slice_get values e ≡ Some y
unfolding run_of
in_run values from to e y le h =
    ap (slice_get values) (let z : e ≡ from + (e - from) = omega (arith, le) in z) ∙ sym (slice_get-drop from values (e - from)) ∙ some_by_take (to - from) (drop from values) (e - from) y h

starts_by : (buffers : List Buffer) (needs : List Need) (n : Need) (e : ℕ) (v : ℤ) → n.from ≤ e → slice_get (input buffers needs n).2 (e - n.from) ≡ Some v → option_map (at_start needs n.buffer e) (slice_get (values_at buffers n.buffer) e) ≡ Some v
unfolding input
starts_by buffers needs n e v le h =
    let run = run_of (values_at buffers n.buffer) n.from n.to in
    let g : option_map (at_start needs n.buffer (n.from + (e - n.from))) (slice_get run (e - n.from)) ≡ Some v =
    sym (slice_get-each_from (at_start needs n.buffer) n.from run (e - n.from)) ∙ h in
    let k : option_map (at_start needs n.buffer e) (slice_get run (e - n.from)) ≡ Some v =
    ap (λ i. option_map (at_start needs n.buffer i) (slice_get run (e - n.from))) (let z : e ≡ n.from + (e - n.from) = omega (arith, le) in z) ∙ g in
    mapped (at_start needs n.buffer e) (slice_get run (e - n.from)) (slice_get (values_at buffers n.buffer) e) v
    (λ y s. in_run (values_at buffers n.buffer) n.from n.to e y le s) k

input_starts : (buffers : List Buffer) (needs : List Need) (n : Need) → AsItStarts buffers needs (input buffers needs n)
input_starts buffers needs n root e v h =
    let x = input buffers needs n in
    let a = chosen (x.0 == root && nat_le x.1 e) (slice_get x.2 (e - x.1)) v h in
    let b = and_parts (x.0 == root) (nat_le x.1 e) a.0 in
    let r : n.buffer ≡ root = sym (input_root buffers needs n) ∙ eqb-true x.0 root b.0 in
    let le : n.from ≤ e = omega (arith, leb-true x.1 e b.1, input_start buffers needs n) in
    let s : slice_get x.2 (e - n.from) ≡ Some v = ap (λ i. slice_get x.2 (e - i)) (sym (input_start buffers needs n)) ∙ a.1 in
    subst (λ (i : ℕ). option_map (at_start needs i e) (slice_get (values_at buffers i) e) ≡ Some v) r (starts_by buffers needs n e v le s)

agree_by : (buffers : List Buffer) (needs : List Need) (x y : Input) → AsItStarts buffers needs x → AsItStarts buffers needs y → Agree x y
agree_by buffers needs x y h k root e v w a b = same_Some v w (sym (h root e v a) ∙ k root e w b)

inputs_agree : (buffers : List Buffer) (needs ns : List Need) → AllPairs Agree (map (input buffers needs) ns)
inputs_agree buffers needs ns =
    all_pairs_by (AsItStarts buffers needs) Agree (agree_by buffers needs) (map (input buffers needs) ns)
    (All-map (AsItStarts buffers needs) (input buffers needs) ns (λ k d lt. input_starts buffers needs _))

-- ---- the places that a command names

buffer_below : (buffers : List Buffer) (n : Need) → IsHeld buffers n → n.buffer < length buffers
buffer_below buffers n h = slice_get_within buffers n.buffer h.root h.there

no_results : (buffers : List Buffer) (needs : List Need) (n : Need) → length buffers ≤ 2 ^ 24 → IsHeld buffers n → (input buffers needs n).0 ≢ results_number
no_results buffers needs n few h e = omega (arith, few, buffer_below buffers n h, input_root buffers needs n, e)

one_element : (buffers : List Buffer) (needs : List Need) (n : Need) → IsHeld buffers n → (writes n.mode && (n.to == suc n.from)) ≡ true → length (input buffers needs n).2 ≡ 1
one_element buffers needs n h t =
    let e : n.to ≡ suc n.from = eqb-true n.to (suc n.from) (and_parts (writes n.mode) (n.to == suc n.from) t).1 in
    omega (arith, e, input_count buffers needs n h)

cell_there : (buffers : List Buffer) (needs : List Need) (k : ℕ) (o : Option Need) → All (IsHeld buffers) needs → slice_get needs k ≡ o → is_cell_need o ≡ true → (x : Input) × (slice_get (map (input buffers needs) needs) k ≡ Some x) × (length x.2 ≡ 1)
cell_there buffers needs k None h e t = let z : false ≡ true = t in absurd cc
cell_there buffers needs k (Some n) h e t =
    (input buffers needs n, slice_get-map (input buffers needs) needs k ∙ ap (option_map (input buffers needs)) e, one_element buffers needs n (All-at (IsHeld buffers) needs k n h e) t)

place_there : (buffers : List Buffer) (needs : List Need) (k : ℕ) → k < length needs → k < length (map (input buffers needs) needs)
place_there buffers needs k lt = omega (arith, lt, length-map needs (input buffers needs))

places_there : (buffers : List Buffer) (needs : List Need) (c : Command) → length buffers ≤ 2 ^ 24 → All (IsHeld buffers) needs → has_needs needs c ≡ true → HasPlaces c (map (input buffers needs) needs)
unfolding has_needs
places_there buffers needs (Single kernel) few h t = tt
places_there buffers needs (Plain range kernel) few h t = tt
places_there buffers needs (Nd range kernel) few h t = tt
places_there buffers needs (Fill target num) few h t = place_there buffers needs target (ltb-true target (length needs) t)
places_there buffers needs (Copy source target) few h t =
    let a = and_parts _ _ t in
    (place_there buffers needs source (ltb-true source (length needs) a.0), place_there buffers needs target (ltb-true target (length needs) a.1))
places_there buffers needs (Reduce r) few h t = (
  cell_there buffers needs r.need (slice_get needs r.need) h refl t,
  All-map (λ (x : Input). x.0 ≢ results_number) (input buffers needs) needs
      (All-weaker (IsHeld buffers) (λ n. (input buffers needs n).0 ≢ results_number) (λ n k. no_results buffers needs n few k) needs h),
)

-- ---- the whole

pub fit_by : (buffers : List Buffer) (needs : List Need) (c : Command) → length buffers ≤ 2 ^ 24 → AreSmall buffers → All (IsHeld buffers) needs → are_different needs ≡ true → has_needs needs c ≡ true → InputsFit c (inputs buffers needs)
unfolding inputs
fit_by buffers needs c few s h d t = record {
  small = All-map (λ (x : Input). length x.2 ≤ 2 ^ 22) (input buffers needs) needs
      (All-weaker (IsHeld buffers) (λ n. length (input buffers needs n).2 ≤ 2 ^ 22) (λ n k. input_small buffers needs n s k) needs h);
  differ = inputs_differ buffers needs needs h d;
  agree = inputs_agree buffers needs needs;
  ends = All-map (λ (x : Input). x.1 + length x.2 ≤ 2 ^ 32) (input buffers needs) needs
      (All-weaker (IsHeld buffers) (λ n. (input buffers needs n).1 + length (input buffers needs n).2 ≤ 2 ^ 32) (λ n k. input_ends buffers needs n s k) needs h);
  places = places_there buffers needs c few h t;
}

pub stands_at : (b : Board) (k : ℕ) (e : Entry) → IsSound b → slice_get b.entries k ≡ Some e → Stands b.buffers b.nodes b.places e
stands_at b k e s g = All-at (Stands b.buffers b.nodes b.places) b.entries k e s.entries g

pub node_needs : (b : Board) (k n q : ℕ) (e : Entry) (c : Command) → IsSound b → slice_get b.entries k ≡ Some e → e.work ≡ Node n q c → has_needs e.needs c ≡ true
node_needs b k n q e c s g w = subst (Suit b.buffers e.needs) w (stands_at b k e s g).suits

pub node_fits : (b : Board) (k n q : ℕ) (e : Entry) (c : Command) → IsSound b → slice_get b.entries k ≡ Some e → e.work ≡ Node n q c → InputsFit c (inputs b.buffers e.needs)
node_fits b k n q e c s g w =
    let h = stands_at b k e s g in
    let few : length b.buffers ≤ b.steps = s.counts.buffers in
    let steps : b.steps ≤ 2 ^ 24 = s.counts.steps in
    fit_by b.buffers e.needs c (omega (arith, few, steps)) s.small h.held h.different (node_needs b k n q e c s g w)
