-- The count of copies, entry by entry.
use Rattle.std.proofs.Common.{◌≡◌, ℕ, suc, ◌+◌, ◌<◌, List, [], ◌∷◌, ◌++◌, length, map, Bool, true, false, Option, Some, refl, sym, ap, ◌∙◌, subst, arith}
use Rattle.std.specs.Prelude.{slice_get, not, ◌&&◌, ◌||◌, ◌==◌, if◌then◌else◌}
use Rattle.std.proofs.lemmas.Bool.Decides.{nat_tests}
use Rattle.sy_onecopy.specs.declared.Entry.{Entry}
use Rattle.sy_onecopy.specs.declared.Buffer.{Buffer}
use Rattle.sy_onecopy.specs.declared.Origin.{Origin}
use Rattle.sy_onecopy.specs.declared.Stage.TheVariants.{Pending}
use Rattle.sy_onecopy.specs.Settle.{with_stage}
use Rattle.sy_onecopy.specs.State.{Board}
use Rattle.sy_onecopy.specs.Copies.{makes, names, uses, is_elsewhere, has_pair, with_pair, made_after, made_from, version_after, version_from, pairs_after, pairs_from, first_made, copies_of, copies_from, copies}
use Rattle.sy_needs.specs.Versions.{replaces}
use Rattle.sy_settling.specs.Orderly.{IsAlike, shape}
use Rattle.sy_onecopy.proofs.RunLemmas.{one_more_pair}
use Rattle.sy_coreboard.specs.Tally.{is_counted, needs_copy, adds, adds_from}

-- ---- one more entry

pub made_more : (r : ℕ) (es : List Entry) (e : Entry) (m : Option ℕ) → made_from r (es ++ e ∷ []) m ≡ made_after e r (made_from r es m)
made_more r [] e m = refl
made_more r (x ∷ es) e m = made_more r es e (made_after x r m)

version_more : (r : ℕ) (es : List Entry) (e : Entry) (v : ℕ) → version_from r (es ++ e ∷ []) v ≡ version_after e r (version_from r es v)
version_more r [] e v = refl
version_more r (x ∷ es) e v = version_more r es e (version_after x r v)

-- ---- pairs

abbrev same : ℕ × ℕ → ℕ × ℕ → Bool
same x y = x.0 == y.0 && x.1 == y.1

same_here : (y x z : ℕ × ℕ) → same x z ≡ true → same y x ≡ same y z
same_here y x z h = let a : x.0 ≡ z.0 = grind (arith, nat_tests) in let b : x.1 ≡ z.1 = grind (arith, nat_tests) in ap (λ i. y.0 == i && y.1 == x.1) a ∙ ap (λ i. y.0 == z.0 && y.1 == i) b

has_same : (ps : List (ℕ × ℕ)) (x z : ℕ × ℕ) → same x z ≡ true → has_pair ps x ≡ has_pair ps z
has_same [] x z h = refl
has_same (y ∷ ps) x z h = ap (λ v. v || has_pair ps x) (same_here y x z h) ∙ ap (λ v. same y z || v) (has_same ps x z h)

or_end : (a b : Bool) → (b ≡ true → a ≡ true) → a ≡ (a || b)
or_end true b h = refl
or_end false true h = absurd (let z = h refl in cc)
or_end false false h = refl

or_swap : (a b : Bool) → (a || b) ≡ (b || a)
or_swap true true = refl
or_swap true false = refl
or_swap false true = refl
or_swap false false = refl

has_with : (ps : List (ℕ × ℕ)) (x z : ℕ × ℕ) (v : Bool) → has_pair ps x ≡ v → has_pair (if v then ps else x ∷ ps) z ≡ (has_pair ps z || same x z)
has_with ps x z true h = or_end (has_pair ps z) (same x z) (λ k. sym (has_same ps x z k) ∙ h)
has_with ps x z false h = or_swap (same x z) (has_pair ps z)

has_after : (e : Entry) (r count version : ℕ) (made : Option ℕ) (ps : List (ℕ × ℕ)) (z : ℕ × ℕ) (t : Bool) → has_pair (if t then with_pair ps (version, e.place) else ps) z ≡ (has_pair ps z || (t && same (version, e.place) z))
has_after e r count version made ps z true = has_with ps (version, e.place) z (has_pair ps (version, e.place)) refl
has_after e r count version made ps z false = or_end (has_pair ps z) false (λ k. absurd cc)

-- no pair is of a later version
abbrev NoLater : List (ℕ × ℕ) → ℕ → Type 0
NoLater ps version = (n p : ℕ) → version < n → has_pair ps (n, p) ≡ false

earlier : (version place n p : ℕ) (t : Bool) → version < n → (t && same (version, place) (n, p)) ≡ false
earlier version place n p true h = let k : (version == n) ≡ false = grind (arith, nat_tests) in ap (λ v. v && place == p) k
earlier version place n p false h = refl

at_least : (b : Bool) (version n : ℕ) → (if b then suc version else version) < n → version < n
at_least true version n h = omega arith
at_least false version n h = h

later_after : (e : Entry) (r count version : ℕ) (made : Option ℕ) (ps : List (ℕ × ℕ)) → NoLater ps version → NoLater (pairs_after e r count version made ps) (version_after e r version)
later_after e r count version made ps h n p lt =
    let t = uses e r count && is_elsewhere made e.place in
    let below : version < n = at_least (makes e r) version n lt in
    has_after e r count version made ps (n, p) t ∙ ap (λ v. v || (t && same (version, e.place) (n, p))) (h n p below) ∙ earlier version e.place n p t below

later_from : (r count : ℕ) (es : List Entry) (v : ℕ) (m : Option ℕ) (ps : List (ℕ × ℕ)) → NoLater ps v → NoLater (pairs_from r count es v m ps) (version_from r es v)
later_from r count [] v m ps h = h
later_from r count (e ∷ es) v m ps h = later_from r count es (version_after e r v) (made_after e r m) (pairs_after e r count v m ps) (later_after e r count v m ps h)

-- ---- laws

counted_if : (t b : Bool) (version place p : ℕ) (ps : List (ℕ × ℕ)) → NoLater ps version → ((n : ℕ) → (has_pair ps (n, p) || (t && same (version, place) (n, p))) ≡ (has_pair ps (n, p) || (t && same (version, place) (n, p)))) → (has_pair ps (if b then suc version else version, p) || (t && same (version, place) (if b then suc version else version, p))) ≡ (if b then false else (has_pair ps (version, p) || (t && place == p)))
counted_if t true version place p ps h k = ap (λ v. v || (t && same (version, place) (suc version, p))) (h (suc version) p (omega arith)) ∙ earlier version place (suc version) p t (omega arith)
counted_if t false version place p ps h k = let e : (version == version) ≡ true = grind (arith, nat_tests) in ap (λ v. has_pair ps (version, p) || (t && (v && place == p))) e

pub counted_more : (es : List Entry) (r : ℕ) (x : Buffer) (e : Entry) (p : ℕ) → is_counted (es ++ e ∷ []) r x p ≡ (if makes e r then false else (is_counted es r x p || (needs_copy es r x e && e.place == p)))
counted_more es r x e p =
    let count = length x.values in
    let first = first_made x.origin in
    let ps = pairs_from r count es 0 first [] in
    let version = version_from r es 0 in
    let made = made_from r es first in
    let t = uses e r count && is_elsewhere made e.place in
    ap (λ l. has_pair l (version_from r (es ++ e ∷ []) 0, p)) (one_more_pair r count es e 0 first [])
    ∙ ap (λ n. has_pair (pairs_after e r count version made ps) (n, p)) (version_more r es e 0)
    ∙ has_after e r count version made ps (version_after e r version, p) t
    ∙ counted_if t (makes e r) version e.place p ps (later_from r count es 0 first [] (λ n q lt. refl)) (λ n. refl)

length_with : (ps : List (ℕ × ℕ)) (x : ℕ × ℕ) (v t : Bool) → length (if t then (if v then ps else x ∷ ps) else ps) ≡ length ps + (if t && not v then 1 else 0)
length_with ps x true true = omega arith
length_with ps x false true = omega arith
length_with ps x true false = omega arith
length_with ps x false false = omega arith

pub copies_of-more : (es : List Entry) (r : ℕ) (x : Buffer) (e : Entry) → copies_of (es ++ e ∷ []) r x ≡ copies_of es r x + adds es r x e
copies_of-more es r x e =
    let count = length x.values in
    let first = first_made x.origin in
    let ps = pairs_from r count es 0 first [] in
    let version = version_from r es 0 in
    ap length (one_more_pair r count es e 0 first [])
    ∙ length_with ps (version, e.place) (has_pair ps (version, e.place)) (uses e r count && is_elsewhere (made_from r es first) e.place)

sums : (a b c d : ℕ) → (a + b) + (c + d) ≡ (a + c) + (b + d)
sums a b c d = omega arith

from_more : (es : List Entry) (e : Entry) (r : ℕ) (xs : List Buffer) → copies_from (es ++ e ∷ []) r xs ≡ copies_from es r xs + adds_from es e r xs
from_more es e r [] = refl
from_more es e r (x ∷ xs) =
    ap (λ n. n + copies_from (es ++ e ∷ []) (suc r) xs) (copies_of-more es r x e)
    ∙ ap (λ n. (copies_of es r x + adds es r x e) + n) (from_more es e (suc r) xs)
    ∙ sums (copies_of es r x) (adds es r x e) (copies_from es (suc r) xs) (adds_from es e (suc r) xs)

pub copies-more : (es : List Entry) (e : Entry) (xs : List Buffer) → copies (es ++ e ∷ []) xs ≡ copies es xs + adds_from es e 0 xs
unfolding copies
copies-more es e xs = from_more es e 0 xs

-- an entry adds nothing for a buffer that it doesn't name
pub adds_none : (es : List Entry) (r : ℕ) (x : Buffer) (e : Entry) → names e r ≡ false → adds es r x e ≡ 0
unfolding uses
adds_none es r x e h = ap (λ v. if ((v && not (replaces e.needs r (length x.values))) && is_elsewhere (made_from r es (first_made x.origin)) e.place) && not (is_counted es r x e.place) then 1 else 0) h

-- ---- one more buffer

-- no entry names the buffer
abbrev pub NoneNames : List Entry → ℕ → Type 0
NoneNames es r = (k : ℕ) (e : Entry) → slice_get es k ≡ Some e → names e r ≡ false

pairs_none : (r count : ℕ) (es : List Entry) (v : ℕ) (m : Option ℕ) (ps : List (ℕ × ℕ)) → NoneNames es r → pairs_from r count es v m ps ≡ ps
unfolding uses
pairs_none r count [] v m ps h = refl
pairs_none r count (e ∷ es) v m ps h =
    ap (λ t. pairs_from r count es (version_after e r v) (made_after e r m) (if (t && not (replaces e.needs r count)) && is_elsewhere m e.place then with_pair ps (v, e.place) else ps)) (h 0 e refl)
    ∙ pairs_none r count es (version_after e r v) (made_after e r m) ps (λ k x g. h (suc k) x g)

from_buffer : (es : List Entry) (r : ℕ) (xs : List Buffer) (x : Buffer) → copies_from es r (xs ++ x ∷ []) ≡ copies_from es r xs + copies_of es (r + length xs) x
from_buffer es r [] x = ap (λ i. copies_of es i x + 0) (let e : r ≡ r + 0 = omega arith in e) ∙ (let n : copies_of es (r + 0) x + 0 ≡ 0 + copies_of es (r + 0) x = omega arith in n)
from_buffer es r (y ∷ ys) x =
    ap (λ n. copies_of es r y + n) (from_buffer es (suc r) ys x)
    ∙ ap (λ i. copies_of es r y + (copies_from es (suc r) ys + copies_of es i x)) (let e : suc r + length ys ≡ r + suc (length ys) = omega arith in e)
    ∙ (let n : copies_of es r y + (copies_from es (suc r) ys + copies_of es (r + suc (length ys)) x) ≡ (copies_of es r y + copies_from es (suc r) ys) + copies_of es (r + suc (length ys)) x = omega arith in n)

pub copies-buffer : (es : List Entry) (xs : List Buffer) (x : Buffer) → NoneNames es (length xs) → copies es (xs ++ x ∷ []) ≡ copies es xs
unfolding copies
copies-buffer es xs x h =
    from_buffer es 0 xs x
    ∙ ap (λ n. copies_from es 0 xs + n) (ap length (pairs_none (0 + length xs) (length x.values) es 0 (first_made x.origin) [] (subst (NoneNames es) (let e : length xs ≡ 0 + length xs = omega arith in e) h)))
    ∙ (let n : copies_from es 0 xs + 0 ≡ copies_from es 0 xs = omega arith in n)

-- ---- boards that are alike

staged_pairs : (r count : ℕ) (es : List Entry) (v : ℕ) (m : Option ℕ) (ps : List (ℕ × ℕ)) → pairs_from r count (map (with_stage Pending) es) v m ps ≡ pairs_from r count es v m ps
unfolding makes uses
staged_pairs r count [] v m ps = refl
staged_pairs r count (e ∷ es) v m ps = staged_pairs r count es (version_after e r v) (made_after e r m) (pairs_after e r count v m ps)

alike_entries : (es fs : List Entry) (r count : ℕ) (o : Origin) → map (with_stage Pending) es ≡ map (with_stage Pending) fs → length (pairs_from r count es 0 (first_made o) []) ≡ length (pairs_from r count fs 0 (first_made o) [])
alike_entries es fs r count o h =
    ap length (sym (staged_pairs r count es 0 (first_made o) []) ∙ ap (λ l. pairs_from r count l 0 (first_made o) []) h ∙ staged_pairs r count fs 0 (first_made o) [])

abbrev by_shape : List Entry → ℕ → ℕ × Origin × Bool → ℕ
by_shape es r s = length (pairs_from r s.0 es 0 (first_made s.1) [])

from_shapes : List Entry → ℕ → List (ℕ × Origin × Bool) → ℕ
from_shapes es r [] = 0
from_shapes es r (s ∷ ss) = by_shape es r s + from_shapes es (suc r) ss

shapes_are : (es : List Entry) (r : ℕ) (xs : List Buffer) → copies_from es r xs ≡ from_shapes es r (map shape xs)
unfolding from_shapes
shapes_are es r [] = refl
shapes_are es r (x ∷ xs) = ap (λ n. copies_of es r x + n) (shapes_are es (suc r) xs)

shapes_alike : (es fs : List Entry) (r : ℕ) (ss : List (ℕ × Origin × Bool)) → map (with_stage Pending) es ≡ map (with_stage Pending) fs → from_shapes es r ss ≡ from_shapes fs r ss
unfolding from_shapes
shapes_alike es fs r [] h = refl
shapes_alike es fs r (s ∷ ss) h =
    ap (λ n. n + from_shapes es (suc r) ss) (alike_entries es fs r s.0 s.1 h) ∙ ap (λ n. by_shape fs r s + n) (shapes_alike es fs (suc r) ss h)

-- stages and elements don't matter
pub copies-alike : (b c : Board) → IsAlike b c → copies b.entries b.buffers ≡ copies c.entries c.buffers
unfolding copies
copies-alike b c h =
    shapes_are b.entries 0 b.buffers
    ∙ ap (from_shapes b.entries 0) h.buffers
    ∙ shapes_alike b.entries c.entries 0 (map shape c.buffers) h.entries
    ∙ sym (shapes_are c.entries 0 c.buffers)
