-- How many copies and nodes there are at most.
use Rattle.std.proofs.Common.{◌≡◌, ℕ, zero, suc, ◌+◌, ◌*◌, ◌<◌, ◌≤◌, Bool, true, false, List, [], ◌∷◌, length, Option, Some, None, sym, ap, ◌∙◌, subst, arith}
use Rattle.std.specs.Prelude.{◌&&◌, if◌then◌else◌, slice_get, All}
use Rattle.std.specs.List.{range_with_len, cons_option}
use Rattle.std.proofs.lemmas.Option.{same_Some}
use Rattle.std.proofs.lemmas.List.Elements.{All-cons, All-nil, All-head, All-tail}
use Rattle.std.proofs.lemmas.List.FromFn.{length-range_with_len}
use Rattle.sy_work.specs.declared.commands.Command.{Command}
use Rattle.sy_onecopy.specs.declared.Buffer.{Buffer}
use Rattle.sy_onecopy.specs.declared.Entry.{Entry}
use Rattle.sy_onecopy.specs.declared.Work.TheVariants.{Node}
use Rattle.sy_onecopy.specs.State.{Board}
use Rattle.sy_onecopy.specs.Copies.{has_pair, with_pair, uses, is_elsewhere, made_after, version_after, pairs_after, pairs_from, first_made, copies_of, copies_from, copies}
use Rattle.sy_sound.specs.Sound.{node_number, node_numbers, IsSound}

-- ---- copies

shorter : {A : Type 0} (t : Bool) (xs ys : List A) (n : ℕ) → length xs ≤ n → length ys ≤ n → length (if t then xs else ys) ≤ n
shorter true xs ys n a b = a
shorter false xs ys n a b = b

pairs_more : (pairs : List (ℕ × ℕ)) (x : ℕ × ℕ) → length (with_pair pairs x) ≤ suc (length pairs)
pairs_more pairs x = shorter (has_pair pairs x) pairs (x ∷ pairs) (suc (length pairs)) (omega arith) (omega arith)

after_more : (e : Entry) (r count version : ℕ) (made : Option ℕ) (pairs : List (ℕ × ℕ)) → length (pairs_after e r count version made pairs) ≤ suc (length pairs)
after_more e r count version made pairs =
    shorter (uses e r count && is_elsewhere made e.place) (with_pair pairs (version, e.place)) pairs (suc (length pairs)) (pairs_more pairs (version, e.place)) (omega arith)

pairs_few : (r count : ℕ) (es : List Entry) (version : ℕ) (made : Option ℕ) (pairs : List (ℕ × ℕ)) → length (pairs_from r count es version made pairs) ≤ length pairs + length es
pairs_few r count [] version made pairs = omega arith
pairs_few r count (e ∷ es) version made pairs =
    let rest = pairs_after e r count version made pairs in
    let a : length (pairs_from r count es (version_after e r version) (made_after e r made) rest) ≤ length rest + length es =
    pairs_few r count es (version_after e r version) (made_after e r made) rest in
    let b : length rest ≤ suc (length pairs) = after_more e r count version made pairs in
    omega (arith, a, b)

from_few : (es : List Entry) (r : ℕ) (xs : List Buffer) → copies_from es r xs ≤ length xs * length es
from_few es r [] = omega arith
from_few es r (x ∷ xs) =
    let a : copies_of es r x ≤ 0 + length es = pairs_few r (length x.values) es 0 (first_made x.origin) [] in
    let b : copies_from es (suc r) xs ≤ length xs * length es = from_few es (suc r) xs in
    omega (arith, a, b)

pub copies_few : (es : List Entry) (xs : List Buffer) → copies es xs ≤ length xs * length es
unfolding copies
copies_few es xs = from_few es 0 xs

-- ---- nodes

one_more : (o : Option ℕ) (xs : List ℕ) (n : ℕ) → length xs ≤ n → length (cons_option o xs) ≤ suc n
one_more None xs n h = omega (arith, h)
one_more (Some x) xs n h = omega (arith, h)

numbers_few : (es : List Entry) → length (node_numbers es) ≤ length es
unfolding node_numbers
numbers_few [] = omega arith
numbers_few (e ∷ es) = one_more (node_number e.work) _ (length es) (numbers_few es)

-- there are no more nodes than entries
pub nodes_few : (b : Board) → IsSound b → b.nodes ≤ length b.entries
nodes_few b s = omega (arith, numbers_few b.entries, ap length s.numbers, length-range_with_len 0 b.nodes)

in_range : (a n m : ℕ) → a + n ≤ m → All (λ k. k < m) (range_with_len a n)
in_range a zero m le = All-nil (λ k. k < m)
in_range a (suc n) m le = All-cons (λ k. k < m) a (range_with_len (a + 1) n) (omega (arith, le)) (in_range (a + 1) n m (omega (arith, le)))

first_of_all : (P : ℕ → Type 0) (o : Option ℕ) (xs : List ℕ) (n : ℕ) → o ≡ Some n → All P (cons_option o xs) → P n
first_of_all P None xs n e h = let z : None ≡ Some n = e in absurd cc
first_of_all P (Some m) xs n e h = subst P (same_Some m n e) (All-head P m xs h)

rest_of_all : (P : ℕ → Type 0) (o : Option ℕ) (xs : List ℕ) → All P (cons_option o xs) → All P xs
rest_of_all P None xs h = h
rest_of_all P (Some m) xs h = All-tail P m xs h

number_at : (P : ℕ → Type 0) (es : List Entry) (k n : ℕ) (e : Entry) → All P (node_numbers es) → slice_get es k ≡ Some e → node_number e.work ≡ Some n → P n
unfolding node_numbers
number_at P [] k n e h g w = let z : None ≡ Some e = g in absurd cc
number_at P (x ∷ es) zero n e h g w = first_of_all P (node_number x.work) _ n (ap (λ (y : Entry). node_number y.work) (same_Some x e g) ∙ w) h
number_at P (x ∷ es) (suc k) n e h g w = number_at P es k n e (rest_of_all P (node_number x.work) _ h) g w

-- a node's number is below the count of nodes
pub node_below : (b : Board) (k n q : ℕ) (e : Entry) (c : Command) → IsSound b → slice_get b.entries k ≡ Some e → e.work ≡ Node n q c → n < b.nodes
node_below b k n q e c s g w =
    number_at (λ m. m < b.nodes) b.entries k n e
    (subst (λ (l : List ℕ). All (λ m. m < b.nodes) l) (sym s.numbers) (in_range 0 b.nodes b.nodes (omega arith))) g (ap node_number w)
