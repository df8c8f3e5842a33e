-- Entries that only read are not before one another.
use Rattle.std.proofs.Common.{◌≡◌, ℕ, List, [], ◌∷◌, Bool, true, false, Option, Some, None, refl, ap, ◌∙◌, arith}
use Rattle.std.specs.Prelude.{◌&&◌, ◌||◌, not}
use Rattle.std.specs.List.{list_any, list_all}
use Rattle.sy_access.specs.declared.access.Need.{Need}
use Rattle.sy_access.specs.Needs.{conflict, is_apart, writes}
use Rattle.sy_onecopy.specs.declared.Entry.{Entry}
use Rattle.sy_onecopy.specs.Before.{meet, before, is_named, blocks, is_held, is_done}
use Rattle.sy_needs.specs.Order.{meets_one, meets, both_on}
use Rattle.sy_inorder.specs.Reading.{only_reads, lets_read, all_let_read, all_keep_off, follows, follows_none}
use Rattle.sy_inorder.proofs.BoolLemmas.{and_first, and_second, and_true, not_true, or_false}

none_writes : (a b : Need) (p q : ℕ) → writes a.mode ≡ false → writes b.mode ≡ false → meets_one a p q b ≡ false
unfolding conflict is_apart
none_writes a b p q h i = grind (arith, h, i)

meets_none : (a : Need) (p q : ℕ) (ys : List Need) → writes a.mode ≡ false → list_all (λ n. not (writes n.mode)) ys ≡ true → list_any (meets_one a p q) ys ≡ false
meets_none a p q [] h i = refl
meets_none a p q (y ∷ ys) h i =
    let r = list_all (λ n. not (writes n.mode)) ys in
    or_false (meets_one a p q y) (list_any (meets_one a p q) ys) (none_writes a y p q h (not_true (writes y.mode) (and_first (not (writes y.mode)) r i))) (meets_none a p q ys h (and_second (not (writes y.mode)) r i))

all_meet_none : (xs ys : List Need) (p : ℕ) (y : Entry) → y.needs ≡ ys → list_all (λ n. not (writes n.mode)) xs ≡ true → list_all (λ n. not (writes n.mode)) ys ≡ true → list_any (λ a. meets a p y.needs y.place) xs ≡ false
all_meet_none [] ys p y e h i = refl
all_meet_none (x ∷ xs) ys p y e h i =
    let r = list_all (λ n. not (writes n.mode)) xs in
    let first : list_any (meets_one x p y.place) y.needs ≡ false = ap (list_any (meets_one x p y.place)) e ∙ meets_none x p y.place ys (not_true (writes x.mode) (and_first (not (writes x.mode)) r h)) i in
    or_false (meets x p y.needs y.place) (list_any (λ a. meets a p y.needs y.place) xs) first (all_meet_none xs ys p y e (and_second (not (writes x.mode)) r h) i)

pub readers_meet : (x y : Entry) → only_reads x.needs ≡ true → only_reads y.needs ≡ true → meet x y ≡ false
unfolding only_reads meet
readers_meet x y h i = all_meet_none x.needs y.needs x.place y refl h i

pub readers_before : (x y : Entry) → only_reads x.needs ≡ true → only_reads y.needs ≡ true → before x y ≡ follows y x
unfolding before
readers_before x y h i = ap (λ v. v || (is_named x.work y.after || both_on x.in_order y.in_order)) (readers_meet x y h i)

not_blocks : (x y : Entry) (v : Bool) → is_done x.stage ≡ v → (v || not (meet x y)) ≡ true → (v || not (follows y x)) ≡ true → blocks y x ≡ false
unfolding blocks before
not_blocks x y true d h g = ap (λ v. not v && before x y) d
not_blocks x y false d h g = ap (λ v. not v && before x y) d ∙ or_false (meet x y) (follows y x) (not_true (meet x y) h) (not_true (follows y x) g)

none_hold : (xs : List Entry) (y : Entry) → list_all (λ x. is_done x.stage || not (meet x y)) xs ≡ true → list_all (λ x. is_done x.stage || not (follows y x)) xs ≡ true → list_any (blocks y) xs ≡ false
none_hold [] y h g = refl
none_hold (x ∷ xs) y h g =
    let v = is_done x.stage || not (meet x y) in
    let w = is_done x.stage || not (follows y x) in
    let r = list_all (λ z. is_done z.stage || not (meet z y)) xs in
    let s = list_all (λ z. is_done z.stage || not (follows y z)) xs in
    or_false (blocks y x) (list_any (blocks y) xs) (not_blocks x y (is_done x.stage) refl (and_first v r h) (and_first w s g)) (none_hold xs y (and_second v r h) (and_second w s g))

pub not_held : (earlier : List Entry) (y : Entry) → all_keep_off y earlier ≡ true → follows_none y earlier ≡ true → is_held earlier y ≡ false
unfolding all_keep_off follows_none is_held
not_held earlier y h g = none_hold earlier y h g

unordered_both : (p : Option ℕ) → both_on p None ≡ false
unordered_both None = refl
unordered_both (Some p) = refl

loose_follows : (x y : Entry) → y.after ≡ [] → y.in_order ≡ None → follows y x ≡ false
unfolding is_named
loose_follows x y names_none unordered =
    or_false (is_named x.work y.after) (both_on x.in_order y.in_order) (ap (is_named x.work) names_none) (ap (both_on x.in_order) unordered ∙ unordered_both x.in_order)

or_not : (a b : Bool) → b ≡ false → (a || not b) ≡ true
or_not true b h = refl
or_not false b h = ap not h

-- an entry that names no node and is in no in-order queue follows none
pub follows_nothing : (earlier : List Entry) (y : Entry) → y.after ≡ [] → y.in_order ≡ None → follows_none y earlier ≡ true
unfolding follows_none
follows_nothing [] y h g = refl
follows_nothing (x ∷ xs) y h g =
    and_true (is_done x.stage || not (follows y x)) (list_all (λ z. is_done z.stage || not (follows y z)) xs) (or_not (is_done x.stage) (follows y x) (loose_follows x y h g)) (follows_nothing xs y h g)

one_keeps_off : (x y : Entry) → only_reads y.needs ≡ true → (v : Bool) → (v || only_reads x.needs) ≡ true → (v || not (meet x y)) ≡ true
one_keeps_off x y h true i = refl
one_keeps_off x y h false i = ap not (readers_meet x y i h)

pub keep_off : (earlier : List Entry) (y : Entry) → only_reads y.needs ≡ true → all_let_read earlier ≡ true → all_keep_off y earlier ≡ true
unfolding all_let_read all_keep_off
keep_off [] y h i = refl
keep_off (x ∷ xs) y h i =
    let v = is_done x.stage || only_reads x.needs in
    let r = list_all lets_read xs in
    and_true (is_done x.stage || not (meet x y)) (list_all (λ z. is_done z.stage || not (meet z y)) xs) (one_keeps_off x y h (is_done x.stage) (and_first v r i)) (keep_off xs y h (and_second v r i))
