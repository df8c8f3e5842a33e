-- Tests, and what a table says of each of its entries.
use Rattle.std.proofs.Common.{◌≡◌, ℕ, ◌≤◌, Bool, true, false, not, ◌&&◌, ◌||◌, ◌==◌, nat_le, cond, List, [], ◌∷◌, Option, Some, None, ◌⊎◌, inl, inr, ⊎_elim, refl, sym, ap, ◌∙◌, true-eqb, arith}
use Rattle.std.specs.List.{list_all, list_any}
use Rattle.std.specs.Str.{bytes_eq}
use Rattle.std.proofs.lemmas.Bool.Decides.{nat_tests}
use Rattle.std.proofs.lemmas.Slice.Eq.{bytes_eq-Decides}
use Rattle.sy_lex.specs.Front.{one_of}

pub both : (a b : Bool) → (a && b) ≡ true → (a ≡ true) × (b ≡ true)
both true true h = (refl, refl)
both true false h = cc
both false b h = cc

pub either : (a b : Bool) → (a || b) ≡ true → (a ≡ true) ⊎ (b ≡ true)
either true b h = inl refl
either false b h = inr h

pub both_in : (a b : Bool) → a ≡ true → b ≡ true → (a && b) ≡ true
both_in true true p q = refl
both_in true false p q = cc
both_in false b p q = cc

pub left_in : (a b : Bool) → a ≡ true → (a || b) ≡ true
left_in true b p = refl
left_in false b p = cc

pub right_in : (a b : Bool) → b ≡ true → (a || b) ≡ true
right_in true b p = refl
right_in false b p = p

pub neither : (x y : Bool) → x ≡ false → y ≡ false → (x || y) ≡ false
neither true y p q = p
neither false y p q = q

pub and_none : (x : Bool) → (x && false) ≡ false
and_none true = refl
and_none false = refl

pub clash : true ≡ false → ⊥
clash h = cc

pub not_true : (x : Bool) → not x ≡ true → x ≡ false
not_true true h = cc
not_true false h = refl

pub one_way : {Y : Type 0} (v : Bool) (x y : Y) (P : Y → Type 0) → (v ≡ true → P x) → (v ≡ false → P y) → P (cond v x y)
one_way true x y P p q = p refl
one_way false x y P p q = q refl

pub choice : {Y : Type 0} (b : Bool) (x y z : Option Y) → cond b x y ≡ z → ((b ≡ true) × (x ≡ z)) ⊎ ((b ≡ false) × (y ≡ z))
choice true x y z h = inl (refl, h)
choice false x y z h = inr (refl, h)

pub some_same : {Y : Type 0} (p q : Y) → Some p ≡ Some q → p ≡ q
some_same p q h = cc

pub none_some : {Y : Type 0} (p : Y) → None ≡ Some p → ⊥
none_some p h = cc

pub is_not : (a b : ℕ) → (a ≡ b → ⊥) → (a == b) ≡ false
is_not a b h = grind (arith, nat_tests)

pub test_le : (a b : ℕ) → nat_le a b ≡ true → a ≤ b
test_le a b h = grind (arith, nat_tests)

-- what is true of all entries is true of a text that is one of them
pub all_any : (p : List ℕ → Bool) (f : List ℕ) (ms : List (List ℕ)) → list_any (bytes_eq f) ms ≡ true → list_all p ms ≡ true → p f ≡ true
all_any p f [] h k = cc
all_any p f (m ∷ ms) h k =
    let rest = both (p m) (list_all p ms) k in
    ⊎_elim (λ is. ap p ((bytes_eq-Decides f m).0 is) ∙ rest.0) (λ more. all_any p f ms more rest.1) (either (bytes_eq f m) (list_any (bytes_eq f) ms) h)

-- the same of a table of bytes
pub each_of : (p : ℕ → Bool) (b : ℕ) (ks : List ℕ) → one_of ks b ≡ true → list_all p ks ≡ true → p b ≡ true
each_of p b [] h a = cc
each_of p b (k ∷ ks) h a =
    let rest = both (p k) (list_all p ks) a in
    ⊎_elim (λ is. ap p (true-eqb b k (sym is)) ∙ rest.0) (λ more. each_of p b ks more rest.1) (either (b == k) (one_of ks b) h)
