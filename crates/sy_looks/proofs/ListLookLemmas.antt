-- Lists of parts that are looked at from left to right, as a loop goes over them.
use Rattle.std.proofs.Common.{◌≡◌, refl, List, [], ◌∷◌, ◌++◌, ap, sym, ◌∙◌, append_assoc}
use Rattle.std.proofs.lemmas.List.{append-nil}
use Rattle.sy_found.specs.Noted.{found_in}
use Rattle.sy_looks.proofs.LookLemmas.{chained}
use Rattle.sy_looks.specs.Looked.{looked}
use Rattle.sy_looks.specs.declared.walk.Walk.{Walk}
use Rattle.sy_rules.specs.Outcome.{Look, and_then, known_as, in_turn}

-- ---- any definition that looks at a part, and then at the rest of the list

-- `before` makes of what is known of the whole list what the loop has in the end, and `behind` of what is known of the rest,
-- once x is known of the part; `join` is how the definition puts the two together
pub gone_on : {Q R T U : Type 0} (before : Q → U) (behind : R → U) (join : T → R → Q) (a : Look T) (rest : T → Look R) (w m : Walk) (x : T) →
    (x, m) ≡ looked a w → ((r : R) → behind r ≡ before (join x r)) →
    looked (λ n. known_as behind (rest x n)) m ≡ looked (λ n. known_as before (and_then (a n) (λ y k. known_as (join y) (rest y k)))) w
gone_on before behind join a rest w m x e h =
    let o = rest x m.names in
    let k : Walk = record m { names = o.names; found = found_in m.place m.found o.found } in
    ap (λ z. (z, k)) (h o.what)
    ∙ ap (λ p. (before p.0, p.1)) (chained a (λ y n. known_as (join y) (rest y n)) w m k x (join x o.what) e refl)

-- ---- what was pushed so far, and what is still to come

pub pushed : {T : Type 0} (xs ys : List T) (x : T) (more : List T) → ys ≡ xs ++ x ∷ [] → ys ++ more ≡ xs ++ x ∷ more
pushed xs ys x more e = ap (λ l. l ++ more) e ∙ append_assoc xs (x ∷ []) more

pub pushed_both : {S T : Type 0} (xs ys : List S) (us vs : List T) (x : S) (u : T) (more : List S) (others : List T) →
    ys ≡ xs ++ x ∷ [] → vs ≡ us ++ u ∷ [] → ◌≡◌ {A = List S × List T} (ys ++ more, vs ++ others) (xs ++ x ∷ more, us ++ u ∷ others)
pushed_both xs ys us vs x u more others e h =
    ap (λ l. (l, vs ++ others)) (pushed xs ys x more e) ∙ ap (λ l. (xs ++ x ∷ more, l)) (pushed us vs u others h)

-- ---- a list of which each result is pushed

pub one_more_looked : {T : Type 0} (a : Look T) (rest : List (Look T)) (xs ys : List T) (w m : Walk) (x : T) →
    (x, m) ≡ looked a w → ys ≡ xs ++ x ∷ [] →
    looked (λ n. known_as (λ l. ys ++ l) (in_turn rest n)) m ≡ looked (λ n. known_as (λ l. xs ++ l) (in_turn (a ∷ rest) n)) w
one_more_looked a rest xs ys w m x e h =
    gone_on (λ l. xs ++ l) (λ l. ys ++ l) (λ y l. y ∷ l) a (λ y. in_turn rest) w m x e (λ l. pushed xs ys x l h)

-- nothing is pushed yet
pub begun_looked : {T : Type 0} (all : List (Look T)) (xs : List T) (w : Walk) → xs ≡ [] →
    looked (λ n. known_as (λ l. xs ++ l) (in_turn all n)) w ≡ looked (in_turn all) w
begun_looked all xs w e = ap (λ l. looked (λ n. known_as (λ z. l ++ z) (in_turn all n)) w) e

-- none is left
pub ended_looked : {T : Type 0} (xs : List T) (w : Walk) → (xs, w) ≡ looked (λ n. known_as (λ l. xs ++ l) (in_turn [] n)) w
ended_looked xs w = ap (λ l. (l, w)) (sym (append-nil xs))
