-- The looks of the definition that stand in a scope or a setting of their own, and those of a list.
use Rattle.std.proofs.Common.{◌≡◌, sym, ap, ◌∙◌, List, [], ◌∷◌, ◌++◌, map, append_assoc}
use Rattle.std.proofs.lemmas.List.{append-nil}
use Rattle.sy_found.specs.Noted.{Notes, found_in}
use Rattle.sy_found.proofs.FoundLemmas.{in_parts}
use Rattle.sy_looks.specs.Looked.{looked}
use Rattle.sy_looks.specs.declared.walk.Walk.{Walk}
use Rattle.sy_rules.specs.declared.names.Names.{Names}
use Rattle.sy_rules.specs.declared.names.Setting.{Setting}
use Rattle.sy_rules.specs.Names.{entered, left, scoped, in_setting, with_setting}
use Rattle.sy_rules.specs.Outcome.{Look, in_turn}

-- what is known, what is found and the names behind it, each by itself
pub looked_by : {T : Type 0} (a : Look T) (w : Walk) (x : T) (found : Notes) (names : Names) →
    x ≡ (a w.names).what → found ≡ found_in w.place w.found (a w.names).found → names ≡ (a w.names).names →
    (x, record w { names = names; found = found }) ≡ looked a w
looked_by a w x found names ex ef en =
    ap (λ y. (y, record w { names = names; found = found })) ex
    ∙ ap (λ f. ((a w.names).what, record w { names = names; found = f })) ef
    ∙ ap (λ n. ((a w.names).what, record w { names = n; found = found_in w.place w.found (a w.names).found })) en

-- a scope that ends with the part
pub scoped_step : {T : Type 0} (a : Look T) (w : Walk) (n : Names) (m : Walk) (x : T) (after : Names) →
    n ≡ entered w.names → (x, m) ≡ looked a (record w { names = n }) → after ≡ left m.names →
    (x, record m { names = after }) ≡ looked (scoped a) w
scoped_step a w n m x after en h ea =
    ap (λ z. (x, record m { names = z })) ea
    ∙ ap (λ p. (p.0, record p.1 { names = left p.1.names })) (h ∙ ap (λ z. looked a (record w { names = z })) en)

setting_there : {T : Type 0} (f : Setting → Setting) (a : Look T) (w m : Walk) (x : T) →
    (x, m) ≡ looked a (record w { names = with_setting f w.names }) →
    (x, record m { names = with_setting (λ s. w.names.setting) m.names }) ≡ looked (in_setting f a) w
setting_there f a w m x e = ap (λ p. (p.0, record p.1 { names = with_setting (λ s. w.names.setting) p.1.names })) e

-- the setting is changed before the part, and set back behind it
pub setting_step : {T : Type 0} (f : Setting → Setting) (a : Look T) (w : Walk) (before there : Setting) (n : Names) (m : Walk) (x : T) (after : Names) →
    before ≡ w.names.setting → there ≡ f before → n ≡ with_setting (λ s. there) w.names →
    (x, m) ≡ looked a (record w { names = n }) → after ≡ with_setting (λ s. before) m.names →
    (x, record m { names = after }) ≡ looked (in_setting f a) w
setting_step f a w before there n m x after eb et en h ea =
    ap (λ z. (x, record m { names = z })) (ea ∙ ap (λ b. with_setting (λ s. b) m.names) eb)
    ∙ setting_there f a w m x (h ∙ ap (λ z. looked a (record w { names = z })) (en ∙ ap (λ t. with_setting (λ s. t) w.names) (et ∙ ap f eb)))

-- ---- all of a list

-- those that were looked at before
abbrev pub behind : {T : Type 0} → List T → List T × Walk → List T × Walk
behind xs p = (xs ++ p.0, p.1)

pub one_more_looked : {A T : Type 0} (f : A → Look T) (x : A) (rest left : List A) (xs ys : List T) (w m : Walk) (y : T) →
    left ≡ x ∷ rest → ys ≡ xs ++ y ∷ [] → (y, m) ≡ looked (f x) w →
    behind ys (looked (in_turn (map f rest)) m) ≡ behind xs (looked (in_turn (map f left)) w)
one_more_looked f x rest left xs ys w m y el ey e =
    let a = f x w.names in
    let r = in_turn (map f rest) a.names in
    ap (λ l. behind l (looked (in_turn (map f rest)) m)) ey
    ∙ ap (λ p. behind (xs ++ p.0 ∷ []) (looked (in_turn (map f rest)) p.1)) e
    ∙ ap (λ l. (l, record w { names = r.names; found = found_in w.place (found_in w.place w.found a.found) r.found })) (append_assoc xs (a.what ∷ []) r.what)
    ∙ ap (λ t. (xs ++ a.what ∷ r.what, record w { names = r.names; found = t })) (sym (in_parts w.place w.found a.found r.found))
    ∙ ap (λ l. behind xs (looked (in_turn (map f l)) w)) (sym el)

pub no_more_looked : {A T : Type 0} (f : A → Look T) (left : List A) (xs : List T) (w : Walk) → left ≡ [] → (xs, w) ≡ behind xs (looked (in_turn (map f left)) w)
no_more_looked f left xs w e =
    ap (λ l. (l, w)) (sym (append-nil xs))
    ∙ ap (λ l. behind xs (looked (in_turn (map f l)) w)) (sym e)
