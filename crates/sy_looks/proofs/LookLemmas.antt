-- The looks of the definition, one step at a time.
use Rattle.std.proofs.Common.{◌≡◌, sym, ap, subst, ◌∙◌, [], ◌++◌}
use Rattle.std.specs.Prelude.{Result, Ok, Err}
use Rattle.sy_constructs.specs.declared.uses.Foreign.{Foreign}
use Rattle.sy_constructs.specs.Uses.{foreign_found}
use Rattle.sy_note.specs.declared.Spot.{Spot}
use Rattle.sy_typed.specs.declared.tree.Typed.{Typed}
use Rattle.sy_typed.specs.declared.tree.TypedNode.{TypedNode}
use Rattle.sy_found.specs.Noted.{Notes, found_in}
use Rattle.sy_found.proofs.FoundLemmas.{in_parts}
use Rattle.sy_looks.specs.Looked.{looked, Looked}
use Rattle.sy_looks.specs.declared.walk.Walk.{Walk}
use Rattle.sy_rules.specs.declared.names.Names.{Names}
use Rattle.sy_rules.specs.declared.names.Setting.{Setting}
use Rattle.sy_rules.specs.declared.names.Taken.{Taken}
use Rattle.sy_rules.specs.declared.seen.Seen.{Seen}
use Rattle.sy_rules.specs.ExprRules.{faults}
use Rattle.sy_rules.specs.ExprTypes.{seen_as, found_at, typed, uses_of}
use Rattle.sy_rules.specs.Foreign.{foreign_uses}
use Rattle.sy_rules.specs.Layers.{SeenExpr}
use Rattle.sy_rules.specs.Names.{with_setting, where_taken}
use Rattle.sy_rules.specs.Outcome.{Look, and_then, known_as, faults_found}
use Rattle.sy_rules.specs.Walk.{judged}

-- ---- a construct over parts that were looked at

pub judged_is : (x : SeenExpr) (t : TypedNode) (s : Spot) (w : Walk) (seen : Seen) (y : Typed) (found : Notes) →
    seen ≡ seen_as w.names x → y ≡ typed t seen.what s → found ≡ found_in w.place w.found (found_at w.names x) →
    ((seen, y), record w { found = found }) ≡ looked (judged x t s) w
judged_is x t s w seen y found es ey ef =
    ap (λ f. ((seen, y), record w { found = f })) ef
    ∙ ap (λ z. ((seen, z), record w { found = found_in w.place w.found (found_at w.names x) })) ey
    ∙ ap (λ a. ((a, typed t a.what s), record w { found = found_in w.place w.found (found_at w.names x) })) es

-- its own rules are told first, then that kernels or groups may not have it, then what it uses
pub judged_found : (x : SeenExpr) (t : TypedNode) (s : Spot) (w : Walk) (seen : Seen) (y : Typed) (f g h : Notes) →
    seen ≡ seen_as w.names x → y ≡ typed t seen.what s →
    f ≡ found_in w.place w.found (faults_found (faults w.names x)) → g ≡ found_in w.place f (foreign_uses w.names x) → h ≡ found_in w.place g (uses_of w.names x) →
    ((seen, y), record w { found = h }) ≡ looked (judged x t s) w
judged_found x t s w seen y f g h es ey ef eg eh =
    let rest : h ≡ found_in w.place f (foreign_uses w.names x ++ uses_of w.names x) =
    eh ∙ ap (λ z. found_in w.place z (uses_of w.names x)) eg ∙ sym (in_parts w.place f (foreign_uses w.names x) (uses_of w.names x)) in
    judged_is x t s w seen y h es ey
    (rest
    ∙ ap (λ z. found_in w.place z (foreign_uses w.names x ++ uses_of w.names x)) ef
    ∙ sym (in_parts w.place w.found (faults_found (faults w.names x)) (foreign_uses w.names x ++ uses_of w.names x)))

pub judged_plainly : (x : SeenExpr) (t : TypedNode) (s : Spot) (w : Walk) (seen : Seen) (y : Typed) (f : Notes) →
    seen ≡ seen_as w.names x → y ≡ typed t seen.what s → f ≡ found_in w.place w.found (faults_found (faults w.names x)) →
    foreign_uses w.names x ≡ [] → uses_of w.names x ≡ [] → ((seen, y), record w { found = f }) ≡ looked (judged x t s) w
judged_plainly x t s w seen y f es ey ef ng nh =
    judged_found x t s w seen y f f f es ey ef (sym (ap (found_in w.place f) ng)) (sym (ap (found_in w.place f) nh))

pub judged_against : (x : SeenExpr) (t : TypedNode) (s : Spot) (w : Walk) (seen : Seen) (y : Typed) (f g : Notes) (u : Foreign) →
    seen ≡ seen_as w.names x → y ≡ typed t seen.what s → f ≡ found_in w.place w.found (faults_found (faults w.names x)) →
    g ≡ found_in w.place f (foreign_found u) → foreign_uses w.names x ≡ foreign_found u → uses_of w.names x ≡ [] → ((seen, y), record w { found = g }) ≡ looked (judged x t s) w
judged_against x t s w seen y f g u es ey ef eg ng nh =
    judged_found x t s w seen y f g g es ey ef (eg ∙ ap (found_in w.place f) (sym ng)) (sym (ap (found_in w.place g) nh))

-- ---- one part after another

pub chained : {S T : Type 0} (a : Look S) (f : S → Look T) (w m k : Walk) (x : S) (y : T) →
    (x, m) ≡ looked a w → (y, k) ≡ looked (f x) m → (y, k) ≡ looked (λ n. and_then (a n) f) w
chained a f w m k x y ea ef =
    ef
    ∙ ap (λ p. looked (f p.0) p.1) ea
    ∙ ap (λ t. ((f (a w.names).what (a w.names).names).what, record w { names = (f (a w.names).what (a w.names).names).names; found = t }))
    (sym (in_parts w.place w.found (a w.names).found (f (a w.names).what (a w.names).names).found))

-- the place of the part takes this
pub taken_there : {T : Type 0} (k : Taken) (a : Look T) (w m : Walk) (x : T) →
    (x, m) ≡ looked a (record w { names = with_setting (λ s. record s { taken = k }) w.names }) →
    (x, record m { names = with_setting (λ s. w.names.setting) m.names }) ≡ looked (where_taken k a) w
taken_there k a w m x e = ap (λ p. (p.0, record p.1 { names = with_setting (λ s. w.names.setting) p.1.names })) e

-- the same where the second part has an answer that isn't looked into
pub chained_to : {S T Stop : Type 0} (a : Look S) (f : S → Look T) (w m k : Walk) (x : S) (r : Result T Stop) →
    (x, m) ≡ looked a w → Looked (f x) m r k → Looked (λ n. and_then (a n) f) w r k
chained_to a f w m k x (Ok y) ea ef = chained a f w m k x y ea ef
chained_to a f w m k x (Err e) ea ef = tt

-- an answer that was found beside another part
pub found_beside : {T Stop : Type 0} (a : Look T) (w m : Walk) (r : Result T Stop) (y : T) → r ≡ Ok y → Looked a w r m → (y, m) ≡ looked a w
found_beside a w m r y e h = subst (λ q. Looked a w q m) e h

-- a tree is looked at as what it is built of
pub looked_as : {T Stop : Type 0} (a b : Look T) (w m : Walk) (r : Result T Stop) → a ≡ b → Looked b w r m → Looked a w r m
looked_as a b w m r e h = subst (λ l. Looked l w r m) (sym e) h

-- the setting is changed before the part, and set back behind it
pub taken_step : {T : Type 0} (k : Taken) (a : Look T) (w : Walk) (before there : Setting) (n : Names) (m : Walk) (x : T) (after : Names) →
    before ≡ w.names.setting → there ≡ record before { taken = k } → n ≡ with_setting (λ s. there) w.names →
    (x, m) ≡ looked a (record w { names = n }) → after ≡ with_setting (λ s. before) m.names →
    (x, record m { names = after }) ≡ looked (where_taken k a) w
taken_step k a w before there n m x after eb et en h ea =
    ap (λ z. (x, record m { names = z })) (ea ∙ ap (λ b. with_setting (λ s. b) m.names) eb)
    ∙ taken_there k a w m x (h ∙ ap (λ z. looked a (record w { names = z })) (en ∙ ap (λ t. with_setting (λ s. t) w.names) (et ∙ ap {A = Setting} (λ b. record b { taken = k }) eb)))

-- what is known is put another way
pub known_there : {S T : Type 0} (f : S → T) (a : Look S) (w m : Walk) (x : S) → (x, m) ≡ looked a w → (f x, m) ≡ looked (λ n. known_as f (a n)) w
known_there f a w m x e = ap (λ p. (f p.0, p.1)) e

-- what a part asks of the names before it is known
pub with_known : {K T Stop : Type 0} (f : K → Look T) (ask : Names → K) (w m : Walk) (r : Result T Stop) (k : K) → k ≡ ask w.names → Looked (f k) w r m → Looked (λ n. f (ask n) n) w r m
with_known f ask w m (Ok x) k e h = h ∙ ap (λ z. looked (f z) w) e
with_known f ask w m (Err s) k e h = tt
