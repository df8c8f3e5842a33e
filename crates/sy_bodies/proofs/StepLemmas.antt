-- The looks of the definition at statements, one step at a time.
use Rattle.std.proofs.Common.{◌≡◌, sym, ap, ◌∙◌, List, Option, Some, None}
use Rattle.sy_bodies.specs.Places.{place_within}
use Rattle.sy_found.proofs.FoundLemmas.{in_parts, in_statements}
use Rattle.sy_found.specs.declared.parts.Place.{Place}
use Rattle.sy_found.specs.Noted.{Notes, found_in}
use Rattle.sy_findings.specs.Told.{told}
use Rattle.sy_looks.proofs.LookLemmas.{known_there}
use Rattle.sy_looks.specs.Looked.{looked}
use Rattle.sy_looks.specs.declared.walk.Walk.{Walk}
use Rattle.sy_note.specs.declared.Diagnostic.{Diagnostic}
use Rattle.sy_note.specs.declared.Spot.{Spot}
use Rattle.sy_rules.specs.declared.names.Names.{Names}
use Rattle.sy_rules.specs.declared.names.Setting.{Setting}
use Rattle.sy_rules.specs.declared.statements.Standing.{Standing}
use Rattle.sy_rules.specs.declared.statements.Standing.TheVariants as standing
use Rattle.sy_rules.specs.Layers.{SeenStmt}
use Rattle.sy_rules.specs.Names.{entered, left, scoped, with_setting, in_setting}
use Rattle.sy_rules.specs.Outcome.{Finding, Look, after, known_as, at_statement, faults_found}
use Rattle.sy_rules.specs.StmtRules.{stmt_faults}
use Rattle.sy_rules.specs.Walk.{placed_at, maybe, stmt_judged}
use Rattle.sy_typed.specs.declared.tree.TypedStmt.{TypedStmt}

-- ---- scopes and settings

-- a scope is entered before the part, and left behind it
pub scoped_step : {T : Type 0} (a : Look T) (w : Walk) (n : Names) (m : Walk) (x : T) (after : Names) →
    n ≡ entered w.names → (x, m) ≡ looked a (record w { names = n }) → after ≡ left m.names →
    (x, record m { names = after }) ≡ looked (λ n. scoped a n) w
scoped_step a w n m x after en h ea =
    ap (λ z. (x, record m { names = z })) ea
    ∙ ap (λ p. (p.0, record p.1 { names = left p.1.names })) (h ∙ ap (λ z. looked a (record w { names = z })) en)

-- the setting is changed before the part, and set back behind it
pub set_step : {T : Type 0} (f : Setting → Setting) (a : Look T) (w : Walk) (before there : Setting) (n : Names) (m : Walk) (x : T) (after : Names) →
    before ≡ w.names.setting → there ≡ f before → n ≡ with_setting (λ s. there) w.names →
    (x, m) ≡ looked a (record w { names = n }) → after ≡ with_setting (λ s. before) m.names →
    (x, record m { names = after }) ≡ looked (λ n. in_setting f a n) w
set_step f a w before there n m x after eb et en h ea =
    ap (λ z. (x, record m { names = z })) (ea ∙ ap (λ b. with_setting (λ s. b) m.names) eb)
    ∙ ap (λ p. (p.0, record p.1 { names = with_setting (λ s. w.names.setting) p.1.names }))
    (h ∙ ap (λ z. looked a (record w { names = z })) (en ∙ ap (λ t. with_setting (λ s. t) w.names) (et ∙ ap f eb)))

-- a name is declared before the part, and what is known of it is asked before that
pub declared_step : {S T : Type 0} (g : Names → S → T) (d : Names → Names) (a : Look S) (w : Walk) (n : Names) (m : Walk) (x : S) →
    n ≡ d w.names → (x, m) ≡ looked a (record w { names = n }) → (g w.names x, m) ≡ looked (λ n. known_as (g n) (a (d n))) w
declared_step g d a w n m x en h = ap (λ p. (g w.names p.0, p.1)) (h ∙ ap (λ z. looked a (record w { names = z })) en)

-- ---- what is found

-- something is found before the part
pub after_step : {T : Type 0} (xs : Names → List Finding) (b : Look T) (w : Walk) (f : Notes) (m : Walk) (x : T) →
    f ≡ found_in w.place w.found (xs w.names) → (x, m) ≡ looked b (record w { found = f }) →
    (x, m) ≡ looked (λ n. after (xs n) (b n)) w
after_step xs b w f m x ef h =
    let o = b w.names in
    h
    ∙ ap (λ t. (o.what, record w { names = o.names; found = found_in w.place t o.found })) ef
    ∙ ap (λ t. (o.what, record w { names = o.names; found = t })) (sym (in_parts w.place w.found (xs w.names) o.found))

-- what a statement breaks beside its parts is told by itself
pub judged_statement : (x : SeenStmt) (t : TypedStmt) (w : Walk) (own : Option Diagnostic) (f : Notes) →
    own ≡ told None (stmt_faults w.names.setting x) →
    ((p : Option Place) (ds : List Diagnostic) → own ≡ told None ds → f ≡ found_in p w.found (faults_found ds)) →
    (t, record w { found = f }) ≡ looked (stmt_judged x t) w
judged_statement x t w own f eo add = ap (λ z. (t, record w { found = z })) (add w.place (stmt_faults w.names.setting x) eo)

-- ---- the place of a statement

placed_there : (s : Spot) (a : Look TypedStmt) (w m : Walk) (x : TypedStmt) →
    (x, m) ≡ looked a (record w { place = Some (record { within = w.names.setting.within; statement = s }) }) →
    (x, record m { place = w.place }) ≡ looked (λ n. at_statement n.setting.within s (a n)) w
placed_there s a w m x h =
    let o = a w.names in
    ap (λ p. (p.0, record p.1 { place = w.place })) h
    ∙ ap (λ t. (o.what, record w { names = o.names; found = t })) (sym (in_statements w.place w.found w.names.setting.within s o.found))

placed_as : (own : Standing) (s : Spot) (a : Look TypedStmt) (w m : Walk) (x : TypedStmt) →
    (x, m) ≡ looked a (record w { place = place_within own s w }) → (x, record m { place = w.place }) ≡ looked (λ n. placed_at own s n (a n)) w
placed_as standing.InHead s a w m x h = ap (λ p. (p.0, record p.1 { place = w.place })) h
placed_as standing.InList s a w m x h = placed_there s a w m x h
placed_as standing.AsBody s a w m x h = placed_there s a w m x h

-- the place is set before the part, and set back behind it
pub placed_step : (own : Standing) (s : Spot) (a : Look TypedStmt) (w there m : Walk) (x : TypedStmt) (outside : Option Place) →
    there ≡ record w { place = place_within own s w } → outside ≡ w.place → (x, m) ≡ looked a there →
    (x, record m { place = outside }) ≡ looked (λ n. placed_at own s n (a n)) w
placed_step own s a w there m x outside et eo h =
    ap (λ z. (x, record m { place = z })) eo ∙ placed_as own s a w m x (h ∙ ap (looked a) et)

-- the same where a look at the statement tells where it begins
pub placed_whole : {S : Type 0} (f : Spot × S → TypedStmt) (own : Standing) (s : Spot) (d : Look (Spot × S)) (w there m : Walk) (p : Spot × S) (outside : Option Place) →
    ((n : Names) → (d n).what.0 ≡ s) → there ≡ record w { place = place_within own s w } → outside ≡ w.place → (p, m) ≡ looked d there →
    (f p, record m { place = outside }) ≡ looked (λ n. placed_at own (d n).what.0 n (known_as f (d n))) w
placed_whole f own s d w there m p outside starts et eo h =
    placed_step own s (λ n. known_as f (d n)) w there m (f p) outside et eo (known_there f d there m p h)
    ∙ ap (λ z. looked (λ n. placed_at own z n (known_as f (d n))) w) (sym (starts w.names))

-- ---- parts that may be left out

pub maybe_none : {S T : Type 0} (f : S → Look T) (o : Option S) (w : Walk) → o ≡ None → (None, w) ≡ looked (maybe f o) w
maybe_none f o w e = ap (λ z. looked (maybe f z) w) (sym e)

pub maybe_some : {S T : Type 0} (f : S → Look T) (o : Option S) (s : S) (w m : Walk) (x : T) → o ≡ Some s → (x, m) ≡ looked (f s) w → (Some x, m) ≡ looked (maybe f o) w
maybe_some f o s w m x e h = known_there (λ y. Some y) (f s) w m x h ∙ ap (λ z. looked (maybe f z) w) (sym e)
