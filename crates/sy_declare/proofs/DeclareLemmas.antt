-- The looks of declarations, full expressions and printed items, one step at a time.
use Rattle.std.proofs.Common.{◌≡◌, refl, ℕ, Bool, true, false, List, [], ◌∷◌, ◌++◌, Option, Some, sym, ap, subst, ◌∙◌, append_assoc}
use Rattle.std.specs.Prelude.{Result, Ok, IfOk, OnOk, is_some, if◌then◌else◌}
use Rattle.sy_constructs.specs.Uses.{foreign_found}
use Rattle.sy_constructs.specs.declared.uses.Foreign.{Foreign}
use Rattle.sy_declare.specs.Declared.{made}
use Rattle.sy_found.proofs.FoundLemmas.{in_parts}
use Rattle.sy_found.specs.Noted.{Notes, found_in}
use Rattle.sy_looks.proofs.LookLemmas.{chained, known_there}
use Rattle.sy_looks.specs.Looked.{looked, Looked}
use Rattle.sy_looks.specs.declared.walk.Walk.{Walk}
use Rattle.sy_note.specs.declared.Diagnostic.{Diagnostic}
use Rattle.sy_note.specs.declared.Spot.{Spot}
use Rattle.sy_rules.specs.declared.names.Names.{Names}
use Rattle.sy_rules.specs.declared.names.Taken.{Taken}
use Rattle.sy_rules.specs.declared.names.Taken.TheVariants as taken
use Rattle.sy_rules.specs.declared.seen.Seen.{Seen}
use Rattle.sy_rules.specs.declared.statements.Shared.{Shared}
use Rattle.sy_rules.specs.ExprTypes.{variable}
use Rattle.sy_rules.specs.Names.{declared, declared_variable, where_taken}
use Rattle.sy_rules.specs.Layers.{SeenFull}
use Rattle.sy_rules.specs.Outcome.{Look, and_then, known_as, outcome, faults_found}
use Rattle.sy_rules.specs.StmtRules.{Given, declarator_faults, declared_constant, declared_type, shared_after}
use Rattle.sy_rules.specs.Units.{constant_as}
use Rattle.sy_rules.specs.Walk.{Dr, Ex, declared_object, declared_value, declarators, full_judged, full_step, if_none, one_declarator, part, printed_faults, printed_step, taken_as}
use Rattle.sy_tree.specs.declared.operators.AssignmentOperator.{AssignmentOperator}
use Rattle.sy_tree.specs.declared.parts.ConstSpecifier.{ConstSpecifier}
use Rattle.sy_tree.specs.declared.parts.Lexeme.{Lexeme}
use Rattle.sy_tree.specs.declared.parts.TypeSpecifier.{TypeSpecifier}
use Rattle.sy_tree.specs.declared.tree.Argument.TheOpen.{FullExpression-F, Printed-F}
use Rattle.sy_tree.specs.declared.tree.Constant.{Constant}
use Rattle.sy_typed.specs.declared.things.Thing.{Thing}
use Rattle.sy_typed.specs.declared.tree.Typed.{Typed}
use Rattle.sy_typed.specs.declared.tree.TypedConstant.{TypedConstant}
use Rattle.sy_typed.specs.declared.tree.TypedDeclaration.{TypedDeclaration}
use Rattle.sy_typed.specs.declared.tree.TypedDeclarator.{TypedDeclarator}
use Rattle.sy_typed.specs.declared.tree.TypedFull.{TypedFull}
use Rattle.sy_typed.specs.declared.tree.TypedFull.TheVariants as full
use Rattle.sy_typed.specs.declared.tree.TypedPrinted.TheVariants as printed
use Rattle.sy_typed.specs.declared.tree.Variable.{Variable}

-- what is known, the names and what is found, one by one
pub looked_so : {T : Type 0} (a : Look T) (w : Walk) (x : T) (n : Names) (f : Notes) →
    x ≡ (a w.names).what → n ≡ (a w.names).names → f ≡ found_in w.place w.found (a w.names).found →
    (x, record w { names = n; found = f }) ≡ looked a w
looked_so a w x n f ex en ef =
    ap (λ g. (x, record w { names = n; found = g })) ef
    ∙ ap (λ m. (x, record w { names = m; found = found_in w.place w.found (a w.names).found })) en
    ∙ ap (λ y. (y, record w { names = (a w.names).names; found = found_in w.place w.found (a w.names).found })) ex

-- ---- declared integers

pub value_declared : (must : Bool) (c : Option ConstSpecifier) (t : TypeSpecifier) (first : Shared) (x : Lexeme) (i : Given) (w : Walk) (what : Option Thing) (v : Variable) (number : ℕ) (n : Names) (f : Notes) →
    what ≡ declared_type t i → v ≡ variable number what x.spot → number ≡ w.names.next →
    n ≡ declared x what (is_some c) (declared_constant must t i) w.names →
    f ≡ found_in w.place w.found (faults_found (declarator_faults w.names must c t first x i)) →
    ((what, v), record w { names = n; found = f }) ≡ looked (declared_value must c t first x i (λ v. v)) w
value_declared must c t first x i w what v number n f ew ev ek en ef =
    looked_so (declared_value must c t first x i (λ v. v)) w (what, v) n f
    (ap (λ y. (what, y)) (ev ∙ ap (λ k. variable k what x.spot) ek) ∙ ap (λ y. (y, variable w.names.next y x.spot)) ew)
    (en ∙ ap (λ y. declared x y (is_some c) (declared_constant must t i) w.names) ew)
    ef

-- what a declarator makes of the variable
pub declarator_of_value : (must : Bool) (c : Option ConstSpecifier) (t : TypeSpecifier) (first : Shared) (x : Lexeme) (i : Given) (make : Variable → TypedDeclarator) (w m : Walk) (what : Option Thing) (v : Variable) →
    ((what, v), m) ≡ looked (declared_value must c t first x i (λ v. v)) w → ((what, make v), m) ≡ looked (declared_value must c t first x i make) w
declarator_of_value must c t first x i make w m what v e = known_there (λ p. (p.0, make p.1)) (declared_value must c t first x i (λ v. v)) w m (what, v) e

-- an initializer, and then the name
pub initialized_value : (must : Bool) (c : Option ConstSpecifier) (t : TypeSpecifier) (first : Shared) (x : Lexeme) (equal : Bool) (make : Variable → Typed → TypedDeclarator) (a : Ex) (w m k : Walk) (seen : Seen) (tree : Typed) (what : Option Thing) (v : Variable) →
    ((seen, tree), m) ≡ looked (part a) w → ((what, v), k) ≡ looked (declared_value must c t first x (Some (seen, equal)) (λ v. v)) m →
    ((what, make v tree), k) ≡ looked (λ n. and_then (part a n) (λ p. declared_value must c t first x (Some (p.0, equal)) (λ v. make v p.1))) w
initialized_value must c t first x equal make a w m k seen tree what v ea ev =
    chained (part a) (λ p. declared_value must c t first x (Some (p.0, equal)) (λ v. make v p.1)) w m k (seen, tree) (what, make v tree) ea
    (declarator_of_value must c t first x (Some (seen, equal)) (λ v. make v tree) m k what v ev)

-- ---- several names, of which those before were declared

abbrev pub behind : {T : Type 0} → List T → List T × Walk → List T × Walk
behind trees p = (trees ++ p.0, p.1)

pub declared_next : (must : Bool) (c : Option ConstSpecifier) (t : TypeSpecifier) (first next : Shared) (d : Dr) (more all : List Dr) (trees : List TypedDeclarator) (w m : Walk) (what : Option Thing) (tree : TypedDeclarator) →
    all ≡ d ∷ more → ((what, tree), m) ≡ looked (one_declarator must c t first d) w → next ≡ shared_after first what →
    behind (trees ++ tree ∷ []) (looked (declarators must c t next more) m) ≡ behind trees (looked (declarators must c t first all) w)
declared_next must c t first next d more all trees w m what tree ea e es =
    ap (λ l. (l, (looked (declarators must c t next more) m).1)) (append_assoc trees (tree ∷ []) (looked (declarators must c t next more) m).0)
    ∙ ap (behind trees)
    (chained (one_declarator must c t first d) (λ p k. known_as (λ ds. p.1 ∷ ds) (declarators must c t (shared_after first p.0) more k)) w m
    (looked (declarators must c t next more) m).1 (what, tree) (tree ∷ (looked (declarators must c t next more) m).0) e
    (ap (λ s. looked (λ k. known_as (λ ds. tree ∷ ds) (declarators must c t s more k)) m) es))
    ∙ ap (λ l. behind trees (looked (declarators must c t first l) w)) (sym ea)

-- ---- declared objects

if_counted : (allowed : Bool) (ds : List Diagnostic) (t : Option Thing) → if_none (if allowed then ds else []) t ≡ (if allowed then if_none ds t else t)
if_counted true ds t = refl
if_counted false ds t = refl

pub object_declared : (allowed : Bool) (ds : List Diagnostic) (u : Foreign) (t : Option Thing) (s : Spot) (x : Lexeme) (make : Variable → TypedDeclaration) (w : Walk) (what : Option Thing) (v : Variable) (number : ℕ) (f g : Notes) (n : Names) →
    what ≡ if_none (if allowed then ds else []) t → v ≡ variable number what x.spot → number ≡ w.names.next →
    f ≡ found_in w.place w.found (faults_found (if allowed then ds else [])) → g ≡ found_in w.place f (foreign_found u) →
    n ≡ declared_variable x what false w.names →
    ((s, make v), record w { names = n; found = g }) ≡ looked (declared_object allowed ds (foreign_found u) t s x make) w
object_declared allowed ds u t s x make w what v number f g n ew ev ek ef eg en =
    let is : what ≡ (if allowed then if_none ds t else t) = ew ∙ if_counted allowed ds t in
    looked_so (declared_object allowed ds (foreign_found u) t s x make) w (s, make v) n g
    (ap (λ y. (s, make y)) (ev ∙ ap (λ k. variable k what x.spot) ek ∙ ap (λ y. variable w.names.next y x.spot) is))
    (en ∙ ap (λ y. declared_variable x y false w.names) is)
    (eg ∙ ap (λ h. found_in w.place h (foreign_found u)) ef ∙ sym (in_parts w.place w.found (faults_found (if allowed then ds else [])) (foreign_found u)))

-- the variable that was declared beside another part
pub made_beside : {Stop : Type 0} (a : Look (Spot × TypedDeclaration)) (s : Spot) (make : Variable → TypedDeclaration) (w m : Walk) (r : Result Variable Stop) (v : Variable) →
    r ≡ Ok v → Looked a w (made s make r) m → ((s, make v), m) ≡ looked a w
made_beside a s make w m r v e h = subst (λ q. Looked a w (made s make q) m) e h

-- ---- full expressions

pub full_told : (s : Spot) (x : SeenFull) (t : TypedFull) (w : Walk) (f : Notes) →
    f ≡ found_in w.place w.found (full_judged s x t w.names).found → ((s, t), record w { found = f }) ≡ looked (full_judged s x t) w
full_told s x t w f e = ap (λ g. ((s, t), record w { found = g })) e

pub plain_full : (stands : Bool) (a : Ex) (k : Taken) (w m n : Walk) (x : Seen × Typed) (y : Spot × TypedFull) →
    k ≡ taken_as taken.Statement stands → (x, m) ≡ looked (where_taken k a) w →
    (y, n) ≡ looked (full_judged x.0.first (FullExpression-F.Plain x.0) (full.Plain x.1)) m →
    (y, n) ≡ looked (full_step (FullExpression-F.Plain a) stands) w
plain_full stands a k w m n x y ek ea ef =
    chained (where_taken k a) (λ p. full_judged p.0.first (FullExpression-F.Plain p.0) (full.Plain p.1)) w m n x y ea ef
    ∙ ap (λ t. looked (λ j. and_then (where_taken t a j) (λ p. full_judged p.0.first (FullExpression-F.Plain p.0) (full.Plain p.1))) w) ek

pub assigning_full : (stands : Bool) (t v : Ex) (s : Spot) (op : AssignmentOperator) (k : Taken) (w m j n : Walk) (x z : Seen × Typed) (y : Spot × TypedFull) →
    k ≡ taken_as taken.Reducer stands → (x, m) ≡ looked (where_taken k t) w → (z, j) ≡ looked (part v) m →
    (y, n) ≡ looked (full_judged x.0.first (FullExpression-F.Assignment x.0 s op z.0) (full.Assignment x.1 s op z.1)) j →
    (y, n) ≡ looked (full_step (FullExpression-F.Assignment t s op v) stands) w
assigning_full stands t v s op k w m j n x z y ek et ev ef =
    chained (where_taken k t) (λ p i. and_then (part v i) (λ q. full_judged p.0.first (FullExpression-F.Assignment p.0 s op q.0) (full.Assignment p.1 s op q.1))) w m n x y et
    (chained (part v) (λ q. full_judged x.0.first (FullExpression-F.Assignment x.0 s op q.0) (full.Assignment x.1 s op q.1)) m j n z y ev ef)
    ∙ ap (λ b. looked (λ h. and_then (where_taken b t h) (λ p i. and_then (part v i) (λ q. full_judged p.0.first (FullExpression-F.Assignment p.0 s op q.0) (full.Assignment p.1 s op q.1)))) w) ek

-- ---- printed items

pub operand_printed : (s : Spot) (a : Ex) (w m : Walk) (x : Seen × Typed) (f : Notes) →
    (x, m) ≡ looked (part a) w → f ≡ found_in m.place m.found (faults_found (printed_faults x.0)) →
    (printed.Operand s x.1, record m { found = f }) ≡ looked (printed_step (Printed-F.Operand s a)) w
operand_printed s a w m x f ea ef =
    chained (part a) (λ p. outcome (printed.Operand s p.1) (faults_found (printed_faults p.0))) w m (record m { found = f }) x (printed.Operand s x.1) ea
    (ap (λ g. (printed.Operand s x.1, record m { found = g })) ef)

-- ---- constants of the file

abbrev pub constant_of : Variable → Typed → TypedConstant
constant_of v a = record { variable = v; initializer = a }

pub constant_declared : {Stop : Type 0} (c : Constant) (x : Lexeme) (i : Given) (w : Walk) (r : Result Variable Stop) (a : Typed) (v : Variable) (n : Names) (f : Notes) →
    r ≡ Ok v → IfOk r (λ y. (b : Typed) → (constant_as c x i b w.names).what ≡ constant_of y b) → OnOk r ((b : Typed) → n ≡ (constant_as c x i b w.names).names) →
    f ≡ found_in w.place w.found (constant_as c x i a w.names).found →
    (constant_of v a, record w { names = n; found = f }) ≡ looked (constant_as c x i a) w
constant_declared c x i w r a v n f e hv hn hf =
    looked_so (constant_as c x i a) w (constant_of v a) n f
    (sym (subst (λ q. IfOk q (λ y. (b : Typed) → (constant_as c x i b w.names).what ≡ constant_of y b)) e hv a))
    (subst (λ q. OnOk q ((b : Typed) → n ≡ (constant_as c x i b w.names).names)) e hn a)
    hf
