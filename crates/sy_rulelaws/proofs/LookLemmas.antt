-- Looks that break rules of typing alone: what each step of a walk adds to those of its parts.
use Rattle.std.proofs.Common.{refl, ◌+◌, Bool, true, false, List, [], ◌∷◌, ◌++◌, map, Option, Some, None, if◌then◌else◌}
use Rattle.std.specs.Prelude.{⊤}
use Rattle.sy_note.specs.declared.Code.TheVariants as code
use Rattle.sy_note.specs.declared.Diagnostic.{Diagnostic}
use Rattle.sy_note.specs.declared.Spot.{Spot}
use Rattle.sy_tree.specs.declared.parts.Capture.{Capture}
use Rattle.sy_tree.specs.declared.parts.Capture.TheVariants as capture
use Rattle.sy_tree.specs.declared.parts.ConstSpecifier.{ConstSpecifier}
use Rattle.sy_tree.specs.declared.parts.LambdaParameter.{LambdaParameter}
use Rattle.sy_tree.specs.declared.parts.Lexeme.{Lexeme}
use Rattle.sy_tree.specs.declared.parts.TypeSpecifier.{TypeSpecifier}
use Rattle.sy_tree.specs.declared.tree.Argument.TheOpen.{Argument-F, Declarator-F, Initializer-F}
use Rattle.sy_typed.specs.declared.tree.TypedStmt.{TypedStmt}
use Rattle.sy_rules.specs.declared.library.Role.{Role}
use Rattle.sy_rules.specs.declared.names.Names.{Names}
use Rattle.sy_rules.specs.declared.names.Setting.{Setting}
use Rattle.sy_rules.specs.declared.names.Taken.{Taken}
use Rattle.sy_rules.specs.declared.names.Taken.TheVariants as taken
use Rattle.sy_rules.specs.declared.names.ThreadScope.{ThreadScope}
use Rattle.sy_rules.specs.declared.seen.Seen.{Seen}
use Rattle.sy_rules.specs.declared.seen.SeenArgument.{SeenArgument}
use Rattle.sy_rules.specs.declared.statements.Shared.{Shared}
use Rattle.sy_rules.specs.declared.statements.Standing.{Standing}
use Rattle.sy_rules.specs.declared.statements.Standing.TheVariants as standing
use Rattle.sy_rules.specs.Faults.{at}
use Rattle.sy_rules.specs.Lambdas.{listed_faults, bad_lambda}
use Rattle.sy_rules.specs.Layers.{SeenExpr, SeenFull, SeenStmt}
use Rattle.sy_rules.specs.Names.{entered, look_up, with_setting, where_taken}
use Rattle.sy_rules.specs.Outcome.{Finding, Outcome, Look, in_turn, faults_found, all_broken}
use Rattle.sy_rules.specs.ExprTypes.{use_of, found_at}
use Rattle.sy_rules.specs.StmtRules.{shared_after, full_faults, stmt_faults}
use Rattle.sy_rules.specs.Walk.{Ex, Dr, In, Ar, St, Bl, part, parts, one_argument, arguments, no_role, one_declarator, declarators, initialized, placed_at, body, looped, block_as, one_listed, one_capture, all_captures, one_lambda_parameter, lambda_found, parameters_and_body}
use Rattle.sy_rulelaws.proofs.CodeLemmas.{AreTyping, at_typing, typing_if, AllFound, none_found, found_append, found_faults, statement_found, use_found, found_at_found, full_typing, declarator_typing, stmt_typing, listed_typing, parameter_typing}

-- all that is found is of typing
abbrev pub Clean : {T : Type 0} → Look T → Type 0
Clean a = (n : Names) → AllFound (a n).found

abbrev pub AllClean : {T : Type 0} → List (Look T) → Type 0
AllClean [] = ⊤
AllClean (a ∷ more) = Clean a × AllClean more

abbrev pub ArgumentClean : Ar → Type 0
ArgumentClean (Argument-F.Value a) = Clean a
ArgumentClean (Argument-F.Braced s xs e) = AllClean xs
ArgumentClean (Argument-F.Lambda l) = (r : Role) → Clean (l r)

abbrev pub ArgumentsClean : List Ar → Type 0
ArgumentsClean [] = ⊤
ArgumentsClean (a ∷ more) = ArgumentClean a × ArgumentsClean more

abbrev pub DeclaratorClean : Dr → Type 0
DeclaratorClean (Declarator-F.Uninitialized x) = ⊤
DeclaratorClean (Declarator-F.Equal x s a) = Clean a
DeclaratorClean (Declarator-F.Bracketed x b s a e) = Clean a

abbrev pub DeclaratorsClean : List Dr → Type 0
DeclaratorsClean [] = ⊤
DeclaratorsClean (d ∷ more) = DeclaratorClean d × DeclaratorsClean more

abbrev pub InitializerClean : In → Type 0
InitializerClean (Initializer-F.Copy s a) = Clean a
InitializerClean (Initializer-F.Direct b s xs e) = ArgumentsClean xs

-- ---- expressions

pub part_clean : (k : Taken) (a : Ex) → Clean a → Clean (where_taken k a)
part_clean k a h n = h (with_setting (λ s. record s { taken = k }) n)

pub one_part_found : (k : Taken) (a : Ex) (f : Seen → SeenExpr) → Clean a → (n : Names) →
    AllFound ((where_taken k a n).found ++ found_at (where_taken k a n).names (f (where_taken k a n).what.0))
one_part_found k a f h n =
    let o = where_taken k a n in
    found_append o.found _ (part_clean k a h n) (found_at_found o.names (f o.what.0))

pub all_clean : {T : Type 0} (xs : List (Look T)) → AllClean xs → Clean (in_turn xs)
all_clean [] h n = none_found
all_clean (a ∷ more) h n = found_append (a n).found _ (h.0 n) (all_clean more h.1 (a n).names)

pub parts_clean : (xs : List Ex) → AllClean xs → Clean (parts xs)
parts_clean [] h n = none_found
parts_clean (a ∷ more) h n = found_append (part a n).found _ (part_clean taken.Nothing a h.0 n) (parts_clean more h.1 (part a n).names)

one_argument_clean : (k : Taken) (r : Option Role) (a : Ar) → ArgumentClean a → Clean (one_argument k r a)
one_argument_clean k r (Argument-F.Value a) h n = part_clean k a h n
one_argument_clean k r (Argument-F.Braced s xs e) h n = parts_clean xs h n
one_argument_clean k None (Argument-F.Lambda l) h n = none_found
one_argument_clean k (Some r) (Argument-F.Lambda l) h n = h r n

pub arguments_clean : (k : Taken) (role : List SeenArgument → Option Role) (before : List SeenArgument) (xs : List Ar) → ArgumentsClean xs → Clean (arguments k role before xs)
arguments_clean k role before [] h n = none_found
arguments_clean k role before (a ∷ more) h n =
    let o = one_argument k (role before) a n in
    found_append o.found _ (one_argument_clean k (role before) a h.0 n) (arguments_clean k role (before ++ (o.what.0 ∷ [])) more h.1 o.names)

-- ---- full expressions and declarations

pub full_found : (x : SeenFull) → AllFound (faults_found (full_faults x))
full_found x = found_faults (full_faults x) (full_typing x)

one_declarator_clean : (must : Bool) (c : Option ConstSpecifier) (t : TypeSpecifier) (first : Shared) (d : Dr) → DeclaratorClean d → Clean (one_declarator must c t first d)
one_declarator_clean must c t first (Declarator-F.Uninitialized x) h n = found_faults _ (declarator_typing n must c t first x None)
one_declarator_clean must c t first (Declarator-F.Equal x s a) h n =
    let o = part a n in
    found_append o.found _ (part_clean taken.Nothing a h n) (found_faults _ (declarator_typing o.names must c t first x (Some (o.what.0, true))))
one_declarator_clean must c t first (Declarator-F.Bracketed x b s a e) h n =
    let o = part a n in
    found_append o.found _ (part_clean taken.Nothing a h n) (found_faults _ (declarator_typing o.names must c t first x (Some (o.what.0, false))))

pub declarators_clean : (must : Bool) (c : Option ConstSpecifier) (t : TypeSpecifier) (first : Shared) (ds : List Dr) → DeclaratorsClean ds → Clean (declarators must c t first ds)
declarators_clean must c t first [] h n = none_found
declarators_clean must c t first (d ∷ more) h n =
    let o = one_declarator must c t first d n in
    found_append o.found _ (one_declarator_clean must c t first d h.0 n) (declarators_clean must c t (shared_after first o.what.0) more h.1 o.names)

pub initialized_clean : (k : Taken) (i : In) → InitializerClean i → Clean (initialized k (Some i))
initialized_clean k (Initializer-F.Copy s a) h n = part_clean k a h n
initialized_clean k (Initializer-F.Direct b s xs e) h n = arguments_clean k no_role [] xs h n

pub object_found : (allowed : Bool) (ds : List Diagnostic) (found : List Finding) → AreTyping ds → AllFound found → AllFound (faults_found (if allowed then ds else []) ++ found)
object_found allowed ds found h k = found_append (faults_found (if allowed then ds else [])) found (found_faults (if allowed then ds else []) (typing_if allowed ds h)) k

-- ---- statements

pub placed_clean : (own : Standing) (s : Spot) (n : Names) (o : Outcome TypedStmt) → AllFound o.found → AllFound (placed_at own s n o).found
placed_clean standing.InHead s n o h = h
placed_clean standing.AsBody s n o h = statement_found n.setting.within s o.found h
placed_clean standing.InList s n o h = statement_found n.setting.within s o.found h

pub stmt_found : (s : Setting) (x : SeenStmt) → AllFound (faults_found (stmt_faults s x))
stmt_found s x = found_faults (stmt_faults s x) (stmt_typing s x)

pub body_clean : (s : St) → ((own : Standing) → Clean (s own)) → Clean (body s)
body_clean s h n = h standing.AsBody (entered n)

pub looped_clean : {T : Type 0} (a : Look T) → Clean a → Clean (looped a)
looped_clean a h n = h (with_setting (λ s. record s { in_loop = true }) n)

pub block_as_clean : (own : Standing) (b : Bl) → Clean b → Clean (block_as own b)
block_as_clean standing.AsBody b h n = h n
block_as_clean standing.InList b h n = h (entered n)
block_as_clean standing.InHead b h n = h (entered n)

-- ---- lambdas

listed_clean : (outside : Names) (t : Option ThreadScope) (by_reference : Bool) (x : Lexeme) → Clean (one_listed outside t by_reference x)
listed_clean outside t by_reference x n =
    found_append (faults_found (listed_faults outside t by_reference x)) (use_of (look_up outside.entries x.text)) (found_faults _ (listed_typing outside t by_reference x)) (use_found (look_up outside.entries x.text))

capture_clean : (outside : Names) (t : Option ThreadScope) (c : Capture) → Clean (one_capture outside t c)
capture_clean outside t (capture.Reference s x) n = listed_clean outside t true x n
capture_clean outside t (capture.Copy x) n = listed_clean outside t false x n
capture_clean outside t (capture.DefaultReference s) n = none_found
capture_clean outside t (capture.DefaultCopy s) n = none_found

each_capture_clean : (outside : Names) (t : Option ThreadScope) (cs : List Capture) → AllClean (map (one_capture outside t) cs)
each_capture_clean outside t [] = tt
each_capture_clean outside t (c ∷ cs) = (capture_clean outside t c, each_capture_clean outside t cs)

pub captures_clean : (outside : Names) (t : Option ThreadScope) (cs : List Capture) → Clean (all_captures outside t cs)
captures_clean outside t cs n = all_clean (map (one_capture outside t) cs) (each_capture_clean outside t cs) n

each_parameter_clean : (r : Role) (ps : List LambdaParameter) → AllClean (map (one_lambda_parameter r) ps)
each_parameter_clean r [] = tt
each_parameter_clean r (p ∷ ps) = (λ n. found_faults _ (parameter_typing n p), each_parameter_clean r ps)

pub parameters_and_body_clean : (r : Role) (ps : List LambdaParameter) (b : Bl) → Clean b → Clean (parameters_and_body r ps b)
parameters_and_body_clean r ps b h n =
    let o = in_turn (map (one_lambda_parameter r) ps) n in
    found_append o.found _ (all_clean (map (one_lambda_parameter r) ps) (each_parameter_clean r ps) n) (h o.names)

pub lambda_clean : (r : Role) (s : Spot) (cs : List Capture) (ps : List LambdaParameter) (found : List Finding) → AllFound found → AllFound (lambda_found r s cs ps found)
lambda_clean r s cs ps found h =
    found_append (faults_found (at code.BadLambda (bad_lambda r s cs ps (all_broken found)))) found (found_faults _ (at_typing code.BadLambda (bad_lambda r s cs ps (all_broken found)) refl)) h
