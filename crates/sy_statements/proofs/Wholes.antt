-- What is told rule by rule of a construct is all that it breaks.
use Rattle.std.proofs.Common.{◌≡◌, Bool, not, ◌&&◌, ◌++◌, Option}
use Rattle.sy_note.specs.declared.Code.TheVariants as code
use Rattle.sy_note.specs.declared.Diagnostic.{Diagnostic}
use Rattle.sy_note.specs.declared.Spot.{Spot}
use Rattle.sy_tree.specs.declared.operators.AssignmentOperator.{AssignmentOperator}
use Rattle.sy_tree.specs.declared.parts.ConstSpecifier.{ConstSpecifier}
use Rattle.sy_tree.specs.declared.parts.Lexeme.{Lexeme}
use Rattle.sy_tree.specs.declared.parts.ObjectType.{ObjectType}
use Rattle.sy_tree.specs.declared.parts.TypeSpecifier.{TypeSpecifier}
use Rattle.sy_tree.specs.declared.tree.Argument.TheOpen.{FullExpression-F}
use Rattle.sy_rules.specs.declared.library.Fit.{Fit}
use Rattle.sy_rules.specs.declared.names.Names.{Names}
use Rattle.sy_rules.specs.declared.seen.Seen.{Seen}
use Rattle.sy_rules.specs.declared.seen.SeenInitializer.{SeenInitializer}
use Rattle.sy_rules.specs.declared.statements.Shared.{Shared}
use Rattle.sy_rules.specs.ExprRules.{in_type, no_dimension, wide_literal, unread_arguments, is_wrong_dimension, is_wrong_arguments, is_wrong_element}
use Rattle.sy_rules.specs.Faults.{at}
use Rattle.sy_rules.specs.Foreign.{is_host, made_in_host, type_start}
use Rattle.sy_rules.specs.Objects.{object_row, arguments_of}
use Rattle.sy_rules.specs.Seen.{when, no_integer, unread}
use Rattle.sy_rules.specs.StmtRules.{Given, wrong_target, no_target_in_full, bad_mode, full_faults, redeclared, bad_constant, bad_declaration, wrong_initializer, unread_initializer, declarator_faults, unsubmitted, object_faults}
use Rattle.sy_findings.specs.Told.{told}
use Rattle.sy_statements.proofs.Steps.{then_told, then_at}

pub assignment_told : (t v : Seen) (op : AssignmentOperator) (s : Spot) (f a b c d e : Option Diagnostic)
    → a ≡ told f (at code.WrongOperand (wrong_target op t t.what))
    → b ≡ told a (at code.WrongOperand (no_integer v))
    → c ≡ told b (at code.NotAssignable (no_target_in_full (FullExpression-F.Assignment t s op v)))
    → d ≡ told c (at code.ModeBroken (bad_mode op t))
    → e ≡ told d (at code.ModeBroken (unread v))
    → e ≡ told f (full_faults (FullExpression-F.Assignment t s op v))
assignment_told t v op s f a b c d e h i j k l =
    let target = no_target_in_full (FullExpression-F.Assignment t s op v) in
    let mode = bad_mode op t ++ unread v in
    then_told f b e (at code.WrongOperand (wrong_target op t t.what ++ no_integer v)) (at code.NotAssignable target ++ at code.ModeBroken mode)
    (then_at code.WrongOperand f a b (wrong_target op t t.what) (no_integer v) h i)
    (then_told b c e (at code.NotAssignable target) (at code.ModeBroken mode) j (then_at code.ModeBroken c d e (bad_mode op t) (unread v) k l))

pub declarator_told : (n : Names) (must : Bool) (k : Option ConstSpecifier) (t : TypeSpecifier) (first : Shared) (x : Lexeme) (i : Given) (f a b c d e : Option Diagnostic)
    → a ≡ told f (at code.Redeclared (redeclared n x))
    → b ≡ told a (at code.BadConstant (bad_constant must i))
    → c ≡ told b (at code.BadDeclaration (bad_declaration k t first i x.spot))
    → d ≡ told c (at code.WrongOperand (wrong_initializer t i))
    → e ≡ told d (at code.ModeBroken (unread_initializer i))
    → e ≡ told f (declarator_faults n must k t first x i)
declarator_told n must k t first x i f a b c d e p q r s u =
    let fifth = at code.ModeBroken (unread_initializer i) in
    let fourth = at code.WrongOperand (wrong_initializer t i) in
    let third = at code.BadDeclaration (bad_declaration k t first i x.spot) in
    let second = at code.BadConstant (bad_constant must i) in
    then_told f a e (at code.Redeclared (redeclared n x)) (second ++ (third ++ (fourth ++ fifth))) p
    (then_told a b e second (third ++ (fourth ++ fifth)) q
    (then_told b c e third (fourth ++ fifth) r
    (then_told c d e fourth fifth s u)))

pub object_told : (n : Names) (t : ObjectType) (x : Lexeme) (i : Option SeenInitializer) (fit : Fit) (f a b c d e g h k : Option Diagnostic)
    → fit ≡ (object_row t (arguments_of i)).fit
    → a ≡ told f (at code.Redeclared (redeclared n x))
    → b ≡ told a (at code.BadLiteral (in_type wide_literal t))
    → c ≡ told b (at code.BadDimension (in_type no_dimension t ++ when (is_wrong_dimension fit) x.spot))
    → d ≡ told c (at code.BadDeclaration (unsubmitted t i x.spot))
    → e ≡ told d (at code.WrongArguments (when (is_wrong_arguments fit) x.spot))
    → g ≡ told e (at code.BadElement (when (is_wrong_element fit) x.spot))
    → h ≡ told g (at code.ModeBroken (unread_arguments (arguments_of i)))
    → k ≡ told h (at code.NotInHost (when (is_host n.setting.within && not (made_in_host t)) (type_start t)))
    → k ≡ told f (object_faults n t x i)
object_told n t x i fit f a b c d e g h k same p q r s u v w y =
    let host = at code.NotInHost (when (is_host n.setting.within && not (made_in_host t)) (type_start t)) in
    let modes = at code.ModeBroken (unread_arguments (arguments_of i)) in
    let elements = at code.BadElement (when (is_wrong_element fit) x.spot) in
    let arguments = at code.WrongArguments (when (is_wrong_arguments fit) x.spot) in
    let declarations = at code.BadDeclaration (unsubmitted t i x.spot) in
    let dimensions = at code.BadDimension (in_type no_dimension t ++ when (is_wrong_dimension fit) x.spot) in
    let literals = at code.BadLiteral (in_type wide_literal t) in
    rw (← same)
    (then_told f a k (at code.Redeclared (redeclared n x)) (literals ++ (dimensions ++ (declarations ++ (arguments ++ (elements ++ (modes ++ host)))))) p
    (then_told a b k literals (dimensions ++ (declarations ++ (arguments ++ (elements ++ (modes ++ host))))) q
    (then_told b c k dimensions (declarations ++ (arguments ++ (elements ++ (modes ++ host)))) r
    (then_told c d k declarations (arguments ++ (elements ++ (modes ++ host))) s
    (then_told d e k arguments (elements ++ (modes ++ host)) u
    (then_told e g k elements (modes ++ host) v
    (then_told g h k modes host w y)))))))
