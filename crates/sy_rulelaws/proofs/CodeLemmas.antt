-- The codes of what is broken at one construct are rows of the table of typing.
use Rattle.std.proofs.Common.{◌≡◌, refl, ℕ, Bool, true, false, List, [], ◌∷◌, ◌++◌, Option, Some, None, if◌then◌else◌, nat_lt}
use Rattle.std.specs.Prelude.{⊤, flat_map}
use Rattle.sy_note.specs.declared.Code.{Code}
use Rattle.sy_note.specs.declared.Code.TheVariants as code
use Rattle.sy_note.specs.declared.Diagnostic.{Diagnostic}
use Rattle.sy_note.specs.declared.Spot.{Spot}
use Rattle.sy_num.specs.declared.Kind.{Kind}
use Rattle.sy_tree.specs.declared.parts.ConstSpecifier.{ConstSpecifier}
use Rattle.sy_tree.specs.declared.parts.LambdaParameter.{LambdaParameter}
use Rattle.sy_tree.specs.declared.parts.Lexeme.{Lexeme}
use Rattle.sy_tree.specs.declared.parts.ObjectType.{ObjectType}
use Rattle.sy_tree.specs.declared.parts.TypeSpecifier.{TypeSpecifier}
use Rattle.sy_tree.specs.declared.tree.Argument.TheOpen.{Expr-F}
use Rattle.sy_rules.specs.declared.names.Named.{Named}
use Rattle.sy_rules.specs.declared.names.Names.{Names}
use Rattle.sy_rules.specs.declared.names.Setting.{Setting}
use Rattle.sy_rules.specs.declared.names.ThreadScope.{ThreadScope}
use Rattle.sy_rules.specs.declared.names.Within.{Within}
use Rattle.sy_rules.specs.declared.names.Within.TheVariants as within
use Rattle.sy_rules.specs.declared.seen.Seen.{Seen}
use Rattle.sy_rules.specs.declared.seen.SeenInitializer.{SeenInitializer}
use Rattle.sy_rules.specs.declared.statements.Shared.{Shared}
use Rattle.sy_rules.specs.ExprRules.{expr_faults, faults}
use Rattle.sy_rules.specs.ExprTypes.{use_of, call_of, uses_of, found_at}
use Rattle.sy_rules.specs.Faults.{at}
use Rattle.sy_rules.specs.Foreign.{is_host, is_foreign, foreign_uses, foreign_everywhere}
use Rattle.sy_rules.specs.Lambdas.{listed_faults, lambda_parameter_faults}
use Rattle.sy_rules.specs.Layers.{SeenExpr, SeenFull, SeenStmt}
use Rattle.sy_rules.specs.Names.{look_up}
use Rattle.sy_rules.specs.Outcome.{Finding, broken, foreign, held, calls, uses, placed, placed_in, faults_found, foreign_in}
use Rattle.sy_rules.specs.StmtRules.{full_faults, Given, declarator_faults, object_faults, vector_faults, device_vector_faults, plain_faults, stmt_faults}
use Rattle.sy_rules.specs.Walk.{printed_faults, range_faults, range_found}
use Rattle.sy_rulelaws.specs.Typing.{is_typing}

-- ---- lists of broken rules

abbrev pub EachTyping : List Diagnostic → Type 0
EachTyping [] = ⊤
EachTyping (d ∷ ds) = (is_typing d.code ≡ true) × EachTyping ds

pub record AreTyping (ds : List Diagnostic) : Type 0 where
  pub each : EachTyping ds

pub none_typing : AreTyping []
none_typing = record { each = tt }

pub typing_cons : (d : Diagnostic) (ds : List Diagnostic) → is_typing d.code ≡ true → AreTyping ds → AreTyping (d ∷ ds)
typing_cons d ds h k = record { each = (h, k.each) }

each_append : (xs ys : List Diagnostic) → EachTyping xs → EachTyping ys → EachTyping (xs ++ ys)
each_append [] ys h k = k
each_append (x ∷ xs) ys h k = (h.0, each_append xs ys h.1 k)

pub typing_append : (xs ys : List Diagnostic) → AreTyping xs → AreTyping ys → AreTyping (xs ++ ys)
typing_append xs ys h k = record { each = each_append xs ys h.each k.each }

each_at : (c : Code) (ss : List Spot) → is_typing c ≡ true → EachTyping (at c ss)
each_at c [] h = tt
each_at c (s ∷ ss) h = (h, each_at c ss h)

pub at_typing : (c : Code) (ss : List Spot) → is_typing c ≡ true → AreTyping (at c ss)
at_typing c ss h = record { each = each_at c ss h }

pub at_then : (c : Code) (ss : List Spot) (ys : List Diagnostic) → is_typing c ≡ true → AreTyping ys → AreTyping (at c ss ++ ys)
at_then c ss ys h k = typing_append (at c ss) ys (at_typing c ss h) k

pub typing_if : (b : Bool) (ds : List Diagnostic) → AreTyping ds → AreTyping (if b then ds else [])
typing_if true ds h = h
typing_if false ds h = none_typing

typing_unless : (b : Bool) (ds : List Diagnostic) → AreTyping ds → AreTyping (if b then [] else ds)
typing_unless true ds h = none_typing
typing_unless false ds h = h

-- ---- lists of findings

abbrev pub OfTyping : Finding → Type 0
OfTyping (broken d) = is_typing d.code ≡ true
OfTyping (foreign w) = ⊤
OfTyping (held w s) = ⊤
OfTyping (calls w i) = ⊤
OfTyping (uses v) = ⊤

abbrev pub EachFound : List Finding → Type 0
EachFound [] = ⊤
EachFound (x ∷ xs) = OfTyping x × EachFound xs

pub record AllFound (xs : List Finding) : Type 0 where
  pub each : EachFound xs

pub none_found : AllFound []
none_found = record { each = tt }

each_found_append : (xs ys : List Finding) → EachFound xs → EachFound ys → EachFound (xs ++ ys)
each_found_append [] ys h k = k
each_found_append (x ∷ xs) ys h k = (h.0, each_found_append xs ys h.1 k)

pub found_append : (xs ys : List Finding) → AllFound xs → AllFound ys → AllFound (xs ++ ys)
found_append xs ys h k = record { each = each_found_append xs ys h.each k.each }

each_fault : (ds : List Diagnostic) → EachTyping ds → EachFound (faults_found ds)
each_fault [] h = tt
each_fault (d ∷ ds) h = (h.0, each_fault ds h.1)

pub found_faults : (ds : List Diagnostic) → AreTyping ds → AllFound (faults_found ds)
found_faults ds h = record { each = each_fault ds h.each }

pub foreign_found : (b : Bool) (w : Within) → AllFound (foreign_in b w)
foreign_found true w = record { each = (tt, tt) }
foreign_found false w = none_found

-- ---- statements

placed_in_found : (w : Within) (s : Spot) (u : Within) → EachFound (placed_in w s u)
placed_in_found within.Host s u = (tt, tt)
placed_in_found within.Group s within.Host = tt
placed_in_found within.Group s within.Group = (refl, tt)
placed_in_found within.Group s within.Kernel = tt
placed_in_found within.Kernel s within.Host = tt
placed_in_found within.Kernel s within.Group = tt
placed_in_found within.Kernel s within.Kernel = (refl, tt)

placed_found : (w : Within) (s : Spot) (x : Finding) → OfTyping x → EachFound (placed w s x)
placed_found w s (foreign u) h = placed_in_found w s u
placed_found w s (broken d) h = (h, tt)
placed_found w s (held u r) h = (tt, tt)
placed_found w s (calls u i) h = (tt, tt)
placed_found w s (uses v) h = (tt, tt)

each_in_statement : (w : Within) (s : Spot) (xs : List Finding) → EachFound xs → EachFound (flat_map (placed w s) xs)
each_in_statement w s [] h = tt
each_in_statement w s (x ∷ xs) h = each_found_append (placed w s x) (flat_map (placed w s) xs) (placed_found w s x h.0) (each_in_statement w s xs h.1)

pub statement_found : (w : Within) (s : Spot) (xs : List Finding) → AllFound xs → AllFound (flat_map (placed w s) xs)
statement_found w s xs h = record { each = each_in_statement w s xs h.each }

-- ---- expressions

expr_faults_typing : (n : Names) (x : SeenExpr) → AreTyping (expr_faults n x)
expr_faults_typing n x =
    at_then code.UnknownName _ _ refl
    (at_then code.BadLiteral _ _ refl
    (at_then code.BadDimension _ _ refl
    (at_then code.BadDeclaration _ _ refl
    (at_then code.WrongArguments _ _ refl
    (at_then code.UnknownMember _ _ refl
    (at_then code.WrongOperand _ _ refl
    (at_then code.BadElement _ _ refl
    (at_then code.NotAssignable _ _ refl
    (at_then code.ModeBroken _ _ refl
    (at_then code.NotInHost _ _ refl
    (at_then code.KernelCapture _ _ refl
    (at_then code.ThreadCapture _ _ refl
    (at_typing code.BadCall _ refl)))))))))))))

pub faults_typing : (n : Names) (x : SeenExpr) → AreTyping (faults n x)
faults_typing n x = typing_unless (is_foreign n.setting.within n x) (expr_faults n x) (expr_faults_typing n x)

used_found : (b : Bool) (v : Named) → AllFound (if b then uses v ∷ [] else [])
used_found true v = record { each = (tt, tt) }
used_found false v = none_found

pub use_found : (v : Option Named) → AllFound (use_of v)
use_found None = none_found
use_found (Some v) = used_found (nat_lt 0 v.depth) v

called_found : (w : Within) (i : Option ℕ) → AllFound (elim i [ None ↦ [] | Some i ↦ calls w i ∷ [] ])
called_found w None = none_found
called_found w (Some i) = record { each = (tt, tt) }

call_found : (n : Names) (v : Option Named) → AllFound (call_of n v)
call_found n None = none_found
call_found n (Some v) = called_found n.setting.within v.function

uses_found : (n : Names) (x : SeenExpr) → AllFound (uses_of n x)
uses_found n (Expr-F.Name x) = use_found (look_up n.entries x.text)
uses_found n (Expr-F.Call f xs e) = call_found n (look_up n.entries f.text)
uses_found n x = none_found

pub found_at_found : (n : Names) (x : SeenExpr) → AllFound (found_at n x)
found_at_found n x =
    found_append (faults_found (faults n x)) (foreign_uses n x ++ uses_of n x) (found_faults (faults n x) (faults_typing n x))
    (found_append (foreign_uses n x) (uses_of n x)
    (found_append (foreign_in (is_foreign within.Kernel n x) within.Kernel) (foreign_in (is_foreign within.Group n x) within.Group) (foreign_found (is_foreign within.Kernel n x) within.Kernel) (foreign_found (is_foreign within.Group n x) within.Group))
    (uses_found n x))

-- ---- full expressions, declarations and statements

pub full_typing : (x : SeenFull) → AreTyping (full_faults x)
full_typing x = at_then code.WrongOperand _ _ refl (at_then code.NotAssignable _ _ refl (at_typing code.ModeBroken _ refl))

pub declarator_typing : (n : Names) (must : Bool) (c : Option ConstSpecifier) (t : TypeSpecifier) (first : Shared) (x : Lexeme) (i : Given) → AreTyping (declarator_faults n must c t first x i)
declarator_typing n must c t first x i =
    at_then code.Redeclared _ _ refl
    (at_then code.BadConstant _ _ refl
    (at_then code.BadDeclaration _ _ refl
    (at_then code.WrongOperand _ _ refl
    (at_typing code.ModeBroken _ refl))))

pub object_typing : (n : Names) (t : ObjectType) (x : Lexeme) (i : Option SeenInitializer) → AreTyping (object_faults n t x i)
object_typing n t x i =
    at_then code.Redeclared _ _ refl
    (at_then code.BadLiteral _ _ refl
    (at_then code.BadDimension _ _ refl
    (at_then code.BadDeclaration _ _ refl
    (at_then code.WrongArguments _ _ refl
    (at_then code.BadElement _ _ refl
    (at_then code.ModeBroken _ _ refl
    (at_typing code.NotInHost _ refl)))))))

pub vector_typing : (n : Names) (k : Kind) (x : Lexeme) (i : Option SeenInitializer) → AreTyping (vector_faults n k x i)
vector_typing n k x i = at_then code.Redeclared _ _ refl (at_then code.WrongArguments _ _ refl (at_typing code.ModeBroken _ refl))

pub device_vector_typing : (n : Names) (x : Lexeme) (i : Option SeenInitializer) → AreTyping (device_vector_faults n x i)
device_vector_typing n x i = at_then code.Redeclared _ _ refl (at_typing code.WrongArguments _ refl)

pub plain_typing : (n : Names) (x : Lexeme) → AreTyping (plain_faults n x)
plain_typing n x = at_typing code.Redeclared _ refl

pub stmt_typing : (s : Setting) (x : SeenStmt) → AreTyping (stmt_faults s x)
stmt_typing s x =
    at_then code.WrongOperand _ _ refl
    (at_then code.ModeBroken _ _ refl
    (at_then code.BadReturn _ _ refl
    (at_typing code.LoopWord _ refl)))

pub printed_typing : (a : Seen) → AreTyping (printed_faults a)
printed_typing a = at_then code.WrongOperand _ _ refl (at_typing code.ModeBroken _ refl)

range_typing : (n : Names) (c : Bool) (t : TypeSpecifier) (r : Bool) (x v : Lexeme) (found : Option Named) → AreTyping (range_faults n c t r x v found)
range_typing n c t r x v found = at_then code.UnknownName _ _ refl (at_then code.BadDeclaration _ _ refl (at_typing code.ThreadCapture _ refl))

pub everywhere_found : AllFound foreign_everywhere
everywhere_found = record { each = (tt, (tt, tt)) }

pub range_found_found : (n : Names) (c : Bool) (t : TypeSpecifier) (r : Bool) (x v : Lexeme) (found : Option Named) → AllFound (range_found n c t r x v found)
range_found_found n c t r x v found =
    found_append (faults_found (if is_host n.setting.within then range_faults n c t r x v found else [])) (foreign_everywhere ++ use_of found)
    (found_faults _ (typing_if (is_host n.setting.within) (range_faults n c t r x v found) (range_typing n c t r x v found)))
    (found_append foreign_everywhere (use_of found) everywhere_found (use_found found))

-- ---- lambdas

pub listed_typing : (n : Names) (t : Option ThreadScope) (by_reference : Bool) (x : Lexeme) → AreTyping (listed_faults n t by_reference x)
listed_typing n t by_reference x = at_then code.UnknownName _ _ refl (at_typing code.ThreadCapture _ refl)

pub parameter_typing : (n : Names) (p : LambdaParameter) → AreTyping (lambda_parameter_faults n p)
parameter_typing n p = at_then code.Redeclared _ _ refl (at_then code.BadLiteral _ _ refl (at_typing code.BadDimension _ refl))
