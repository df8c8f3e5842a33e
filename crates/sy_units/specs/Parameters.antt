-- What a parameter of a function is, and what it breaks.
use Rattle.std.specs.Prelude.{Bool, false, List, [], ◌++◌, Option, Some}
use Rattle.sy_note.specs.declared.Code.TheVariants as code
use Rattle.sy_note.specs.declared.Diagnostic.{Diagnostic}
use Rattle.sy_num.specs.declared.Kind.TheVariants as kind
use Rattle.sy_tree.specs.declared.parts.Lexeme.{Lexeme}
use Rattle.sy_tree.specs.declared.parts.Parameter.{Parameter}
use Rattle.sy_tree.specs.declared.parts.Parameter.TheVariants as parameter
use Rattle.sy_typed.specs.declared.things.Thing.{Thing}
use Rattle.sy_typed.specs.declared.things.Thing.TheVariants as thing
use Rattle.sy_rules.specs.declared.names.Names.{Names}
use Rattle.sy_rules.specs.ExprRules.{wide_literal, no_dimension}
use Rattle.sy_rules.specs.Faults.{at}
use Rattle.sy_rules.specs.Seen.{when, same_kind}
use Rattle.sy_rules.specs.StmtRules.{redeclared}
use Rattle.sy_rules.specs.Units.{reference_type, in_reference}

abbrev pub name_of : Parameter → Lexeme
name_of (parameter.Integer c t x) = x
name_of (parameter.Object t x) = x
name_of (parameter.Vector c q t x) = x

abbrev pub type_of : Parameter → Option Thing
type_of (parameter.Integer c t x) = Some (thing.Integer t.kind)
type_of (parameter.Object t x) = reference_type t
type_of (parameter.Vector c q t x) = Some (thing.Vector t.kind)

-- it is const
abbrev pub is_fixed : Parameter → Bool
is_fixed (parameter.Integer c t x) = c
is_fixed (parameter.Object t x) = false
is_fixed (parameter.Vector c q t x) = c

abbrev pub bad_type : Parameter → List Diagnostic
bad_type (parameter.Integer c t x) = []
bad_type (parameter.Object t x) = at code.BadLiteral (in_reference wide_literal t) ++ at code.BadDimension (in_reference no_dimension t)
bad_type (parameter.Vector c q t x) = at code.WrongArguments (when (same_kind t.kind kind.Bool) x.spot)

abbrev pub parameter_faults : Names → Parameter → List Diagnostic
parameter_faults n p = at code.Redeclared (redeclared n (name_of p)) ++ bad_type p
