-- The rules at operators, indexes and barriers, and what an index denotes.
use Rattle.std.specs.Prelude.{Bool, ◌&&◌, ◌||◌, not, if◌then◌else◌, List, [], ◌++◌, Option, is_some}
use Rattle.sy_note.specs.declared.Code.TheVariants as code
use Rattle.sy_note.specs.declared.Diagnostic.{Diagnostic}
use Rattle.sy_note.specs.declared.Spot.{Spot}
use Rattle.sy_tree.specs.declared.operators.Operator.{Operator}
use Rattle.sy_tree.specs.declared.parts.Qualified.{Qualified}
use Rattle.sy_typed.specs.declared.things.Thing.{Thing}
use Rattle.sy_rules.specs.declared.names.Within.{Within}
use Rattle.sy_rules.specs.declared.seen.Denotes.{Denotes}
use Rattle.sy_rules.specs.declared.seen.Denotes.TheVariants as denotes
use Rattle.sy_rules.specs.declared.seen.Seen.{Seen}
use Rattle.sy_rules.specs.Calls.{is_group}
use Rattle.sy_rules.specs.ExprRules.{wrong_operands, is_whole_index, is_index_of_another, wrong_index, indexed_dimensions}
use Rattle.sy_rules.specs.ExprTypes.{is_element, denotes_element}
use Rattle.sy_rules.specs.Faults.{at}
use Rattle.sy_rules.specs.Foreign.{is_host}
use Rattle.sy_rules.specs.Seen.{when, passes, fails, is_integer, no_integer, if_bool, no_target, unread, unwritten}

-- ---- the rules that operands break

abbrev pub operand_faults : Seen → List Diagnostic
operand_faults a = at code.WrongOperand (no_integer a) ++ (at code.ModeBroken (unread a) ++ [])

abbrev pub step_faults : Seen → List Diagnostic
step_faults a =
    at code.WrongOperand (no_integer a ++ if_bool a)
    ++ (at code.NotAssignable (no_target a)
    ++ (at code.ModeBroken (unread a ++ unwritten a) ++ []))

abbrev pub operator_faults : Operator → Seen → Seen → List Diagnostic
operator_faults op a b = at code.WrongOperand (wrong_operands op a b) ++ (at code.ModeBroken (unread a ++ unread b) ++ [])

abbrev pub choice_faults : Seen → Seen → Seen → List Diagnostic
choice_faults a b c =
    at code.WrongOperand (no_integer a ++ (no_integer b ++ no_integer c))
    ++ (at code.ModeBroken (unread a ++ (unread b ++ unread c)) ++ [])

-- ---- indexes and barriers

abbrev pub is_wrong_index : Seen → Seen → Bool
is_wrong_index a i = fails is_integer i.what && not (is_whole_index a i || is_index_of_another a i)

abbrev pub index_faults : Seen → Spot → Seen → List Diagnostic
index_faults a bracket i =
    at code.BadDimension (when (is_index_of_another a i) i.first)
    ++ (at code.UnknownMember (when (fails (λ t. is_some (indexed_dimensions t)) a.what) bracket)
    ++ (at code.WrongOperand (wrong_index a i)
    ++ (at code.ModeBroken (unread i) ++ [])))

abbrev pub denotes_indexed : Seen → Option Thing → Denotes
denotes_indexed a t = if passes is_element t then denotes_element a a.what else denotes.Value

abbrev pub barrier_faults : Within → Qualified → Seen → List Diagnostic
barrier_faults w q a =
    at code.WrongArguments (when (fails is_group a.what) q.name)
    ++ (at code.NotInHost (when (is_host w) q.namespace) ++ [])
