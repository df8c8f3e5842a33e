-- The rules at objects of the library, its functions and members, over the rows that their arguments fit.
use Rattle.std.specs.Prelude.{Bool, ◌&&◌, ◌||◌, not, if◌then◌else◌, List, [], ◌++◌, Option, None, is_some}
use Rattle.sy_note.specs.declared.Code.TheVariants as code
use Rattle.sy_note.specs.declared.Diagnostic.{Diagnostic}
use Rattle.sy_note.specs.declared.Spot.{Spot}
use Rattle.sy_tree.specs.declared.parts.LibraryFunction.{LibraryFunction}
use Rattle.sy_tree.specs.declared.parts.Qualified.{Qualified}
use Rattle.sy_typed.specs.declared.things.Member.{Member}
use Rattle.sy_rules.specs.declared.library.Fit.{Fit}
use Rattle.sy_rules.specs.declared.library.Row.{Row}
use Rattle.sy_rules.specs.declared.names.Taken.{Taken}
use Rattle.sy_rules.specs.declared.names.Within.{Within}
use Rattle.sy_rules.specs.declared.seen.Constant.TheVariants as constant
use Rattle.sy_rules.specs.declared.seen.Denotes.{Denotes}
use Rattle.sy_rules.specs.declared.seen.Denotes.TheVariants as denotes
use Rattle.sy_rules.specs.declared.seen.Seen.{Seen}
use Rattle.sy_rules.specs.declared.seen.SeenArgument.{SeenArgument}
use Rattle.sy_rules.specs.Calls.{is_reduction_call, is_const}
use Rattle.sy_rules.specs.ExprRules.{is_wrong_dimension, is_wrong_arguments, is_wrong_element, fit_in, gives_in, is_no_member, is_compared, is_data, changes_vector, unread_arguments}
use Rattle.sy_rules.specs.Faults.{at}
use Rattle.sy_rules.specs.Foreign.{is_group, is_host, is_kernel}
use Rattle.sy_rules.specs.Seen.{when, passes, is_error_code}

abbrev pub not_for_host : Within → LibraryFunction → Bool
not_for_host w f = is_host w && not (is_reduction_call f)

abbrev pub function_faults : Within → LibraryFunction → Fit → List SeenArgument → Qualified → List Diagnostic
function_faults w f fit xs q =
    at code.BadDimension (when (is_wrong_dimension fit) q.name)
    ++ (at code.WrongArguments (when (is_wrong_arguments fit) q.name)
    ++ (at code.BadElement (when (is_wrong_element fit) q.name)
    ++ (at code.ModeBroken (unread_arguments xs)
    ++ (at code.NotInHost (when (not_for_host w f) q.namespace) ++ []))))

abbrev pub function_is_foreign : Within → LibraryFunction → Bool
function_is_foreign w f = (is_group w && not (is_reduction_call f)) || (is_kernel w && is_reduction_call f)

abbrev pub is_lone_code : Taken → Option Row → Bool
is_lone_code t r = passes is_error_code (gives_in r) && not (is_compared t)

-- a constant vector is given one more element
abbrev pub changes_constant : Option Member → Option Row → Seen → Bool
changes_constant m r a = is_some r && (changes_vector m && is_const a.denotes)

abbrev pub member_faults : Taken → Seen → Option Member → Option Row → List SeenArgument → Spot → List Diagnostic
member_faults t a m r xs x =
    at code.BadDimension (when (is_wrong_dimension (fit_in r)) x)
    ++ (at code.WrongArguments (when (is_wrong_arguments (fit_in r)) x)
    ++ (at code.UnknownMember (when (is_no_member t a.what r) x)
    ++ (at code.WrongOperand (when (is_lone_code t r) a.first)
    ++ (at code.BadElement (when (is_wrong_element (fit_in r)) x)
    ++ (at code.NotAssignable (when (changes_constant m r a) a.first)
    ++ (at code.ModeBroken (unread_arguments xs) ++ []))))))

-- `data()` stands for its vector
abbrev pub denotes_member : Seen → Option Row → Denotes
denotes_member a r = if passes is_data (gives_in r) then a.denotes else denotes.Value

abbrev pub seen_member : Seen → Option Row → Seen
seen_member a r = record {
  what = gives_in r;
  first = a.first;
  denotes = denotes_member a r;
  constant = constant.Varying;
  variable = None;
  is_bare = a.is_bare;
}
