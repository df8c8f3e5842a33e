-- What is seen of a construct where no rule is broken in it, and what is left of that elsewhere.
use Rattle.std.specs.Prelude.{Bool, true, false, ◌&&◌, not, if◌then◌else◌, List, [], ◌++◌, Option, None, is_none}
use Rattle.sy_note.specs.declared.Code.TheVariants as code
use Rattle.sy_note.specs.declared.Diagnostic.{Diagnostic}
use Rattle.sy_note.specs.declared.Spot.{Spot}
use Rattle.sy_tree.specs.declared.parts.Lexeme.{Lexeme}
use Rattle.sy_tree.specs.declared.parts.Qualified.{Qualified}
use Rattle.sy_typed.specs.declared.things.Thing.{Thing}
use Rattle.sy_rules.specs.declared.names.Named.{Named}
use Rattle.sy_rules.specs.declared.names.Setting.{Setting}
use Rattle.sy_rules.specs.declared.names.Taken.{Taken}
use Rattle.sy_rules.specs.declared.names.ThreadScope.{ThreadScope}
use Rattle.sy_rules.specs.declared.seen.Constant.{Constant}
use Rattle.sy_rules.specs.declared.seen.Denotes.TheVariants as denotes
use Rattle.sy_rules.specs.declared.seen.Seen.{Seen}
use Rattle.sy_rules.specs.ExprRules.{is_compared, is_combined_into, is_captured_badly, is_misused_in}
use Rattle.sy_rules.specs.ExprTypes.{is_empty, if_sound, if_sound_denotes, if_sound_constant, denotes_name, constant_of_name, variable_numbered}
use Rattle.sy_rules.specs.Faults.{at}
use Rattle.sy_rules.specs.Foreign.{foreign_to, type_of_name}
use Rattle.sy_rules.specs.Seen.{when, passes, is_reducer}
use Rattle.sy_rules.specs.Words.{error_named}

abbrev pub seen_if : Bool → Seen → Seen
seen_if sound a = record {
  what = if_sound sound a.what;
  first = a.first;
  denotes = if_sound_denotes sound a.denotes;
  constant = if_sound_constant sound a.constant;
  variable = a.variable;
  is_bare = a.is_bare;
}

-- a value that no name stands for
abbrev pub seen_value : Option Thing → Spot → Constant → Seen
seen_value t s c = record { what = t; first = s; denotes = denotes.Value; constant = c; variable = None; is_bare = false }

-- the rules that a construct breaks by itself count where its place allows it
abbrev pub counted : Bool → List Diagnostic → List Diagnostic
counted is_foreign ds = if is_foreign then [] else ds

-- its parts are known, it breaks no rule, and its place allows it
abbrev pub is_sound_if : Bool → Bool → List Diagnostic → Bool
is_sound_if is_foreign parts_are_known ds = parts_are_known && (is_empty (counted is_foreign ds) && not is_foreign)

-- ---- names and errors

abbrev pub is_wrong_reducer : Taken → Option Named → Bool
is_wrong_reducer t found = passes is_reducer (type_of_name found) && not (is_combined_into t)

abbrev pub name_faults : Setting → List ThreadScope → Option Named → Spot → List Diagnostic
name_faults s ts found x =
    at code.UnknownName (when (is_none found) x)
    ++ (at code.WrongOperand (when (is_wrong_reducer s.taken found) x)
    ++ (at code.KernelCapture (when (is_captured_badly s.kernel found) x)
    ++ (at code.ThreadCapture (when (is_misused_in ts found) x) ++ [])))

abbrev pub name_is_foreign : Setting → Option Named → Bool
name_is_foreign s found = passes (foreign_to s.within s.taken) (type_of_name found)

abbrev pub seen_name : Setting → Option Named → Spot → Seen
seen_name s found x = record {
  what = type_of_name found;
  first = x;
  denotes = denotes_name s.kernel found;
  constant = constant_of_name found;
  variable = variable_numbered found;
  is_bare = true;
}

abbrev pub error_code_faults : Taken → Qualified → Lexeme → List Diagnostic
error_code_faults t q x =
    at code.UnknownName (when (is_none (error_named x.text)) x.spot)
    ++ (at code.WrongOperand (when (not (is_compared t)) q.namespace) ++ [])
