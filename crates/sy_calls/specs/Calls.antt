-- The rules at calls of the source's own functions.
use Rattle.std.specs.Prelude.{List, ◌++◌, Option, is_none, flat_map}
use Rattle.sy_note.specs.declared.Code.TheVariants as code
use Rattle.sy_note.specs.declared.Diagnostic.{Diagnostic}
use Rattle.sy_note.specs.declared.Spot.{Spot}
use Rattle.sy_rules.specs.declared.names.Named.{Named}
use Rattle.sy_rules.specs.declared.names.Names.{Names}
use Rattle.sy_rules.specs.declared.seen.Seen.{Seen}
use Rattle.sy_rules.specs.ExprRules.{is_wrong_call, is_bad_call}
use Rattle.sy_rules.specs.Faults.{at}
use Rattle.sy_rules.specs.Seen.{when, unread}

abbrev pub call_faults : Names → Option Named → Spot → List Seen → List Diagnostic
call_faults n found f xs =
    at code.UnknownName (when (is_none found) f)
    ++ (at code.WrongArguments (when (is_wrong_call n found xs) f)
    ++ (at code.ModeBroken (flat_map unread xs)
    ++ at code.BadCall (when (is_bad_call n found) f)))
