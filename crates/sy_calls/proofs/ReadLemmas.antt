-- Arguments are read one after another.
use Rattle.std.proofs.Common.{◌≡◌, sym, List, ◌∷◌, Option}
use Rattle.sy_note.specs.declared.Code.TheVariants as code
use Rattle.sy_note.specs.declared.Diagnostic.{Diagnostic}
use Rattle.sy_rules.specs.declared.seen.SeenArgument.{SeenArgument}
use Rattle.sy_rules.specs.ExprRules.{unread_argument, unread_arguments}
use Rattle.sy_rules.specs.Faults.{at}
use Rattle.sy_findings.specs.Told.{told}
use Rattle.sy_findings.proofs.ToldLemmas.{told_at}

pub read_more : (f : Option Diagnostic) (x : SeenArgument) (more : List SeenArgument) → told (told f (at code.ModeBroken (unread_argument x))) (at code.ModeBroken (unread_arguments more)) ≡ told f (at code.ModeBroken (unread_arguments (x ∷ more)))
read_more f x more = sym (told_at f code.ModeBroken (unread_argument x) (unread_arguments more))
