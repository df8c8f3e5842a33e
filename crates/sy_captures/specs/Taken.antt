-- How a declaration is taken.
use Rattle.std.specs.Prelude.{Bool, true, false, Option, None}
use Rattle.sy_tree.specs.declared.parts.Capture.{Capture}
use Rattle.sy_tree.specs.declared.parts.Capture.TheVariants as capture
use Rattle.sy_typed.specs.declared.tree.TypedCapture.{TypedCapture}
use Rattle.sy_rules.specs.declared.names.Named.{Named}
use Rattle.sy_rules.specs.declared.names.Names.{Names}
use Rattle.sy_rules.specs.Lambdas.{reference_to, copy_of}
use Rattle.sy_rules.specs.Names.{look_up}

-- by reference, or by copy
abbrev pub taken_by : Bool → Named → TypedCapture
taken_by true v = reference_to v
taken_by false v = copy_of v

-- what the names outside know of a listed name
abbrev pub name_found : Names → Capture → Option Named
name_found n (capture.Reference s x) = look_up n.entries x.text
name_found n (capture.Copy x) = look_up n.entries x.text
name_found n _ = None
