-- What one expression breaks.
use Rattle.std.specs.Prelude.{List}
use Rattle.sy_note.specs.declared.Diagnostic.{Diagnostic}
use Rattle.sy_note.specs.declared.Spot.{Spot}
use Rattle.sy_rules.specs.declared.names.Names.{Names}
use Rattle.sy_rules.specs.Outcome.{all_broken, at_statement}
use Rattle.sy_rules.specs.Walk.{expr}
use Rattle.sy_tree.specs.declared.tree.Expr.{Expr}

-- every rule of typing that an expression breaks, with its place, where these names are declared and the statement
-- round it begins at s
abbrev pub broken_in : Names → Spot → Expr → List Diagnostic
broken_in n s e = all_broken (at_statement n.setting.within s (expr e n)).found
