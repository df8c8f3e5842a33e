use Rattle.std.proofs.Common.{◌≡◌, drop, map}
use Rattle.sy_declare.proofs.DeclareLemmas.{behind}
use Rattle.sy_declare.proofs.declarators.declarators.Given as goal
use Rattle.sy_looks.specs.Looked.{looked}
use Rattle.sy_rules.specs.declared.statements.Shared.TheVariants as sharing
use Rattle.sy_rules.specs.Walk.{declarator_of, declarators}

abbrev pub invariant-loop-x : goal.invariant-loop-x
invariant-loop-x g l = behind l.trees (looked (declarators l.d.is_constant l.d.specifier l.d.of l.first (map declarator_of (drop l.x-index l.xs))) l.w)
    ≡ looked (declarators l.d.is_constant l.d.specifier l.d.of sharing.Unknown (map declarator_of l.xs)) l.fn.w
