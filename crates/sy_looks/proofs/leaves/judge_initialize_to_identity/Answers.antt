use Rattle.std.proofs.Common.{refl}
use Rattle.sy_looks.proofs.leaves.judge_initialize_to_identity.Goals as goal
use Rattle.sy_rules.specs.Layers.{SeenExpr}
use Rattle.sy_tree.specs.declared.tree.Argument.TheOpen.{Expr-F}

pub returns : goal.returns
returns c =
    let w = c.args.w.now in
    let x : SeenExpr = Expr-F.InitializeToIdentity c.args.q c.args.b c.args.e in
    c.judge.ensures x (c.initialize_to_identity-whole.ensures w.names) c.new-own.ensures refl refl
