use Rattle.std.proofs.Common.{refl}
use Rattle.sy_looks.proofs.leaves.judge_access_tag.Goals as goal
use Rattle.sy_rules.specs.Layers.{SeenExpr}
use Rattle.sy_tree.specs.declared.tree.Argument.TheOpen.{Expr-F}

pub returns : goal.returns
returns c =
    let w = c.args.w.now in
    let x : SeenExpr = Expr-F.AccessTag c.args.q c.args.tag in
    c.judge.ensures x (c.access_tag-whole.ensures w.names) c.new-own.ensures refl refl
