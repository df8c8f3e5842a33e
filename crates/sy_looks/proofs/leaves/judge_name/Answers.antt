use Rattle.std.proofs.Common.{◌≡◌, sym, ap, ◌∙◌}
use Rattle.sy_findings.specs.Told.{told}
use Rattle.sy_found.specs.Noted.{found_in}
use Rattle.sy_looks.proofs.LookLemmas.{judged_found}
use Rattle.sy_looks.proofs.leaves.judge_name.Goals as goal
use Rattle.sy_looks.specs.Looked.{looked}
use Rattle.sy_rules.specs.ExprRules.{faults}
use Rattle.sy_rules.specs.ExprTypes.{named_node, use_of}
use Rattle.sy_rules.specs.Layers.{SeenExpr}
use Rattle.sy_rules.specs.Names.{look_up}
use Rattle.sy_rules.specs.Walk.{judged}
use Rattle.sy_tree.specs.declared.tree.Argument.TheOpen.{Expr-F}

pub name-whole-requires : goal.name-whole-requires
name-whole-requires c = c.find-found.ensures ∙ ap (look_up c.args.w.now.names.entries) c.items.ensures

pub returns : goal.returns
returns c =
    let w = c.args.w.now in
    let x : SeenExpr = Expr-F.Name c.args.x.now in
    let is : c.find-found.result ≡ look_up w.names.entries c.args.x.now.text = c.find-found.ensures ∙ ap (look_up w.names.entries) c.items.ensures in
    judged_found x c.named_node-node.result c.args.x.now.spot w c.name-whole.result _ c.add.new.self c.add_foreign.new.self _
    c.name-whole.ensures.seen c.typed.ensures
    (c.add.ensures w.place (faults w.names x) (c.name-whole.ensures.found ∙ ap (λ f. told f (faults w.names x)) c.new-own.ensures))
    (c.add_foreign.ensures ∙ ap (found_in w.place c.add.new.self) (sym (c.foreign_name-foreign.ensures c.args.x.now is)))
    (c.in_ok-add_use.ensures.ok w.place ∙ ap (found_in w.place c.add_foreign.new.self) (sym c.used.ensures ∙ ap use_of is))
    ∙ ap (λ t. looked (judged x t c.args.x.now.spot) w)
    (c.named_node-node.ensures ∙ ap (λ s. named_node s.kernel c.find-found.result) c.setting.ensures ∙ ap (named_node w.names.setting.kernel) is)
