use Rattle.std.proofs.Common.{◌≡◌, refl, sym, ap, ◌∙◌}
use Rattle.sy_constructs.specs.Uses.{called}
use Rattle.sy_findings.specs.Told.{told}
use Rattle.sy_found.specs.Noted.{found_in}
use Rattle.sy_looks.proofs.LookLemmas.{judged_found}
use Rattle.sy_looks.proofs.library.judge_call.Goals as goal
use Rattle.sy_looks.specs.Looked.{looked}
use Rattle.sy_rules.specs.ExprRules.{faults}
use Rattle.sy_rules.specs.ExprTypes.{called_number, call_of}
use Rattle.sy_rules.specs.Layers.{SeenExpr}
use Rattle.sy_rules.specs.Names.{look_up}
use Rattle.sy_rules.specs.Walk.{judged}
use Rattle.sy_tree.specs.declared.tree.Argument.TheOpen.{Expr-F}
use Rattle.sy_typed.specs.declared.tree.TypedNode.TheVariants as node

pub call-whole-requires : goal.call-whole-requires
call-whole-requires c = c.find-found.ensures ∙ ap (look_up c.args.w.now.names.entries) c.items.ensures

pub returns : goal.returns
returns c =
    let w = c.args.w.now in
    let f = c.args.f.now in
    let e = c.args.e in
    let x : SeenExpr = Expr-F.Call f c.as_slice.result.now e in
    let is : c.find-found.result ≡ look_up w.names.entries f.text = c.find-found.ensures ∙ ap (look_up w.names.entries) c.items.ensures in
    judged_found x (node.Call c.called_number.result c.args.xs.1 e) f.spot w c.call-whole.result _ c.add.new.self c.add.new.self _
    c.call-whole.ensures.seen c.typed.ensures
    (c.add.ensures w.place (faults w.names x) (c.call-whole.ensures.found ∙ ap (λ f. told f (faults w.names x)) c.new-own.ensures))
    refl
    (c.in_ok-add_call.ensures.ok w.place
    ∙ ap (λ s. found_in w.place c.add.new.self (called s.within c.called.result)) c.setting.ensures
    ∙ ap (found_in w.place c.add.new.self) (sym (c.called.ensures w.names) ∙ ap (call_of w.names) is))
    ∙ ap (λ i. looked (judged x (node.Call i c.args.xs.1 e) f.spot) w) (c.called_number.ensures ∙ ap called_number is)
    ∙ ap (λ xs. looked (judged (Expr-F.Call f xs e) (node.Call (called_number (look_up w.names.entries f.text)) c.args.xs.1 e) f.spot) w) c.as_slice.ensures
