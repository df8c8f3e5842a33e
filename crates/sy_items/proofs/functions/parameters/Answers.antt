use Rattle.std.proofs.Common.{◌≡◌, ◌+◌, ◌∷◌, drop, map, ap, sym, ◌∙◌, arith}
use Rattle.std.proofs.lemmas.List.{drop_more, drop_all}
use Rattle.sy_closures.proofs.StepLemmas.{behind, one_more_looked, no_more_looked}
use Rattle.sy_items.proofs.functions.parameters.Goals as goal
use Rattle.sy_looks.specs.Looked.{looked}
use Rattle.sy_rules.specs.Outcome.{in_turn}
use Rattle.sy_rules.specs.Units.{one_parameter}

pub loop-p-init : goal.loop-p-init
loop-p-init c = ap (λ l. behind l (looked (in_turn (map one_parameter c.args.ps.now)) c.args.w.now)) c.new-vs.ensures

pub loop-p-preserved : goal.loop-p-preserved
loop-p-preserved c =
    let ps = c.args.ps.now in
    let i = c.loop-p.p-index in
    let x = c.p-item.result in
    let left : drop i ps ≡ x ∷ drop (i + 1) ps = drop_more ps i x c.loop-p-test.true ∙ ap (λ y. y ∷ drop (i + 1) ps) (sym c.p-item.is) in
    one_more_looked one_parameter x (drop (i + 1) ps) (drop i ps) c.loop-p.vs c.push.new.self c.loop-p.w c.function_parameter.new.w c.in_ok-v.v left c.in_ok-push.ensures.ok c.in_ok-v.ensures
    ∙ c.loop-p.invariant

pub returns : goal.returns
returns c =
    no_more_looked one_parameter (drop c.loop-p.p-index c.args.ps.now) c.loop-p.vs c.loop-p.w (drop_all c.loop-p.p-index c.args.ps.now (omega (arith, c.loop-p-test.false)))
    ∙ c.loop-p.invariant
