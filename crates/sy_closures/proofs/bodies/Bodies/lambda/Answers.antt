use Rattle.std.proofs.Common.{◌≡◌, List, ap, sym, ◌∙◌}
use Rattle.sy_closures.proofs.bodies.Bodies.lambda.Goals as goal
use Rattle.sy_closures.specs.Bodies.{parts_of_lambda}
use Rattle.sy_looks.proofs.LookLemmas.{looked_as}
use Rattle.sy_rules.specs.declared.seen.SeenLambda.{SeenLambda}
use Rattle.sy_rules.specs.Lambdas.{listed}
use Rattle.sy_rules.specs.Outcome.{Look}
use Rattle.sy_rules.specs.Walk.{Ar, De, Dr, Ex, Fu, In, Pr, St, Bl, La, argument_step, declaration_step, declarator_step, expr_step, full_step, initializer_step, printed_step, stmt_step, block_step, lambda_step, block, lambda_judged}
use Rattle.sy_tree.specs.declared.parts.Capture.{Capture}
use Rattle.sy_tree.specs.declared.parts.LambdaParameter.{LambdaParameter}
use Rattle.sy_tree.specs.declared.tree.Lambda.{out-Lambda, fold_out-Lambda}
use Rattle.sy_typed.specs.declared.tree.TypedLambda.{TypedLambda}
use Rattle.sy_walk.specs.Trees.{lambda}

pub returns : goal.returns
returns g c =
    let r = c.args.role in
    let l = c.args.l.now in
    let t = out-Lambda l in
    let whole : List Capture → List LambdaParameter → Look (SeenLambda × TypedLambda) =
    λ cs ps n. lambda_judged r t.spot cs ps n (parts_of_lambda r cs ps (block t.body) n) in
    looked_as (lambda l r) (whole c.as_slice.result.now c.parameters_of-ps.result.now) c.args.w.now c.lambda_at.new.w c.lambda_at.result
    (ap (λ (f : La). f r) (fold_out-Lambda Ar De Dr Ex Fu In Pr St Bl La argument_step declaration_step declarator_step expr_step full_step initializer_step printed_step stmt_step block_step lambda_step l)
    ∙ ap (λ cs. whole cs (listed t.parameters)) (sym c.as_slice.ensures)
    ∙ ap (whole c.as_slice.result.now) (sym c.parameters_of-ps.ensures))
    c.lambda_at.ensures
