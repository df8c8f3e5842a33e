use Rattle.std.proofs.Common.{◌≡◌, None, ap, ◌∙◌}
use Rattle.sy_closures.proofs.LambdaLemmas.{first_placed, lambda_told, lambda_found_places}
use Rattle.sy_closures.proofs.judged.judge_lambda.Goals as goal
use Rattle.sy_findings.specs.Told.{told}
use Rattle.sy_found.specs.Noted.{Notes, found_in}
use Rattle.sy_note.specs.declared.Code.TheVariants as code
use Rattle.sy_rules.specs.Faults.{at}
use Rattle.sy_rules.specs.Lambdas.{bad_lambda}
use Rattle.sy_rules.specs.Outcome.{all_broken, faults_found}
use Rattle.sy_rules.specs.Walk.{lambda_found}

pub returns-clause-found : goal.returns-clause-found
returns-clause-found c = λ p t xs h a e.
    let apart : Notes = record t { first = None } in
    let bad = at code.BadLambda (bad_lambda c.args.role c.args.s c.args.cs.now c.args.ps.now (all_broken xs)) in
    let inner : c.first.result ≡ told None (all_broken xs) = c.first.ensures ∙ ap (λ (z : Notes). z.first) e ∙ first_placed p apart xs h in
    let own : c.bad_lambda.new.findings ≡ told None bad = c.bad_lambda.ensures (all_broken xs) inner ∙ ap (λ f. told f bad) c.new-own.ensures in
    let added : c.add.new.self ≡ found_in p apart (lambda_found c.args.role c.args.s c.args.cs.now c.args.ps.now xs) =
    lambda_told c.args.role c.args.s c.args.cs.now c.args.ps.now p apart c.add.new.self xs h (c.add.ensures p bad own ∙ ap (λ z. found_in p z (faults_found bad)) e) in
    c.put_back.ensures p t (lambda_found c.args.role c.args.s c.args.cs.now c.args.ps.now xs) a added

pub returns-clause-seen : goal.returns-clause-seen
returns-clause-seen c = λ p t xs h e.
    let apart : Notes = record t { first = None } in
    let bad = at code.BadLambda (bad_lambda c.args.role c.args.s c.args.cs.now c.args.ps.now (all_broken xs)) in
    let inner : c.first.result ≡ told None (all_broken xs) = c.first.ensures ∙ ap (λ (z : Notes). z.first) e ∙ first_placed p apart xs h in
    let own : c.bad_lambda.new.findings ≡ told None bad = c.bad_lambda.ensures (all_broken xs) inner ∙ ap (λ f. told f bad) c.new-own.ensures in
    let all = lambda_found c.args.role c.args.s c.args.cs.now c.args.ps.now xs in
    let added : c.add.new.self ≡ found_in p apart all =
    lambda_told c.args.role c.args.s c.args.cs.now c.args.ps.now p apart c.add.new.self xs h (c.add.ensures p bad own ∙ ap (λ z. found_in p z (faults_found bad)) e) in
    c.seen_lambda-seen.ensures (all_broken all)
    (c.first-2.ensures ∙ ap (λ (z : Notes). z.first) added ∙ first_placed p apart all (lambda_found_places c.args.role c.args.s c.args.cs.now c.args.ps.now xs h))
