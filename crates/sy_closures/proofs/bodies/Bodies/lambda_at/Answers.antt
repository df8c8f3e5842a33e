use Rattle.std.proofs.Common.{◌≡◌, ◌≤◌, ℕ, None, IfOk, length, drop, ap, sym, subst, ◌∙◌}
use Rattle.sy_closures.proofs.LambdaLemmas.{lambda_places, lambda_looked, used_before, used_behind}
use Rattle.sy_closures.proofs.bodies.Bodies.lambda_at.Goals as goal
use Rattle.sy_closures.specs.Bodies.{parts_of_lambda}
use Rattle.sy_found.specs.Noted.{Notes, found_in}
use Rattle.sy_looks.specs.declared.walk.Walk.{Walk}
use Rattle.sy_rules.specs.Lambdas.{captures_given}
use Rattle.sy_rules.specs.Outcome.{all_used}
use Rattle.sy_rules.specs.Walk.{block}

pub given-requires : goal.given-requires
given-requires g c =
    let w : Walk = c.args.w.now in
    let o = parts_of_lambda c.args.role c.args.cs.now c.args.ps.now (block c.args.b.now) w.names in
    let h = lambda_places c.args.role c.args.cs.now c.args.ps.now c.args.b.now w.names in
    let apart : Notes = record w.found { first = None } in
    let e : c.parts.new.w.found ≡ found_in w.place apart o.found = ap (λ p. p.1.found) c.in_ok-parts.ensures.looked ∙ ap (λ z. found_in w.place z o.found) c.set_aside-aside.ensures.others in
    used_before w.place apart c.parts.new.w.found o.found (length c.used-first_use.result.now) h e (ap length c.used-first_use.ensures)

pub returns : goal.returns
returns g c =
    let w : Walk = c.args.w.now in
    let r = c.args.role in
    let s = c.args.s in
    let cs = c.args.cs.now in
    let ps = c.args.ps.now in
    let b = c.args.b.now in
    let m = c.parts.new.w in
    let o = parts_of_lambda r cs ps (block b) w.names in
    let h = lambda_places r cs ps b w.names in
    let apart : Notes = record w.found { first = None } in
    let parts = c.in_ok-parts.parts in
    let both = c.in_ok-inside in
    let e : m.found ≡ found_in w.place apart o.found = ap (λ p. p.1.found) c.in_ok-parts.ensures.looked ∙ ap (λ z. found_in w.place z o.found) c.set_aside-aside.ensures.others in
    let i = length c.used-first_use.result.now in
    let uses = used_behind w.place apart m.found o.found i h e (ap length c.used-first_use.ensures) in
    let start = c.next-start.result in
    let given = subst (λ q. IfOk q (λ cs. cs ≡ captures_given r start parts.listed.items (drop i m.found.used))) both.ensures.ok.1 c.given.ensures in
    lambda_looked r s cs ps b w m c.set_aside-aside.new.self c.judge_lambda-seen.new.found parts.listed.items both.captures both.inside parts.number c.judge_lambda-seen.result c.typed_lambda.result
    (ap (λ z. ((parts.listed.items, z), m)) both.ensures.ok.0 ∙ c.in_ok-parts.ensures.looked)
    (c.judge_lambda-seen.ensures.seen w.place w.found o.found h e)
    (c.judge_lambda-seen.ensures.found w.place w.found o.found h c.set_aside-aside.ensures.first e)
    (given ∙ ap (captures_given r start parts.listed.items) uses ∙ ap (λ (k : ℕ). captures_given r k parts.listed.items (all_used o.found)) c.next-start.ensures)
    c.in_ok-parts.ensures.number
    c.typed_lambda.ensures
