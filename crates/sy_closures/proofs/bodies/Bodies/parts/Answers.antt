use Rattle.std.proofs.Common.{◌≡◌, ◌+◌, ap, sym, ◌∙◌, length, List, rules}
use Rattle.std.proofs.lemmas.List.{length-map}
use Rattle.sy_captures.specs.Taken.{name_found}
use Rattle.sy_closures.proofs.LambdaLemmas.{body_of, parts_looked, threads_inside}
use Rattle.sy_closures.proofs.bodies.Bodies.parts.Goals as goal
use Rattle.sy_looks.proofs.LookLemmas.{found_beside}
use Rattle.sy_looks.specs.declared.walk.Walk.{Walk}
use Rattle.sy_rules.specs.Names.{entered}

pub enter_lambda-requires : goal.enter_lambda-requires
enter_lambda-requires g c =
    let same : c.deref.result.now ≡ c.in_ok-listed.outside.items = search rules in
    sym (ap length (same ∙ c.in_ok-listed.ensures.outside) ∙ length-map c.args.cs.now (name_found c.args.w.now.names))

pub returns-clause-looked : goal.returns-clause-looked
returns-clause-looked g c =
    let w : Walk = c.args.w.now in
    let r = c.args.role in
    let t = c.thread_scope-t.result in
    let cs = c.args.cs.now in
    let ps = c.args.ps.now in
    let b = c.args.b.now in
    let m = c.listed_names.new.w in
    let k = c.enter_lambda.new.w in
    let n = c.take_body.new.self in
    let d = c.depth-scopes.result in
    let end = c.lambda_inside.new.w in
    let both = c.in_ok-listed-2 in
    let start = entered (record w.names { next_body = w.names.next_body + 1 }) in
    let walked = c.in_ok-listed.ensures.walk start in
    let same : c.deref.result.now ≡ c.in_ok-listed.outside.items = search rules in
    let begins = c.in_ok-enter_lambda.ensures w.names (same ∙ c.in_ok-listed.ensures.outside) in
    let inner = found_beside (body_of r d ps b) k end c.lambda_inside.result both.inside both.ensures.ok.1 c.lambda_inside.ensures in
    parts_looked r t cs ps b w m k n d end c.leave_lambda.new.w both.listed.items both.inside
    c.thread_scope-t.ensures walked
    (ap (λ l. l.items) both.ensures.ok.0 ∙ c.in_ok-listed.ensures.taken start)
    c.in_ok-number.ensures.ok begins c.depth-scopes.ensures inner
    (c.leave_lambda.ensures w.names (threads_inside r t cs ps b w m k n d end both.inside walked c.in_ok-number.ensures.ok begins c.depth-scopes.ensures inner))

pub returns-clause-number : goal.returns-clause-number
returns-clause-number g c =
    let w : Walk = c.args.w.now in
    c.in_ok-number.ensures.number ∙ ap (λ (z : Walk). z.names.next_body) (c.in_ok-listed.ensures.walk w.names)
