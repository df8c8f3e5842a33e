use Rattle.std.proofs.Common.{◌≡◌, ap, ◌∙◌, false, None}
use Rattle.sy_tree.specs.declared.tree.Argument.TheOpen.{Expr-F}
use Rattle.sy_rules.specs.ExprRules.{expr_faults}
use Rattle.sy_rules.specs.Words.{member_named}
use Rattle.sy_findings.specs.Told.{told}
use Rattle.sy_calls.specs.Library.{member_faults, seen_member}
use Rattle.sy_constructs.specs.Whole.{seen_if, is_sound_if}
use Rattle.sy_calls.proofs.library.member_call.Goals as goal

own : (c : goal.After-settle) → c.tell_member.new.findings ≡ told None (expr_faults c.args.names.now (Expr-F.MemberCall c.args.a c.args.x.now c.args.t.now c.args.xs.now c.args.end))
own c =
    let n = c.args.names.now in
    let a = c.args.a in
    let x = c.args.x.now in
    let xs = c.args.xs.now in
    let m = c.member_named-member.result in
    let r = c.member_of-row.result in
    c.tell_member.ensures
    ∙ ap (λ f. told f (member_faults c.setting.result.taken a m r xs x.spot)) c.new-own.ensures
    ∙ ap (λ s. told None (member_faults s.taken a m r xs x.spot)) c.setting.ensures
    ∙ ap (λ k. told None (member_faults n.setting.taken a k r xs x.spot)) (c.member_named-member.ensures ∙ ap member_named c.items.ensures)
    ∙ ap (λ s. told None (member_faults n.setting.taken a (member_named x.text) s xs x.spot)) c.member_of-row.ensures

pub returns-clause-seen : goal.returns-clause-seen
returns-clause-seen c =
    let ds = expr_faults c.args.names.now (Expr-F.MemberCall c.args.a c.args.x.now c.args.t.now c.args.xs.now c.args.end) in
    c.settle.ensures.seen ds (own c)
    ∙ ap (λ b. seen_if (is_sound_if false b ds) c.seen_member-whole.result) c.known_with.ensures
    ∙ ap (seen_if (is_sound_if false _ ds)) (c.seen_member-whole.ensures ∙ ap (seen_member c.args.a) c.member_of-row.ensures)

pub returns-clause-found : goal.returns-clause-found
returns-clause-found c =
    c.settle.ensures.found (expr_faults c.args.names.now (Expr-F.MemberCall c.args.a c.args.x.now c.args.t.now c.args.xs.now c.args.end)) (own c)
