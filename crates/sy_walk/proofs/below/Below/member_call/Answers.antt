use Rattle.std.proofs.Common.{[], map, ap, sym, subst, ◌∙◌}
use Rattle.sy_looks.proofs.LookLemmas.{found_beside}
use Rattle.sy_looks.specs.Looked.{Looked}
use Rattle.sy_rules.specs.declared.seen.Seen.{Seen}
use Rattle.sy_rules.specs.Walk.{arguments, expr, role_in, taken_before_member, taken_by_member}
use Rattle.sy_rules.specs.Words.{member_named}
use Rattle.sy_typed.specs.declared.tree.Typed.{Typed}
use Rattle.sy_walk.proofs.ArgumentLemmas.{member_call_looked}
use Rattle.sy_walk.proofs.below.Below.member_call.Goals as goal
use Rattle.sy_walk.specs.Trees.{argument}

pub returns : goal.returns
returns g c =
    let v = c.member_named-member.result in
    let xs = map argument c.args.xs.now in
    let m = c.part.new.w in
    let both = c.in_ok-object-2 in
    member_call_looked v c.taken_before_member-taken.result (expr c.args.a.now) c.args.x.now c.args.t.now xs c.args.e c.args.w.now m c.member_arguments.new.w c.judge_member_call.new.w both.object both.xs c.judge_member_call.result
    (c.member_named-member.ensures ∙ ap member_named c.items.ensures)
    (c.taken_before_member-taken.ensures ∙ ap (λ z. taken_before_member z.taken v) c.setting.ensures)
    (ap (λ p. (p, m)) both.ensures.ok.0 ∙ c.in_ok-object.ensures)
    (found_beside (arguments (taken_by_member v) (role_in both.object.0 v) [] xs) m c.member_arguments.new.w c.member_arguments.result both.xs both.ensures.ok.1
    (subst (λ (o : Seen × Typed). Looked (arguments (taken_by_member v) (role_in o.0 v) [] xs) m c.member_arguments.result c.member_arguments.new.w) (sym both.ensures.ok.0) c.member_arguments.ensures))
    c.judge_member_call.ensures
