use Rattle.std.proofs.Common.{[], map, subst}
use Rattle.sy_looks.specs.Looked.{Looked}
use Rattle.sy_rules.specs.Walk.{arguments, role_for, role_in}
use Rattle.sy_walk.proofs.below.Below.member_arguments.Goals as goal
use Rattle.sy_walk.specs.Trees.{argument}

pub returns : goal.returns
returns g c =
    let w = c.args.w.now in
    let o = c.args.object in
    let v = c.args.member in
    let xs = map argument c.args.xs.now in
    let r = c.arguments_for.result in
    let m = c.arguments_for.new.w in
    subst (λ k. Looked (arguments k (role_in o v) [] xs) w r m) c.taken_by_member-taken.ensures
    (subst (λ i. Looked (arguments c.taken_by_member-taken.result (role_for o.what i v) [] xs) w r m) c.unwrap_or-variable.ensures c.arguments_for.ensures)
