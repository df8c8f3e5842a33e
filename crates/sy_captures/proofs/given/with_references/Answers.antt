use Rattle.std.proofs.Common.{rules, ◌≡◌, ◌++◌, map, nat_eq, true, ap, ◌∙◌}
use Rattle.std.specs.List.{list_any}
use Rattle.sy_rules.specs.Lambdas.{outer_uses, number_listed}
use Rattle.sy_captures.specs.Taken.{taken_by}
use Rattle.sy_captures.proofs.CaptureLemmas.{same_once}
use Rattle.sy_captures.proofs.given.with_references.Goals as goal

pub returns : goal.returns
returns c =
    let same : c.deref.result.now ≡ c.args.listed.items = search rules in
    c.in_ok-push_uses.ensures.ok
    ∙ ap (λ vs. c.args.listed.items ++ map (taken_by true) vs)
    (same_once c.in_ok-seen.seen.keys (map number_listed c.args.listed.items) (outer_uses c.args.start c.args.used.now)
    (λ n. c.in_ok-seen.ensures n ∙ ap (λ l. list_any (nat_eq n) (map number_listed l)) same))
