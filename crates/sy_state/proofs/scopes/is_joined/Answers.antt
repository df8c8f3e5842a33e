use Rattle.std.proofs.Common.{◌==◌, ap, sym, ◌∙◌}
use Rattle.std.specs.List.{list_any}
use Rattle.sy_state.proofs.OrderLemmas.{any_reverse}
use Rattle.sy_state.proofs.scopes.is_joined.Goals as goal

pub returns : goal.returns
returns c =
    c.has.ensures
    ∙ sym (any_reverse (λ u. u == c.args.thread) c.oldest_first.result.now)
    ∙ ap (list_any (λ u. u == c.args.thread)) (sym c.oldest_first.ensures)
