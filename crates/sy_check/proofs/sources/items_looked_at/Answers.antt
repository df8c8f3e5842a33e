use Rattle.std.proofs.Common.{ap, sym, ◌∙◌}
use Rattle.sy_check.proofs.sources.items_looked_at.Goals as goal
use Rattle.sy_items.specs.Files.{kept_of, with_pieces}
use Rattle.sy_rules.specs.Outcome.{in_turn}
use Rattle.sy_rules.specs.Units.{at_start, function_items, one_item}
use Rattle.std.proofs.Common.{map}

pub returns : goal.returns
returns c =
    let fs = function_items c.args.items.now in
    c.in_ok-all.ensures
    ∙ ap (λ n. with_pieces (in_turn (map one_item c.args.items.now) n) (kept_of c.new-file.result))
    (c.new.ensures fs (sym (c.in_ok-count.ensures ∙ c.count_functions.ensures)))
    ∙ ap (with_pieces (in_turn (map one_item c.args.items.now) (at_start fs))) c.new-file.ensures
