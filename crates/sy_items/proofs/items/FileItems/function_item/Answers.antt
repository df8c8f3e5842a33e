use Rattle.std.proofs.Common.{ap, ◌∙◌}
use Rattle.sy_items.proofs.FileLemmas.{item_found, item_known, item_walked}
use Rattle.sy_items.proofs.items.FileItems.function_item.Goals as goal
use Rattle.sy_items.specs.Files.{kept_of, with_piece}
use Rattle.sy_rules.specs.Units.{a_function, one_function}
use Rattle.sy_rules.specs.Walk.{block}

pub returns-clause-walk : goal.returns-clause-walk
returns-clause-walk g c =
    let i = c.args.f.now in
    c.begin_anew-own.ensures.anew ∙ item_walked (one_function i (block i.body)) c.args.w.now c.function.new.w c.in_ok-y.y c.requires.begun c.in_ok-y.ensures

pub returns-clause-kept : goal.returns-clause-kept
returns-clause-kept g c =
    let i = c.args.f.now in
    let w = c.args.w.now in
    let look = one_function i (block i.body) in
    let xs = (look w.names).found in
    c.in_ok-keep_function.ensures xs (c.begin_anew-own.ensures.found ∙ item_found look w c.function.new.w c.in_ok-y.y c.requires.begun c.in_ok-y.ensures)
    ∙ ap (λ z. with_piece (a_function z xs) xs (kept_of c.args.file.now)) (item_known look w c.function.new.w c.in_ok-y.y c.in_ok-y.ensures)
