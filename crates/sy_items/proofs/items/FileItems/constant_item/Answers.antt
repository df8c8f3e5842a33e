use Rattle.std.proofs.Common.{ap, ◌∙◌}
use Rattle.sy_items.proofs.FileLemmas.{item_found, item_known, item_walked}
use Rattle.sy_items.proofs.items.FileItems.constant_item.Goals as goal
use Rattle.sy_items.specs.Files.{kept_of, with_piece}
use Rattle.sy_rules.specs.Units.{a_constant, constant_by}
use Rattle.sy_rules.specs.Walk.{declarator_of}

pub returns-clause-walk : goal.returns-clause-walk
returns-clause-walk g c =
    let i = c.args.c.now in
    c.begin_anew-own.ensures.anew ∙ item_walked (constant_by i (declarator_of i.declarator)) c.args.w.now c.sub_constant.new.w c.in_ok-y.y c.requires.begun c.in_ok-y.ensures

pub returns-clause-kept : goal.returns-clause-kept
returns-clause-kept g c =
    let i = c.args.c.now in
    let w = c.args.w.now in
    let look = constant_by i (declarator_of i.declarator) in
    let xs = (look w.names).found in
    c.in_ok-keep_constant.ensures xs (c.begin_anew-own.ensures.found ∙ item_found look w c.sub_constant.new.w c.in_ok-y.y c.requires.begun c.in_ok-y.ensures)
    ∙ ap (λ z. with_piece (a_constant z) xs (kept_of c.args.file.now)) (item_known look w c.sub_constant.new.w c.in_ok-y.y c.in_ok-y.ensures)
