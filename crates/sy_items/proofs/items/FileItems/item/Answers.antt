use Rattle.std.proofs.Common.{ap, sym, ◌∙◌}
use Rattle.sy_items.proofs.items.FileItems.item.Goals as goal
use Rattle.sy_items.specs.Files.{kept_of, with_piece}
use Rattle.sy_looks.specs.declared.walk.Walk.{Walk}
use Rattle.sy_rules.specs.Units.{one_item}

pub returns-in_ok-constant_item-in-Constant-clause-walk : goal.returns-in_ok-constant_item-in-Constant-clause-walk
returns-in_ok-constant_item-in-Constant-clause-walk g c =
    let w : Walk = c.args.w.now in
    c.in_ok-constant_item-in-Constant.ensures.walk ∙ ap (λ k. record w { names = (one_item k w.names).names }) (sym c.in-Constant.is)

pub returns-in_ok-constant_item-in-Constant-clause-kept : goal.returns-in_ok-constant_item-in-Constant-clause-kept
returns-in_ok-constant_item-in-Constant-clause-kept g c =
    let w : Walk = c.args.w.now in
    c.in_ok-constant_item-in-Constant.ensures.kept ∙ ap (λ k. with_piece (one_item k w.names).what (one_item k w.names).found (kept_of c.args.file.now)) (sym c.in-Constant.is)

pub returns-in_ok-function_item-in-Function-clause-walk : goal.returns-in_ok-function_item-in-Function-clause-walk
returns-in_ok-function_item-in-Function-clause-walk g c =
    let w : Walk = c.args.w.now in
    c.in_ok-function_item-in-Function.ensures.walk ∙ ap (λ k. record w { names = (one_item k w.names).names }) (sym c.in-Function.is)

pub returns-in_ok-function_item-in-Function-clause-kept : goal.returns-in_ok-function_item-in-Function-clause-kept
returns-in_ok-function_item-in-Function-clause-kept g c =
    let w : Walk = c.args.w.now in
    c.in_ok-function_item-in-Function.ensures.kept ∙ ap (λ k. with_piece (one_item k w.names).what (one_item k w.names).found (kept_of c.args.file.now)) (sym c.in-Function.is)
