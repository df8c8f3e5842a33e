use Rattle.std.proofs.Common.{◌∙◌}
use Rattle.sy_punit.proofs.ParseLaws.{unit_found, only_unit, no_unit, code_kept, no_memory}
use Rattle.sy_punit.proofs.parse.Goals as goal

pub returns-in-Ok-read_unit-clause-found : goal.returns-in-Ok-read_unit-clause-found
returns-in-Ok-read_unit-clause-found c =
    let same = c.new-tokens.ensures ∙ c.as_slice.ensures.value ∙ c.in-Ok.ensures in
    unit_found c.args.toks.items c.new-tokens.result.rest.now same c.in-Ok-read_unit.unit c.read_unit.new.tokens.rest.now c.in-Ok-read_unit.ensures

pub returns-in-Ok-read_unit-clause-only : goal.returns-in-Ok-read_unit-clause-only
returns-in-Ok-read_unit-clause-only c =
    let same = c.new-tokens.ensures ∙ c.as_slice.ensures.value ∙ c.in-Ok.ensures in
    only_unit c.args.toks.items c.new-tokens.result.rest.now same c.in-Ok-read_unit.unit c.read_unit.new.tokens.rest.now c.in-Ok-read_unit.ensures

pub returns-in-Err-Grammar-clause-refused : goal.returns-in-Err-Grammar-clause-refused
returns-in-Err-Grammar-clause-refused c = λ d is.
    let same = c.new-tokens.ensures ∙ c.as_slice.ensures.value ∙ c.in-Ok.ensures in (
      code_kept c.refusal.result d c.refusal.ensures is,
      no_unit c.args.toks.items c.new-tokens.result.rest.now same (c.in-Err-Grammar.ensures (no_memory c.in-Err-Grammar.field-0 c.in-Err-Grammar.field-0-is)),
    )
