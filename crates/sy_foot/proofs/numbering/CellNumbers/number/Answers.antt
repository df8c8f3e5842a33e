use Rattle.std.proofs.Common.{◌≡◌, sym, ap, ◌∙◌}
use Rattle.std.proofs.Common.{List, Some}
use Rattle.sy_access.specs.declared.cells.Cell.TheVariants.{Buffer, Local}
use Rattle.sy_foot.specs.Numbering.{number_at}
use Rattle.sy_foot.specs.Runs.{number_in}
use Rattle.sy_foot.specs.declared.runs.Run.{Run}
use Rattle.sy_foot.proofs.CellLemmas.{buffers-fit, locals-fit, number-one}
use Rattle.sy_foot.proofs.numbering.CellNumbers.number.Goals as goal

pub number_of-requires : goal.number_of-requires
number_of-requires c = buffers-fit c.args.self.now c.as_slice.result.now c.as_slice.ensures.value

pub number_of-requires-in-Local : goal.number_of-requires-in-Local
number_of-requires-in-Local c = locals-fit c.args.self.now c.as_slice-in-Local.result.now c.as_slice-in-Local.ensures.value

pub returns-in-Buffer-clause-one : goal.returns-in-Buffer-clause-one
returns-in-Buffer-clause-one c = λ d n e f.
    let own : number_at c.args.self.now (Buffer c.in-Buffer.root c.in-Buffer.i) ≡ Some n = ap (λ (xs : List Run). number_in 0 xs c.in-Buffer.root c.in-Buffer.i) (sym c.as_slice.ensures.value) ∙ (sym c.number_of.ensures ∙ e) in
    number-one c.args.self.now (Buffer c.in-Buffer.root c.in-Buffer.i) d n own f ∙ sym c.in-Buffer.is

pub returns-in-Local-clause-one : goal.returns-in-Local-clause-one
returns-in-Local-clause-one c = λ d n e f.
    let own : number_at c.args.self.now (Local c.in-Local.slot c.in-Local.i) ≡ Some n = ap (λ (xs : List Run). number_in c.args.self.now.shared xs c.in-Local.slot c.in-Local.i) (sym c.as_slice-in-Local.ensures.value) ∙ (sym c.number_of-in-Local.ensures ∙ e) in
    number-one c.args.self.now (Local c.in-Local.slot c.in-Local.i) d n own f ∙ sym c.in-Local.is
