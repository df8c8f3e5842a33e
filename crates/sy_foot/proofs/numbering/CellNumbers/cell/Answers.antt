use Rattle.std.proofs.Common.{ap, ◌∙◌}
use Rattle.sy_foot.specs.Numbered.{buffer_cell, local_cell}
use Rattle.sy_foot.proofs.CellLemmas.{cell-told, dense-told, high-told, low-told}
use Rattle.sy_foot.proofs.numbering.CellNumbers.cell.Goals as goal

pub returns-then-number-self-clause-number : goal.returns-then-number-self-clause-number
returns-then-number-self-clause-number c =
    cell-told c.args.self.now c.args.number c.buffer_of.result (low-told c.args.self.now c.as_slice.result.now c.args.number c.buffer_of.result c.as_slice.ensures.value c.if-number-self.true (c.buffer_of.ensures ∙ ap buffer_cell c.element_of.ensures))

pub returns-then-number-self-clause-dense : goal.returns-then-number-self-clause-dense
returns-then-number-self-clause-dense c =
    dense-told c.args.self.now c.args.number c.buffer_of.result (low-told c.args.self.now c.as_slice.result.now c.args.number c.buffer_of.result c.as_slice.ensures.value c.if-number-self.true (c.buffer_of.ensures ∙ ap buffer_cell c.element_of.ensures))

pub returns-else-number-self-clause-number : goal.returns-else-number-self-clause-number
returns-else-number-self-clause-number c =
    cell-told c.args.self.now c.args.number c.local_of.result (high-told c.args.self.now c.as_slice-else-number-self.result.now c.args.number c.local_of.result c.as_slice-else-number-self.ensures.value c.if-number-self.false (c.local_of.ensures ∙ ap local_cell c.element_of-else-number-self.ensures))

pub returns-else-number-self-clause-dense : goal.returns-else-number-self-clause-dense
returns-else-number-self-clause-dense c =
    dense-told c.args.self.now c.args.number c.local_of.result (high-told c.args.self.now c.as_slice-else-number-self.result.now c.args.number c.local_of.result c.as_slice-else-number-self.ensures.value c.if-number-self.false (c.local_of.ensures ∙ ap local_cell c.element_of-else-number-self.ensures))
