-- What the form promises.
use Rattle.std.specs.Prelude.{◌≡◌, Some, None, map, filter_map, flat_map}
use Rattle.sy_tree.specs.declared.tree.Unit.{Unit as SourceUnit}
use Rattle.sy_sums.specs.Form.{first_unbuilt}
use Rattle.sy_sums.specs.Sums.{operands, operand_of, printed_by, statements_of}

-- Where a source is of the form, each thing that main prints is a sum, and none is passed over.
abbrev pub AllIsPrinted : Type 0
AllIsPrinted = (u : SourceUnit) → first_unbuilt u ≡ None → map Some (operands u) ≡ map operand_of (flat_map printed_by (statements_of u.items))
