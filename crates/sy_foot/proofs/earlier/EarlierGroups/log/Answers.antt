use Rattle.std.proofs.Common.{rules, ap, ◌∙◌, ◌≡◌, ◌++◌, [], get_or, pos, ℕ, ℤ}
use Rattle.sy_access.specs.Logs.{differ}
use Rattle.sy_foot.specs.GroupLogs.{cell_log, with_cell}
use Rattle.sy_foot.specs.Numbering.{cell_at}
use Rattle.sy_foot.proofs.WriteLemmas.{cells-differ, log-step, log-whole}
use Rattle.sy_foot.proofs.earlier.EarlierGroups.log.Goals as goal

pub loop-number-preserved : goal.loop-number-preserved
loop-number-preserved c =
    let m = c.args.numbers.now in
    let ws = c.as_slice-number-items.result.now in
    let i = c.loop-number.number-index in
    let w : ℕ × ℤ = get_or ws i (0, pos 0) in
    let is : w ≡ get_or ws i w = search rules in
    let grown : c.push_cell.new.log.items ≡ c.loop-number.items.items ++ with_cell (cell_at m w.0) w.1 [] = search rules in
    log-step m ws i w c.loop-number.items.items c.push_cell.new.log.items c.loop-number-test.true is grown ∙ c.loop-number.invariant

pub of-requires : goal.of-requires
of-requires c =
    let m = c.args.numbers.now in
    let log = c.args.self.now.log.items in
    let whole : c.loop-number.items.items ≡ cell_log m log = log-whole m c.as_slice-number-items.result.now c.loop-number.number-index c.loop-number.items.items (cell_log m log) c.loop-number-test.false c.loop-number.invariant in
    ap differ whole ∙ cells-differ m log c.args.self.now.logged.once
