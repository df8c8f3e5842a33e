use Rattle.std.proofs.Common.{◌≡◌, to_z, of_z, arith, ◌∙◌, sym}
use Rattle.std.specs.Int.{w128}
use Rattle.std.proofs.lemmas.Int.{to_z-of_z}
use Rattle.sy_copies.proofs.RenewalLemmas.{put_one, put_none, put_local}
use Rattle.sy_copies.proofs.cells.put.Goals as goal
use Rattle.sy_copies.proofs.cells.put.Goals.{else-r-root-via-then-r-root+then-i-cells+else-is_written, else-r-root-via-then-r-root+else-i-cells, else-r-root-via-else-r-root}

pub returns-in_default : goal.returns-in_default
returns-in_default c =
    rw c.in_default.is (put_local c.args.needs.now c.in_default.field-0 c.in_default.field-1 c.args.root c.args.number c.args.cells.now)

pub returns-then-is_written : goal.returns-then-is_written
returns-then-is_written c =
    let number : to_z w128 (of_z w128 c.args.number) ≡ c.args.number = to_z-of_z w128 c.args.number c.ranges.number in
    rw (number, c.in-Buffer.is) (put_one c.args.needs.now c.in-Buffer.r c.in-Buffer.i c.args.root c.args.number c.args.cells.now c.if-r-root.true (sym c.is_written.ensures ∙ c.if-is_written.true))

pub returns-else-r-root : goal.returns-else-r-root
returns-else-r-root c =
    rw c.in-Buffer.is (put_none c.args.needs.now c.in-Buffer.r c.in-Buffer.i c.args.root c.args.number c.args.cells.now
    (elim c.else-r-root.branch [
      | else-r-root-via-then-r-root+then-i-cells+else-is_written w ↦ (λ a b. sym w.is_written.ensures ∙ w.if-is_written.false)
      | else-r-root-via-then-r-root+else-i-cells w ↦ (λ a b. absurd (omega arith))
      | else-r-root-via-else-r-root w ↦ (λ a b. absurd (w.if-r-root.false a))
    ]))
