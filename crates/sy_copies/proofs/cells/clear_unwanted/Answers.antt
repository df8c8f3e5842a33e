use Rattle.std.proofs.Common.{◌≡◌, ◌+◌, ℕ, drop, get_or, arith, sym, ap, ◌∙◌, true, false}
use Rattle.std.specs.Prelude.{◌&&◌, ◌==◌}
use Rattle.std.proofs.lemmas.List.{at_drop_more, at_drop_all}
use Rattle.std.proofs.lemmas.Bool.Decides.{nat_tests}
use Rattle.sy_access.specs.declared.access.Need.{Need}
use Rattle.sy_access.specs.Needs.{writes}
use Rattle.sy_access.specs.declared.access.Mode.TheVariants.{Read}
use Rattle.sy_copies.specs.Parts.{clear_at}
use Rattle.sy_needs.specs.Each.{each_from}
use Rattle.sy_copies.proofs.RenewalLemmas.{clear_skip, clear_more, clear_end}
use Rattle.sy_copies.proofs.cells.clear_unwanted.Goals as goal
use Rattle.sy_copies.proofs.cells.clear_unwanted.Goals.{then-need-root+then-writes, else-need-root, else-need-root-via-then-need-root+else-writes, else-need-root-via-else-need-root}

pub loop-need-preserved : goal.loop-need-preserved
loop-need-preserved c =
    let i : ℕ = c.loop-need.need-index in
    let none : Need = record { buffer = 0; mode = Read; no_init = false; from = 0; to = 0 } in
    let n : Need = get_or c.args.needs.now i none in
    let more = at_drop_more (λ l. each_from (clear_at l c.args.needs.now c.args.root) 0 c.loop-need.cells) c.args.needs.now i none c.loop-need-test.true in
    elim c.if-need-root.branch [
      | then-need-root+then-writes w ↦
          let both : (n.buffer == c.args.root && writes n.mode) ≡ true = (let a = w.if-need-root.true in let b = w.writes.ensures in let d = w.if-writes.true in grind (arith, nat_tests)) in
          ap (each_from (clear_at (drop (i + 1) c.args.needs.now) c.args.needs.now c.args.root) 0) (w.cells-is ∙ w.clear_run.ensures)
          ∙ clear_more n (drop (i + 1) c.args.needs.now) c.args.needs.now c.args.root c.loop-need.cells both
          ∙ sym more ∙ c.loop-need.invariant
      | else-need-root w ↦
          let one : (n.buffer == c.args.root && writes n.mode) ≡ false = elim w.else-need-root.branch [
            | else-need-root-via-then-need-root+else-writes v ↦ (let a = v.if-need-root.true in let b = v.writes.ensures in let d = v.if-writes.false in grind (arith, nat_tests))
            | else-need-root-via-else-need-root v ↦ (let a = v.if-need-root.false in grind (arith, nat_tests))
          ] in
          ap (each_from (clear_at (drop (i + 1) c.args.needs.now) c.args.needs.now c.args.root) 0) w.cells-is
          ∙ clear_skip n (drop (i + 1) c.args.needs.now) c.args.needs.now c.args.root c.loop-need.cells one
          ∙ sym more ∙ c.loop-need.invariant
    ]

pub returns : goal.returns
returns c =
    let all = at_drop_all (λ l. each_from (clear_at l c.args.needs.now c.args.root) 0 c.loop-need.cells) c.args.needs.now c.loop-need.need-index c.loop-need-test.false in
    sym (clear_end c.args.needs.now c.args.root c.loop-need.cells) ∙ sym all ∙ c.loop-need.invariant
