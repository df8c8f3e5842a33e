use Rattle.std.proofs.Common.{◌≡◌, ◌+◌, ℤ, ℕ, List, ◌∷◌, drop, get_or, sym, ap, ◌∙◌, subst, IsTrue, rules, SFits, to_z, of_z}
use Rattle.std.specs.Int.{w128}
use Rattle.std.proofs.lemmas.Int.{to_z-of_z}
use Rattle.std.specs.Prelude.{pos}
use Rattle.std.proofs.lemmas.List.{at_drop_more, at_drop_all}
use Rattle.sy_access.specs.declared.cells.Cell.{Cell}
use Rattle.sy_access.specs.declared.cells.Cell.TheVariants as cell
use Rattle.sy_access.specs.Logs.{differ}
use Rattle.sy_copies.specs.Parts.{put_all_at}
use Rattle.sy_needs.specs.Each.{each_from}
use Rattle.sy_copies.proofs.RenewalLemmas.{put_more, put_end, differ_rest}
use Rattle.sy_copies.proofs.cells.put_log.Goals as goal

pub loop-cell-preserved : goal.loop-cell-preserved
loop-cell-preserved c =
    let items : List (Cell × ℤ) = c.items-cell-items.result.now in
    let i : ℕ = c.loop-cell.cell-index in
    let none : Cell × ℤ = (cell.Buffer 0 0, pos 0) in
    let w : Cell × ℤ = get_or items i none in
    let parts : drop i items ≡ w ∷ drop (i + 1) items = at_drop_more (λ l. l) items i none c.loop-cell-test.true in
    let once : IsTrue (differ (w ∷ drop (i + 1) items)) = subst (λ (l : List (Cell × ℤ)). IsTrue (differ l)) parts c.loop-cell.invariant.once in
    let fits : SFits w128 w.1 = search rules in
    let number : to_z w128 (of_z w128 w.1) ≡ w.1 = to_z-of_z w128 w.1 fits in
    record {
      rest = ap (each_from (put_all_at c.args.needs.now (drop (i + 1) items) c.args.root) 0) (rw number at c.put.ensures)
          ∙ put_more c.args.needs.now w (drop (i + 1) items) c.args.root c.loop-cell.cells once
          ∙ ap (λ l. each_from (put_all_at c.args.needs.now l c.args.root) 0 c.loop-cell.cells) (sym parts)
          ∙ c.loop-cell.invariant.rest;
      once = differ_rest w (drop (i + 1) items) once;
    }

pub returns : goal.returns
returns c =
    let all = at_drop_all (λ l. each_from (put_all_at c.args.needs.now l c.args.root) 0 c.loop-cell.cells) c.items-cell-items.result.now c.loop-cell.cell-index c.loop-cell-test.false in
    rw (← c.items-cell-items.ensures.items) (sym (put_end c.args.needs.now c.args.root c.loop-cell.cells) ∙ sym all ∙ c.loop-cell.invariant.rest)
