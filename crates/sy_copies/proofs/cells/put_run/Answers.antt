use Rattle.std.proofs.Common.{◌≡◌, ◌+◌, ℤ, ℕ, List, drop, get_or, sym, ap, ◌∙◌, rules, SFits, to_z, of_z, arith}
use Rattle.std.specs.Int.{w128}
use Rattle.std.specs.Prelude.{pos}
use Rattle.std.proofs.lemmas.Int.{to_z-of_z}
use Rattle.sy_copies.proofs.RunLemmas.{run_from, run_none, run_more, run_end}
use Rattle.sy_copies.proofs.cells.put_run.Goals as goal

pub loop-k-preserved : goal.loop-k-preserved
loop-k-preserved c =
    let values : List ℤ = c.args.values.now in
    let k : ℕ = c.loop-k.k in
    let v : ℤ = get_or values k (pos 0) in
    let fits : SFits w128 v = search rules in
    let number : to_z w128 (of_z w128 v) ≡ v = to_z-of_z w128 v fits in
    ap (run_from c.args.needs.now c.args.root c.args.of (c.args.from + (k + 1)) (drop (k + 1) values)) (rw number at c.put.ensures)
    ∙ run_more c.args.needs.now c.args.root c.args.of c.args.from k (pos 0) values c.loop-k.cells c.loop-k-test.true
    ∙ c.loop-k.invariant

pub returns : goal.returns
returns c =
    sym (run_end c.args.needs.now c.args.root c.args.of c.args.from c.loop-k.k c.args.values.now c.loop-k.cells (omega (arith, c.loop-k-test.false))) ∙ c.loop-k.invariant
