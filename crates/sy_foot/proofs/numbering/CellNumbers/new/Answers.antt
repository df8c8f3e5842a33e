use Rattle.std.proofs.Common.{rules, arith, refl, ◌≡◌, [], ◌+◌, ◌<◌, ◌^◌}
use Rattle.sy_foot.specs.Runs.{local_runs, runs_with, total}
use Rattle.sy_foot.proofs.CellLemmas.{local-run, named, numbering, one-run}
use Rattle.sy_foot.proofs.numbering.CellNumbers.new.Goals as goal

pub invariant_of-result : goal.invariant_of-result
invariant_of-result c =
    let b : c.in_ok-buffers.buffers.items ≡ runs_with [] c.args.needs.now = search rules in
    let l : c.in_ok-locals.locals.items ≡ local_runs 0 c.args.lengths.now = search rules in
    let s : c.in_ok-shared.shared ≡ 0 + total c.in_ok-buffers.buffers.items = search rules in
    let t : c.in_ok-count.count ≡ c.in_ok-shared.shared + total c.in_ok-locals.locals.items = search rules in
    let f : c.in_ok-count.count < 2 ^ 32 = omega arith in
    record { numbered = numbering c.args.needs.now c.args.lengths.now c.in_ok-buffers.buffers.items c.in_ok-locals.locals.items c.in_ok-shared.shared c.in_ok-count.count b l s t f }

pub returns-clause-named : goal.returns-clause-named
returns-clause-named c =
    let b : c.in_ok-buffers.buffers.items ≡ runs_with [] c.args.needs.now = search rules in
    let l : c.in_ok-locals.locals.items ≡ local_runs 0 c.args.lengths.now = search rules in
    named c.args.needs.now c.args.lengths.now c.in_ok-buffers.buffers.items c.in_ok-locals.locals.items c.in_ok-shared.shared _ (λ root i. refl) (λ slot i. refl) b l

pub returns-clause-runs : goal.returns-clause-runs
returns-clause-runs c =
    let b : c.in_ok-buffers.buffers.items ≡ runs_with [] c.args.needs.now = search rules in
    one-run c.in_ok-buffers.buffers.items c.args.needs.now b

pub returns-clause-lists : goal.returns-clause-lists
returns-clause-lists c =
    let l : c.in_ok-locals.locals.items ≡ local_runs 0 c.args.lengths.now = search rules in
    local-run c.in_ok-locals.locals.items c.in_ok-shared.shared c.args.lengths.now l
