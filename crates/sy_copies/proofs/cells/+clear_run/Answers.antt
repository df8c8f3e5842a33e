use Rattle.std.proofs.Common.{◌≡◌, min, max, [], arith, sym, ap, ◌∙◌}
use Rattle.std.proofs.lemmas.Grind.{common_steps}
use Rattle.sy_copies.specs.Parts.{clear_in}
use Rattle.sy_needs.specs.Each.{each_from}
use Rattle.sy_copies.proofs.RenewalLemmas.{clear_none, clear_alone, clear_past, clear_cut}
use Rattle.sy_copies.proofs.cells.+clear_run.Goals as goal

pub returns-then-from-to : goal.returns-then-from-to
returns-then-from-to t c = clear_none c.args.needs.now c.args.root c.args.from c.args.to c.args.cells.now (omega arith)

pub returns-in-None : goal.returns-in-None
returns-in-None t c =
    let none : c.args.needs.now ≡ [] = grind (arith, common_steps) in
    rw none (c.zero_run.ensures ∙ clear_alone c.args.root c.args.from c.args.to c.args.cells.now)

pub returns-then-keeps : goal.returns-then-keeps
returns-then-keeps t c =
    let low : c.clear_run.new.cells ≡ each_from (clear_in c.in-Some.others.now c.args.root c.args.from (min c.args.to c.in-Some.need.now.from)) 0 c.args.cells.now =
    c.clear_run.ensures ∙ ap (λ n. each_from (clear_in c.in-Some.others.now c.args.root c.args.from n) 0 c.args.cells.now) c.min.ensures in
    let high : c.clear_run-then-keeps.new.cells ≡ each_from (clear_in c.in-Some.others.now c.args.root (max c.args.from c.in-Some.need.now.to) c.args.to) 0 c.clear_run.new.cells =
    c.clear_run-then-keeps.ensures ∙ ap (λ n. each_from (clear_in c.in-Some.others.now c.args.root n c.args.to) 0 c.clear_run.new.cells) c.max.ensures in
    rw c.in-Some.ensures.cases.0
    (high ∙ ap (each_from (clear_in c.in-Some.others.now c.args.root (max c.args.from c.in-Some.need.now.to) c.args.to) 0) low
    ∙ clear_cut c.in-Some.need.now c.in-Some.others.now c.args.root c.args.from c.args.to c.args.cells.now (sym c.keeps.ensures ∙ c.if-keeps.true))

pub returns-else-keeps : goal.returns-else-keeps
returns-else-keeps t c =
    rw c.in-Some.ensures.cases.0
    (c.clear_run-else-keeps.ensures ∙ clear_past c.in-Some.need.now c.in-Some.others.now c.args.root c.args.from c.args.to c.args.cells.now (sym c.keeps.ensures ∙ c.if-keeps.false))
