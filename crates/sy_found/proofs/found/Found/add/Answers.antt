use Rattle.std.proofs.Common.{ap, ◌∙◌}
use Rattle.sy_found.specs.Noted.{Notes, found_in}
use Rattle.sy_found.proofs.FoundLemmas.{nothing_more, one_more}
use Rattle.sy_rules.specs.Outcome.{faults_found}
use Rattle.sy_found.proofs.found.Found.add.Goals as goal

pub returns-in-None : goal.returns-in-None
returns-in-None c = λ p ds e. nothing_more p c.args.self.now ds (c.in-None.ensures ∙ e)

pub returns-in-Some : goal.returns-in-Some
returns-in-Some c = λ p ds e.
    let i = c.self.inside in
    let t : Notes = record { first = i.first; for_kernels = i.for_kernels; for_groups = i.for_groups; calls = i.calls.items; used = i.used.items } in
    ap (λ f. record t { first = f }) c.tell.ensures
    ∙ one_more p t c.in-Some.d ds (c.in-Some.ensures ∙ e)
    ∙ ap (λ s. found_in p s (faults_found ds)) c.self.view_is
