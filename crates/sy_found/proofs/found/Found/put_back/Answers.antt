use Rattle.std.proofs.Common.{◌≡◌, Option, rules, ap, ◌∙◌}
use Rattle.sy_note.specs.declared.Diagnostic.{Diagnostic as Broken}
use Rattle.sy_found.specs.Noted.{Notes}
use Rattle.sy_rules.specs.Faults.{sooner}
use Rattle.sy_found.proofs.FoundLemmas.{put_back}
use Rattle.sy_found.proofs.found.Found.put_back.Goals as goal

pub returns : goal.returns
returns c = λ p t xs a e.
    let i = c.self.inside in
    let old : Notes = record { first = i.first; for_kernels = i.for_kernels; for_groups = i.for_groups; calls = i.calls.items; used = i.used.items } in
    let told : c.tell_also.new.findings ≡ sooner c.args.aside i.first = search rules in
    ap (λ (f : Option Broken). record old { first = f }) told ∙ put_back p t xs c.args.aside old a (c.self.view_is ∙ e)
