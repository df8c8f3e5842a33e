use Rattle.std.proofs.Common.{◌≡◌, [], None, if◌then◌else◌, ap, sym, ◌∙◌}
use Rattle.sy_findings.specs.Told.{told}
use Rattle.sy_found.specs.Noted.{found_in}
use Rattle.sy_rules.specs.ExprTypes.{use_of}
use Rattle.sy_rules.specs.Foreign.{is_host, foreign_everywhere}
use Rattle.sy_rules.specs.Outcome.{faults_found}
use Rattle.sy_rules.specs.Walk.{range_faults}
use Rattle.sy_captures.proofs.ListLemmas.{three_found}
use Rattle.sy_captures.proofs.ranged.add_head.Goals as goal

pub returns : goal.returns
returns c =
    let n = c.args.names.now in
    let e = c.args.e in
    let ds = if is_host n.setting.within then range_faults n e.is_const e.of e.by_reference c.args.x.now c.args.v.now c.args.named else [] in
    let own : c.tell_head.new.findings ≡ told None ds = c.tell_head.ensures ∙ ap (λ f. told f ds) c.new-own.ensures in
    three_found c.args.place c.args.found.now c.add.new.self c.add_foreign.new.self c.add_use.new.self (faults_found ds) foreign_everywhere (use_of c.args.named)
    (c.add.ensures c.args.place ds own) c.add_foreign.ensures (c.in_ok-add_use.ensures.ok c.args.place ∙ ap (found_in c.args.place c.add_foreign.new.self) (sym c.used.ensures))
