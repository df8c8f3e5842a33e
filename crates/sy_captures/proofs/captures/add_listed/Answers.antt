use Rattle.std.proofs.Common.{◌≡◌, None, ap, sym, ◌∙◌}
use Rattle.sy_constructs.specs.Uses.{used}
use Rattle.sy_findings.specs.Told.{told}
use Rattle.sy_found.specs.Noted.{found_in}
use Rattle.sy_rules.specs.ExprTypes.{use_of}
use Rattle.sy_rules.specs.Lambdas.{listed_faults}
use Rattle.sy_rules.specs.Names.{look_up}
use Rattle.sy_rules.specs.Outcome.{faults_found}
use Rattle.sy_captures.proofs.ListLemmas.{two_found}
use Rattle.sy_captures.proofs.captures.add_listed.Goals as goal

pub returns-clause-found : goal.returns-clause-found
returns-clause-found c = λ p n.
    let names = c.args.names.now in
    let x = c.args.x.now in
    let ds = listed_faults names c.args.t c.args.by_reference x in
    let own : c.listed.new.findings ≡ told None ds = c.listed.ensures ∙ ap (λ f. told f ds) c.new-own.ensures in
    let uses : use_of (look_up names.entries x.text) ≡ used c.used.result = sym (ap use_of (c.find-v.ensures ∙ ap (look_up names.entries) c.items.ensures)) ∙ c.used.ensures in
    two_found p c.args.found.now c.add.new.self c.add_use.new.self (faults_found ds) (use_of (look_up names.entries x.text))
    (c.add.ensures p ds own) (c.in_ok-add_use.ensures.ok p ∙ ap (found_in p c.add.new.self) (sym uses))
