use Rattle.std.proofs.Common.{◌≡◌, ℕ, None, ap, ◌∙◌, length}
use Rattle.sy_findings.specs.Told.{told}
use Rattle.sy_items.proofs.FileLemmas.{after_step}
use Rattle.sy_items.proofs.functions.function.Goals as goal
use Rattle.sy_looks.specs.Looked.{looked}
use Rattle.sy_looks.specs.declared.walk.Walk.{Walk}
use Rattle.sy_note.specs.declared.Code.TheVariants as code
use Rattle.sy_rules.specs.Faults.{at}
use Rattle.sy_rules.specs.Outcome.{faults_found}
use Rattle.sy_rules.specs.StmtRules.{redeclared}
use Rattle.sy_rules.specs.Units.{function_inside, with_function}
use Rattle.sy_rules.specs.Walk.{block}

pub declare_function-requires : goal.declare_function-requires
declare_function-requires g c = c.in_ok-place.ensures ∙ ap length c.functions.ensures

pub returns : goal.returns
returns g c =
    let w : Walk = c.args.w.now in
    let f = c.args.f.now in
    let b = block f.body in
    let ds = at code.Redeclared (redeclared w.names f.name) in
    let own : c.redeclaration.new.findings ≡ told None ds = c.redeclaration.ensures ∙ ap (λ z. told z ds) c.new-own.ensures in
    let place : c.in_ok-place.place ≡ length w.names.functions = c.in_ok-place.ensures ∙ ap length c.functions.ensures in
    after_step (λ n. faults_found (at code.Redeclared (redeclared n f.name))) (with_function f) (λ n. function_inside f b (length n.functions)) w c.function_inside.new.w
    c.add.new.self c.declare_function.new.names c.in_ok-y.y
    (c.add.ensures w.place ds own) c.in_ok-declare_function.ensures
    (c.in_ok-y.ensures ∙ ap (λ (k : ℕ). looked (function_inside f b k) (record w { names = c.declare_function.new.names; found = c.add.new.self })) place)
