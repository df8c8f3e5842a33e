use Rattle.std.proofs.Common.{◌≡◌, ap, subst, Bool}
use Rattle.sy_note.specs.declared.Code.TheVariants as code
use Rattle.sy_rules.specs.declared.library.Row.{Row}
use Rattle.sy_rules.specs.Faults.{at}
use Rattle.sy_rules.specs.Seen.{when}
use Rattle.sy_findings.specs.Told.{told}
use Rattle.sy_statements.proofs.Wholes.{object_told}
use Rattle.sy_statements.proofs.objects.object.Goals as goal

pub returns : goal.returns
returns c =
    let arguments = subst (λ (b : Bool). c.tell_if.new.self ≡ told c.event_declaration.new.findings (at code.WrongArguments (when b c.args.x.now.spot))) c.is_wrong_arguments.ensures c.tell_if.ensures in
    let elements = subst (λ (b : Bool). c.tell_if-2.new.self ≡ told c.tell_if.new.self (at code.BadElement (when b c.args.x.now.spot))) c.is_wrong_element.ensures c.tell_if-2.ensures in
    object_told c.args.names.now c.args.t.now c.args.x.now c.args.i.now c.initialized_row-fit.result.fit
    c.args.findings.now c.redeclaration.new.findings c.wide_in_type.new.findings c.bad_dimension.new.findings c.event_declaration.new.findings c.tell_if.new.self c.tell_if-2.new.self c.unread_initializer.new.findings c.not_in_host.new.findings
    (ap (λ (r : Row). r.fit) c.initialized_row-fit.ensures)
    c.redeclaration.ensures c.wide_in_type.ensures c.bad_dimension.ensures c.event_declaration.ensures arguments elements c.unread_initializer.ensures c.not_in_host.ensures
