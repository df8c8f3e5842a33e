use Rattle.std.proofs.Common.{subst, rules}
use Rattle.sy_top.specs.Judged.{IsReady, Judges}
use Rattle.sy_top.proofs.Ran.{has_cause, refused_cause, checked_cause, checked_untouched}
use Rattle.sy_top.proofs.read_and_run.Goals as goal

pub returns-in-Ok-Ran : goal.returns-in-Ok-Ran
returns-in-Ok-Ran g c =
    let ready = c.in-Ok-Ran.ready in
    let is : IsReady c.args.set.now c.as_slice.result.now ready = subst (Judges c.args.set.now c.as_slice.result.now) c.in-Ok-Ran.field-0-is c.in-Ok-Ran.ensures in
    record { cause = has_cause _ c.args.set.now c.write_run.result ready c.in-Ok.bytes.items (subst (λ b. IsReady c.args.set.now b ready) c.as_slice.ensures.value is) (search rules) c.write_run.ensures.order c.write_run.ensures.copies (c.write_run.ensures.note is.line) c.write_run.ensures.written }

pub returns-in-Ok-Refused : goal.returns-in-Ok-Refused
returns-in-Ok-Refused g c =
    let is = subst (λ b. Judges c.args.set.now b c.in-Ok-Refused.field-0) c.as_slice.ensures.value c.in-Ok-Refused.ensures in
    let why = subst (Judges c.args.set.now c.in-Ok.bytes.items) c.in-Ok-Refused.field-0-is is in
    record { cause = refused_cause _ c.args.set.now c.without_run-in-Ok-Refused.result c.in-Ok-Refused.diagnostic c.in-Ok.bytes.items c.without_run-in-Ok-Refused.ensures.ended (search rules) why.0 why.1 (search rules) }

pub returns-in-Ok-Checked : goal.returns-in-Ok-Checked
returns-in-Ok-Checked g c =
    let is = subst (λ b. Judges c.args.set.now b c.in-Ok-Checked.field-0) c.as_slice.ensures.value c.in-Ok-Checked.ensures in
    let accepted = subst (Judges c.args.set.now c.in-Ok.bytes.items) c.in-Ok-Checked.field-0-is is in
    let w = c.without_run-in-Ok-Checked in
    record { cause = checked_cause _ c.args.set.now w.result c.in-Ok.bytes.items w.ensures.ended (search rules) accepted (checked_untouched _ w.result w.ensures.ended w.ensures.order w.ensures.copies w.ensures.note (search rules) (search rules) (search rules) (search rules)) }
