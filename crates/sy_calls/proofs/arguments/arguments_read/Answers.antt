use Rattle.std.proofs.Common.{sym, ap, ◌∙◌, ◌+◌, ◌∷◌, drop}
use Rattle.std.proofs.lemmas.List.{drop_more}
use Rattle.sy_note.specs.declared.Code.TheVariants as code
use Rattle.sy_rules.specs.ExprRules.{unread_arguments}
use Rattle.sy_rules.specs.Faults.{at}
use Rattle.sy_findings.specs.Told.{told}
use Rattle.sy_calls.proofs.ReadLemmas.{read_more}
use Rattle.sy_calls.proofs.arguments.arguments_read.Goals as goal

pub loop-x-preserved : goal.loop-x-preserved
loop-x-preserved c =
    let i = c.loop-x.x-index in
    let xs = c.args.xs.now in
    let f = c.loop-x.findings in
    let x = c.x-item.result in
    ap (λ g. told g (at code.ModeBroken (unread_arguments (drop (i + 1) xs)))) c.argument_read.ensures
    ∙ read_more f x (drop (i + 1) xs)
    ∙ ap (λ l. told f (at code.ModeBroken (unread_arguments l))) (ap (λ y. y ∷ drop (i + 1) xs) c.x-item.is ∙ sym (drop_more xs i x c.loop-x-test.true))
    ∙ c.loop-x.invariant
