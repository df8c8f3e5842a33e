use Rattle.std.proofs.Common.{subst, sym, ◌∙◌}
use Rattle.sy_top.specs.Headline.{Tells}
use Rattle.sy_top.proofs.Telling.{both}
use Rattle.sy_top.proofs.call.tell_both.Goals as goal

pub returns : goal.returns
returns c k =
    subst (Tells _ _) (sym k.joined.ensures)
    (both _ _ _ _ _ _ k.args.first.now k.args.second.now k.tell-note.result k.tell.result (sym k.is_failed.ensures ∙ k.if-is_failed.false) k.tell-note.ensures k.tell.ensures)
