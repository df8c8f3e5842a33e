use Rattle.std.proofs.Common.{◌++◌, ℕ, List, get_or, append-nil, append_assoc, sym, ap, ◌∙◌}
use Rattle.sy_top.specs.Trace.{stretch_line, stretch_lines, stretches_of}
use Rattle.sy_top.proofs.Stretches.{stretch, next_line, no_line}
use Rattle.sy_top.proofs.notes.Line.stretches.Goals as goal

abbrev lines : List ℕ → List ℕ
lines rest = stretch_lines (stretches_of rest)

pub loop-rest-preserved : goal.loop-rest-preserved
loop-rest-preserved c =
    let text = c.loop-rest.self.text.items in
    let after = c.split_at.result.1.now in
    ap (λ t. t ++ lines after) c.in_ok-stretch.ensures
    ∙ append_assoc text _ (lines after)
    ∙ ap (λ r. text ++ (stretch_line (stretch (get_or c.loop-rest.rest.now 0 0) c.steps_of-steps.result) ++ lines r)) c.split_at.ensures.back
    ∙ ap (λ l. text ++ l) (sym (next_line c.loop-rest.rest.now c.steps_of-steps.result c.in-len1-up.len_at_least c.steps_of-steps.ensures.steps))
    ∙ c.loop-rest.invariant

pub returns : goal.returns
returns c = sym (append-nil _) ∙ ap (λ ss. c.loop-rest.self.text.items ++ ss) (no_line c.loop-rest.rest.now c.in_default.len_below) ∙ c.loop-rest.invariant
