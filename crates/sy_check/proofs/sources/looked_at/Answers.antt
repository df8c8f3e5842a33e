use Rattle.std.proofs.Common.{◌≡◌, None, [], map, ap, ◌∙◌}
use Rattle.sy_check.proofs.CheckLemmas.{told_in_four}
use Rattle.sy_check.proofs.sources.looked_at.Goals as goal
use Rattle.sy_findings.specs.Told.{told}
use Rattle.sy_items.specs.Files.{Kept, kept_of, with_pieces}
use Rattle.sy_note.specs.declared.Code.TheVariants as code
use Rattle.sy_rules.specs.declared.names.Within.TheVariants as within
use Rattle.sy_rules.specs.Faults.{at}
use Rattle.sy_rules.specs.Outcome.{all_broken, in_turn}
use Rattle.sy_rules.specs.Units.{at_start, broken_rules, held_back, function_items, last_first, looked_at, no_main, one_item}
use Rattle.sy_units.specs.Calls.{notes_of}

pub returns-clause-first : goal.returns-clause-first
unfolding broken_rules
returns-clause-first c =
    let u = c.args.unit.now in
    let o = looked_at u in
    let k : Kept = record { constants = []; functions = []; notes = []; first = c.no_main.new.findings } in
    let whole : kept_of c.in_ok-file.file ≡ with_pieces o k =
    c.in_ok-file.ensures ∙ ap (λ is. with_pieces (in_turn (map one_item is) (at_start (function_items is))) k) c.as_slice-2.ensures in
    let notes : c.in_ok-file.file.found.items ≡ notes_of o.what = ap (λ (z : Kept). z.notes) whole in
    told_in_four c.no_main.new.findings c.in_ok-file.file.first c.held_back.new.findings c.held_back-2.new.findings
    (at code.NoMain (no_main (function_items u.items))) (all_broken o.found) (held_back within.Kernel [] (last_first o.what)) (held_back within.Group [] (last_first o.what))
    (c.no_main.ensures ∙ ap (λ f. told f (at code.NoMain (no_main (function_items c.as_slice.result.now)))) c.new-first.ensures ∙ ap (λ is. told None (at code.NoMain (no_main (function_items is)))) c.as_slice.ensures)
    (ap (λ (z : Kept). z.first) whole)
    (c.in_ok-held_back.ensures o.what (c.deref.ensures.value ∙ notes))
    (c.in_ok-held_back-2.ensures o.what (c.deref-2.ensures.value ∙ notes))

pub returns-clause-constants : goal.returns-clause-constants
returns-clause-constants c =
    let k : Kept = record { constants = []; functions = []; notes = []; first = c.no_main.new.findings } in
    ap (λ (z : Kept). z.constants) (c.in_ok-file.ensures ∙ ap (λ is. with_pieces (in_turn (map one_item is) (at_start (function_items is))) k) c.as_slice-2.ensures)

pub returns-clause-functions : goal.returns-clause-functions
returns-clause-functions c =
    let k : Kept = record { constants = []; functions = []; notes = []; first = c.no_main.new.findings } in
    ap (λ (z : Kept). z.functions) (c.in_ok-file.ensures ∙ ap (λ is. with_pieces (in_turn (map one_item is) (at_start (function_items is))) k) c.as_slice-2.ensures)
