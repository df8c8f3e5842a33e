-- What is told of one expression.
use Rattle.std.proofs.Common.{◌≡◌, ap, ◌∙◌, Option, Some, None, flat_map}
use Rattle.std.specs.Prelude.{Err}
use Rattle.std.specs.Result.{IsErrOf}
use Rattle.sy_findings.specs.Told.{told}
use Rattle.sy_found.proofs.FoundLemmas.{first_in}
use Rattle.sy_found.specs.Noted.{Notes, found_in, nothing_noted}
use Rattle.sy_found.specs.declared.parts.Place.{Place}
use Rattle.sy_looks.specs.declared.walk.Walk.{Walk}
use Rattle.sy_looks.specs.Looked.{looked}
use Rattle.sy_note.specs.declared.Diagnostic.{Diagnostic}
use Rattle.sy_note.specs.declared.FrontStop.TheVariants as stop
use Rattle.sy_note.specs.declared.Spot.{Spot}
use Rattle.sy_rules.specs.declared.names.Setting.{Setting}
use Rattle.sy_rules.specs.Outcome.{Look, all_broken, at_statement, placed}

-- a walk that began with nothing found tells the first of what is found in its statement
pub told_of_one : {T : Type 0} (a : Look T) (w m : Walk) (x : T) (s : Spot) (v : Setting) → (x, m) ≡ looked a w → v ≡ w.names.setting →
    w.found ≡ nothing_noted → w.place ≡ Some (record { within = v.within; statement = s }) →
    m.found.first ≡ told None (all_broken (at_statement w.names.setting.within s (a w.names)).found)
told_of_one {T} a w m x s v e ev ef ep =
    let p : Place = record { within = v.within; statement = s } in
    let xs = (a w.names).found in
    ap (λ (z : T × Walk). z.1.found.first) e
    ∙ ap (λ (q : Option Place). (found_in q w.found xs).first) ep
    ∙ ap (λ (t : Notes). (found_in (Some p) t xs).first) ef
    ∙ first_in (Some p) nothing_noted xs
    ∙ ap (λ (z : Setting). told None (all_broken (flat_map (placed z.within s) xs))) ev

pub refused_as_told : {T : Type 0} (d e : Diagnostic) → IsErrOf {T = T} (Err (stop.Refused d)) (stop.Refused e) → d ≡ e
refused_as_told d e h = cc
