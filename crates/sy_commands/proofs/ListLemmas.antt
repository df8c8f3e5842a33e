-- How an expression goes on after its operands.
use Rattle.std.proofs.Common.{◌≡◌, List, Option, Result, ap, ◌∙◌}
use Rattle.std.specs.Prelude.{Err, Ok, Some}
use Rattle.sy_commands.specs.Listing.{SaysListed, listed_on}
use Rattle.sy_meaning.specs.Outcomes.{Ex, Listed, with_list}
use Rattle.sy_meaning.specs.Words.{Object}
use Rattle.sy_meaning.specs.declared.outcomes.Evaluated.{Evaluated}
use Rattle.sy_meaning.specs.declared.runs.Run.{Run}

pub goes_on : (x : Result (List Object) Evaluated) (r : Run) (l : Listed) (go : List Object → Ex) → SaysListed x r l → with_list l go ≡ listed_on x go r
goes_on (Ok os) r l go is = ap (λ (m : Listed). with_list m go) is
goes_on (Err v) r (o, os, s) go is =
    ap (λ (p : Option Evaluated). with_list (p, os, s) go) is.0
    ∙ ap (λ (t : Run). with_list (Some v, os, t) go) is.1
