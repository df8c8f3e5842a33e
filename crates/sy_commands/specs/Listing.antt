-- What an answer says of operands that were evaluated from left to right.
use Rattle.std.specs.Prelude.{Err, List, None, Ok, Result, Some, ◌≡◌}
use Rattle.sy_meaning.specs.Outcomes.{Ex, Listed}
use Rattle.sy_meaning.specs.Words.{Object}
use Rattle.sy_meaning.specs.declared.outcomes.Evaluated.{Evaluated}
use Rattle.sy_meaning.specs.declared.runs.Run.{Run}

-- all were given, or one ended them. What was given before that one isn't told
abbrev pub SaysListed : Result (List Object) Evaluated → Run → Listed → Type 0
SaysListed (Ok os) r l = l ≡ (None, os, r)
SaysListed (Err v) r l = (l.0 ≡ Some v) × (l.2 ≡ r)

-- how an expression goes on after them
abbrev pub listed_on : Result (List Object) Evaluated → (List Object → Ex) → Ex
listed_on (Ok os) go r = go os r
listed_on (Err v) go r = (v, r)
