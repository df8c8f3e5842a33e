-- How an expression goes on after a part that gives a number.
use Rattle.std.specs.Prelude.{Err, Ok, Result, ℕ}
use Rattle.sy_meaning.specs.Outcomes.{Op}
use Rattle.sy_meaning.specs.declared.outcomes.Evaluated.{Evaluated}

abbrev pub gone_on : Result ℕ Evaluated → (ℕ → Op) → Op
gone_on (Ok n) go w = go n w
gone_on (Err e) go w = (e, w)
