-- How an operation goes on after an ask that gives no number.
use Rattle.std.specs.Prelude.{Err, List, Ok, Result, ℤ}
use Rattle.sy_meaning.specs.Outcomes.{Op}
use Rattle.sy_meaning.specs.declared.outcomes.Evaluated.{Evaluated}

abbrev pub done_on : {U : Type 0} → Result U Evaluated → Op → Op
done_on (Ok u) go w = go w
done_on (Err e) go w = (e, w)

abbrev pub contents_on : Result (List ℤ) Evaluated → (List ℤ → Op) → Op
contents_on (Ok values) go w = go values w
contents_on (Err e) go w = (e, w)
