use Rattle.std.proofs.Common.{◌≡◌, take, fold, Some}
use Rattle.sy_top.specs.Words.{push_digit}
use Rattle.sy_top.proofs.words.number_up_to.Given as goal

abbrev pub invariant-loop-digit : goal.invariant-loop-digit
invariant-loop-digit l = l.number ≡ fold (push_digit l.greatest) (Some 0) (take l.digit-index l.text)
