use Rattle.std.proofs.Common.{◌≡◌, ◌++◌, length}
use Rattle.sy_meaning.specs.Lambdas.{all_words}
use Rattle.sy_commands.proofs.closures.all_words.Given as goal

-- the words so far, and those of the rest
abbrev pub invariant-loop-rest : goal.invariant-loop-rest
invariant-loop-rest l = l.words.items ++ all_words l.rest ≡ all_words l.objects

abbrev pub decreases-loop-rest : goal.decreases-loop-rest
decreases-loop-rest l = length l.rest
