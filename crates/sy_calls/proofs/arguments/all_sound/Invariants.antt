use Rattle.std.proofs.Common.{◌≡◌, drop}
use Rattle.std.specs.List.{list_all}
use Rattle.sy_rules.specs.ExprTypes.{is_sound_argument}
use Rattle.sy_calls.proofs.arguments.all_sound.Given as goal

abbrev pub invariant-loop-x : goal.invariant-loop-x
invariant-loop-x l = list_all is_sound_argument (drop l.x-index l.xs) ≡ list_all is_sound_argument l.xs
