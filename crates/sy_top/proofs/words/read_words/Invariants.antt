use Rattle.std.proofs.Common.{◌≡◌, map, string_bytes, length}
use Rattle.sy_top.specs.Words.{words_of, settings_after, items_of}
use Rattle.sy_top.proofs.words.read_words.Given as goal

-- what the words gave so far, and the items of the rest, are all that the words say
abbrev pub invariant-loop-first : goal.invariant-loop-first
invariant-loop-first l = words_of (map string_bytes l.words) ≡ settings_after l.given (items_of (map string_bytes l.rest))

abbrev pub decreases-loop-first : goal.decreases-loop-first
decreases-loop-first l = length l.rest
