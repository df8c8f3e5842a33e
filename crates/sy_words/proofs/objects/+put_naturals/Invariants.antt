use Rattle.std.proofs.Common.{length}
use Rattle.sy_words.proofs.objects.+put_naturals.Given as goal

abbrev pub decreases-put_naturals : goal.decreases-put_naturals
decreases-put_naturals l = length l.words.now
