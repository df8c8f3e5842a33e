use Rattle.sy_words.proofs.objects.+put_sized.Given as goal

abbrev pub decreases-put_sized : goal.decreases-put_sized
decreases-put_sized l = l.count
