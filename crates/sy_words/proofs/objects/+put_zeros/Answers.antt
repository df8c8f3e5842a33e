use Rattle.sy_words.proofs.ObjectLemmas.{filled_on}
use Rattle.sy_words.proofs.objects.+put_zeros.Goals as goal

pub returns : goal.returns
returns t c =
    filled_on c.args.made.now.items c.push.new.self.items c.put_zeros.new.made.items c.args.count c.if-count-eq0.false c.in_ok-push.ensures.items c.in_ok-put_zeros.ensures
