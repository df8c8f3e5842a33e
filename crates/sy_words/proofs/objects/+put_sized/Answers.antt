use Rattle.std.proofs.Common.{◌≡◌, ◌∙◌, ◌++◌, [], ◌∷◌, ℤ, pos, ap, rules, SFits, to_z, of_z}
use Rattle.std.specs.Prelude.{slice_index_or}
use Rattle.std.specs.Int.{w128}
use Rattle.std.proofs.lemmas.Int.{to_z-of_z}
use Rattle.sy_words.proofs.ObjectLemmas.{kept_on}
use Rattle.sy_words.proofs.objects.+put_sized.Goals as goal

pub returns-in_ok-put_sized-in-len1-up : goal.returns-in_ok-put_sized-in-len1-up
returns-in_ok-put_sized-in-len1-up t c =
    let z : ℤ = slice_index_or c.args.words.now 0 (pos 0) in
    let fits : SFits w128 z = search rules in
    kept_on c.args.words.now c.args.made.now.items c.push.new.self.items c.put_sized.new.made.items c.args.count (pos 0) c.in-len1-up.len_at_least c.if-count-eq0.false (c.in_ok-push-in-len1-up.ensures.items ∙ ap (λ y. c.args.made.now.items ++ y ∷ []) (to_z-of_z w128 z fits)) c.in_ok-put_sized-in-len1-up.ensures
