use Rattle.std.proofs.Common.{pos, ap, ◌∙◌}
use Rattle.std.specs.Prelude.{find}
use Rattle.sy_num.specs.Kinds.{is_in_range}
use Rattle.sy_rules.specs.Literals.{kinds_of}
use Rattle.sy_constants.proofs.literals.literal_kind.Goals as goal

pub returns : goal.returns
returns c =
    c.first_holding.ensures
    ∙ (ap (λ ks. find (λ k. is_in_range k (pos c.in-Some.n)) ks) c.kinds_of.ensures
    ∙ ap (λ m. find (λ k. is_in_range k (pos m)) (kinds_of c.args.bytes.now)) c.in-Some.ensures.found)
