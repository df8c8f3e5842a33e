use Rattle.std.proofs.Common.{pos, Option, Some, None, ap, sym}
use Rattle.sy_num.specs.declared.Kind.{Kind}
use Rattle.sy_rules.specs.Literals.{kinds_of, number_written}
use Rattle.sy_rules.specs.declared.seen.Constant.TheVariants as constant
use Rattle.sy_constants.proofs.LiteralLemmas.{held_by_none}
use Rattle.sy_constants.proofs.literals.literal_value.Goals as goal

pub returns-in-None-number_written : goal.returns-in-None-number_written
returns-in-None-number_written c =
    ap (λ (o : Option Kind). elim o [ None ↦ constant.Undefined | Some k ↦ constant.Number (pos (number_written c.args.bytes.now)) ])
    (sym (held_by_none (kinds_of c.args.bytes.now) (number_written c.args.bytes.now) c.in-None-number_written.ensures.none))
