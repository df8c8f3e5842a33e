use Rattle.std.proofs.Common.{◌++◌, ap, sym, arith}
use Rattle.std.specs.Prelude.{codes}
use Rattle.std.proofs.lemmas.Fmt.{decimal_digit}
use Rattle.sy_top.specs.Notes.{line_of}
use Rattle.sy_top.proofs.call.not_built_line.Goals as goal

pub returns : goal.returns
unfolding line_of
returns c = ap (λ d. codes "syclrun: " ++ (d ++ codes ":" ++ d ++ codes ": " ++ codes "not built") ++ codes "\n") (sym (decimal_digit 1 (omega arith)))
