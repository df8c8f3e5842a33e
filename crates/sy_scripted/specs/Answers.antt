-- Whether an answer is as wanted.
use Rattle.std.specs.Prelude.{Bool, true, false, ◌==◌, Option, Some, None}
use Rattle.std.specs.Ordering.{int_eq}
use Rattle.std.specs.Cmp.Lexicographic.{pointwise}
use Rattle.sy_work.specs.declared.asks.Answer.{Answer}
use Rattle.sy_work.specs.declared.asks.Answer.TheVariants.{Done, Number, Contents, Refused}
use Rattle.sy_work.specs.declared.asks.Errc.{Errc}
use Rattle.sy_work.specs.declared.asks.Errc.TheVariants as errc

abbrev pub same_errc : Errc → Errc → Bool
same_errc errc.Runtime errc.Runtime = true
same_errc errc.NdRange errc.NdRange = true
same_errc errc.KernelArgument errc.KernelArgument = true
same_errc errc.Invalid errc.Invalid = true
same_errc errc.MemoryAllocation errc.MemoryAllocation = true
same_errc e f = false

-- the answers are the same
abbrev pub same_answer : Answer → Answer → Bool
same_answer Done Done = true
same_answer (Number m) (Number n) = m == n
same_answer (Contents v) (Contents w) = pointwise int_eq v w
same_answer (Refused e) (Refused f) = same_errc e f
same_answer a b = false

abbrev pub suits : Option Answer → Answer → Bool
suits None a = true
suits (Some wanted) a = same_answer wanted a
