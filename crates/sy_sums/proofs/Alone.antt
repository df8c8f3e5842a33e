-- A main that prints sums starts no thread, so it is the one thread, which makes each step.
use Rattle.std.proofs.Common.{◌≡◌, ℕ, zero, suc, Bool, true, false, List, [], ◌∷◌, Option, Some, None}
use Rattle.std.specs.Prelude.{All, slice_get}
use Rattle.sy_onecopy.specs.State.{State, Thread, start, ask_by}
use Rattle.sy_onecopy.specs.Step.{step}
use Rattle.sy_onecopy.specs.Sequence.{seq}
use Rattle.sy_answers.specs.Fitting.{IsSpawn}
use Rattle.sy_answers.specs.Alone.{StartsNone}
use Rattle.sy_answers.proofs.AloneLemmas.{all_zeros}
use Rattle.sy_sums.specs.declared.sums.Given.{Given}
use Rattle.sy_sums.specs.declared.sums.Given.TheVariants.{Number}
use Rattle.sy_sums.specs.declared.sums.Given.TheVariants as given_sum
use Rattle.sy_sums.specs.declared.sums.Operand.{Operand}
use Rattle.sy_sums.specs.Sums.{program_of, ask_of_sum, ask_here}

sum_starts_none : (v : Bool) (line : ℕ) (g : Given) → IsSpawn (ask_of_sum v line g) → ⊥
sum_starts_none v line (given_sum.Overflow at) h = let z = h.2 in cc
sum_starts_none true line (Number n) h = let z = h.2 in cc
sum_starts_none false line (Number n) h = let z = h.2 in cc

here_starts_none : (v : Bool) (o : Option Operand) → IsSpawn (ask_here v o) → ⊥
here_starts_none v None h = let z = h.2 in cc
here_starts_none v (Some o) h = sum_starts_none v o.line o.given h

thread_starts_none : (turns : ℕ) (ops : List Operand) (o : Option Thread) → IsSpawn (ask_by (program_of turns ops).next o) → ⊥
thread_starts_none turns ops None h = let z = h.2 in cc
thread_starts_none turns ops (Some x) h = here_starts_none _ _ h

starts_none : (turns : ℕ) (ops : List Operand) (s : State) (order : List ℕ) → StartsNone (program_of turns ops) s order
starts_none turns ops s [] = tt
starts_none turns ops s (zero ∷ ts) = (thread_starts_none turns ops (slice_get s.threads 0), starts_none turns ops (step (program_of turns ops) s 0) ts)
starts_none turns ops s (suc t ∷ ts) = starts_none turns ops (step (program_of turns ops) s (suc t)) ts

pub main_alone : (turns : ℕ) (ops : List Operand) (m : State) (order : List ℕ) → seq (program_of turns ops) order ≡ Some m → All (λ t. t ≡ 0) order
main_alone turns ops m order h = all_zeros (program_of turns ops) order m h (starts_none turns ops (start (program_of turns ops)) order)
