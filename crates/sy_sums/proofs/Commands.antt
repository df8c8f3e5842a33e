-- A main that prints sums submits no command.
use Rattle.std.proofs.Common.{◌≡◌, ℕ, ◌+◌, Bool, true, false, List, [], ◌∷◌, Option, Some, None, refl, ap, ◌∙◌}
use Rattle.std.specs.Prelude.{slice_get}
use Rattle.sy_onecopy.specs.State.{State, Thread, ask_by}
use Rattle.sy_onecopy.specs.Step.{step}
use Rattle.sy_sums.specs.declared.sums.Given.{Given}
use Rattle.sy_sums.specs.declared.sums.Given.TheVariants.{Number}
use Rattle.sy_sums.specs.declared.sums.Given.TheVariants as given
use Rattle.sy_sums.specs.declared.sums.Operand.{Operand}
use Rattle.sy_sums.specs.Sums.{program_of, ask_of_sum, ask_here}
use Rattle.sy_sums.specs.Commands.{is_submit, submits_in, commands}

sum_submits_none : (v : Bool) (line : ℕ) (g : Given) → is_submit (ask_of_sum v line g) ≡ 0
sum_submits_none v line (given.Overflow at) = refl
sum_submits_none true line (Number z) = refl
sum_submits_none false line (Number z) = refl

submits_none : (v : Bool) (o : Option Operand) → is_submit (ask_here v o) ≡ 0
submits_none v None = refl
submits_none v (Some o) = sum_submits_none v o.line o.given

thread_submits_none : (turns : ℕ) (ops : List Operand) (o : Option Thread) → is_submit (ask_by (program_of turns ops).next o) ≡ 0
thread_submits_none turns ops None = refl
thread_submits_none turns ops (Some x) = submits_none _ _

none_from : (turns : ℕ) (ops : List Operand) (s : State) (order : List ℕ) → submits_in (program_of turns ops) s order ≡ 0
none_from turns ops s [] = refl
none_from turns ops s (t ∷ ts) =
    ap (λ n. n + submits_in (program_of turns ops) (step (program_of turns ops) s t) ts) (thread_submits_none turns ops (slice_get s.threads t))
    ∙ ap (λ n. 0 + n) (none_from turns ops (step (program_of turns ops) s t) ts)

pub no_commands : (turns : ℕ) (ops : List Operand) (order : List ℕ) → commands (program_of turns ops) order ≡ 0
no_commands turns ops order = none_from turns ops _ order
