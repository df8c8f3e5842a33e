-- What is known of a run of sums, where there is one.
use Rattle.std.proofs.Common.{◌≡◌, ℕ, List, Result, Ok, Err}
use Rattle.std.specs.Prelude.{All, IfOk}
use Rattle.sy_onecopy.specs.Sequence.{IsRun}
use Rattle.sy_work.specs.declared.endings.End.{End}
use Rattle.sy_sums.specs.declared.sums.Operand.{Operand}
use Rattle.sy_sums.specs.Commands.{commands}
use Rattle.sy_sums.specs.Sums.{program_of}
use Rattle.sy_sums.proofs.Alone.{main_alone}
use Rattle.sy_sums.proofs.Commands.{no_commands}

module _ (turns : ℕ) (ops : List Operand) where
  abbrev pub IsRunOf : End → Type 0
  IsRunOf e = IsRun (program_of turns ops) e.order.items e.ending e.output e.copies

  pub alone_in : {E : Type 0} (r : Result End E) → IfOk r IsRunOf → IfOk r (λ e. All (λ t. t ≡ 0) e.order.items)
  alone_in (Ok e) run = main_alone turns ops run.state e.order.items run.legal
  alone_in (Err e) run = tt

  pub none_in : {E : Type 0} (r : Result End E) → IfOk r (λ e. commands (program_of turns ops) e.order.items ≡ 0)
  none_in (Ok e) = no_commands turns ops e.order.items
  none_in (Err e) = tt
