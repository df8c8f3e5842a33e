use Rattle.std.proofs.Common.{sym, ap}
use Rattle.sy_rows.specs.Plays.{program_of}
use Rattle.sy_rows.proofs.play.Goals as goal

pub run_plain-requires-clause-begins : goal.run_plain-requires-clause-begins
run_plain-requires-clause-begins c = (
  program_of c.args.scripts.items c.args.table.items,
  record { at = c.in_ok-main.ensures.begins; outcome = λ k inputs known fit. ap (λ f. f k inputs) (sym c.new-runner.ensures.outcomes) },
  λ order s t submission legal may asks. tt,
)

pub returns-clause-run : goal.returns-clause-run
returns-clause-run c = c.in_ok-end.ensures.run (program_of c.args.scripts.items c.args.table.items) (record { at = c.in_ok-main.ensures.begins; outcome = λ k inputs known fit. ap (λ f. f k inputs) (sym c.new-runner.ensures.outcomes) })

pub returns-clause-serial : goal.returns-clause-serial
returns-clause-serial c = c.in_ok-end.ensures.serial (program_of c.args.scripts.items c.args.table.items) (record { at = c.in_ok-main.ensures.begins; outcome = λ k inputs known fit. ap (λ f. f k inputs) (sym c.new-runner.ensures.outcomes) })
