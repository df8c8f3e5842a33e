use Rattle.std.proofs.Common.{[], refl}
use Rattle.sy_sums.specs.Sums.{operands, program_of}
use Rattle.sy_sums.proofs.Hosts.{begins}
use Rattle.sy_sums.proofs.Runs.{alone_in, none_in}
use Rattle.sy_sums.proofs.run.run_sums.Goals as goal

pub run_plain-requires-clause-begins : goal.run_plain-requires-clause-begins
run_plain-requires-clause-begins c =
    let p = program_of c.args.turns (operands c.args.unit.now) in
    (p, record { at = c.new-main.ensures.begins p.next 0 [] (begins c.args.turns (operands c.args.unit.now)); outcome = λ k inputs known fit. refl }, λ order s t submission legal may asks. tt)

pub returns-clause-run : goal.returns-clause-run
returns-clause-run c =
    let p = program_of c.args.turns (operands c.args.unit.now) in
    c.run_plain.ensures.run p (record { at = c.new-main.ensures.begins p.next 0 [] (begins c.args.turns (operands c.args.unit.now)); outcome = λ k inputs known fit. refl })

pub returns-clause-serial : goal.returns-clause-serial
returns-clause-serial c =
    let p = program_of c.args.turns (operands c.args.unit.now) in
    c.run_plain.ensures.serial p (record { at = c.new-main.ensures.begins p.next 0 [] (begins c.args.turns (operands c.args.unit.now)); outcome = λ k inputs known fit. refl })

pub returns-clause-main_alone : goal.returns-clause-main_alone
returns-clause-main_alone c =
    let p = program_of c.args.turns (operands c.args.unit.now) in
    alone_in c.args.turns (operands c.args.unit.now) c.run_plain.result
    (c.run_plain.ensures.run p (record { at = c.new-main.ensures.begins p.next 0 [] (begins c.args.turns (operands c.args.unit.now)); outcome = λ k inputs known fit. refl }))

pub returns-clause-no_commands : goal.returns-clause-no_commands
returns-clause-no_commands c = none_in c.args.turns (operands c.args.unit.now) c.run_plain.result
