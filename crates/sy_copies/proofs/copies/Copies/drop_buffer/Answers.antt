use Rattle.std.proofs.Common.{◌<◌, ◌≤◌, List, Option, length, set, sym, subst, arith}
use Rattle.sy_copies.specs.declared.buffer.Buffer.{Buffer}
use Rattle.sy_copies.specs.Current.{Agree}
use Rattle.sy_copies.specs.Calls.{Drops}
use Rattle.sy_copies.proofs.CallLemmas.{drops, drops_past}
use Rattle.sy_copies.proofs.AgreementLemmas.{agree_drops}
use Rattle.sy_copies.proofs.copies.Copies.drop_buffer.Goals as goal

pub invariant_of-self : goal.invariant_of-self
invariant_of-self c =
    let old : List (Option Buffer) = c.self.inside.buffers.items in
    let within : c.args.buffer < length old = omega arith in
    (drops old c.args.buffer c.drop_in.new.entry within c.drop_in.ensures c.self.invariant).1

pub returns-then-number-len-clause-dropped : goal.returns-then-number-len-clause-dropped
returns-then-number-len-clause-dropped c =
    let old : List (Option Buffer) = c.self.inside.buffers.items in
    let within : c.args.buffer < length old = omega arith in
    subst (λ (l : List (Option Buffer)). Drops l (set old c.args.buffer c.drop_in.new.entry) c.args.buffer) c.self.view_is
    (drops old c.args.buffer c.drop_in.new.entry within c.drop_in.ensures c.self.invariant).0

pub returns-then-number-len-clause-agree : goal.returns-then-number-len-clause-agree
returns-then-number-len-clause-agree c = λ agree.
    let old : List (Option Buffer) = c.self.inside.buffers.items in
    let within : c.args.buffer < length old = omega arith in
    agree_drops old (set old c.args.buffer c.drop_in.new.entry) c.args.buffer
    (drops old c.args.buffer c.drop_in.new.entry within c.drop_in.ensures c.self.invariant).0 (subst Agree (sym c.self.view_is) agree)

pub returns-else-number-len-clause-dropped : goal.returns-else-number-len-clause-dropped
returns-else-number-len-clause-dropped c =
    let old : List (Option Buffer) = c.self.inside.buffers.items in
    let outside : length old ≤ c.args.buffer = omega arith in
    subst (λ (l : List (Option Buffer)). Drops l l c.args.buffer) c.self.view_is (drops_past old c.args.buffer outside)
