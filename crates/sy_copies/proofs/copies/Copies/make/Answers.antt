use Rattle.std.proofs.Common.{◌≡◌, ◌++◌, ◌∷◌, [], List, Option, Some, length, sym, subst, arith}
use Rattle.sy_copies.specs.declared.buffer.Buffer.{Buffer}
use Rattle.sy_copies.specs.Places.{first}
use Rattle.sy_copies.specs.Current.{Sound, Agree}
use Rattle.sy_copies.specs.Calls.{Makes}
use Rattle.sy_copies.proofs.CallLemmas.{makes, fitting}
use Rattle.sy_copies.proofs.AgreementLemmas.{agree_makes}
use Rattle.sy_copies.proofs.copies.Copies.make.Goals as goal

pub invariant_of-self-2 : goal.invariant_of-self-2
invariant_of-self-2 c =
    let old : List (Option Buffer) = c.self.inside.buffers.items in
    let new : c.push.new.self.items ≡ old ++ Some (first c.args.len c.args.init) ∷ [] = rw (← c.in_ok-buffer.ensures) c.in_ok-push.ensures.items in
    subst Sound (sym new) (makes old c.args.len c.args.init (fitting c.args.len c.args.init c.requires.fits) c.self.invariant).1

pub returns-clause-made : goal.returns-clause-made
returns-clause-made c =
    let old : List (Option Buffer) = c.self.inside.buffers.items in
    let new : c.push.new.self.items ≡ old ++ Some (first c.args.len c.args.init) ∷ [] = rw (← c.in_ok-buffer.ensures) c.in_ok-push.ensures.items in
    let number : c.len-number.result ≡ length old = omega arith in
    rw (new, number) (subst (λ (l : List (Option Buffer)). Makes l (old ++ Some (first c.args.len c.args.init) ∷ []) c.args.len c.args.init (length old)) c.self.view_is
    (makes old c.args.len c.args.init (fitting c.args.len c.args.init c.requires.fits) c.self.invariant).0)

pub returns-clause-agree : goal.returns-clause-agree
returns-clause-agree c = λ agree.
    let old : List (Option Buffer) = c.self.inside.buffers.items in
    let new : c.push.new.self.items ≡ old ++ Some (first c.args.len c.args.init) ∷ [] = rw (← c.in_ok-buffer.ensures) c.in_ok-push.ensures.items in
    subst Agree (sym new) (agree_makes old (old ++ Some (first c.args.len c.args.init) ∷ []) c.args.len c.args.init (length old)
    (makes old c.args.len c.args.init (fitting c.args.len c.args.init c.requires.fits) c.self.invariant).0 (subst Agree (sym c.self.view_is) agree))
