use Rattle.std.proofs.Common.{◌<◌, ◌++◌, length, take, ap, ◌∙◌, arith, length-append}
use Rattle.std.proofs.KnownBytes.{Appends-trans}
use Rattle.std.proofs.lemmas.Bool.Decides.{nat_tests}
use Rattle.sy_io.proofs.Bytes.{front_sent, sent_more, on_err}
use Rattle.sy_io.proofs.write_all.Goals as goal

pub returns-in_err-count-clause-front : goal.returns-in_err-count-clause-front
returns-in_err-count-clause-front g c =
    on_err _ (front_sent _ c.loop-rest.invariant.0 c.in_err-count.ensures.bytes (grind (arith, nat_tests, c.is_empty.ensures, c.loop-rest-test.true)))

pub loop-rest-preserved : goal.loop-rest-preserved
loop-rest-preserved g c =
    let before = c.loop-rest.invariant.0 in
    let rest = c.loop-rest.rest.now in
    let some : 0 < length rest = grind (arith, nat_tests, c.is_empty.ensures, c.loop-rest-test.true) in (
      record {
        sent = before.sent ++ take c.in_ok-count.count rest;
        joined = sent_more before.sent rest _ c.in_ok-count.count before.joined;
        appended = Appends-trans _ _ _ _ _ before.appended c.in_ok-count.ensures.bytes;
        kept = c.in_ok-count.ensures.cause.kept ∙ before.kept;
      },
      λ none. absurd (omega (arith, ap length before.joined, ap length none, length-append before.sent rest)),
    )
