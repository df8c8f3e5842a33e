use Rattle.std.proofs.Common.{◌<◌, length, ap, arith, inl, inr}
use Rattle.std.proofs.lemmas.Option.{slice_get_within}
use Rattle.std.proofs.lemmas.Bool.{cases_lt}
use Rattle.sy_index.specs.Listed.{by_root}
use Rattle.sy_index.proofs.IndexLemmas.{has_here}
use Rattle.sy_index.proofs.roots.Roots.enlist.Goals as goal

pub loop-need-preserved : goal.loop-need-preserved
loop-need-preserved c = record {
  named = λ i a lt e. elim (cases_lt i c.loop-need.need-index) [
    | inl below ↦ c.push.ensures.kept _ a.buffer c.args.n (c.loop-need.invariant.named i a below e)
    | inr here ↦ has_here (by_root c.push.new.self) c.args.node.now.needs c.items-need-items.result.now i c.loop-need.need-index a _ c.writes.result c.args.n c.items-need-items.ensures (omega arith) e c.writes.ensures c.in_ok-push.ensures.named
  ];
  kept = λ w k m h. c.push.ensures.kept w k m (c.loop-need.invariant.kept w k m h);
}

pub returns-clause-named : goal.returns-clause-named
returns-clause-named c = λ i a e.
    let short : i < length c.args.node.now.needs = slice_get_within _ i a e in
    c.loop-need.invariant.named i a (omega (arith, ap length c.items-need-items.ensures)) e
