use Rattle.std.proofs.Common.{◌≡◌, ◌+◌, ◌∷◌, drop, ap, sym, ◌∙◌, arith}
use Rattle.std.proofs.lemmas.List.{drop_more, drop_all}
use Rattle.sy_rules.specs.Walk.{all_captures}
use Rattle.sy_captures.proofs.ListLemmas.{found_at}
use Rattle.sy_captures.proofs.captures.declare_captures.Goals as goal

pub loop-i-preserved : goal.loop-i-preserved
loop-i-preserved c = λ n e.
    let cs = c.args.cs.now in
    let i = c.loop-i.i in
    let x = c.index-cs-i.result in
    let left : drop i cs ≡ x ∷ drop (i + 1) cs = drop_more cs i x c.loop-i-test.true ∙ ap (λ y. y ∷ drop (i + 1) cs) (sym c.index-cs-i.is) in
    ap (λ m. (all_captures n c.args.t (drop (i + 1) cs) m).names) (c.in_ok-declare_capture.ensures.ok n (found_at n cs c.args.outside.now i _ x e c.loop-i-test.true c.index-cs-i.is))
    ∙ ap (λ l. (all_captures n c.args.t l c.loop-i.names).names) (sym left)
    ∙ c.loop-i.invariant n e

pub returns : goal.returns
returns c = record {
  ok = λ n e.
      ap (λ l. (all_captures n c.args.t l c.loop-i.names).names) (sym (drop_all c.loop-i.i c.args.cs.now (omega (arith, c.loop-i-test.false))))
      ∙ c.loop-i.invariant n e;
}
