use Rattle.std.proofs.Common.{◌≡◌, ◌+◌, ◌∷◌, ◌++◌, drop, ap, sym, ◌∙◌, arith}
use Rattle.std.proofs.lemmas.List.{drop_more, drop_all, append-nil}
use Rattle.sy_found.specs.Noted.{found_in}
use Rattle.sy_rules.specs.Walk.{all_captures}
use Rattle.sy_captures.proofs.ListLemmas.{found_on, taken_on}
use Rattle.sy_captures.proofs.captures.add_captures.Goals as goal

pub loop-c-preserved : goal.loop-c-preserved
loop-c-preserved c =
    let cs = c.args.cs.now in
    let o = c.args.names.now in
    let i = c.loop-c.c-index in
    let x = c.c-item.result in
    let left : drop i cs ≡ x ∷ drop (i + 1) cs = drop_more cs i x c.loop-c-test.true ∙ ap (λ y. y ∷ drop (i + 1) cs) (sym c.c-item.is) in
    record {
      noted = λ p n. found_on p o c.args.t x (drop (i + 1) cs) (drop i cs) c.loop-c.found c.add_capture.new.found n left (c.in_ok-add_capture.ensures.found p n) ∙ c.loop-c.invariant.noted p n;
      taken = λ n. taken_on o c.args.t x (drop (i + 1) cs) (drop i cs) c.loop-c.captures.items c.add_capture.new.captures.items n left (c.in_ok-add_capture.ensures.taken n) ∙ c.loop-c.invariant.taken n;
    }

pub returns-clause-found : goal.returns-clause-found
returns-clause-found c = λ p n.
    ap (λ l. found_in p c.loop-c.found (all_captures c.args.names.now c.args.t l n).found) (sym (drop_all c.loop-c.c-index c.args.cs.now (omega (arith, c.loop-c-test.false))))
    ∙ c.loop-c.invariant.noted p n

pub returns-clause-taken : goal.returns-clause-taken
returns-clause-taken c = λ n.
    sym (append-nil c.loop-c.captures.items)
    ∙ ap (λ l. c.loop-c.captures.items ++ (all_captures c.args.names.now c.args.t l n).what) (sym (drop_all c.loop-c.c-index c.args.cs.now (omega (arith, c.loop-c-test.false))))
    ∙ c.loop-c.invariant.taken n
