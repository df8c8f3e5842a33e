use Rattle.std.proofs.Common.{◌≡◌, ◌+◌, ◌∷◌, ◌++◌, [], true, false, take, drop, reverse, ap, sym, ◌∙◌}
use Rattle.std.proofs.lemmas.List.{drop_more, take_more}
use Rattle.sy_rules.specs.Lambdas.{is_listed_well, is_repeated}
use Rattle.sy_captures.proofs.CaptureLemmas.{listed_on, listed_twice}
use Rattle.sy_captures.proofs.lists.is_listed_well.Goals as goal

pub returns-then-is_repeated : goal.returns-then-is_repeated
returns-then-is_repeated c =
    let cs = c.args.cs.now in
    let i = c.loop-i.i in
    let x = c.index-cs-i.result in
    let left : drop i cs ≡ x ∷ drop (i + 1) cs = drop_more cs i x c.loop-i-test.true ∙ ap (λ y. y ∷ drop (i + 1) cs) (sym c.index-cs-i.is) in
    let twice : is_repeated (take i cs) x ≡ true = sym c.is_repeated.ensures ∙ c.if-is_repeated.true in
    sym (listed_twice (take i cs) (drop (i + 1) cs) x twice) ∙ ap (is_listed_well (reverse (take i cs))) (sym left) ∙ c.loop-i.invariant

pub loop-i-preserved : goal.loop-i-preserved
loop-i-preserved c =
    let cs = c.args.cs.now in
    let i = c.loop-i.i in
    let x = c.index-cs-i.result in
    let left : drop i cs ≡ x ∷ drop (i + 1) cs = drop_more cs i x c.loop-i-test.true ∙ ap (λ y. y ∷ drop (i + 1) cs) (sym c.index-cs-i.is) in
    let more : take (i + 1) cs ≡ take i cs ++ x ∷ [] = take_more cs i x c.loop-i-test.true ∙ ap (λ y. take i cs ++ y ∷ []) (sym c.index-cs-i.is) in
    let once : is_repeated (take i cs) x ≡ false = sym c.is_repeated.ensures ∙ c.if-is_repeated.false in
    ap (λ l. is_listed_well (reverse l) (drop (i + 1) cs)) more
    ∙ listed_on (take i cs) (drop (i + 1) cs) x once
    ∙ ap (is_listed_well (reverse (take i cs))) (sym left)
    ∙ c.loop-i.invariant
