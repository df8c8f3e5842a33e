use Rattle.std.proofs.Common.{◌≡◌, ◌+◌, [], ◌∷◌, drop, map, ap, sym, ◌∙◌, arith}
use Rattle.std.proofs.lemmas.List.{drop_more, drop_all, append-nil}
use Rattle.sy_declare.proofs.DeclareLemmas.{behind, declared_next}
use Rattle.sy_declare.proofs.declarators.declarators.Goals as goal
use Rattle.sy_looks.specs.Looked.{looked}
use Rattle.sy_rules.specs.Walk.{declarator_of, declarators}

pub loop-x-preserved : goal.loop-x-preserved
loop-x-preserved g c =
    let d = c.args.d in
    let xs = c.args.xs.now in
    let i = c.loop-x.x-index in
    let x = c.x-item.result in
    let one = c.in_ok-what in
    let k = c.one_declarator.new.w in
    let left : drop i xs ≡ x ∷ drop (i + 1) xs = drop_more xs i x c.loop-x-test.true ∙ ap (λ y. y ∷ drop (i + 1) xs) (sym c.x-item.is) in
    ap (λ l. behind l (looked (declarators d.is_constant d.specifier d.of c.shared_after-first.result (map declarator_of (drop (i + 1) xs))) k)) c.in_ok-push.ensures.ok
    ∙ declared_next d.is_constant d.specifier d.of c.loop-x.first c.shared_after-first.result (declarator_of x) (map declarator_of (drop (i + 1) xs)) (map declarator_of (drop i xs)) c.loop-x.trees c.loop-x.w k one.what one.tree
    (ap (map declarator_of) left) one.ensures c.shared_after-first.ensures
    ∙ c.loop-x.invariant

pub returns : goal.returns
returns g c =
    let d = c.args.d in
    let rest = c.loop-x in
    ap (λ l. (l, rest.w)) (sym (append-nil rest.trees))
    ∙ ap (λ l. behind rest.trees (looked (declarators d.is_constant d.specifier d.of rest.first (map declarator_of l)) rest.w)) (sym (drop_all rest.x-index c.args.xs.now (omega (arith, c.loop-x-test.false))))
    ∙ rest.invariant
