use Rattle.std.proofs.Common.{◌≡◌, refl, ◌+◌, ◌∷◌, drop, ap, sym, ◌∙◌, arith}
use Rattle.std.proofs.lemmas.List.{drop_more, drop_all}
use Rattle.sy_items.proofs.FileLemmas.{begun_behind, one_more_kept, no_more_kept}
use Rattle.sy_items.proofs.items.FileItems.all.Goals as goal
use Rattle.sy_items.specs.Files.{kept_of}

pub loop-i-init : goal.loop-i-init
loop-i-init g c = record { begun = c.requires.begun; kept = refl }

pub loop-i-preserved : goal.loop-i-preserved
loop-i-preserved g c =
    let is = c.args.items.now in
    let i = c.loop-i.i-index in
    let x = c.i-item.result in
    let left : drop i is ≡ x ∷ drop (i + 1) is = drop_more is i x c.loop-i-test.true ∙ ap (λ y. y ∷ drop (i + 1) is) (sym c.i-item.is) in
    record {
      begun = begun_behind c.loop-i.w c.item.new.w _ c.loop-i.invariant.begun c.in_ok-item.ensures.walk;
      kept = one_more_kept x (drop (i + 1) is) (drop i is) c.loop-i.w c.item.new.w (kept_of c.loop-i.file) (kept_of c.item.new.file) left c.in_ok-item.ensures.walk c.in_ok-item.ensures.kept ∙ c.loop-i.invariant.kept;
    }

pub returns : goal.returns
returns g c =
    no_more_kept (drop c.loop-i.i-index c.args.items.now) c.loop-i.w.names (kept_of c.loop-i.file) (drop_all c.loop-i.i-index c.args.items.now (omega (arith, c.loop-i-test.false)))
    ∙ c.loop-i.invariant.kept
