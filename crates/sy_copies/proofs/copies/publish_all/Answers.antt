use Rattle.std.proofs.Common.{◌≡◌, ◌+◌, ◌++◌, ◌∷◌, [], ℕ, true, false, List, take, get_or, sym, ap, ◌∙◌}
use Rattle.std.proofs.lemmas.List.{take_more}
use Rattle.sy_access.specs.declared.access.Need.{Need}
use Rattle.sy_access.specs.declared.access.Mode.TheVariants.{Read}
use Rattle.sy_access.specs.Needs.{writes}
use Rattle.sy_needs.specs.Versions.{renews}
use Rattle.sy_needs.specs.Each.{each_from}
use Rattle.sy_copies.specs.Current.{publish_one}
use Rattle.sy_copies.proofs.RootLemmas.{roots_none, root_first, root_again}
use Rattle.sy_copies.proofs.copies.publish_all.Goals as goal
use Rattle.sy_copies.proofs.copies.publish_all.Goals.{then-writes+then-not-renews, else-writes, else-writes-via-then-writes+else-not-renews, else-writes-via-else-writes}

pub loop-k-init : goal.loop-k-init
loop-k-init c = roots_none c.args.place c.args.needs.now c.args.log.now c.args.buffers.now

pub loop-k-preserved : goal.loop-k-preserved
loop-k-preserved c =
    let needs : List Need = c.args.needs.now in
    let k : ℕ = c.loop-k.k in
    let none : Need = record { buffer = 0; mode = Read; no_init = false; from = 0; to = 0 } in
    let n : Need = get_or needs k none in
    let more : take (k + 1) needs ≡ take k needs ++ n ∷ [] = take_more needs k none c.loop-k-test.true in
    elim c.if-writes.branch [
      | then-writes+then-not-renews w ↦
          let writing : writes n.mode ≡ true = sym c.writes.ensures ∙ w.if-writes.true in
          let new : renews (take k needs) n.buffer ≡ false = sym w.renews.ensures ∙ w.if-not-renews.true in
          rw more (w.buffers-is ∙ w.publish_root.ensures ∙ ap (each_from (publish_one c.args.place needs c.args.log.now n.buffer) 0) c.loop-k.invariant
          ∙ root_first c.args.place needs c.args.log.now (take k needs) n c.args.buffers.now writing new)
      | else-writes w ↦
          let old : writes n.mode ≡ true → renews (take k needs) n.buffer ≡ true = elim w.else-writes.branch [
            | else-writes-via-then-writes+else-not-renews v ↦ (λ t. sym v.renews.ensures ∙ v.if-not-renews.false)
            | else-writes-via-else-writes v ↦ (λ t. absurd (let z : false ≡ true = sym v.if-writes.false ∙ c.writes.ensures ∙ t in cc))
          ] in
          rw more (w.buffers-is ∙ c.loop-k.invariant ∙ root_again c.args.place needs c.args.log.now (take k needs) n c.args.buffers.now old)
    ]
