use Rattle.std.proofs.Common.{ap, map, sym, ◌∙◌}
use Rattle.sy_bodies.proofs.FormLemmas.{block_is}
use Rattle.sy_bodies.proofs.blocks.statements.Goals as goal
use Rattle.sy_looks.proofs.LookLemmas.{known_there}
use Rattle.sy_looks.specs.Looked.{looked}
use Rattle.sy_rules.specs.Outcome.{in_turn}
use Rattle.sy_rules.specs.Walk.{stmt}
use Rattle.sy_rules.specs.declared.statements.Standing.TheVariants as standing
use Rattle.sy_tree.specs.declared.tree.Block.{out-Block}
use Rattle.sy_typed.specs.declared.tree.TypedBlock.{roll-TypedBlock}

pub returns : goal.returns
returns g c =
    let b = c.args.b.now in
    let w = c.args.w.now in
    known_there (λ xs. roll-TypedBlock (record { statements = xs; close = (out-Block b).close })) (in_turn (map (λ s. stmt s standing.InList) (out-Block b).statements)) w c.in_list.new.w c.in_ok-all.all
    (c.in_ok-all.ensures ∙ ap (λ l. looked (in_turn (map (λ s. stmt s standing.InList) l)) w) c.as_slice.ensures)
    ∙ ap (λ l. looked l w) (sym (block_is b))
