use Rattle.std.proofs.Common.{subst, sym}
use Rattle.sy_bodies.proofs.inner.Inner.block_as.Goals as goal
use Rattle.sy_looks.specs.Looked.{Looked}
use Rattle.sy_rules.specs.Walk.{block, block_as}

pub returns-in-AsBody : goal.returns-in-AsBody
returns-in-AsBody g c = subst (λ o. Looked (block_as o (block c.args.b.now)) c.args.w.now c.sub_block.result c.sub_block.new.w) (sym c.in-AsBody.is) c.sub_block.ensures

pub returns-in-InList : goal.returns-in-InList
returns-in-InList g c = subst (λ o. Looked (block_as o (block c.args.b.now)) c.args.w.now c.scoped_block.result c.scoped_block.new.w) (sym c.in-InList.is) c.scoped_block.ensures

pub returns-in-InHead : goal.returns-in-InHead
returns-in-InHead g c = subst (λ o. Looked (block_as o (block c.args.b.now)) c.args.w.now c.scoped_block-in-InHead.result c.scoped_block-in-InHead.new.w) (sym c.in-InHead.is) c.scoped_block-in-InHead.ensures
