use Rattle.std.proofs.Common.{◌≡◌, ◌≤◌, length, refl, arith}
use Rattle.sy_gen.specs.Groups.{line_of}
use Rattle.sy_gen.specs.Text.{source_text}
use Rattle.sy_gen.proofs.Lines.{length-group_after, written_more}
use Rattle.sy_gen.proofs.source_of.Goals as goal

pub push_line-requires : goal.push_line-requires
push_line-requires c =
    let fits : length (line_of c.next_group.result) ≤ 25 = rw c.next_group.ensures.group (length-group_after c.loop-group.draws.last 0) in
    omega (arith, fits, c.loop-group.invariant.0.short)

pub loop-group-preserved : goal.loop-group-preserved
loop-group-preserved c = (
  rw c.next_group.ensures.last (
      written_more _ _ _ _ _ _ _ c.loop-group.invariant.0 (rw c.next_group.ensures.group at c.push_line.ensures.items) (rw c.next_group.ensures.group at c.push_line.ensures.len)
      ),
  omega (arith, c.push_line.ensures.capacity),
)

pub returns : goal.returns
unfolding source_text
returns c =
    let all : c.loop-group._group ≡ c.args.groups = omega arith in
    rw (c.push-2.ensures.items, c.loop-group.invariant.0.text_is, c.closing_text-closing.ensures.text, all) refl
