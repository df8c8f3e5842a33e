use Rattle.sy_note.specs.declared.FrontStop.TheVariants as FrontStop
use Rattle.sy_top.proofs.Trees.{another, one_tree, no_tree, no_tokens}
use Rattle.sy_top.proofs.source.tree_of.Goals as goal

pub returns-in-Ok-clause-only : goal.returns-in-Ok-clause-only
returns-in-Ok-clause-only c = one_tree c.args.bytes.now c.in-Ok.toks.items c.in-Ok.ensures.found c.in-Ok.ensures.only c.parse.result c.parse.ensures.only

pub returns-in-Ok-clause-refused : goal.returns-in-Ok-clause-refused
returns-in-Ok-clause-refused c = λ d e.
    let refused = c.parse.ensures.refused d e in
    no_tree c.args.bytes.now c.in-Ok.toks.items c.in-Ok.ensures.found c.in-Ok.ensures.only d refused.0 refused.1

pub returns-in-Err-clause-refused : goal.returns-in-Err-clause-refused
returns-in-Err-clause-refused c = λ d e.
    let is = another c.in-Err.stop (FrontStop.Refused d) e in
    no_tokens c.args.bytes.now d (c.in-Err.ensures.lexical d is) (c.in-Err.ensures.place d is) (c.in-Err.ensures.refused d is)
