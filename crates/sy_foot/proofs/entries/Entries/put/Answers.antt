use Rattle.std.proofs.Common.{rules, ◌<◌, length}
use Rattle.sy_foot.proofs.SparseLemmas.{puts-set}
use Rattle.sy_foot.proofs.entries.Entries.put.Goals as goal

pub returns-clause-entry : goal.returns-clause-entry
returns-clause-entry c =
    let s = c.args.self.now in
    let within : c.args.k < length s.entries.items = search rules in
    puts-set s.index.items s.entries.items c.args.k c.args.entry c.requires.index within c.requires.own
