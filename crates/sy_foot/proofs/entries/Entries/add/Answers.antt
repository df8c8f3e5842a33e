use Rattle.std.proofs.Common.{rules, ◌≡◌, ap, ◌∙◌, ◌++◌, ◌∷◌, [], ◌<◌, length}
use Rattle.sy_foot.proofs.SparseLemmas.{placed-added, puts-added}
use Rattle.sy_foot.proofs.entries.Entries.add.Goals as goal

pub invariant_of-self-2 : goal.invariant_of-self-2
invariant_of-self-2 c =
    let s = c.args.self.now in
    let longer : c.push_reserved.new.self.items ≡ s.entries.items ++ c.args.entry ∷ [] = c.push_reserved.ensures.items ∙ ap (λ l. l ++ c.args.entry ∷ []) c.reserve.ensures.items in
    let within : c.args.entry.cell < length s.index.items = search rules in
    let is_end : c.len-k.result ≡ length s.entries.items = search rules in
    record { placed = placed-added s.index.items s.entries.items c.push_reserved.new.self.items c.len-k.result c.args.entry s.placed c.requires within is_end longer }

pub returns-clause-entry : goal.returns-clause-entry
returns-clause-entry c =
    let s = c.args.self.now in
    let longer : c.push_reserved.new.self.items ≡ s.entries.items ++ c.args.entry ∷ [] = c.push_reserved.ensures.items ∙ ap (λ l. l ++ c.args.entry ∷ []) c.reserve.ensures.items in
    let within : c.args.entry.cell < length s.index.items = search rules in
    let is_end : c.len-k.result ≡ length s.entries.items = search rules in
    puts-added s.index.items s.entries.items c.push_reserved.new.self.items c.len-k.result c.args.entry within is_end longer
