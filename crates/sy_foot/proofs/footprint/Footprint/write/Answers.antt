use Rattle.std.proofs.Common.{rules, refl, ◌≡◌, ◌++◌, ◌∷◌, [], Some, None}
use Rattle.std.proofs.lemmas.Option.{slice_get_within}
use Rattle.sy_foot.specs.Footprints.{after_write}
use Rattle.sy_foot.specs.Kept.{entry_at}
use Rattle.sy_foot.specs.Sparse.{Puts}
use Rattle.sy_foot.specs.Writes.{first_written}
use Rattle.sy_foot.proofs.WriteLemmas.{unlisted-first, write-first}
use Rattle.sy_foot.proofs.footprint.Footprint.write.Goals as goal

pub invariant_of-self-in-Some : goal.invariant_of-self-in-Some
invariant_of-self-in-Some c =
    let s = c.args.self.now in
    let e = after_write s c.args.cell c.args.number in
    let former : entry_at s.entries c.args.cell ≡ Some c.in-Some.entry = search rules in
    let puts : Puts (entry_at s.entries) (entry_at c.put.new.self) e = search rules in
    let now : c.note_first_write.new.written.items ≡ first_written c.in-Some.entry.wrote s.written.items c.args.cell = search rules in
    record { first_writes = write-first s.written.items c.note_first_write.new.written.items (entry_at s.entries) (entry_at c.put.new.self) e c.in-Some.entry s.first_writes puts refl former now }

pub invariant_of-self-in-None : goal.invariant_of-self-in-None
invariant_of-self-in-None c =
    let s = c.args.self.now in
    let e = after_write s c.args.cell c.args.number in
    let none : entry_at s.entries c.args.cell ≡ None = search rules in
    let puts : Puts (entry_at s.entries) (entry_at c.add.new.self) e = search rules in
    let now : c.push_reserved.new.self.items ≡ s.written.items ++ c.args.cell ∷ [] = search rules in
    record { first_writes = unlisted-first s.written.items c.push_reserved.new.self.items (entry_at s.entries) (entry_at c.add.new.self) e s.first_writes puts refl none now }

pub returns-in_ok-note_first_write-in-Some-clause-within : goal.returns-in_ok-note_first_write-in-Some-clause-within
returns-in_ok-note_first_write-in-Some-clause-within c = slice_get_within c.args.self.now.entries.index.items c.args.cell c.in-Some.k (search rules)
