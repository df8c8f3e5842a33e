use Rattle.std.proofs.Common.{rules, ◌≡◌, ap, sym, subst, ◌∙◌, ◌++◌, true, false, length}
use Rattle.std.specs.Prelude.{slice_get}
use Rattle.sy_foot.specs.Earlier.{joined, state_meets}
use Rattle.sy_foot.specs.Footprints.{kept, written_by}
use Rattle.sy_foot.specs.Writes.{shared_writes}
use Rattle.sy_foot.proofs.EarlierLemmas.{any-seen, clean-seen, joined-at, joined-length, meets_entry, told}
use Rattle.sy_foot.proofs.WriteLemmas.{group-logged}
use Rattle.sy_foot.proofs.earlier.EarlierGroups.absorb.Goals as goal

pub returns-then-clashes-clause-clash : goal.returns-then-clashes-clause-clash
returns-then-clashes-clause-clash c = λ h.
    let group = c.args.group.now.entries in
    let states = c.args.self.now.states.items in
    let any = told c.clashes.result true states c.as_slice.result.now group.entries.items c.entries-entries.result.now c.clashes.ensures c.as_slice.ensures.value c.entries-entries.ensures.list c.if-clashes.true in
    let x = any-seen (meets_entry states) group.index.items group.entries.items group.placed any in
    (x.0, x.1, x.2, subst (λ d. state_meets x.1.wrote (slice_get states d) ≡ true) (sym x.3) x.4)

pub invariant_of-self-2 : goal.invariant_of-self-2
invariant_of-self-2 c =
    let f = c.args.group.now in
    let s = c.args.self.now in
    let group = f.entries in
    let states = s.states.items in
    let none = told c.clashes.result false states c.as_slice.result.now group.entries.items c.entries-entries.result.now c.clashes.ensures c.as_slice.ensures.value c.entries-entries.ensures.list c.if-clashes.false in
    let is : c.append_writes.new.log.items ≡ s.log.items ++ shared_writes (length states) (kept f) (written_by f) = search rules in
    record {
      logged = group-logged states c.join.new.states.items s.log.items c.append_writes.new.log.items (kept f) (written_by f) s.logged f.first_writes
          (clean-seen states group.index.items group.entries.items none)
          (λ d. ap (λ l. slice_get l d) (c.join.ensures ∙ ap (joined states) c.entries-entries.ensures.list) ∙ joined-at states group.index.items group.entries.items d group.placed)
          is;
    }

pub returns-clause-clean : goal.returns-clause-clean
returns-clause-clean c =
    let group = c.args.group.now.entries in
    let states = c.args.self.now.states.items in
    let none = told c.clashes.result false states c.as_slice.result.now group.entries.items c.entries-entries.result.now c.clashes.ensures c.as_slice.ensures.value c.entries-entries.ensures.list c.if-clashes.false in
    clean-seen states group.index.items group.entries.items none

pub returns-clause-joined : goal.returns-clause-joined
returns-clause-joined c = λ d.
    let group = c.args.group.now.entries in
    let states = c.args.self.now.states.items in
    ap (λ l. slice_get l d) (c.join.ensures ∙ ap (joined states) c.entries-entries.ensures.list) ∙ joined-at states group.index.items group.entries.items d group.placed

pub returns-clause-shared : goal.returns-clause-shared
returns-clause-shared c = ap length c.join.ensures ∙ joined-length c.args.self.now.states.items c.entries-entries.result.now
