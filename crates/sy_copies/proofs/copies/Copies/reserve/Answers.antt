use Rattle.std.proofs.Common.{◌<◌, ℕ, List, Option, length, set, IsSome, sym, ◌∙◌, subst, arith}
use Rattle.std.proofs.lemmas.Result.{on_ok_weaker}
use Rattle.sy_copies.specs.declared.buffer.Buffer.{Buffer}
use Rattle.sy_copies.specs.Current.{len_at, Sound, Agree}
use Rattle.sy_copies.specs.Calls.{Reserves}
use Rattle.sy_copies.proofs.CallLemmas.{within, reserves, kept_set}
use Rattle.sy_copies.proofs.AgreementLemmas.{agree_same, either_way}
use Rattle.sy_copies.proofs.copies.Copies.reserve.Goals as goal

pub index_mut-requires : goal.index_mut-requires
index_mut-requires c =
    let there : c.args.buffer < length c.self.inside.buffers.items = subst (λ (l : List (Option Buffer)). c.args.buffer < length l) (sym c.self.view_is) (within c.args.self.now c.args.buffer c.requires) in
    omega arith

pub invariant_of-self : goal.invariant_of-self
invariant_of-self c =
    let old : List (Option Buffer) = c.self.inside.buffers.items in
    let k : ℕ = c.args.buffer in
    let was : Option Buffer = c.index_mut.result.now in
    let is : Option Buffer = c.reserve_in.new.entry in
    let sized : IsSome (len_at old k) = subst (λ (l : List (Option Buffer)). IsSome (len_at l k)) (sym c.self.view_is) c.requires in
    either_way c.reserve_in.result c.reserve_in.ensures.ok c.reserve_in.ensures.err
    (λ e. (reserves old c.args.place k was is sized c.index_mut.ensures.value e c.self.invariant).1)
    (λ e. subst Sound (sym (kept_set old k was is c.index_mut.ensures.value e)) c.self.invariant)

pub returns-clause-reserved : goal.returns-clause-reserved
returns-clause-reserved c =
    let old : List (Option Buffer) = c.self.inside.buffers.items in
    let k : ℕ = c.args.buffer in
    let was : Option Buffer = c.index_mut.result.now in
    let is : Option Buffer = c.reserve_in.new.entry in
    let sized : IsSome (len_at old k) = subst (λ (l : List (Option Buffer)). IsSome (len_at l k)) (sym c.self.view_is) c.requires in
    on_ok_weaker c.reserve_in.result
    (λ e. subst (λ (l : List (Option Buffer)). Reserves l (set old k is) c.args.place k) c.self.view_is (reserves old c.args.place k was is sized c.index_mut.ensures.value e c.self.invariant).0)
    c.reserve_in.ensures.ok

pub returns-clause-agree : goal.returns-clause-agree
returns-clause-agree c = λ agree.
    let old : List (Option Buffer) = c.self.inside.buffers.items in
    let k : ℕ = c.args.buffer in
    let was : Option Buffer = c.index_mut.result.now in
    let is : Option Buffer = c.reserve_in.new.entry in
    let sized : IsSome (len_at old k) = subst (λ (l : List (Option Buffer)). IsSome (len_at l k)) (sym c.self.view_is) c.requires in
    let G : Type 0 = Agree (set old k is) in
    either_way c.reserve_in.result {G = G} c.reserve_in.ensures.ok c.reserve_in.ensures.err
    (λ e. agree_same old (set old k is) (reserves old c.args.place k was is sized c.index_mut.ensures.value e c.self.invariant).0.copies (subst Agree (sym c.self.view_is) agree))
    (λ e. subst Agree (sym (kept_set old k was is c.index_mut.ensures.value e ∙ c.self.view_is)) agree)
