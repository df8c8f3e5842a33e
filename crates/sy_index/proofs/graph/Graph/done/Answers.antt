-- A ready node waits for none, and what is kept stays right once it is taken out.
use Rattle.std.proofs.Common.{◌≡◌, ℕ, ap, sym, ◌∙◌, subst, List, Option, None, true, set, inl, inr}
use Rattle.std.specs.List.{Contains}
use Rattle.std.proofs.lemmas.Option.{slice_get_within}
use Rattle.sy_graph.specs.Before.{is_ready}
use Rattle.sy_graph.specs.declared.node.Node.{Node}
use Rattle.sy_index.specs.declared.slot.Slot.{Slot}
use Rattle.sy_index.specs.Listed.{listed, by_root}
use Rattle.sy_index.specs.Slots.{IsIndex, told, nodes_of}
use Rattle.sy_index.proofs.IndexLemmas.{ready_slot, index_done, nodes_of-told, nodes_of-taken}
use Rattle.sy_index.proofs.SuccessorLemmas.{freed}
use Rattle.sy_index.proofs.graph.Graph.done.Goals as goal

pub take-requires : goal.take-requires
take-requires c =
    let r = ready_slot _ _ _ c.args.n c.self.invariant (subst (λ (v : List (Option Node)). is_ready v c.args.n ≡ true) (sym c.self.view_is) c.requires) in
    slice_get_within _ c.args.n _ r.1

pub invariant_of-self : goal.invariant_of-self
invariant_of-self c =
    let r = ready_slot c.self.inside.slots _ _ c.args.n c.self.invariant (subst (λ (v : List (Option Node)). is_ready v c.args.n ≡ true) (sym c.self.view_is) c.requires) in
    let same : r.0 ≡ c.in-Some.slot = (let a = r.1 in let b = c.in-Some.ensures.taken in cc) in
    let free : c.in-Some.slot.waits ≡ 0 = sym (ap (λ (s : Slot). s.waits) same) ∙ r.2 in
    let all : c.tell_all.new.self ≡ told (set c.self.inside.slots c.args.n None) c.in-Some.slot.next = (let a = c.tell_all.ensures in let b = c.take.ensures.left in let d = c.numbers.ensures in cc) in
    subst (λ (v : List (Option Slot)). IsIndex v (by_root c.delist.new.roots) (listed c.delist.new.queues)) (sym all)
    (index_done c.self.inside.slots (by_root c.self.inside.roots) (by_root c.delist.new.roots) (listed c.self.inside.queues) (listed c.delist.new.queues) c.args.n c.in-Some.slot c.self.invariant c.in-Some.ensures.taken free c.delist.ensures.roots_kept c.delist.ensures.queues_kept)

pub returns-in-Some-clause-done : goal.returns-in-Some-clause-done
returns-in-Some-clause-done c =
    let all : c.tell_all.new.self ≡ told (set c.self.inside.slots c.args.n None) c.in-Some.slot.next = (let a = c.tell_all.ensures in let b = c.take.ensures.left in let d = c.numbers.ensures in cc) in
    ap nodes_of all ∙ nodes_of-told _ _ ∙ nodes_of-taken _ _ ∙ ap (λ (v : List (Option Node)). set v c.args.n None) c.self.view_is

pub returns-in-Some-clause-freed : goal.returns-in-Some-clause-freed
returns-in-Some-clause-freed c m h =
    let r = ready_slot c.self.inside.slots _ _ c.args.n c.self.invariant (subst (λ (v : List (Option Node)). is_ready v c.args.n ≡ true) (sym c.self.view_is) c.requires) in
    let same : r.0 ≡ c.in-Some.slot = (let a = r.1 in let b = c.in-Some.ensures.taken in cc) in
    let free : c.in-Some.slot.waits ≡ 0 = sym (ap (λ (s : Slot). s.waits) same) ∙ r.2 in
    let all : c.tell_all.new.self ≡ told (set c.self.inside.slots c.args.n None) c.in-Some.slot.next = (let a = c.tell_all.ensures in let b = c.take.ensures.left in let d = c.numbers.ensures in cc) in
    let now = index_done c.self.inside.slots (by_root c.self.inside.roots) (by_root c.delist.new.roots) (listed c.self.inside.queues) (listed c.delist.new.queues) c.args.n c.in-Some.slot c.self.invariant c.in-Some.ensures.taken free c.delist.ensures.roots_kept c.delist.ensures.queues_kept in
    let f = freed c.self.inside.slots (by_root c.self.inside.roots) (by_root c.delist.new.roots) (listed c.self.inside.queues) (listed c.delist.new.queues) c.in-Some.slot.next c.args.n m c.self.invariant now (subst (λ (v : List (Option Slot)). is_ready (nodes_of v) m ≡ true) all h) in
    elim f [
      | inl i ↦ inl (subst (λ (v : List (Option Node)). is_ready v m ≡ true) c.self.view_is i)
      | inr k ↦ inr (subst (λ (l : List ℕ). Contains l m) (sym c.into_numbers.ensures) k)
    ]

pub invariant_of-self-in-None : goal.invariant_of-self-in-None
invariant_of-self-in-None c =
    let r = ready_slot c.self.inside.slots _ _ c.args.n c.self.invariant (subst (λ (v : List (Option Node)). is_ready v c.args.n ≡ true) (sym c.self.view_is) c.requires) in
    absurd (let a = r.1 in let b = c.in-None.ensures.taken in cc)

pub returns-in-None-clause-done : goal.returns-in-None-clause-done
returns-in-None-clause-done c =
    let r = ready_slot c.self.inside.slots _ _ c.args.n c.self.invariant (subst (λ (v : List (Option Node)). is_ready v c.args.n ≡ true) (sym c.self.view_is) c.requires) in
    absurd (let a = r.1 in let b = c.in-None.ensures.taken in cc)

pub returns-in-None-clause-freed : goal.returns-in-None-clause-freed
returns-in-None-clause-freed c m h =
    let r = ready_slot c.self.inside.slots _ _ c.args.n c.self.invariant (subst (λ (v : List (Option Node)). is_ready v c.args.n ≡ true) (sym c.self.view_is) c.requires) in
    absurd (let a = r.1 in let b = c.in-None.ensures.taken in cc)
