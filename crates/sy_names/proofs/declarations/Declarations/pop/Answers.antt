use Rattle.std.proofs.Common.{reverse, subst, OnOk, OnErr, Result, Ok, Err}
use Rattle.sy_names.specs.Index.{IsIndexed}
use Rattle.sy_names.proofs.IndexLemmas.{is_numbered, IsIndexed-pop}
use Rattle.sy_names.proofs.declarations.Declarations.pop.Goals as goal

-- what holds of a call that can't have failed
of_ok : {T E P Q : Type 0} (r : Result T E) → OnOk r P → OnErr r Q → (Q → ⊥) → P
of_ok (Ok x) p q wrong = p
of_ok (Err e) p q wrong = absurd (wrong q)

pub invariant_of-self : goal.invariant_of-self
invariant_of-self c =
    let t = c.self.inside.newest in
    let ds = c.pop.new.self.items in
    let d = c.in-Some.newest in
    let s = subst (λ l. IsIndexed t (reverse l)) c.in-Some.ensures.items c.self.invariant in
    let there = is_numbered t ds d s in
    IsIndexed-pop t c.set.new.self ds d s (of_ok c.set.result c.set.ensures.has c.set.ensures.absent (λ none. cc))
