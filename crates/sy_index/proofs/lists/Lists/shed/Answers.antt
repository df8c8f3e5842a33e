use Rattle.std.proofs.Common.{◌≡◌, ◌≢◌, ℕ, Bool, true, subst, arith, rules}
use Rattle.std.specs.Prelude.{not, if◌then◌else◌, ◌==◌, ◌||◌}
use Rattle.std.specs.List.{filter}
use Rattle.std.proofs.lemmas.Grind.{common_steps}
use Rattle.std.proofs.lemmas.Fn.{filter_same}
use Rattle.std.proofs.lemmas.Bool.{eqb-false, or_parts, not-false}
use Rattle.sy_index.specs.Listed.{listed}
use Rattle.sy_index.specs.Slots.{superseded_at}
use Rattle.sy_index.proofs.CountLemmas.{filtered_at}
use Rattle.sy_index.proofs.lists.Lists.shed.Goals as goal

pub returns-in-Some : goal.returns-in-Some
returns-in-Some c = λ k m h.
    let p : ℕ → Bool = λ x. x == c.args.n || not (superseded_at c.args.slots.now x c.args.root c.args.y.now) in
    let old : listed c.args.self.now c.args.root ≡ c.in-Some.list.now.items = grind (arith, common_steps) in
    let left : c.retain.new.self.items ≡ filter p c.in-Some.list.now.items = filter_same _ p _ (λ x b f' k. search rules) _ _ c.retain.ensures.filtered in
    let e : listed (record { alloc = c.args.self.now.alloc; lists = c.get_mut.follows.lender c.retain.new.self }) k ≡ (if c.args.root == k then filter p (listed c.args.self.now c.args.root) else listed c.args.self.now k) = grind (arith, common_steps) in
    filtered_at (listed c.args.self.now) c.args.root k p _ m ((m ≢ c.args.n) × (superseded_at c.args.slots.now m k c.args.y.now ≡ true)) e
    (λ off at. (eqb-false m c.args.n (or_parts _ _ off).0, subst (λ (v : ℕ). superseded_at c.args.slots.now m v c.args.y.now ≡ true) at (not-false _ (or_parts _ _ off).1))) h
