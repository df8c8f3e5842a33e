use Rattle.std.proofs.Common.{◌≡◌, ◌≢◌, ℕ, sym, arith, rules}
use Rattle.std.specs.Prelude.{if◌then◌else◌, ◌==◌}
use Rattle.std.specs.List.{filter}
use Rattle.std.proofs.lemmas.Grind.{common_steps}
use Rattle.std.proofs.lemmas.Fn.{filter_same}
use Rattle.std.proofs.lemmas.Bool.{eqb-false}
use Rattle.sy_index.specs.Listed.{listed}
use Rattle.sy_index.proofs.CountLemmas.{filtered_at}
use Rattle.sy_index.proofs.lists.Lists.keep_only.Goals as goal

pub returns-in-Some : goal.returns-in-Some
returns-in-Some c = λ k m h.
    let old : listed c.args.self.now c.args.key ≡ c.in-Some.list.now.items = grind (arith, common_steps) in
    let left : c.retain.new.self.items ≡ filter (λ x. x == c.args.n) c.in-Some.list.now.items = filter_same _ (λ (x : ℕ). x == c.args.n) _ (λ x b f' k. search rules) _ _ c.retain.ensures.filtered in
    let e : listed (record { alloc = c.args.self.now.alloc; lists = c.get_mut.follows.lender c.retain.new.self }) k ≡ (if c.args.key == k then filter (λ x. x == c.args.n) (listed c.args.self.now c.args.key) else listed c.args.self.now k) = grind (arith, common_steps) in
    filtered_at (listed c.args.self.now) c.args.key k (λ (x : ℕ). x == c.args.n) _ m ((m ≢ c.args.n) × (k ≡ c.args.key)) e (λ off at. (eqb-false m c.args.n off, sym at)) h
