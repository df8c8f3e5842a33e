use Rattle.std.proofs.Common.{◌≡◌, [], ◌∷◌, ◌++◌, arith}
use Rattle.std.specs.Prelude.{if◌then◌else◌, ◌==◌}
use Rattle.std.proofs.lemmas.Grind.{common_steps}
use Rattle.sy_index.specs.Listed.{listed}
use Rattle.sy_index.proofs.CountLemmas.{has_pushed, has_kept, kept_at}
use Rattle.sy_index.proofs.lists.Lists.push.Goals as goal

pub returns-in_ok-push_back-in-Some-clause-named : goal.returns-in_ok-push_back-in-Some-clause-named
returns-in_ok-push_back-in-Some-clause-named c =
    let old : listed c.args.self.now c.args.key ≡ c.in-Some.list.now.items = grind (arith, common_steps) in
    let e : listed (record { alloc = c.args.self.now.alloc; lists = c.get_mut.follows.lender c.push_back.new.self }) c.args.key ≡ listed c.args.self.now c.args.key ++ c.args.n ∷ [] = grind (arith, common_steps) in
    rw e (has_pushed _ _)

pub returns-in_ok-push_back-in-Some-clause-kept : goal.returns-in_ok-push_back-in-Some-clause-kept
returns-in_ok-push_back-in-Some-clause-kept c = λ k m h.
    let old : listed c.args.self.now c.args.key ≡ c.in-Some.list.now.items = grind (arith, common_steps) in
    let e : listed (record { alloc = c.args.self.now.alloc; lists = c.get_mut.follows.lender c.push_back.new.self }) k ≡ (if c.args.key == k then listed c.args.self.now c.args.key ++ c.args.n ∷ [] else listed c.args.self.now k) = grind (arith, common_steps) in
    kept_at (listed c.args.self.now) c.args.key k _ _ m e (has_kept _ c.args.n m) h
