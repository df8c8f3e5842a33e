use Rattle.std.proofs.Common.{rules, ◌≡◌, ◌∷◌, ◌++◌, [], sym, ◌∙◌}
use Rattle.sy_captures.specs.Taken.{taken_by}
use Rattle.sy_captures.proofs.CaptureLemmas.{pushed_once}
use Rattle.sy_captures.proofs.given.push_once.Goals as goal

pub returns-in_ok-push : goal.returns-in_ok-push
returns-in_ok-push c =
    let pushed : c.push.new.self.items ≡ c.args.captures.now.items ++ taken_by c.args.by_reference c.args.v ∷ [] = search rules in
    record {
      ok = λ rest. pushed_once c.args.by_reference c.args.seen.now.keys c.insert.new.self.keys c.args.v c.args.captures.now.items c.push.new.self.items rest
          (sym c.if-branch.true ∙ c.in_ok-insert.ensures.added) c.in_ok-insert.ensures.keys pushed;
    }
