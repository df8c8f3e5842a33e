use Rattle.sy_tree.specs.Words.{mark, identifier}
use Rattle.sy_punit.proofs.KeepLemmas.{three_more}
use Rattle.sy_punit.proofs.names.keep_with_namespace.Goals as goal

pub returns : goal.returns
unfolding mark identifier
returns c = three_more c.args.out.now.items c.push.new.self.items c.push-2.new.self.items c.push-3.new.self.items _ _ c.args.token
    c.in_ok-namespace.namespace c.in_ok-scope.scope c.in_ok-namespace.ensures c.in_ok-scope.ensures c.in_ok-push.ensures.items c.in_ok-push-2.ensures.items c.in_ok-push-3.ensures.items
