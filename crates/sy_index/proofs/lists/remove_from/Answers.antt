use Rattle.std.proofs.Common.{◌≡◌, ℕ, subst, Option}
use Rattle.std.specs.Prelude.{OnSome}
use Rattle.std.specs.List.{remove}
use Rattle.sy_index.proofs.CountLemmas.{has_removed}
use Rattle.sy_index.proofs.lists.remove_from.Goals as goal

pub returns-in-Ok : goal.returns-in-Ok
returns-in-Ok c =
    let left : c.remove.new.self.items ≡ remove c.args.list.now.items c.in-Ok.i = subst (λ (o : Option ℕ). OnSome o (c.remove.new.self.items ≡ remove c.args.list.now.items c.in-Ok.i)) (c.remove.ensures.succeeds 0 c.in-Ok.ensures.bound) c.remove.ensures.items in
    λ m apart h. has_removed c.args.list.now.items c.remove.new.self.items c.in-Ok.i c.args.n m (c.in-Ok.ensures.ok c.args.n) left apart h
