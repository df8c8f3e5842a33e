use Rattle.sy_items.proofs.FileLemmas.{constant_kept}
use Rattle.sy_items.proofs.file.keep_constant.Goals as goal
use Rattle.sy_items.specs.Files.{kept_of}

pub returns : goal.returns
returns c = λ xs e. constant_kept (kept_of c.args.file.now) c.args.y c.args.own xs _ _ e c.in_ok-push.ensures.ok c.tell_first.ensures
