use Rattle.sy_items.proofs.FileLemmas.{function_kept}
use Rattle.sy_items.proofs.file.keep_function.Goals as goal
use Rattle.sy_items.specs.Files.{kept_of}

pub returns : goal.returns
returns c = λ xs e. function_kept (kept_of c.args.file.now) c.args.y c.args.own xs _ _ _ e c.in_ok-push.ensures.ok c.in_ok-push-2.ensures.items c.tell_first.ensures
