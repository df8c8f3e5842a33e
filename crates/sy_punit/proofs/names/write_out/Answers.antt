use Rattle.std.proofs.Common.{◌∙◌}
use Rattle.sy_tree.specs.Qualification.{without_std}
use Rattle.sy_punit.proofs.KeepLemmas.{one_written}
use Rattle.sy_punit.proofs.names.write_out.Goals as goal

pub loop-token-preserved : goal.loop-token-preserved
loop-token-preserved c =
    rw (c.in_ok-keep.ensures, c.gets_namespace-named.ensures, c.is_used-used.ensures, c.is_selector-selected.ensures)
    (c.loop-token.invariant ∙ one_written c.loop-token.used c.loop-token.selected c.in-Some.token (without_std c.loop-token.rest.items) (without_std c.take_kept.new.rest.items) c.loop-token.out.items c.in-Some.ensures.kept)
