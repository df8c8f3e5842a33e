-- The index of a need, one need further.
use Rattle.std.proofs.Common.{◌≡◌, ◌<◌, ◌+◌, ℕ, suc, List, ◌∷◌, cond, drop, length, ap, sym, ◌∙◌}
use Rattle.std.specs.Prelude.{slice_index_or}
use Rattle.std.proofs.lemmas.List.{drop_more}
use Rattle.sy_access.specs.declared.access.Need.{Need}
use Rattle.sy_meaning.specs.Making.{is_same_run, need_index}

pub need_here : (m : Need) (ns : List Need) (k : ℕ) (n : Need) → k < length ns → n ≡ slice_index_or ns k n → need_index m (drop k ns) ≡ cond (is_same_run n m) 0 (suc (need_index m (drop (k + 1) ns)))
need_here m ns k n within is =
    ap (need_index m) (drop_more ns k n within) ∙ ap (λ x. need_index m (x ∷ drop (k + 1) ns)) (sym is)
