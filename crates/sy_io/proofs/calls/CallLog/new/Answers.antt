use Rattle.std.proofs.Common.{◌<◌, ◌^◌, rules}
use Rattle.std.proofs.lemmas.List.Sorted.{All-permutation, Contains-permutation, IsPermutation-sym, IsNonDecreasingBy-from_sort}
use Rattle.sy_io.proofs.calls.CallLog.new.Goals as goal

pub invariant_of-result : goal.invariant_of-result
invariant_of-result c = record {
  rising = IsNonDecreasingBy-from_sort (λ x. x) _ c.sort_unstable.ensures.sorted;
  reachable = All-permutation (λ number. number < 2 ^ 64) _ _ c.sort_unstable.ensures.permutation (search rules);
}

pub returns-clause-failing : goal.returns-clause-failing
returns-clause-failing c number =
    let moved = c.sort_unstable.ensures.permutation in
    (Contains-permutation _ _ number (IsPermutation-sym _ _ moved), Contains-permutation _ _ number moved)
