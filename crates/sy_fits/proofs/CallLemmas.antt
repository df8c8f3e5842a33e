-- Fewer arguments than parameters aren't all passed.
use Rattle.std.proofs.Common.{◌≡◌, refl, ℕ, ◌<◌, Bool, true, false, List, [], ◌∷◌, length, arith}
use Rattle.sy_rules.specs.declared.names.Passed.{Passed}
use Rattle.sy_rules.specs.declared.seen.Seen.{Seen}
use Rattle.sy_rules.specs.Calls.{all_passed}

none_left : (p : Passed) (ps : List Passed) (xs : List Seen) → length xs < 1 → all_passed (p ∷ ps) xs ≡ false
none_left p ps [] h = refl
none_left p ps (x ∷ xs) h = absurd (omega (arith, h))

pub too_few : (ps : List Passed) (p : Passed) (more : List Passed) (xs : List Seen) → ps ≡ p ∷ more → length xs < 1 → all_passed ps xs ≡ false
too_few ps p more xs e h = rw e (none_left p more xs h)
