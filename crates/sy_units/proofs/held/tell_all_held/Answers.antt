use Rattle.std.proofs.Common.{◌≡◌, refl, ◌<◌, ◌+◌, ◌-◌, ◌++◌, ◌∷◌, [], suc, reverse, take, length, get_or, ap, subst, sym, ◌∙◌, arith}
use Rattle.std.specs.Prelude.{flat_map}
use Rattle.sy_findings.specs.Told.{told}
use Rattle.sy_rules.specs.Units.{held_back, found_in_functions, called_in, is_among}
use Rattle.sy_units.specs.Calls.{within_of}
use Rattle.sy_units.proofs.HeldLemmas.{next_one, all_taken, held_on}
use Rattle.sy_units.proofs.held.tell_all_held.Goals as goal

pub returns : goal.returns
returns c = λ ps e a.
    let o = c.loop-left.invariant.told ps e a in
    let none : c.loop-left.left ≡ 0 = omega (arith, c.loop-left-test.false) in
    ap (λ m. told c.loop-left.findings (held_back (within_of c.args.in_kernels) o.0 (reverse (take m (found_in_functions 0 ps))))) (sym none) ∙ o.2

pub loop-left-init : goal.loop-left-init
loop-left-init c = record {
  len = refl;
  within = omega arith;
  told = λ ps e a.
      ([], a, ap (λ l. told c.args.findings.now (held_back (within_of c.args.in_kernels) [] (reverse l))) (all_taken (length c.args.functions.now) ps (ap length e)));
}

pub loop-left-preserved : goal.loop-left-preserved
loop-left-preserved c =
    let w = within_of c.args.in_kernels in
    let k = c.loop-left.left - 1 in
    let t = c.index-functions-left.result in
    let same : suc k ≡ c.loop-left.left = omega (arith, c.loop-left-test.true) in
    let below : k < length c.args.functions.now = omega (arith, c.loop-left-test.true, c.loop-left.invariant.within) in
    record {
      len = c.tell_held.ensures.len ∙ c.loop-left.invariant.len;
      within = omega (arith, c.loop-left.invariant.within);
      told = λ ps e a.
          let o = c.loop-left.invariant.told ps e a in
          let n = next_one 0 k ps t (subst (λ fs. t ≡ get_or fs k t) e c.index-functions-left.is) (subst (λ fs. k < length fs) e below) in
          let zero_on : 0 + k ≡ k = omega arith in
          let split : take c.loop-left.left (found_in_functions 0 ps) ≡ take k (found_in_functions 0 ps) ++ (k, n.found) ∷ [] =
          ap (λ m. take m (found_in_functions 0 ps)) (sym same) ∙ n.taken ∙ ap (λ m. take k (found_in_functions 0 ps) ++ (m, n.found) ∷ []) zero_on in (
            flat_map (called_in w (is_among k o.0)) n.found ++ o.0,
            c.tell_held.ensures.marked o.0 n.found n.is o.1,
            held_on w o.0 c.loop-left.findings c.tell_held.new.findings k n.found (take k (found_in_functions 0 ps)) (take c.loop-left.left (found_in_functions 0 ps)) split (c.tell_held.ensures.told o.0 n.found n.is o.1) ∙ o.2,
          );
    }
