use Rattle.std.proofs.Common.{◌≡◌, ℕ, ◌*◌, ◌^◌, ◌<◌, ap, sym, subst, ◌∙◌, arith}
use Rattle.std.specs.Prelude.{SomeIff}
use Rattle.sy_range.specs.Shapes.{listed}
use Rattle.sy_range.specs.LinearIds.{product}
use Rattle.sy_range.proofs.linear_ids.count.Goals as goal

three_in_order : (a b c : ℕ) → a * b * c ≡ a * (b * (c * 1))
three_in_order a b c = omega arith

-- the first two, which fit, times the third
pub returns-in_ok-checked_mul-in-Three : goal.returns-in_ok-checked_mul-in-Three
returns-in_ok-checked_mul-in-Three c =
    let first = c.in_ok-checked_mul-in-Three.ensures.1 in
    let shown = ap listed c.in-Three.is in
    let all = ap (λ n. n * c.in-Three.c) first ∙ three_in_order c.in-Three.a c.in-Three.b c.in-Three.c ∙ ap product (sym shown ∙ c.r.view_is) in
    subst (λ (n : ℕ). SomeIff c.checked_mul-in-Three-2.result (n < 2 ^ 64) n) all c.checked_mul-in-Three-2.ensures
