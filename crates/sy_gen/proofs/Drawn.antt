-- Draws that follow draws.
use Rattle.std.proofs.Common.{◌≡◌, ℕ, zero, suc, ◌+◌, add-zero, add-suc, refl, ap}
use Rattle.sy_gen.specs.Draws.{next_draw, draw}
use Rattle.sy_gen.specs.Groups.{group_after}

pub draw-add : (seed n k : ℕ) → draw (draw seed n) k ≡ draw seed (n + k)
draw-add seed n zero = rw add-zero refl
draw-add seed n (suc k) = rw (add-suc n k) (ap next_draw (draw-add seed n k))

-- a group is that of the draws made so far
pub group_after-draw : (seed n : ℕ) → group_after (draw seed n) 0 ≡ group_after seed n
group_after-draw seed n = rw (← draw-add seed n 1, ← draw-add seed n 2, ← draw-add seed n 3, ← draw-add seed n 4, ← draw-add seed n 5) refl
