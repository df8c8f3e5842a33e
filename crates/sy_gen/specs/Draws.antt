-- The draws behind a generated source.
use Rattle.std.specs.Prelude.{ℕ, zero, suc, ◌+◌, ◌*◌, ◌%◌}

-- the draw after x
abbrev pub next_draw : ℕ → ℕ
next_draw x = (75 * x + 74) % 65537

-- the last of so many draws from a seed, which is the seed where there is none
abbrev pub draw : ℕ → ℕ → ℕ
draw seed zero = seed
draw seed (suc n) = next_draw (draw seed n)
