-- Quotients and remainders by 0.
use Rattle.std.proofs.Common.{◌≡◌, ℕ, ◌/◌, ◌%◌, sym, ap, ◌∙◌}
use Rattle.std.proofs.Math.Nat.{div-zero, mod-zero}

pub quotient_by_zero : (a b : ℕ) → b ≡ 0 → 0 ≡ a / b
quotient_by_zero a b e = sym (ap (λ n. a / n) e ∙ div-zero a)

pub remainder_by_zero : (a b : ℕ) → b ≡ 0 → a ≡ a % b
remainder_by_zero a b e = sym (ap (λ n. a % n) e ∙ mod-zero a)
