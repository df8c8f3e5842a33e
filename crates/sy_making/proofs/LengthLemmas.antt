-- Lists that are repeated, and the front of lists.
use Rattle.std.proofs.Common.{◌≡◌, ℕ, ℤ, ◌≤◌, List, length, replicate, sym, take}
use Rattle.std.proofs.lemmas.List.{length-replicate, take_all}

pub repeated_length : (n : ℕ) (z : ℤ) → n ≡ length (replicate n z)
repeated_length n z = sym (length-replicate n z)

pub whole_front : (n : ℕ) (zs : List ℤ) → length zs ≤ n → zs ≡ take n zs
whole_front n zs h = sym (take_all n zs h)
