-- The calls of a source or a sink in memory: how many were made, which are to fail, and how many faults were counted.
use Rattle.std.specs.Prelude.{ℕ, ◌+◌, ◌^◌, ◌<◌, ◌↔◌, List, All, Contains}
use Rattle.std.specs.List.Sorted.{IsNonDecreasing}
use Rattle.sy_io.specs.Faults.{one_more}

pub record Calls : Type 0 where
  -- the calls made so far, by a counter that stops at 2^64 - 1
  pub made : ℕ
  -- the numbers, from 1, of the calls that fail
  pub failing : List ℕ
  -- the faults counted so far
  pub faults : ℕ

-- two lists of calls name the same calls, in any order and any number of times
abbrev pub NameSameCalls : List ℕ → List ℕ → Type 0
NameSameCalls xs ys = (number : ℕ) → Contains xs number ↔ Contains ys number

-- the next call is one of those that fail
abbrev pub NextIsListed : Calls → Type 0
NextIsListed calls = Contains calls.failing (calls.made + 1)

-- after one more call
abbrev pub called : Calls → Calls
called calls = record calls { made = one_more calls.made }

-- after one more fault
abbrev pub faulted : Calls → Calls
faulted calls = record calls { faults = one_more calls.faults }

-- numbers that a counter can reach, none above the next
pub record IsInOrder (numbers : List ℕ) : Type 0 where
  pub rising : IsNonDecreasing numbers
  pub reachable : All (λ number. number < 2 ^ 64) numbers
