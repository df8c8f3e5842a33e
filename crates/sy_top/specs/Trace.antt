-- The order of a run as a text: each longest row of steps of one thread in a line.
use Rattle.std.specs.Prelude.{◌≡◌, ℕ, ◌+◌, ◌<◌, nat_eq, if◌then◌else◌, List, [], ◌∷◌, ◌++◌, codes, decimal, replicate, ⊤}

-- so many steps of this thread, one after the other
pub record Stretch : Type 0 where
  pub thread : ℕ
  pub steps : ℕ

-- one step of this thread before the stretches
abbrev pub before_stretches : ℕ → List Stretch → List Stretch
before_stretches t [] = (record { thread = t; steps = 1 }) ∷ []
before_stretches t (s ∷ ss) = if nat_eq t s.thread then (record { thread = t; steps = s.steps + 1 }) ∷ ss else (record { thread = t; steps = 1 }) ∷ s ∷ ss

-- the longest stretches of an order
unfoldable pub stretches_of : List ℕ → List Stretch
stretches_of [] = []
stretches_of (t ∷ ts) = before_stretches t (stretches_of ts)

-- the order that stretches stand for
abbrev pub spelled : List Stretch → List ℕ
spelled [] = []
spelled (s ∷ ss) = replicate s.steps s.thread ++ spelled ss

-- none is empty
abbrev pub HaveSteps : List Stretch → Type 0
HaveSteps [] = ⊤
HaveSteps (s ∷ ss) = (0 < s.steps) × HaveSteps ss

-- neighbours are of different threads, so none can be longer
abbrev pub AreLongest : List Stretch → Type 0
AreLongest [] = ⊤
AreLongest (a ∷ []) = ⊤
AreLongest (a ∷ b ∷ ss) = (a.thread ≡ b.thread → ⊥) × AreLongest (b ∷ ss)

unfoldable pub stretch_line : Stretch → List ℕ
stretch_line s = (decimal s.thread ++ (codes " " ++ decimal s.steps)) ++ codes "\n"

abbrev pub stretch_lines : List Stretch → List ℕ
stretch_lines [] = []
stretch_lines (s ∷ ss) = stretch_line s ++ stretch_lines ss

unfoldable pub trace_text : List ℕ → List ℕ
trace_text order = (codes "trace 1\n" ++ stretch_lines (stretches_of order)) ++ codes "end\n"
