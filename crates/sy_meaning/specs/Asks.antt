-- What the law on a thread's asks speaks of: which of the buffers and host accesses that it made are there.
use Rattle.std.specs.List.{list_any}
use Rattle.std.specs.Prelude.{true, Bool, IsTrue, List, None, Option, Some, [], false, if◌then◌else◌, suc, take, ℕ, ⊤, ◌++◌, ◌==◌, ◌∷◌}
use Rattle.sy_work.specs.declared.asks.Answer.{Answer}
use Rattle.sy_work.specs.declared.asks.Answer.TheVariants as answer
use Rattle.sy_work.specs.declared.asks.Ask.{Ask}
use Rattle.sy_work.specs.declared.asks.Ask.TheVariants as asks
use Rattle.sy_meaning.specs.declared.runs.Live.{Live}
use Rattle.sy_meaning.specs.declared.runs.Live.TheVariants as live

-- asks with their answers, the last first
abbrev pub Log : Type 0
Log = List (Ask × Answer)

-- the answers of the asks, the first first, and then these
abbrev pub answers_in : Log → List Answer → List Answer
answers_in [] xs = xs
answers_in ((a, x) ∷ log) xs = answers_in log (x ∷ xs)

-- host accesses are numbered in the order in which they are opened
abbrev pub openings : Log → ℕ
openings [] = 0
openings ((asks.OpenHost need, x) ∷ log) = suc (openings log)
openings (e ∷ log) = openings log

-- the number that is answered is the buffer's; an answer that has none counts as 0
abbrev pub new_buffer : Answer → List Live
new_buffer (answer.Number n) = live.Buffer n ∷ []
new_buffer (answer.Refused e) = []
new_buffer x = live.Buffer 0 ∷ []

-- what an answered ask made, after so many openings
abbrev pub makes : ℕ → Ask → Answer → List Live
makes n (asks.MakeBuffer b) x = new_buffer x
makes n (asks.MakeSub b first range) x = new_buffer x
makes n (asks.OpenHost need) x = live.Access n ∷ []
makes n a x = []

-- what an ask ends
abbrev pub ends : Ask → Option Live
ends (asks.EndBuffer b) = Some (live.Buffer b)
ends (asks.CloseHost a values) = Some (live.Access a)
ends a = None

abbrev pub is_same : Live → Live → Bool
is_same (live.Buffer b) (live.Buffer c) = b == c
is_same (live.Access a) (live.Access b) = a == b
is_same x y = false

-- without the first that is this one
abbrev pub without : Option Live → List Live → List Live
without None ys = ys
without (Some x) [] = []
without (Some x) (y ∷ ys) = if is_same x y then ys else y ∷ without (Some x) ys

-- the buffers and host accesses that are there, the last made first
abbrev pub there : Log → List Live
there [] = []
there ((a, x) ∷ log) = makes (openings log) a x ++ without (ends a) (there log)

-- whether nothing but ends was asked since something was made
abbrev pub is_fresh : Log → Bool
is_fresh [] = false
is_fresh ((asks.MakeBuffer b, x) ∷ log) = true
is_fresh ((asks.MakeSub b first range, x) ∷ log) = true
is_fresh ((asks.OpenHost need, x) ∷ log) = true
is_fresh ((asks.EndBuffer b, x) ∷ log) = is_fresh log
is_fresh ((asks.CloseHost a values, x) ∷ log) = is_fresh log
is_fresh (e ∷ log) = false

-- what an ask ends is there, as the last made. Right after something was made it may be the last but one: the
-- temporaries of a declaration end before what is declared, which was made after them
abbrev pub EndsLast : Option Live → Bool → List Live → Type 0
EndsLast None fresh ys = ⊤
EndsLast (Some x) fresh ys = IsTrue (list_any (is_same x) (take (if fresh then 2 else 1) ys))

abbrev pub Fits : Log → Ask → Type 0
Fits log a = EndsLast (ends a) (is_fresh log) (there log)

-- each of the asks fits those before it
abbrev pub HoldTogether : Log → Type 0
HoldTogether [] = ⊤
HoldTogether ((a, x) ∷ log) = Fits log a × HoldTogether log
