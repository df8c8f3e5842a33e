-- Commands that a runner knows.
use Rattle.std.specs.Prelude.{◌≡◌, ℕ, true, List, Some, slice_get}
use Rattle.sy_work.specs.declared.asks.Ask.{Ask}
use Rattle.sy_work.specs.declared.asks.Ask.TheVariants.{Submit}
use Rattle.sy_work.specs.declared.asks.Submission.{Submission}
use Rattle.sy_work.specs.declared.commands.Command.{Command}
use Rattle.sy_onecopy.specs.declared.Entry.{Entry}
use Rattle.sy_onecopy.specs.declared.Work.TheVariants.{Node}
use Rattle.sy_work.specs.Programs.{Program}
use Rattle.sy_onecopy.specs.State.{State, next_ask}
use Rattle.sy_onecopy.specs.Sequence.{is_legal, seq}

-- the command of each node is known
abbrev pub AllKnown : (Command → Type 0) → List Entry → Type 0
AllKnown knows entries = (k n q : ℕ) (e : Entry) (c : Command) → slice_get entries k ≡ Some e → e.work ≡ Node n q c → knows c

-- the command that the ask submits, if it submits one, is known
abbrev pub IsKnown : (Command → Type 0) → Ask → Type 0
IsKnown knows q = (s : Submission) → q ≡ Submit s → knows s.command

-- the commands that the program submits are known
abbrev pub Knows : (Command → Type 0) → Program → Type 0
Knows knows p = (order : List ℕ) (s : State) (t : ℕ) (sub : Submission) → seq p order ≡ Some s → is_legal p s t ≡ true → next_ask p s t ≡ Submit sub → knows sub.command
