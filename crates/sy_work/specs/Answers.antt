-- Which answer an ask may be given.
use Rattle.std.specs.Prelude.{◌≡◌, ◌-◌, length, ⊤}
use Rattle.sy_work.specs.declared.asks.Ask.{Ask}
use Rattle.sy_work.specs.declared.asks.Ask.TheVariants.{Print, MakeBuffer, MakeSub, EndBuffer, OpenHost, CloseHost, MakeContext, MakeQueue, Submit, WaitNode, WaitQueue, ThrowQueue, Spawn, Join, Barrier, Collect}
use Rattle.sy_work.specs.declared.asks.Answer.{Answer}
use Rattle.sy_work.specs.declared.asks.Answer.TheVariants.{Done, Number, Contents, Refused}
use Rattle.sy_work.specs.declared.asks.Errc.TheVariants.{Runtime, MemoryAllocation}

-- a buffer's end is given its contents where it is over a vector, whose count the ask doesn't tell; a finish and a halt have no answer
abbrev pub Fits : Ask → Answer → Type 0
Fits (Print bytes) Done = ⊤
Fits (MakeBuffer buffer) (Number n) = ⊤
Fits (MakeBuffer buffer) (Refused e) = e ≡ MemoryAllocation
Fits (MakeSub parent base range) (Number n) = ⊤
Fits (EndBuffer b) Done = ⊤
Fits (EndBuffer b) (Contents values) = ⊤
Fits (OpenHost need) (Contents values) = length values ≡ need.to - need.from
Fits (CloseHost k values) Done = ⊤
Fits (MakeContext device) (Number n) = ⊤
Fits (MakeContext device) (Refused e) = e ≡ Runtime
Fits (MakeQueue queue) (Number n) = ⊤
Fits (Submit submission) (Number n) = ⊤
Fits (WaitNode n) Done = ⊤
Fits (WaitQueue q) Done = ⊤
Fits (ThrowQueue q) Done = ⊤
Fits (Spawn body captures) (Number n) = ⊤
Fits (Join t) Done = ⊤
Fits (Barrier place line) Done = ⊤
Fits (Collect place line call) (Contents values) = length values ≡ 1
Fits ask answer = ⊥
