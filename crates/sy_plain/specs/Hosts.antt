-- What a host has done once it has asked, was answered, or started another.
use Rattle.std.specs.Prelude.{◌≡◌, ℕ, suc, ℤ, List, [], ◌∷◌, ◌++◌, Option, Some, None, slice_get, slice_set}
use Rattle.sy_work.specs.Programs.{NextAsk}
use Rattle.sy_work.specs.Answers.{Fits}
use Rattle.sy_work.specs.declared.asks.Ask.{Ask}
use Rattle.sy_work.specs.declared.asks.Ask.TheVariants.{Spawn}
use Rattle.sy_work.specs.declared.asks.Answer.{Answer}
use Rattle.sy_answers.specs.Fitting.{count_after}

-- the host has its ask open, which is the next one of whatever the host stood for
pub record Asked {H : Type 0} (pending : H → Option Ask) (stands : H → NextAsk → ℕ → List ℤ → List Answer → Type 0) (old new : H) (q : Ask) : Type 0 where
  pub open_ask : pending new ≡ Some q
  pub next : (n : NextAsk) (body : ℕ) (captures : List ℤ) (answers : List Answer) → stands old n body captures answers → (stands new n body captures answers) × (q ≡ n body captures answers)

-- the host was answered and has its next ask open
pub record Heard {H : Type 0} (pending : H → Option Ask) (stands : H → NextAsk → ℕ → List ℤ → List Answer → Type 0) (old new : H) (a : Answer) (q : Ask) : Type 0 where
  pub open_ask : pending new ≡ Some q
  pub next : (n : NextAsk) (body : ℕ) (captures : List ℤ) (answers : List Answer) → stands old n body captures answers → (stands new n body captures (answers ++ a ∷ [])) × (q ≡ n body captures (answers ++ a ∷ []))

-- the answer fits the open ask of the host at k
pub record CanHear {H : Type 0} (pending : H → Option Ask) (hosts : List H) (k : ℕ) (a : Answer) : Type 0 where
  pub host : H
  pub here : slice_get hosts k ≡ Some host
  pub ask : Ask
  pub open_ask : pending host ≡ Some ask
  pub fits : Fits ask a

-- the host at k was answered, and its next ask is noted
pub record HeardAt {H : Type 0} (pending : H → Option Ask) (stands : H → NextAsk → ℕ → List ℤ → List Answer → Type 0) (hosts : List H) (asks : List (Option Ask)) (k : ℕ) (a : Answer) (new_hosts : List H) (new_asks : List (Option Ask)) : Type 0 where
  pub old : H
  pub here : slice_get hosts k ≡ Some old
  pub new : H
  pub ask : Ask
  pub heard : Heard pending stands old new a ask
  pub hosts_after : new_hosts ≡ slice_set hosts k new
  pub asks_after : new_asks ≡ slice_set asks k (Some ask)

-- the same where an answer is due, and nothing where none is
abbrev pub HearsAt : {H : Type 0} → (H → Option Ask) → (H → NextAsk → ℕ → List ℤ → List Answer → Type 0) → Option Answer → List H → List (Option Ask) → ℕ → List H → List (Option Ask) → Type 0
HearsAt pending stands None hosts asks k new_hosts new_asks = (new_hosts ≡ hosts) × (new_asks ≡ asks)
HearsAt pending stands (Some a) hosts asks k new_hosts new_asks = HeardAt pending stands hosts asks k a new_hosts new_asks

-- the host and the ask of a thread that was answered
pub record Told {H : Type 0} (pending : H → Option Ask) (stands : H → NextAsk → ℕ → List ℤ → List Answer → Type 0) (old new : Option H) (a : Answer) (q : Option (Option Ask)) : Type 0 where
  pub before : H
  pub was : old ≡ Some before
  pub after : H
  pub is : new ≡ Some after
  pub ask : Ask
  pub noted : q ≡ Some (Some ask)
  pub heard : Heard pending stands before after a ask

-- what the answer that is due to a thread, if one is, makes of its host and ask
abbrev pub AfterDue : {H : Type 0} → (H → Option Ask) → (H → NextAsk → ℕ → List ℤ → List Answer → Type 0) → Option Answer → Option H → Option H → Option (Option Ask) → Option (Option Ask) → Type 0
AfterDue pending stands None old new q r = (new ≡ old) × (r ≡ q)
AfterDue pending stands (Some a) old new q r = Told pending stands old new a r

-- the host that an ask starts, which begins its body
pub record ChildOf {H : Type 0} (pending : H → Option Ask) (stands : H → NextAsk → ℕ → List ℤ → List Answer → Type 0) (parent : H) (ask : Ask) (count : ℕ) (child : H) : Type 0 where
  pub body : ℕ
  pub captures : List ℤ
  pub asked : ask ≡ Spawn body captures
  pub grows : count_after ask count ≡ suc count
  pub closed : pending child ≡ None
  pub begins : (n : NextAsk) (at : ℕ) (its : List ℤ) (answers : List Answer) → stands parent n at its answers → stands child n body captures []

-- the host that an ask starts, if it starts one
abbrev pub IsChild : {H : Type 0} → (H → Option Ask) → (H → NextAsk → ℕ → List ℤ → List Answer → Type 0) → H → Ask → ℕ → Option H → Type 0
IsChild pending stands parent ask count None = count_after ask count ≡ count
IsChild pending stands parent ask count (Some child) = ChildOf pending stands parent ask count child

-- a host was added with its first ask, which is noted
pub record Seats {H : Type 0} (pending : H → Option Ask) (stands : H → NextAsk → ℕ → List ℤ → List Answer → Type 0) (start : H) (hosts : List H) (asks : List (Option Ask)) (new_hosts : List H) (new_asks : List (Option Ask)) : Type 0 where
  pub host : H
  pub ask : Ask
  pub asked : Asked pending stands start host ask
  pub hosts_after : new_hosts ≡ hosts ++ host ∷ []
  pub asks_after : new_asks ≡ asks ++ Some ask ∷ []

-- the host that an ask starts was added
pub record Born {H : Type 0} (pending : H → Option Ask) (stands : H → NextAsk → ℕ → List ℤ → List Answer → Type 0) (parent : H) (ask : Ask) (count : ℕ) (hosts : List H) (asks : List (Option Ask)) (new_hosts : List H) (new_asks : List (Option Ask)) : Type 0 where
  pub start : H
  pub child : ChildOf pending stands parent ask count start
  pub seats : Seats pending stands start hosts asks new_hosts new_asks

-- no host was added
pub record Alone {H : Type 0} (ask : Ask) (count : ℕ) (hosts : List H) (asks : List (Option Ask)) (new_hosts : List H) (new_asks : List (Option Ask)) : Type 0 where
  pub none : count_after ask count ≡ count
  pub same_hosts : new_hosts ≡ hosts
  pub same_asks : new_asks ≡ asks
