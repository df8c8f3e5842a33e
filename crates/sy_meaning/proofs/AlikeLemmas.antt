-- Two runs of one part, of which the second has more answers and may call otherwise: what the first comes to, so does the second.
use Rattle.std.proofs.Common.{ap, arith, refl, subst, sym, ◌∙◌}
use Rattle.std.specs.Prelude.{Bool, Err, List, None, Ok, Option, Result, Some, [], false, if◌then◌else◌, is_some, length, suc, true, ℕ, ℤ, ⊤, ◌++◌, ◌-◌, ◌==◌, ◌∷◌, ◌≡◌, ◌≤◌}
use Rattle.sy_access.specs.declared.access.Need.{Need}
use Rattle.sy_num.specs.Scalars.{Scalar}
use Rattle.sy_num.specs.declared.Undefined.{Undefined}
use Rattle.sy_work.specs.declared.asks.Answer.{Answer}
use Rattle.sy_work.specs.declared.asks.Answer.TheVariants as answer
use Rattle.sy_work.specs.declared.asks.Ask.{Ask}
use Rattle.sy_work.specs.declared.asks.Ask.TheVariants as asks
use Rattle.sy_work.specs.declared.asks.Errc.{Errc}
use Rattle.sy_work.specs.declared.asks.Halt.{Halt}
use Rattle.sy_work.specs.declared.asks.Halt.TheVariants as halt
use Rattle.sy_work.specs.declared.endings.Cause.{Cause}
use Rattle.sy_work.specs.declared.endings.Cause.TheVariants as cause
use Rattle.sy_meaning.specs.declared.outcomes.Evaluated.{Evaluated}
use Rattle.sy_meaning.specs.declared.outcomes.Evaluated.TheVariants.{Gives, Stopped, Threw}
use Rattle.sy_meaning.specs.declared.outcomes.Flow.{Flow}
use Rattle.sy_meaning.specs.declared.outcomes.Flow.TheVariants as flow
use Rattle.sy_meaning.specs.declared.outcomes.Reply.TheVariants as reply
use Rattle.sy_meaning.specs.declared.outcomes.Reply.{Reply}
use Rattle.sy_meaning.specs.declared.runs.Live.{Live}
use Rattle.sy_meaning.specs.declared.runs.Live.TheVariants as live
use Rattle.sy_meaning.specs.declared.runs.Run.{Run}
use Rattle.sy_meaning.specs.declared.runs.Scope.{Scope}
use Rattle.sy_meaning.specs.declared.runs.World.{World}
use Rattle.sy_meaning.specs.Words.{Object}
use Rattle.sy_meaning.specs.Outcomes.{Ex, Flowed, Listed, Op, Replied, St, Valued, and_then, answered, ask, asked, computed, contents_of, each, each_after, for_contents, for_done, for_number, gives, in_turn, in_world, inside, one_more, spent, then_do, throws, traps, with_list, with_value}
use Rattle.sy_meaning.specs.Asks.{Fits, HoldTogether, Log, is_fresh, new_buffer, openings, there}
use Rattle.sy_meaning.specs.Ends.{Ended}
use Rattle.sy_meaning.specs.Statements.{Again}
use Rattle.sy_meaning.specs.Turns.{Waits, flow_stop, list_stop, reply_stop, round_stop, stop_of}

-- the answers that the second run has besides, the most turns that the first may have, and whether what was asked is
-- looked at too
pub record Bound : Type 0 where
  pub more : List Answer
  pub turns : ℕ
  pub tracked : Bool

abbrev pub IsMore : List Answer → Type 0
IsMore [] = ⊥
IsMore (x ∷ xs) = ⊤

abbrev pub longer : Bound → World → World
longer k w = record w { feed = w.feed ++ k.more }

abbrev pub stretched : Bound → Run → Run
stretched k r = record r { world = longer k r.world }

-- ---- what was asked, and what stands in the scopes

-- only buffers and host accesses
abbrev pub objects : List Live → List Live
objects [] = []
objects (live.Buffer b ∷ xs) = live.Buffer b ∷ objects xs
objects (live.Access a ∷ xs) = live.Access a ∷ objects xs
objects (x ∷ xs) = objects xs

abbrev pub standing : List Scope → List Live
standing [] = []
standing (s ∷ ss) = objects s.live ++ standing ss

abbrev pub held : Option Live → List Live
held None = []
held (Some x) = x ∷ []

-- what was made last stands in no scope only where since then nothing but ends was asked
abbrev pub Fresh : Option Live → Log → Type 0
Fresh None log = ⊤
Fresh (Some x) log = is_fresh log ≡ true

-- what is there is what was made last and stands in no scope yet, what is at its end, and what stands in the scopes
abbrev pub Tracks : Bool → Option Live → List Live → Log → List Scope → ℕ → Type 0
Tracks false p mid log scopes count = ⊤
Tracks true p mid log scopes count =
    (there log ≡ held p ++ (mid ++ standing scopes)) × (count ≡ openings log) × HoldTogether log × Fresh p log

abbrev pub FineAt : Bound → Option Live → List Live → World → Type 0
FineAt k p mid w = (w.turns ≤ k.turns) × Tracks k.tracked p mid w.asked w.scopes (length w.accesses)

abbrev pub Fine : Bound → World → Type 0
Fine k w = FineAt k None [] w

-- where an ask stands that fits those before it
abbrev pub StandsAt : Bool → Ask → Log → Type 0
StandsAt false a log = ⊤
StandsAt true a log = Fits log a × HoldTogether log

abbrev pub Rests : Bound → Option Ask → World → Type 0
Rests k None w = Fine k w
Rests k (Some a) w = StandsAt k.tracked a w.asked

-- after the answer of an ask: what was there before it
abbrev pub AfterAsk : Bool → Ask → Answer → Log → List Scope → ℕ → Option Live → List Live → Type 0
AfterAsk false a x log scopes count p mid = ⊤
AfterAsk true a x log scopes count p mid =
    (before : Log) × (log ≡ (a, x) ∷ before) × Tracks true p mid before scopes count × Fits before a

-- ---- the manners in which what a part comes to is looked at

-- the ask at which it stopped, what holds then, and the same with more answers
pub record Manner (A : Type 0) : Type 1 where
  pub stop : A → Option Ask
  pub rests : Bound → A → Type 0
  pub stretch : Bound → A → A

abbrev pub GivesIn : Bound → (Object → Option Live) → Evaluated → World → Type 0
GivesIn k made (Gives o) w = FineAt k (made o) [] w
GivesIn k made (Threw e l) w = Fine k w
GivesIn k made (Stopped a) w = StandsAt k.tracked a w.asked

-- a value that has been made and stands in no scope yet
abbrev pub making : (Object → Option Live) → Manner Valued
making made = record { stop = λ a. stop_of a.0; rests = λ k a. GivesIn k made a.0 a.1.world; stretch = λ k a. (a.0, stretched k a.1) }

abbrev pub making_world : (Object → Option Live) → Manner (Evaluated × World)
making_world made = record { stop = λ a. stop_of a.0; rests = λ k a. GivesIn k made a.0 a.1; stretch = λ k a. (a.0, longer k a.1) }

abbrev pub nothing_made : Object → Option Live
nothing_made o = None

abbrev pub valued : Manner Valued
valued = making nothing_made

abbrev pub operated : Manner (Evaluated × World)
operated = making_world nothing_made

abbrev pub flowed : Manner Flowed
flowed = record { stop = λ a. flow_stop a.0; rests = λ k a. Rests k (flow_stop a.0) a.1.world; stretch = λ k a. (a.0, stretched k a.1) }

-- a list ends early by an error or a stop alone
abbrev pub ListIn : Bound → Option Evaluated → World → Type 0
ListIn k None w = Fine k w
ListIn k (Some (Gives o)) w = ⊥
ListIn k (Some (Threw e l)) w = Fine k w
ListIn k (Some (Stopped a)) w = StandsAt k.tracked a w.asked

abbrev pub listed : Manner Listed
listed = record { stop = λ a. list_stop a.0; rests = λ k a. ListIn k a.0 a.2.world; stretch = λ k a. (a.0, a.1, stretched k a.2) }

abbrev pub rounded : Manner Again
rounded = record { stop = λ a. round_stop a.0; rests = λ k a. Rests k (round_stop a.0) a.1.world; stretch = λ k a. (a.0, stretched k a.1) }

abbrev pub EndsIn : Bound → Option Live → List Scope → Option Ask → World → Type 0
EndsIn k p scopes None w = FineAt k p [] w × (w.scopes ≡ scopes)
EndsIn k p scopes (Some a) w = StandsAt k.tracked a w.asked

-- with what was made and stands in no scope yet, in these scopes
abbrev pub ending : Option Live → List Scope → Manner Ended
ending p scopes = record { stop = λ a. a.0; rests = λ k a. EndsIn k p scopes a.0 a.1; stretch = λ k a. (a.0, longer k a.1) }

abbrev pub AnsweredIn : Bound → Ask → Option Live → List Live → List Scope → Reply → World → Type 0
AnsweredIn k q p mid scopes (reply.Answered x) w =
    (w.turns ≤ k.turns) × AfterAsk k.tracked q x w.asked w.scopes (length w.accesses) p mid × (w.scopes ≡ scopes)
AnsweredIn k q p mid scopes (reply.Stopped a) w = StandsAt k.tracked a w.asked

abbrev pub replied : Ask → Option Live → List Live → List Scope → Manner Replied
replied q p mid scopes = record { stop = λ a. reply_stop a.0; rests = λ k a. AnsweredIn k q p mid scopes a.0 a.1; stretch = λ k a. (a.0, longer k a.1) }

-- the first waits for an answer where the second has more; or else both come to the same
pub data Alike {A : Type 0} (k : Bound) (m : Manner A) (a b : A) : Type 0 where
  cut : Waits (m.stop a) → IsMore k.more → Alike k m a b
  alike : m.stretch k a ≡ b → m.rests k a → Alike k m a b

abbrev pub OpAlike : Bound → Op → Op → Type 0
OpAlike k f g = (w : World) → Fine k w → Alike k operated (f w) (g (longer k w))

abbrev pub ExAlike : Bound → Ex → Ex → Type 0
ExAlike k f g = (r : Run) → Fine k r.world → Alike k valued (f r) (g (stretched k r))

abbrev pub StAlike : Bound → St → St → Type 0
StAlike k f g = (r : Run) → Fine k r.world → Alike k flowed (f r) (g (stretched k r))

abbrev pub ListAlike : Bound → (Run → Listed) → (Run → Listed) → Type 0
ListAlike k f g = (r : Run) → Fine k r.world → Alike k listed (f r) (g (stretched k r))

abbrev pub RoundAlike : Bound → (Run → Again) → (Run → Again) → Type 0
RoundAlike k f g = (r : Run) → Fine k r.world → Alike k rounded (f r) (g (stretched k r))

-- ---- leaves

pub halts_there : (c : Bool) (x : Halt) (log : Log) (p : Option Live) (mid : List Live) (scopes : List Scope) (n : ℕ) → Tracks c p mid log scopes n → StandsAt c (asks.Halt x) log
halts_there false x log p mid scopes n h = tt
halts_there true x log p mid scopes n h = (tt, h.2)

pub halts_fine : (k : Bound) (x : Halt) (w : World) → Fine k w → StandsAt k.tracked (asks.Halt x) w.asked
halts_fine k x w h = halts_there k.tracked x w.asked None [] w.scopes (length w.accesses) h.1

pub gave : {k : Bound} {o : Object} {r : Run} → Fine k r.world → Alike k valued (Gives o, r) (Gives o, stretched k r)
gave h = alike refl h

pub gave_world : {k : Bound} {o : Object} {w : World} → Fine k w → Alike k operated (Gives o, w) (Gives o, longer k w)
gave_world h = alike refl h

pub threw_world : {k : Bound} {e : Errc} {l : ℕ} {w : World} → Fine k w → Alike k operated (Threw e l, w) (Threw e l, longer k w)
threw_world h = alike refl h

pub halted : {k : Bound} {a : Halt} {r : Run} → Fine k r.world → Alike k valued (Stopped (asks.Halt a), r) (Stopped (asks.Halt a), stretched k r)
halted {k} {a} {r} h = alike refl (halts_fine k a r.world h)

pub halted_world : {k : Bound} {a : Halt} {w : World} → Fine k w → Alike k operated (Stopped (asks.Halt a), w) (Stopped (asks.Halt a), longer k w)
halted_world {k} {a} {w} h = alike refl (halts_fine k a w h)

pub flows : {k : Bound} {f : Flow} {r : Run} → Rests k (flow_stop f) r.world → Alike k flowed (f, r) (f, stretched k r)
flows h = alike refl h

-- ---- going on

pub goes : {k : Bound} (a b : Valued) (go on : Object → Ex) → Alike k valued a b → ((o : Object) → ExAlike k (go o) (on o)) → Alike k valued (and_then a go) (and_then b on)
goes {k} (Gives o, r) b go on (cut w l) q = absurd w
goes {k} (Gives o, r) b go on (alike e h) q = subst (λ c. Alike k valued (go o r) (and_then c on)) e (q o r h)
goes {k} (Threw x l, r) b go on (cut w _) q = absurd w
goes {k} (Threw x l, r) b go on (alike e h) q = alike (ap (λ c. and_then c on) e) h
goes {k} (Stopped a, r) b go on (cut w l) q = cut w l
goes {k} (Stopped a, r) b go on (alike e h) q = alike (ap (λ c. and_then c on) e) h

pub goes_world : {k : Bound} (a b : Evaluated × World) (go on : Object → Op) → Alike k operated a b → ((o : Object) → OpAlike k (go o) (on o)) → Alike k operated (and_then a go) (and_then b on)
goes_world {k} (Gives o, r) b go on (cut w l) q = absurd w
goes_world {k} (Gives o, r) b go on (alike e h) q = subst (λ c. Alike k operated (go o r) (and_then c on)) e (q o r h)
goes_world {k} (Threw x l, r) b go on (cut w _) q = absurd w
goes_world {k} (Threw x l, r) b go on (alike e h) q = alike (ap (λ c. and_then c on) e) h
goes_world {k} (Stopped a, r) b go on (cut w l) q = cut w l
goes_world {k} (Stopped a, r) b go on (alike e h) q = alike (ap (λ c. and_then c on) e) h

pub with_values : {k : Bound} (a b : Valued) (go on : Object → St) → Alike k valued a b → ((o : Object) → StAlike k (go o) (on o)) → Alike k flowed (with_value a go) (with_value b on)
with_values {k} (Gives o, r) b go on (cut w l) q = absurd w
with_values {k} (Gives o, r) b go on (alike e h) q = subst (λ c. Alike k flowed (go o r) (with_value c on)) e (q o r h)
with_values {k} (Threw x l, r) b go on (cut w _) q = absurd w
with_values {k} (Threw x l, r) b go on (alike e h) q = alike (ap (λ c. with_value c on) e) h
with_values {k} (Stopped a, r) b go on (cut w l) q = cut w l
with_values {k} (Stopped a, r) b go on (alike e h) q = alike (ap (λ c. with_value c on) e) h

pub does : {k : Bound} (a b : Flowed) (go on : St) → Alike k flowed a b → StAlike k go on → Alike k flowed (then_do a go) (then_do b on)
does {k} (flow.Normal, r) b go on (cut w l) q = absurd w
does {k} (flow.Normal, r) b go on (alike e h) q = subst (λ c. Alike k flowed (go r) (then_do c on)) e (q r h)
does {k} (flow.Stopped a, r) b go on (cut w l) q = cut w l
does {k} (f, r) b go on (cut w l) q = absurd w
does {k} (f, r) b go on (alike e h) q = alike (ap (λ c. then_do c on) e) h

abbrev pub ExMakes : Bound → (Object → Option Live) → Ex → Ex → Type 0
ExMakes k made f g = (r : Run) → Fine k r.world → Alike k (making made) (f r) (g (stretched k r))

pub lists_made : {k : Bound} (made : Object → Option Live) (a b : Listed) (go on : List Object → Ex) → Alike k listed a b → ((os : List Object) → ExMakes k made (go os) (on os)) → Alike k (making made) (with_list a go) (with_list b on)
lists_made {k} made (None, os, r) b go on (cut w l) q = absurd w
lists_made {k} made (None, os, r) b go on (alike e h) q = subst (λ c. Alike k (making made) (go os r) (with_list c on)) e (q os r h)
lists_made {k} made (Some v, os, r) b go on (cut w l) q = cut w l
lists_made {k} made (Some (Gives o), os, r) b go on (alike e h) q = absurd h
lists_made {k} made (Some (Threw x l), os, r) b go on (alike e h) q = alike (ap (λ c. with_list c on) e) h
lists_made {k} made (Some (Stopped a), os, r) b go on (alike e h) q = alike (ap (λ c. with_list c on) e) h

pub lists : {k : Bound} (a b : Listed) (go on : List Object → Ex) → Alike k listed a b → ((os : List Object) → ExAlike k (go os) (on os)) → Alike k valued (with_list a go) (with_list b on)
lists a b go on p q = lists_made nothing_made a b go on p q

pub chosen : {A : Type 0} {k : Bound} {m : Manner A} (c : Bool) (a b x y : A) → Alike k m a x → Alike k m b y → Alike k m (if c then a else b) (if c then x else y)
chosen true a b x y p q = p
chosen false a b x y p q = q

pub in_run : {k : Bound} (made : Object → Option Live) (a b : Evaluated × World) (r : Run) → Alike k (making_world made) a b → Alike k (making made) (in_world a r) (in_world b (stretched k r))
in_run made a b r (cut w l) = cut w l
in_run {k} made a b r (alike e h) = alike (ap (λ c. in_world c (stretched k r)) e) h

pub within : {k : Bound} (f g : Op) → OpAlike k f g → ExAlike k (inside f) (inside g)
within {k} f g p r h = in_run nothing_made (f r.world) (g (longer k r.world)) r (p r.world h)

-- ---- errors, turns and asks

pub throwing : {k : Bound} (e : Errc) (line : ℕ) → OpAlike k (throws e line) (throws e line)
throwing e line w h = search (chosen, threw_world, halted_world)

threw_made : {k : Bound} {made : Object → Option Live} {e : Errc} {l : ℕ} {w : World} → Fine k w → Alike k (making_world made) (Threw e l, w) (Threw e l, longer k w)
threw_made h = alike refl h

halted_made : {k : Bound} {made : Object → Option Live} {a : Halt} {w : World} → Fine k w → Alike k (making_world made) (Stopped (asks.Halt a), w) (Stopped (asks.Halt a), longer k w)
halted_made {k} {made} {a} {w} h = alike refl (halts_fine k a w h)

pub throwing_made : {k : Bound} (made : Object → Option Live) (e : Errc) (line : ℕ) (w : World) → Fine k w → Alike k (making_world made) (throws e line w) (throws e line (longer k w))
throwing_made made e line w h = search (chosen, threw_made, halted_made)

pub trapping_made : {k : Bound} (made : Object → Option Live) (c : Cause) (line : ℕ) (w : World) → Fine k w → Alike k (making_world made) (traps c line w) (traps c line (longer k w))
trapping_made made c line w h = halted_made h

-- an ask that fits those before it
fits_there : (c : Bool) (a : Ask) (log : Log) (p : Option Live) (mid : List Live) (scopes : List Scope) (n : ℕ) → ((c ≡ true) → Fits log a) → Tracks c p mid log scopes n → StandsAt c a log
fits_there false a log p mid scopes n f h = tt
fits_there true a log p mid scopes n f h = (f refl, h.2)

after_there : (c : Bool) (a : Ask) (x : Answer) (log : Log) (p : Option Live) (mid : List Live) (scopes : List Scope) (n : ℕ) → ((c ≡ true) → Fits log a) → Tracks c p mid log scopes n → AfterAsk c a x ((a, x) ∷ log) scopes n p mid
after_there false a x log p mid scopes n f h = tt
after_there true a x log p mid scopes n f h = (log, refl, h, f refl)

answering : {k : Bound} (a : Ask) (p : Option Live) (mid : List Live) (xs : List Answer) (v : World) → Waits (Some a) → v.feed ≡ xs → ((k.tracked ≡ true) → Fits v.asked a) → FineAt k p mid v → Alike k (replied a p mid v.scopes) (answered a xs v) (answered a (xs ++ k.more) (longer k v))
answering {k} a p mid [] v w e f h = answering_none k.more refl
  where
    answering_none : (ys : List Answer) → ys ≡ k.more → Alike k (replied a p mid v.scopes) (reply.Stopped a, v) (answered a ys (longer k v))
    answering_none [] n = alike refl (fits_there k.tracked a v.asked p mid v.scopes (length v.accesses) f h.1)
    answering_none (y ∷ ys) n = cut w (subst IsMore n tt)
answering {k} a p mid (x ∷ xs) v w e f h = alike refl (h.0, after_there k.tracked a x v.asked p mid v.scopes (length v.accesses) f h.1, refl)

pub spent_at : (k : Bound) (line : ℕ) (p : Option Live) (mid : List Live) (w : World) → FineAt k p mid w → StandsAt k.tracked (spent line w) w.asked
spent_at k line p mid w h = either (is_some w.at)
  where
    either : (c : Bool) → StandsAt k.tracked (if c then asks.Halt (halt.Trapped cause.Turns line) else asks.Halt (halt.TurnsSpent line)) w.asked
    either true = halts_there k.tracked (halt.Trapped cause.Turns line) w.asked p mid w.scopes (length w.accesses) h.1
    either false = halts_there k.tracked (halt.TurnsSpent line) w.asked p mid w.scopes (length w.accesses) h.1

asking_by : {k : Bound} (line : ℕ) (a : Ask) (p : Option Live) (mid : List Live) (w : World) (b : Bool) → Waits (Some a) → ((k.tracked ≡ true) → Fits w.asked a) → FineAt k p mid w → Alike k (replied a p mid w.scopes) (asked line a (if b then (false, w) else (true, record w { turns = w.turns - 1 }))) (asked line a (if b then (false, longer k w) else (true, record (longer k w) { turns = w.turns - 1 })))
asking_by {k} line a p mid w true q f h = alike refl (spent_at k line p mid w h)
asking_by line a p mid w false q f h = answering a p mid w.feed (record w { turns = w.turns - 1 }) q refl f (omega (arith, h.0), h.1)

pub asking_at : {k : Bound} (line : ℕ) (a : Ask) (p : Option Live) (mid : List Live) (w : World) → Waits (Some a) → ((k.tracked ≡ true) → Fits w.asked a) → FineAt k p mid w → Alike k (replied a p mid w.scopes) (ask line a w) (ask line a (longer k w))
asking_at line a p mid w q f h = asking_by line a p mid w (w.turns == 0) q f h

-- an ask that makes and ends nothing
abbrev pub IsCalm : Ask → Type 0
IsCalm (asks.MakeBuffer b) = ⊥
IsCalm (asks.MakeSub b first range) = ⊥
IsCalm (asks.EndBuffer b) = ⊥
IsCalm (asks.OpenHost need) = ⊥
IsCalm (asks.CloseHost a values) = ⊥
IsCalm a = ⊤

calm_fits : (a : Ask) (log : Log) → IsCalm a → Fits log a
calm_fits (asks.MakeBuffer b) log c = absurd c
calm_fits (asks.MakeSub b first range) log c = absurd c
calm_fits (asks.EndBuffer b) log c = absurd c
calm_fits (asks.OpenHost need) log c = absurd c
calm_fits (asks.CloseHost a values) log c = absurd c
calm_fits a log c = tt

-- what is there, and how often host accesses were opened, stay as they are
calm_kept : (a : Ask) (x : Answer) (log : Log) → IsCalm a → (there ((a, x) ∷ log) ≡ there log) × (openings ((a, x) ∷ log) ≡ openings log)
calm_kept (asks.MakeBuffer b) x log c = absurd c
calm_kept (asks.MakeSub b first range) x log c = absurd c
calm_kept (asks.EndBuffer b) x log c = absurd c
calm_kept (asks.OpenHost need) x log c = absurd c
calm_kept (asks.CloseHost a values) x log c = absurd c
calm_kept a x log c = (refl, refl)

calm_tracks : (c : Bool) (a : Ask) (x : Answer) (log : Log) (scopes : List Scope) (n : ℕ) → IsCalm a → AfterAsk c a x log scopes n None [] → Tracks c None [] log scopes n
calm_tracks false a x log scopes n q h = tt
calm_tracks true a x log scopes n q (before, is, old, fits) =
    let kept = calm_kept a x before q in
    subst (λ l. Tracks true None [] l scopes n) (sym is) (kept.0 ∙ old.0, old.1 ∙ sym kept.1, (fits, old.2), tt)

calm_after : (k : Bound) (scopes : List Scope) (a : Ask) (x : Answer) (w : World) → IsCalm a → AnsweredIn k a None [] scopes (reply.Answered x) w → Fine k w
calm_after k scopes a x w q h = (h.0, calm_tracks k.tracked a x w.asked w.scopes (length w.accesses) q h.1)

pub asking : {k : Bound} (line : ℕ) (a : Ask) (w : World) → Waits (Some a) → IsCalm a → Fine k w → Alike k (replied a None [] w.scopes) (ask line a w) (ask line a (longer k w))
asking line a w p c h = asking_at line a None [] w p (λ t. calm_fits a w.asked c) h

numbered : {k : Bound} (scopes : List Scope) (q : Ask) (line : ℕ) (a b : Replied) (go on : ℕ → Op) → IsCalm q → Alike k (replied q None [] scopes) a b → ((n : ℕ) → OpAlike k (go n) (on n)) → Alike k operated (for_number line a go) (for_number line b on)
numbered {k} scopes c line (reply.Answered x, v) b go on i (cut w l) q = absurd w
numbered {k} scopes c line (reply.Answered (answer.Number n), w) b go on i (alike e h) q = subst (λ y. Alike k operated (go n w) (for_number line y on)) e (q n w (calm_after k scopes c (answer.Number n) w i h))
numbered {k} scopes c line (reply.Answered (answer.Refused x), w) b go on i (alike e h) q = subst (λ y. Alike k operated (throws x line w) (for_number line y on)) e (throwing x line w (calm_after k scopes c (answer.Refused x) w i h))
numbered {k} scopes c line (reply.Answered x, w) b go on i (alike e h) q = subst (λ y. Alike k operated (go 0 w) (for_number line y on)) e (q 0 w (calm_after k scopes c x w i h))
numbered {k} scopes c line (reply.Stopped a, v) b go on i (cut w l) q = cut w l
numbered {k} scopes c line (reply.Stopped a, w) b go on i (alike e h) q = alike (ap (λ y. for_number line y on) e) h

with_contents : {k : Bound} (scopes : List Scope) (q : Ask) (a b : Replied) (go on : List ℤ → Op) → IsCalm q → Alike k (replied q None [] scopes) a b → ((zs : List ℤ) → OpAlike k (go zs) (on zs)) → Alike k operated (for_contents a go) (for_contents b on)
with_contents {k} scopes c (reply.Answered x, v) b go on i (cut w l) q = absurd w
with_contents {k} scopes c (reply.Answered x, w) b go on i (alike e h) q = subst (λ y. Alike k operated (go (contents_of x) w) (for_contents y on)) e (q (contents_of x) w (calm_after k scopes c x w i h))
with_contents {k} scopes c (reply.Stopped a, v) b go on i (cut w l) q = cut w l
with_contents {k} scopes c (reply.Stopped a, w) b go on i (alike e h) q = alike (ap (λ y. for_contents y on) e) h

when_done : {k : Bound} (scopes : List Scope) (q : Ask) (a b : Replied) (go on : Op) → IsCalm q → Alike k (replied q None [] scopes) a b → OpAlike k go on → Alike k operated (for_done a go) (for_done b on)
when_done {k} scopes c (reply.Answered x, v) b go on i (cut w l) q = absurd w
when_done {k} scopes c (reply.Answered x, w) b go on i (alike e h) q = subst (λ y. Alike k operated (go w) (for_done y on)) e (q w (calm_after k scopes c x w i h))
when_done {k} scopes c (reply.Stopped a, v) b go on i (cut w l) q = cut w l
when_done {k} scopes c (reply.Stopped a, w) b go on i (alike e h) q = alike (ap (λ y. for_done y on) e) h

pub asks_number : {k : Bound} (line : ℕ) (q : Ask) (w : World) (go on : ℕ → Op) → Waits (Some q) → IsCalm q → Fine k w → ((n : ℕ) → OpAlike k (go n) (on n)) → Alike k operated (for_number line (ask line q w) go) (for_number line (ask line q (longer k w)) on)
asks_number {k} line q w go on v c h p = numbered w.scopes q line (ask line q w) (ask line q (longer k w)) go on c (asking line q w v c h) p

pub asks_contents : {k : Bound} (line : ℕ) (q : Ask) (w : World) (go on : List ℤ → Op) → Waits (Some q) → IsCalm q → Fine k w → ((zs : List ℤ) → OpAlike k (go zs) (on zs)) → Alike k operated (for_contents (ask line q w) go) (for_contents (ask line q (longer k w)) on)
asks_contents {k} line q w go on v c h p = with_contents w.scopes q (ask line q w) (ask line q (longer k w)) go on c (asking line q w v c h) p

pub asks_done : {k : Bound} (line : ℕ) (q : Ask) (w : World) (go on : Op) → Waits (Some q) → IsCalm q → Fine k w → OpAlike k go on → Alike k operated (for_done (ask line q w) go) (for_done (ask line q (longer k w)) on)
asks_done {k} line q w go on v c h p = when_done w.scopes q (ask line q w) (ask line q (longer k w)) go on c (asking line q w v c h) p

pub computing : {k : Bound} (line : ℕ) (a : Result Scalar Undefined) → ExAlike k (computed line a) (computed line a)
computing line (Ok x) r h = gave h
computing line (Err u) r h = halted h

-- ---- objects that are made, closed and ended

length_last : (xs : List (List ℤ)) (x : List ℤ) → length (xs ++ x ∷ []) ≡ suc (length xs)
length_last [] x = refl
length_last (y ∷ ys) x = ap (λ n. suc n) (length_last ys x)

-- what is made by an answer
abbrev pub made_of_number : Answer → Option Live
made_of_number (answer.Number n) = Some (live.Buffer n)
made_of_number (answer.Refused e) = None
made_of_number x = Some (live.Buffer 0)

abbrev pub MakesBuffer : Ask → Type 0
MakesBuffer (asks.MakeBuffer b) = ⊤
MakesBuffer (asks.MakeSub b first range) = ⊤
MakesBuffer a = ⊥

new_is : (x : Answer) → new_buffer x ≡ held (made_of_number x)
new_is (answer.Number n) = refl
new_is (answer.Refused e) = refl
new_is x = refl

made_there : (a : Ask) (x : Answer) (log : Log) → MakesBuffer a → (there ((a, x) ∷ log) ≡ held (made_of_number x) ++ there log) × (openings ((a, x) ∷ log) ≡ openings log)
made_there (asks.MakeBuffer b) x log m = (ap (λ ys. ys ++ there log) (new_is x), refl)
made_there (asks.MakeSub b first range) x log m = (ap (λ ys. ys ++ there log) (new_is x), refl)
made_there a x log m = absurd m

makes_fit : (a : Ask) (log : Log) → MakesBuffer a → Fits log a
makes_fit (asks.MakeBuffer b) log m = tt
makes_fit (asks.MakeSub b first range) log m = tt
makes_fit a log m = absurd m

fresh_there : (p : Option Live) (log : Log) → is_fresh log ≡ true → Fresh p log
fresh_there None log e = tt
fresh_there (Some x) log e = e

made_fresh : (a : Ask) (x : Answer) (log : Log) → MakesBuffer a → is_fresh ((a, x) ∷ log) ≡ true
made_fresh (asks.MakeBuffer b) x log m = refl
made_fresh (asks.MakeSub b first range) x log m = refl
made_fresh a x log m = absurd m

made_tracks : (c : Bool) (a : Ask) (x : Answer) (log : Log) (scopes : List Scope) (n : ℕ) → MakesBuffer a → AfterAsk c a x log scopes n None [] → Tracks c (made_of_number x) [] log scopes n
made_tracks false a x log scopes n m h = tt
made_tracks true a x log scopes n m (before, is, old, fits) =
    let new = made_there a x before m in
    subst (λ l. Tracks true (made_of_number x) [] l scopes n) (sym is) (new.0 ∙ ap (λ ys. held (made_of_number x) ++ ys) old.0, old.1 ∙ sym new.1, (fits, old.2), fresh_there (made_of_number x) ((a, x) ∷ before) (made_fresh a x before m))

-- a buffer, whose number is the answer's
pub makes_number : {k : Bound} (line : ℕ) (q : Ask) (w : World) (made : Object → Option Live) (go on : ℕ → Op) → Waits (Some q) → MakesBuffer q → Fine k w → ((n : ℕ) (v : World) → FineAt k (Some (live.Buffer n)) [] v → Alike k (making_world made) (go n v) (on n (longer k v))) → Alike k (making_world made) (for_number line (ask line q w) go) (for_number line (ask line q (longer k w)) on)
makes_number {k} line q w made go on v m h p = numbers (ask line q w) (ask line q (longer k w)) (asking_at line q None [] w v (λ t. makes_fit q w.asked m) h)
  where
    numbers : (a b : Replied) → Alike k (replied q None [] w.scopes) a b → Alike k (making_world made) (for_number line a go) (for_number line b on)
    numbers (reply.Answered x, u) b (cut i l) = absurd i
    numbers (reply.Answered (answer.Number n), u) b (alike e f) = subst (λ y. Alike k (making_world made) (go n u) (for_number line y on)) e (p n u (f.0, made_tracks k.tracked q (answer.Number n) u.asked u.scopes (length u.accesses) m f.1))
    numbers (reply.Answered (answer.Refused x), u) b (alike e f) = subst (λ y. Alike k (making_world made) (throws x line u) (for_number line y on)) e (throwing_made made x line u (f.0, made_tracks k.tracked q (answer.Refused x) u.asked u.scopes (length u.accesses) m f.1))
    numbers (reply.Answered x, u) b (alike e f) = subst (λ y. Alike k (making_world made) (go 0 u) (for_number line y on)) e (p 0 u (f.0, made_tracks k.tracked q x u.asked u.scopes (length u.accesses) m f.1))
    numbers (reply.Stopped a, u) b (cut i l) = cut i l
    numbers (reply.Stopped a, u) b (alike e f) = alike (ap (λ y. for_number line y on) e) f

-- a host access, whose number is the count of those before it
opened_tracks : (c : Bool) (need : Need) (x : Answer) (values : List ℤ) (log : Log) (scopes : List Scope) (accesses : List (List ℤ)) → AfterAsk c (asks.OpenHost need) x log scopes (length accesses) None [] → Tracks c (Some (live.Access (length accesses))) [] log scopes (length (accesses ++ values ∷ []))
opened_tracks false need x values log scopes accesses h = tt
opened_tracks true need x values log scopes accesses (before, is, old, fits) =
    subst (λ l. Tracks true (Some (live.Access (length accesses))) [] l scopes (length (accesses ++ values ∷ []))) (sym is) (ap (λ n. live.Access n ∷ there before) (sym old.1) ∙ ap (λ ys. live.Access (length accesses) ∷ ys) old.0, length_last accesses values ∙ ap (λ n. suc n) old.1, (tt, old.2), refl)

pub opens : {k : Bound} (made : Object → Option Live) (line : ℕ) (need : Need) (w : World) (go : List ℤ → World → Object) → ((zs : List ℤ) (v : World) → made (go zs v) ≡ Some (live.Access (length v.accesses))) → ((zs : List ℤ) (v : World) → go zs (longer k v) ≡ go zs v) → Fine k w → Alike k (making_world made) (for_contents (ask line (asks.OpenHost need) w) (λ zs v. gives (go zs v) (record v { accesses = v.accesses ++ zs ∷ [] }))) (for_contents (ask line (asks.OpenHost need) (longer k w)) (λ zs v. gives (go zs v) (record v { accesses = v.accesses ++ zs ∷ [] })))
opens {k} made line need w go is same h = contents (ask line (asks.OpenHost need) w) (ask line (asks.OpenHost need) (longer k w)) (asking_at line (asks.OpenHost need) None [] w tt (λ t. tt) h)
  where
    on : List ℤ → Op
    on zs v = gives (go zs v) (record v { accesses = v.accesses ++ zs ∷ [] })

    contents : (a b : Replied) → Alike k (replied (asks.OpenHost need) None [] w.scopes) a b → Alike k (making_world made) (for_contents a on) (for_contents b on)
    contents (reply.Answered x, u) b (cut i l) = absurd i
    contents (reply.Answered x, u) b (alike e f) =
        let zs = contents_of x in
        let v : World = record u { accesses = u.accesses ++ zs ∷ [] } in
        let fine : FineAt k (made (go zs u)) [] v = subst (λ p. FineAt k p [] v) (sym (is zs u)) (f.0, opened_tracks k.tracked need x zs u.asked u.scopes u.accesses f.1) in
        let gave_it : Object → Evaluated × World = λ o. (Gives o, longer k v) in
        let shown : Alike k (making_world made) (Gives (go zs u), v) (on zs (longer k u)) = alike (ap gave_it (sym (same zs u))) fine in
        subst (λ y. Alike k (making_world made) (Gives (go zs u), v) (for_contents y on)) e shown
    contents (reply.Stopped a, u) b (cut i l) = cut i l
    contents (reply.Stopped a, u) b (alike e f) = alike (ap (λ y. for_contents y on) e) f

-- ---- lists of expressions and statements

abbrev pub AllAlike : Bound → List Ex → List Ex → Type 0
AllAlike k [] [] = ⊤
AllAlike k [] (f ∷ fs) = ⊥
AllAlike k (e ∷ es) [] = ⊥
AllAlike k (e ∷ es) (f ∷ fs) = ExAlike k e f × AllAlike k es fs

abbrev pub AllStAlike : Bound → List St → List St → Type 0
AllStAlike k [] [] = ⊤
AllStAlike k [] (f ∷ fs) = ⊥
AllStAlike k (e ∷ es) [] = ⊥
AllStAlike k (e ∷ es) (f ∷ fs) = StAlike k e f × AllStAlike k es fs

one_more_alike : {k : Bound} (a b : Valued) (os : List Object) (go on : List Object → Run → Listed) → Alike k valued a b → ((ps : List Object) → ListAlike k (go ps) (on ps)) → Alike k listed (one_more a os go) (one_more b os on)
one_more_alike {k} (Gives o, r) b os go on (cut w l) q = absurd w
one_more_alike {k} (Gives o, r) b os go on (alike e h) q = subst (λ c. Alike k listed (go (os ++ o ∷ []) r) (one_more c os on)) e (q (os ++ o ∷ []) r h)
one_more_alike {k} (Threw x l, r) b os go on (cut w _) q = absurd w
one_more_alike {k} (Threw x l, r) b os go on (alike e h) q = alike (ap (λ c. one_more c os on) e) h
one_more_alike {k} (Stopped a, r) b os go on (cut w l) q = cut w l
one_more_alike {k} (Stopped a, r) b os go on (alike e h) q = alike (ap (λ c. one_more c os on) e) h

each_after_alike : {k : Bound} (es fs : List Ex) → AllAlike k es fs → (os : List Object) → ListAlike k (each_after es os) (each_after fs os)
each_after_alike [] [] p os r h = alike refl h
each_after_alike [] (f ∷ fs) p os r h = absurd p
each_after_alike (e ∷ es) [] p os r h = absurd p
each_after_alike {k} (e ∷ es) (f ∷ fs) p os r h =
    one_more_alike (e r) (f (stretched k r)) os (each_after es) (each_after fs) (p.0 r h) (each_after_alike es fs p.1)

pub each_alike : {k : Bound} (es fs : List Ex) → AllAlike k es fs → ListAlike k (each es) (each fs)
each_alike es fs p r h = each_after_alike es fs p [] r h

pub in_turn_alike : {k : Bound} (ss ts : List St) → AllStAlike k ss ts → StAlike k (in_turn ss) (in_turn ts)
in_turn_alike [] [] p r h = alike refl h
in_turn_alike [] (t ∷ ts) p r h = absurd p
in_turn_alike (s ∷ ss) [] p r h = absurd p
in_turn_alike {k} (s ∷ ss) (t ∷ ts) p r h =
    does (s r) (t (stretched k r)) (in_turn ss) (in_turn ts) (p.0 r h) (in_turn_alike ss ts p.1)
