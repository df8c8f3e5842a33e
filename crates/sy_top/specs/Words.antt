-- What the words after the program's name say.
use Rattle.std.specs.Prelude.{ℕ, ◌+◌, ◌-◌, ◌*◌, nat_le, ◌==◌, Bool, true, false, not, ◌&&◌, ◌||◌, if◌then◌else◌, List, [], ◌∷◌, ◌++◌, length, take, drop, fold, codes, filter, option_map, option_to_list, is_some, Option, Some, None, Result, Ok, Err}
use Rattle.std.specs.List.{filter_map, list_all, prefix_len}
use Rattle.std.specs.Str.{bytes_eq}
use Rattle.sy_top.specs.declared.jobs.Job.{Job}
use Rattle.sy_top.specs.declared.jobs.Job.TheVariants.{Check, Serial, Run, SelfTest, Replay}
use Rattle.sy_top.specs.declared.jobs.Settings.{Settings}
use Rattle.sy_top.specs.declared.words.BadWords.{BadWords}
use Rattle.sy_top.specs.declared.words.Given.{Given}
use Rattle.sy_top.specs.declared.words.Item.{Item}
use Rattle.sy_top.specs.declared.words.Item.TheVariants.{Mode, Workers, Turns, Seed, Groups, Stats, Trace}
use Rattle.sy_top.specs.declared.words.Numbered.{Numbered}
use Rattle.sy_top.specs.declared.words.Numbered.TheVariants as numbered

-- ---- numbers

abbrev pub is_digit : ℕ → Bool
is_digit b = nat_le 48 b && nat_le b 57

-- the number that decimal digits write
abbrev pub number_of : List ℕ → ℕ
number_of text = fold (λ n b. 10 * n + (b - 48)) 0 text

-- decimal digits, of which 0 is the first only where it is alone
abbrev pub is_numeral : List ℕ → Bool
is_numeral [] = false
is_numeral (b ∷ bs) = list_all is_digit (b ∷ bs) && (not (b == 48) || length bs == 0)

-- the number that the text is, from the least to the greatest
unfoldable pub number_within : ℕ → ℕ → List ℕ → Option ℕ
number_within least greatest text =
    if is_numeral text && (nat_le least (number_of text) && nat_le (number_of text) greatest) then Some (number_of text) else None

-- the number so far with one more digit, up to the greatest
abbrev pub push_digit : ℕ → Option ℕ → ℕ → Option ℕ
push_digit greatest None b = None
push_digit greatest (Some n) b = if is_digit b && nat_le (10 * n + (b - 48)) greatest then Some (10 * n + (b - 48)) else None

-- ---- the items: a mode, or an option with its number

-- the option that the text names, where a number goes with it
unfoldable pub numbered_option : List ℕ → Option Numbered
numbered_option text =
    if bytes_eq text (codes "--workers") then Some numbered.Workers
    else (if bytes_eq text (codes "--turns") then Some numbered.Turns
    else (if bytes_eq text (codes "--seed") then Some numbered.Seed
    else (if bytes_eq text (codes "--groups") then Some numbered.Groups else None)))

-- the option with the number that the text is
unfoldable pub with_number : Numbered → List ℕ → Option Item
with_number numbered.Workers text = option_map Workers (number_within 1 64 text)
with_number numbered.Turns text = option_map Turns (number_within 1 1000000000 text)
with_number numbered.Seed text = option_map Seed (number_within 0 65535 text)
with_number numbered.Groups text = option_map Groups (number_within 1 20000 text)

abbrev pub is_not_equals : ℕ → Bool
is_not_equals b = not (b == 61)

-- how many bytes stand before the first `=`, or in the word where it has none
abbrev pub name_len : List ℕ → ℕ
name_len word = prefix_len is_not_equals word

abbrev pub if_option : Option Numbered → List ℕ → Option Item
if_option None text = None
if_option (Some option) text = with_number option text

-- an option with its number behind `=`. Where there is no `=` the number is of no digits, and so is none
unfoldable pub assigned : List ℕ → Option Item
assigned word = if_option (numbered_option (take (name_len word) word)) (drop (name_len word + 1) word)

-- the item that is one word
unfoldable pub one_word : List ℕ → Option Item
one_word word =
    if bytes_eq word (codes "check") then Some (Mode Check)
    else (if bytes_eq word (codes "serial") then Some (Mode Serial)
    else (if bytes_eq word (codes "run") then Some (Mode Run)
    else (if bytes_eq word (codes "selftest") then Some (Mode SelfTest)
    else (if bytes_eq word (codes "replay") then Some (Mode Replay)
    else (if bytes_eq word (codes "--stats") then Some Stats
    else (if bytes_eq word (codes "--trace") then Some Trace else assigned word))))))

-- the items with one more before them
abbrev pub before : Option Item → Option (List Item) → Option (List Item)
before None items = None
before (Some item) None = None
before (Some item) (Some items) = Some (item ∷ items)

-- the item of the last word, which is no option whose number is missing
abbrev pub last_word : Option Numbered → List ℕ → Option (List Item)
last_word (Some option) word = None
last_word None word = before (one_word word) (Some [])

-- the items of a word, of the word behind it and of those that follow: an option takes the second word as its number
abbrev pub two_words : Option Numbered → List ℕ → List ℕ → Option (List Item) → Option (List Item) → Option (List Item)
two_words (Some option) word next behind_next behind_word = before (with_number option next) behind_next
two_words None word next behind_next behind_word = before (one_word word) behind_word

-- the items that the words are
unfoldable pub items_of : List (List ℕ) → Option (List Item)
items_of [] = Some []
items_of (word ∷ []) = last_word (numbered_option word) word
items_of (word ∷ next ∷ words) = two_words (numbered_option word) word next (items_of words) (items_of (next ∷ words))

-- ---- what the items say, of the mode and of each option by itself

abbrev pub mode_in : Item → Option Job
mode_in (Mode job) = Some job
mode_in _ = None

abbrev pub workers_in : Item → Option ℕ
workers_in (Workers n) = Some n
workers_in _ = None

abbrev pub turns_in : Item → Option ℕ
turns_in (Turns n) = Some n
turns_in _ = None

abbrev pub seed_in : Item → Option ℕ
seed_in (Seed n) = Some n
seed_in _ = None

abbrev pub groups_in : Item → Option ℕ
groups_in (Groups n) = Some n
groups_in _ = None

abbrev pub is_stats : Item → Bool
is_stats Stats = true
is_stats _ = false

abbrev pub is_trace : Item → Bool
is_trace Trace = true
is_trace _ = false

pub record Said : Type 0 where
  pub modes : List Job
  pub workers : List ℕ
  pub turns : List ℕ
  pub seeds : List ℕ
  pub groups : List ℕ
  pub stats : List Item
  pub traces : List Item

abbrev pub said_by : List Item → Said
said_by items = record {
  modes = filter_map mode_in items;
  workers = filter_map workers_in items;
  turns = filter_map turns_in items;
  seeds = filter_map seed_in items;
  groups = filter_map groups_in items;
  stats = filter is_stats items;
  traces = filter is_trace items;
}

-- ---- what the program takes

-- the mode uses threads of its own
abbrev pub has_workers : Job → Bool
has_workers Run = true
has_workers SelfTest = true
has_workers _ = false

-- the mode runs the source
abbrev pub runs_source : Job → Bool
runs_source Check = false
runs_source _ = true

abbrev pub is_selftest : Job → Bool
is_selftest SelfTest = true
is_selftest _ = false

-- an option stands at most once, and only where the mode has it
abbrev pub may_stand : {A : Type 0} → Bool → List A → Bool
may_stand has [] = true
may_stand has (x ∷ []) = has
may_stand has (x ∷ y ∷ xs) = false

-- an option stands once where the mode has it, and otherwise not at all
abbrev pub must_stand : {A : Type 0} → Bool → List A → Bool
must_stand has [] = not has
must_stand has (x ∷ []) = has
must_stand has (x ∷ y ∷ xs) = false

abbrev pub fits : Job → Said → Bool
fits job said =
    may_stand (has_workers job) said.workers
    && (may_stand true said.turns
    && (must_stand (is_selftest job) said.seeds
    && (must_stand (is_selftest job) said.groups
    && (may_stand (runs_source job) said.stats
    && may_stand (runs_source job) said.traces))))

abbrev pub first_or : ℕ → List ℕ → ℕ
first_or n [] = n
first_or n (m ∷ ms) = m

abbrev pub stands : {A : Type 0} → List A → Bool
stands [] = false
stands (x ∷ xs) = true

-- the numbers that stand, and for those left out 4 workers, 10000000 turns and 0
abbrev pub settings_with : Job → Said → Settings
settings_with job said = record {
  job = job;
  workers = first_or 4 said.workers;
  turns = first_or 10000000 said.turns;
  seed = first_or 0 said.seeds;
  groups = first_or 0 said.groups;
  stats = stands said.stats;
  trace = stands said.traces;
}

-- exactly one mode, and the options fit it
abbrev pub settled : List Job → Said → Result Settings BadWords
settled [] said = Err (record {})
settled (job ∷ []) said = if fits job said then Ok (settings_with job said) else Err (record {})
settled (job ∷ other ∷ jobs) said = Err (record {})

abbrev pub settings_of : Option (List Item) → Result Settings BadWords
settings_of None = Err (record {})
settings_of (Some items) = settled (said_by items).modes (said_by items)

unfoldable pub words_of : List (List ℕ) → Result Settings BadWords
words_of words = settings_of (items_of words)

-- ---- the items one after the other

-- what some items gave
abbrev pub said_with : Given → Said → Said
said_with given said = record {
  modes = option_to_list given.mode ++ said.modes;
  workers = option_to_list given.workers ++ said.workers;
  turns = option_to_list given.turns ++ said.turns;
  seeds = option_to_list given.seed ++ said.seeds;
  groups = option_to_list given.groups ++ said.groups;
  stats = (if given.stats then Stats ∷ [] else []) ++ said.stats;
  traces = (if given.trace then Trace ∷ [] else []) ++ said.traces;
}

-- what the words say, where some items gave this and the others are these
abbrev pub settings_after : Given → Option (List Item) → Result Settings BadWords
settings_after given None = Err (record {})
settings_after given (Some items) = settled (said_with given (said_by items)).modes (said_with given (said_by items))

-- an item of this kind was given before
abbrev pub has : Given → Item → Bool
has given (Mode job) = is_some given.mode
has given (Workers n) = is_some given.workers
has given (Turns n) = is_some given.turns
has given (Seed n) = is_some given.seed
has given (Groups n) = is_some given.groups
has given Stats = given.stats
has given Trace = given.trace

abbrev pub with_item : Given → Item → Given
with_item given (Mode job) = record given { mode = Some job }
with_item given (Workers n) = record given { workers = Some n }
with_item given (Turns n) = record given { turns = Some n }
with_item given (Seed n) = record given { seed = Some n }
with_item given (Groups n) = record given { groups = Some n }
with_item given Stats = record given { stats = true }
with_item given Trace = record given { trace = true }

abbrev pub taken : Given → Option Item → Result Given BadWords
taken given None = Err (record {})
taken given (Some item) = if has given item then Err (record {}) else Ok (with_item given item)
