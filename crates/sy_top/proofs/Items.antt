-- The items of the words, taken one after the other.
use Rattle.std.proofs.Common.{◌≡◌, ℕ, Bool, true, false, List, [], ◌∷◌, Option, Some, None, refl, sym, ap, ◌∙◌}
use Rattle.std.specs.Prelude.{◌&&◌, Result, Ok, Err, if◌then◌else◌}
use Rattle.std.proofs.Math.Bool.{and-false}
use Rattle.sy_top.specs.declared.jobs.Job.{Job}
use Rattle.sy_top.specs.declared.jobs.Settings.{Settings}
use Rattle.sy_top.specs.declared.words.BadWords.{BadWords}
use Rattle.sy_top.specs.declared.words.Given.{Given}
use Rattle.sy_top.specs.declared.words.Item.{Item}
use Rattle.sy_top.specs.declared.words.Item.TheVariants.{Mode, Workers, Turns, Seed, Groups, Stats, Trace}
use Rattle.sy_top.specs.declared.words.Numbered.{Numbered}
use Rattle.sy_top.specs.Words.{Said, numbered_option, with_number, one_word, two_words, last_word, said_by, said_with, fits, settled, settings_after, settings_of, settings_with, may_stand, must_stand, has_workers, is_selftest, runs_source, has, with_item, taken, before, items_of, words_of}

abbrev bad : Result Settings BadWords
bad = Err (record {})

-- where the options do not fit any mode
unfit : (modes : List Job) (said : Said) → ((job : Job) → fits job said ≡ false) → settled modes said ≡ Err (record {})
unfit [] said h = refl
unfit (job ∷ []) said h = ap (λ t. if t then Ok (settings_with job said) else Err (record {})) (h job)
unfit (job ∷ other ∷ jobs) said h = refl

-- a test that fails at each place
third : (a b : Bool) → (a && (b && false)) ≡ false
third a b = ap (λ t. a && t) (and-false b) ∙ and-false a

fourth : (a b c : Bool) → (a && (b && (c && false))) ≡ false
fourth a b c = ap (λ t. a && t) (third b c) ∙ and-false a

fifth : (a b c d : Bool) → (a && (b && (c && (d && false)))) ≡ false
fifth a b c d = ap (λ t. a && t) (fourth b c d) ∙ and-false a

sixth : (a b c d e : Bool) → (a && (b && (c && (d && (e && false))))) ≡ false
sixth a b c d e = ap (λ t. a && t) (fifth b c d e) ∙ and-false a

abbrev given_of : Option Job → Option ℕ → Option ℕ → Option ℕ → Option ℕ → Bool → Bool → Given
given_of mode workers turns seed groups stats trace = record { mode = mode; workers = workers; turns = turns; seed = seed; groups = groups; stats = stats; trace = trace }

fresh : (mode : Option Job) (workers turns seed groups : Option ℕ) (stats trace : Bool) (item : Item) (more : Option (List Item)) →
    has (given_of mode workers turns seed groups stats trace) item ≡ false → settings_after (given_of mode workers turns seed groups stats trace) (before (Some item) more) ≡ settings_after (with_item (given_of mode workers turns seed groups stats trace) item) more
fresh mode workers turns seed groups stats trace item None h = refl
fresh None workers turns seed groups stats trace (Mode job) (Some items) h = refl
fresh (Some old) workers turns seed groups stats trace (Mode job) (Some items) h = cc
fresh mode None turns seed groups stats trace (Workers n) (Some items) h = refl
fresh mode (Some old) turns seed groups stats trace (Workers n) (Some items) h = cc
fresh mode workers None seed groups stats trace (Turns n) (Some items) h = refl
fresh mode workers (Some old) seed groups stats trace (Turns n) (Some items) h = cc
fresh mode workers turns None groups stats trace (Seed n) (Some items) h = refl
fresh mode workers turns (Some old) groups stats trace (Seed n) (Some items) h = cc
fresh mode workers turns seed None stats trace (Groups n) (Some items) h = refl
fresh mode workers turns seed (Some old) stats trace (Groups n) (Some items) h = cc
fresh mode workers turns seed groups false trace Stats (Some items) h = refl
fresh mode workers turns seed groups true trace Stats (Some items) h = cc
fresh mode workers turns seed groups stats false Trace (Some items) h = refl
fresh mode workers turns seed groups stats true Trace (Some items) h = cc

again : (mode : Option Job) (workers turns seed groups : Option ℕ) (stats trace : Bool) (item : Item) (more : Option (List Item)) →
    has (given_of mode workers turns seed groups stats trace) item ≡ true → settings_after (given_of mode workers turns seed groups stats trace) (before (Some item) more) ≡ bad
again mode workers turns seed groups stats trace item None h = refl
again (Some old) workers turns seed groups stats trace (Mode job) (Some items) h = refl
again None workers turns seed groups stats trace (Mode job) (Some items) h = cc
again mode (Some old) turns seed groups stats trace (Workers n) (Some items) h = let s : Said = said_with (given_of mode (Some old) turns seed groups stats trace) (said_by ((Workers n) ∷ items)) in unfit s.modes s (λ job. refl)
again mode None turns seed groups stats trace (Workers n) (Some items) h = cc
again mode workers (Some old) seed groups stats trace (Turns n) (Some items) h = let s : Said = said_with (given_of mode workers (Some old) seed groups stats trace) (said_by ((Turns n) ∷ items)) in unfit s.modes s (λ job. and-false (may_stand (has_workers job) s.workers))
again mode workers None seed groups stats trace (Turns n) (Some items) h = cc
again mode workers turns (Some old) groups stats trace (Seed n) (Some items) h = let s : Said = said_with (given_of mode workers turns (Some old) groups stats trace) (said_by ((Seed n) ∷ items)) in unfit s.modes s (λ job. third (may_stand (has_workers job) s.workers) (may_stand true s.turns))
again mode workers turns None groups stats trace (Seed n) (Some items) h = cc
again mode workers turns seed (Some old) stats trace (Groups n) (Some items) h = let s : Said = said_with (given_of mode workers turns seed (Some old) stats trace) (said_by ((Groups n) ∷ items)) in unfit s.modes s (λ job. fourth (may_stand (has_workers job) s.workers) (may_stand true s.turns) (must_stand (is_selftest job) s.seeds))
again mode workers turns seed None stats trace (Groups n) (Some items) h = cc
again mode workers turns seed groups true trace Stats (Some items) h = let s : Said = said_with (given_of mode workers turns seed groups true trace) (said_by (Stats ∷ items)) in unfit s.modes s (λ job. fifth (may_stand (has_workers job) s.workers) (may_stand true s.turns) (must_stand (is_selftest job) s.seeds) (must_stand (is_selftest job) s.groups))
again mode workers turns seed groups false trace Stats (Some items) h = cc
again mode workers turns seed groups stats true Trace (Some items) h = let s : Said = said_with (given_of mode workers turns seed groups stats true) (said_by (Trace ∷ items)) in unfit s.modes s (λ job. sixth (may_stand (has_workers job) s.workers) (may_stand true s.turns) (must_stand (is_selftest job) s.seeds) (must_stand (is_selftest job) s.groups) (may_stand (runs_source job) s.stats))
again mode workers turns seed groups stats false Trace (Some items) h = cc

abbrev bad_given : Result Given BadWords
bad_given = Err (record {})

-- an item that is taken changes nothing of what the words say
pub took : (given next : Given) (item : Option Item) → taken given item ≡ Ok next → (more : Option (List Item)) → settings_after given (before item more) ≡ settings_after next more
took given next None e more = cc
took given next (Some item) e more =
    let turn : (t : Bool) → has given item ≡ t → settings_after given (before (Some item) more) ≡ settings_after next more = λ t. elim t as (λ t. has given item ≡ t → settings_after given (before (Some item) more) ≡ settings_after next more) [
      | true ↦ λ h. let none : bad_given ≡ Ok next = sym (ap (λ t. if t then Err (record {}) else Ok (with_item given item)) h) ∙ e in cc
      | false ↦ λ h. let same : Ok (with_item given item) ≡ Ok next = sym (ap (λ t. if t then Err (record {}) else Ok (with_item given item)) h) ∙ e in
          fresh given.mode given.workers given.turns given.seed given.groups given.stats given.trace item more h ∙ ap (λ g. settings_after g more) (let k : with_item given item ≡ next = cc in k)
    ] in
    turn (has given item) refl

-- and with one that is not taken the words say nothing
pub refused : (given : Given) (e : BadWords) (item : Option Item) → taken given item ≡ Err e → (more : Option (List Item)) → settings_after given (before item more) ≡ Err (record {})
refused given e None h more = refl
refused given e (Some item) h more =
    let turn : (t : Bool) → has given item ≡ t → settings_after given (before (Some item) more) ≡ Err (record {}) = λ t. elim t as (λ t. has given item ≡ t → settings_after given (before (Some item) more) ≡ Err (record {})) [
      | true ↦ λ k. again given.mode given.workers given.turns given.seed given.groups given.stats given.trace item more k
      | false ↦ λ k. let none : Ok (with_item given item) ≡ Err e = sym (ap (λ t. if t then Err (record {}) else Ok (with_item given item)) k) ∙ h in cc
    ] in
    turn (has given item) refl

-- ---- the words from the front

abbrev nothing : Given
nothing = record { mode = None; workers = None; turns = None; seed = None; groups = None; stats = false; trace = false }

of_items : (items : Option (List Item)) → settings_of items ≡ settings_after nothing items
of_items None = refl
of_items (Some items) = refl

pub at_first : (words : List (List ℕ)) → words_of words ≡ settings_after nothing (items_of words)
unfolding words_of
at_first words = of_items (items_of words)

pub at_last : (given : Given) → settings_after given (items_of []) ≡ settings_after given (Some [])
unfolding items_of
at_last given = refl

pub two : (word second : List ℕ) (behind : List (List ℕ)) (option : Numbered) → numbered_option word ≡ Some option → items_of (word ∷ second ∷ behind) ≡ before (with_number option second) (items_of behind)
unfolding items_of
two word second behind option e = ap (λ o. two_words o word second (items_of behind) (items_of (second ∷ behind))) e

pub one : (word : List ℕ) (after : List (List ℕ)) → numbered_option word ≡ None → items_of (word ∷ after) ≡ before (one_word word) (items_of after)
unfolding items_of
one word [] e = ap (λ o. last_word o word) e
one word (second ∷ behind) e = ap (λ o. two_words o word second (items_of behind) (items_of (second ∷ behind))) e

pub missing : (word : List ℕ) (option : Numbered) → numbered_option word ≡ Some option → items_of (word ∷ []) ≡ None
unfolding items_of
missing word option e = ap (λ o. last_word o word) e

-- ---- one turn of the reading, of words that say this

module _ (all : Result Settings BadWords) (given : Given) (rest : List (List ℕ)) (so_far : all ≡ settings_after given (items_of rest)) where
  pub two_taken : (next : Given) (word second : List ℕ) (behind : List (List ℕ)) (option : Numbered) (item : Option Item) → rest ≡ word ∷ second ∷ behind → numbered_option word ≡ Some option → item ≡ with_number option second → taken given item ≡ Ok next →
      all ≡ settings_after next (items_of behind)
  two_taken next word second behind option item er eo ei et =
      so_far ∙ ap (λ r. settings_after given (items_of r)) er ∙ ap (settings_after given) (two word second behind option eo)
      ∙ took given next (with_number option second) (ap (taken given) (sym ei) ∙ et) (items_of behind)

  pub two_refused : (e : BadWords) (word second : List ℕ) (behind : List (List ℕ)) (option : Numbered) (item : Option Item) → rest ≡ word ∷ second ∷ behind → numbered_option word ≡ Some option → item ≡ with_number option second → taken given item ≡ Err e →
      all ≡ Err (record {})
  two_refused e word second behind option item er eo ei et =
      so_far ∙ ap (λ r. settings_after given (items_of r)) er ∙ ap (settings_after given) (two word second behind option eo)
      ∙ refused given e (with_number option second) (ap (taken given) (sym ei) ∙ et) (items_of behind)

  pub one_taken : (next : Given) (word : List ℕ) (after : List (List ℕ)) (item : Option Item) → rest ≡ word ∷ after → numbered_option word ≡ None → item ≡ one_word word → taken given item ≡ Ok next → all ≡ settings_after next (items_of after)
  one_taken next word after item er eo ei et =
      so_far ∙ ap (λ r. settings_after given (items_of r)) er ∙ ap (settings_after given) (one word after eo)
      ∙ took given next (one_word word) (ap (taken given) (sym ei) ∙ et) (items_of after)

  pub one_refused : (e : BadWords) (word : List ℕ) (after : List (List ℕ)) (item : Option Item) → rest ≡ word ∷ after → numbered_option word ≡ None → item ≡ one_word word → taken given item ≡ Err e → all ≡ Err (record {})
  one_refused e word after item er eo ei et =
      so_far ∙ ap (λ r. settings_after given (items_of r)) er ∙ ap (settings_after given) (one word after eo)
      ∙ refused given e (one_word word) (ap (taken given) (sym ei) ∙ et) (items_of after)

  pub number_missing : (word : List ℕ) (option : Numbered) → rest ≡ word ∷ [] → numbered_option word ≡ Some option → all ≡ Err (record {})
  number_missing word option er eo = so_far ∙ ap (λ r. settings_after given (items_of r)) er ∙ ap (settings_after given) (missing word option eo)

  pub no_more : rest ≡ [] → all ≡ settings_after given (Some [])
  no_more er = so_far ∙ ap (λ r. settings_after given (items_of r)) er ∙ at_last given
