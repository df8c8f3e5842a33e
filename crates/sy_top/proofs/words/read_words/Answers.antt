use Rattle.std.proofs.Common.{◌≡◌, ℕ, [], ◌∷◌, List, length, map, string_bytes, Some, Ok, Err, refl, sym, ap, ◌∙◌, arith}
use Rattle.std.specs.Prelude.{MatchResult, Result}
use Rattle.std.specs.Result.{IsErr}
use Rattle.sy_top.specs.declared.words.BadWords.{BadWords}
use Rattle.sy_top.specs.declared.words.Given.{Given}
use Rattle.sy_top.specs.Words.{words_of, settings_after, numbered_option, one_word, with_number}
use Rattle.sy_top.proofs.Items.{at_first, two_taken, two_refused, one_taken, one_refused, number_missing, no_more}
use Rattle.sy_top.proofs.words.read_words.Goals as goal

abbrev Reads : List (List ℕ) → Result Given BadWords → Type 0
Reads words r = MatchResult r (λ given. words_of words ≡ settings_after given (Some [])) (λ e. words_of words ≡ Err (record {}))

refuses : (words : List (List ℕ)) (r : Result Given BadWords) → IsErr r → words_of words ≡ Err (record {}) → Reads words r
refuses words (Ok given) h e = cc
refuses words (Err b) h e = e

none_left : {X : Type 0} (xs : List X) → length xs ≡ 0 → xs ≡ []
none_left [] h = refl
none_left (x ∷ xs) h = absurd (omega arith)

pub loop-first-init : goal.loop-first-init
loop-first-init c = at_first (map string_bytes c.args.words.now)

pub returns-in_default-split_first : goal.returns-in_default-split_first
returns-in_default-split_first c =
    let l = c.loop-first in
    number_missing (words_of (map string_bytes c.args.words.now)) l.given (map string_bytes l.rest.now) l.invariant
    (string_bytes c.in-Some.first.now) c.in-Some-numbered_option.option
    (ap (map string_bytes) c.in-Some.ensures.cases.0 ∙ ap (λ xs. string_bytes c.in-Some.first.now ∷ map string_bytes xs) (none_left c.in-Some.after.now c.in_default-split_first.ensures.cases))
    (ap numbered_option (sym c.as_bytes-word.ensures.value) ∙ sym c.numbered_option.ensures ∙ c.in-Some-numbered_option.is)

pub returns-in_err-given-in-Some-numbered_option : goal.returns-in_err-given-in-Some-numbered_option
returns-in_err-given-in-Some-numbered_option c =
    let l = c.loop-first in
    refuses (map string_bytes c.args.words.now) c.from_residual.result c.from_residual.ensures.0
    (two_refused (words_of (map string_bytes c.args.words.now)) l.given (map string_bytes l.rest.now) l.invariant
    c.in_err-given-in-Some-numbered_option.field-0.0 (string_bytes c.in-Some.first.now) (string_bytes c.in-Some-split_first.second.now) (map string_bytes c.in-Some-split_first.behind.now) c.in-Some-numbered_option.option c.with_number.result
    (ap (map string_bytes) c.in-Some.ensures.cases.0 ∙ ap (λ xs. string_bytes c.in-Some.first.now ∷ map string_bytes xs) c.in-Some-split_first.ensures.cases.0)
    (ap numbered_option (sym c.as_bytes-word.ensures.value) ∙ sym c.numbered_option.ensures ∙ c.in-Some-numbered_option.is)
    (c.with_number.ensures ∙ ap (with_number c.in-Some-numbered_option.option) c.as_bytes.ensures.value)
    (sym c.taken.ensures ∙ c.in_err-given-in-Some-numbered_option.was))

pub loop-first-preserved-in-Some-numbered_option : goal.loop-first-preserved-in-Some-numbered_option
loop-first-preserved-in-Some-numbered_option c =
    let l = c.loop-first in
    two_taken (words_of (map string_bytes c.args.words.now)) l.given (map string_bytes l.rest.now) l.invariant
    c.in_ok-given-in-Some-numbered_option.given (string_bytes c.in-Some.first.now) (string_bytes c.in-Some-split_first.second.now) (map string_bytes c.in-Some-split_first.behind.now) c.in-Some-numbered_option.option c.with_number.result
    (ap (map string_bytes) c.in-Some.ensures.cases.0 ∙ ap (λ xs. string_bytes c.in-Some.first.now ∷ map string_bytes xs) c.in-Some-split_first.ensures.cases.0)
    (ap numbered_option (sym c.as_bytes-word.ensures.value) ∙ sym c.numbered_option.ensures ∙ c.in-Some-numbered_option.is)
    (c.with_number.ensures ∙ ap (with_number c.in-Some-numbered_option.option) c.as_bytes.ensures.value)
    (sym c.taken.ensures ∙ c.in_ok-given-in-Some-numbered_option.was)

pub returns-in_err-given-in-None : goal.returns-in_err-given-in-None
returns-in_err-given-in-None c =
    let l = c.loop-first in
    refuses (map string_bytes c.args.words.now) c.from_residual-in_err-given-in-None.result c.from_residual-in_err-given-in-None.ensures.0
    (one_refused (words_of (map string_bytes c.args.words.now)) l.given (map string_bytes l.rest.now) l.invariant
    c.in_err-given-in-None.field-0.0 (string_bytes c.in-Some.first.now) (map string_bytes c.in-Some.after.now) c.one_word.result
    (ap (map string_bytes) c.in-Some.ensures.cases.0)
    (ap numbered_option (sym c.as_bytes-word.ensures.value) ∙ sym c.numbered_option.ensures ∙ c.in-None.is)
    (c.one_word.ensures ∙ ap one_word c.as_bytes-word.ensures.value)
    (sym c.taken-in-None.ensures ∙ c.in_err-given-in-None.was))

pub loop-first-preserved : goal.loop-first-preserved
loop-first-preserved c =
    let l = c.loop-first in
    one_taken (words_of (map string_bytes c.args.words.now)) l.given (map string_bytes l.rest.now) l.invariant
    c.in_ok-given-in-None.given (string_bytes c.in-Some.first.now) (map string_bytes c.in-Some.after.now) c.one_word.result
    (ap (map string_bytes) c.in-Some.ensures.cases.0)
    (ap numbered_option (sym c.as_bytes-word.ensures.value) ∙ sym c.numbered_option.ensures ∙ c.in-None.is)
    (c.one_word.ensures ∙ ap one_word c.as_bytes-word.ensures.value)
    (sym c.taken-in-None.ensures ∙ c.in_ok-given-in-None.was)

pub returns : goal.returns
returns c =
    let l = c.loop-first in
    no_more (words_of (map string_bytes c.args.words.now)) l.given (map string_bytes l.rest.now) l.invariant (ap (map string_bytes) (none_left l.rest.now c.in_default.ensures.cases))
