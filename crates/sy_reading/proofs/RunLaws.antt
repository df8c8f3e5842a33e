-- Each run of tokens that is an expression or a block is what is read there.
use Rattle.std.proofs.Common.{◌≡◌, ℕ, zero, suc, ◌<◌, Bool, true, false, ◌&&◌, ◌||◌, List, [], ◌∷◌, drop, refl, ap, ◌∙◌, arith}
use Rattle.std.proofs.lemmas.Slice.Eq.{bytes_eq-Decides}
use Rattle.std.specs.List.{list_any}
use Rattle.std.specs.Str.{bytes_eq}
use Rattle.sy_lex.specs.declared.Row.TheVariants as row
use Rattle.sy_lex.specs.declared.Token.{Token}
use Rattle.sy_tree.specs.Qualification.{same_row}
use Rattle.sy_tree.specs.Units.{ends, enders}
use Rattle.sy_reading.specs.Exprs.{binds, binds_by}
use Rattle.sy_reading.specs.Input.{mark_text}
use Rattle.sy_reading.specs.Laws.{RunsAreRead, BlocksAreRead}
use Rattle.sy_reading.specs.Reading.{readers}
use Rattle.sy_reading.specs.Tables.{operator_of, arithmetic_of, comparison_of, bitwise_of, logical_of}
use Rattle.sy_reading.proofs.StepLemmas.{and_both}
use Rattle.sy_reading.proofs.ExprReadLemmas.{block_read}
use Rattle.sy_reading.proofs.CompleteLaws.{completes}

is_zero : ℕ → Bool
is_zero zero = true
is_zero (suc n) = false

zero_is : (n : ℕ) → is_zero n ≡ true → n ≡ 0
unfolding is_zero
zero_is zero h = refl
zero_is (suc n) h = absurd cc

-- whether none of these marks goes on with an expression
none_binds : List (List ℕ) → Bool
none_binds [] = true
none_binds (x ∷ more) = is_zero (binds_by x) && none_binds more

one_step : (x : List ℕ) (more : List (List ℕ)) (text : List ℕ) → binds_by x ≡ 0 → (list_any (bytes_eq text) more ≡ true → binds_by text ≡ 0) →
    (b : Bool) → bytes_eq text x ≡ b → (b || list_any (bytes_eq text) more) ≡ true → binds_by text ≡ 0
one_step x more text e f true is h = ap binds_by ((bytes_eq-Decides text x).0 is) ∙ e
one_step x more text e f false is h = f h

one_binds : (texts : List (List ℕ)) (text : List ℕ) → none_binds texts ≡ true → list_any (bytes_eq text) texts ≡ true → binds_by text ≡ 0
unfolding none_binds
one_binds [] text all h = absurd cc
one_binds (x ∷ more) text all h =
    let k = and_both (is_zero (binds_by x)) (none_binds more) all in
    one_step x more text (zero_is (binds_by x) k.0) (λ g. one_binds more text k.1 g) (bytes_eq text x) refl h

enders_bind : none_binds enders ≡ true
unfolding none_binds is_zero binds_by operator_of arithmetic_of comparison_of bitwise_of logical_of
enders_bind = refl

ends_binds : (ts : List Token) → ends ts ≡ true → binds ts < 1
unfolding binds mark_text
ends_binds [] h = absurd cc
ends_binds (t ∷ ts) h =
    let k = and_both (same_row t.word.row row.Mark) (list_any (bytes_eq t.word.text) enders) h in
    let none = one_binds enders t.word.text enders_bind k.1 in
    rw k.0 (omega (arith, none))

pub runs_are_read : RunsAreRead
runs_are_read tokens at x end run =
    let c = (completes 64 (omega arith)).0 64 1 x (drop at tokens) (drop end tokens) (omega arith) (omega arith) run.derived (ends_binds (drop end tokens) run.ended) in
    (c.0, c.2)

pub blocks_are_read : BlocksAreRead
blocks_are_read tokens at b end block =
    let whole = completes 64 (omega arith) in
    let c = block_read (readers 64).0 (readers 64).1 63 (omega arith) (λ m x from rest le d. whole.1 m x from rest (omega (arith, le)) d) 64 (omega arith) b (drop at tokens) (drop end tokens) block.derived in
    (c.0, c.2)
