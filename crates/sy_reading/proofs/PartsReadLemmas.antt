-- Types and parts that stand there are read.
use Prim.Native.String.{String}
use Rattle.std.proofs.Common.{◌≡◌, ℕ, suc, ◌≤◌, Bool, true, false, cond, ◌&&◌, List, [], ◌∷◌, length, inl, inr, Option, Some, None, refl, sym, ap, ◌∙◌, arith, codes}
use Rattle.std.specs.Str.{bytes_eq}
use Rattle.sy_lex.specs.declared.Row.TheVariants as row
use Rattle.sy_lex.specs.declared.Token.{Token}
use Rattle.sy_lex.specs.declared.Word.{Word}
use Rattle.sy_note.specs.declared.Spot.{Spot}
use Rattle.sy_num.specs.declared.Kind.{Kind}
use Rattle.sy_num.specs.declared.Kind.TheVariants as kind
use Rattle.sy_tree.specs.declared.parts.Brackets.{Brackets}
use Rattle.sy_tree.specs.declared.parts.Brackets.TheVariants as brackets
use Rattle.sy_tree.specs.declared.parts.Capture.{Capture}
use Rattle.sy_tree.specs.declared.parts.Capture.TheVariants as capture
use Rattle.sy_tree.specs.declared.parts.ConstSpecifier.{ConstSpecifier}
use Rattle.sy_tree.specs.declared.parts.ConstSpecifier.TheVariants as const
use Rattle.sy_tree.specs.declared.parts.ElementArguments.{ElementArguments}
use Rattle.sy_tree.specs.declared.parts.IntegerType.{IntegerType}
use Rattle.sy_tree.specs.declared.parts.LambdaParameter.{LambdaParameter}
use Rattle.sy_tree.specs.declared.parts.LambdaParameterType.{LambdaParameterType}
use Rattle.sy_tree.specs.declared.parts.LambdaParameterType.TheVariants as parameter
use Rattle.sy_tree.specs.declared.parts.Lexeme.{Lexeme}
use Rattle.sy_tree.specs.declared.parts.ObjectType.{ObjectType}
use Rattle.sy_tree.specs.declared.parts.ObjectType.TheVariants as object
use Rattle.sy_tree.specs.declared.parts.Qualified.{Qualified}
use Rattle.sy_tree.specs.declared.parts.TemplateArgument.{TemplateArgument}
use Rattle.sy_tree.specs.declared.parts.TemplateArgument.TheVariants as template
use Rattle.sy_tree.specs.declared.parts.TypeSpecifier.{TypeSpecifier}
use Rattle.sy_tree.specs.declared.parts.TypeSpecifier.TheVariants as specifier
use Rattle.sy_tree.specs.Lists.{Maybe, Optional, MaybeListed}
use Rattle.sy_tree.specs.Types.{Integral, OneWordIntegral, TypeSpecified, ConstSpecified, Dimensions, CommaDimensions, Elements, Object, Captured, LambdaParameterTyped, OneLambdaParameter, LambdaParameters, OneTemplateArgument, TemplateArguments}
use Rattle.sy_tree.specs.Words.{At, Sees, Lexed, Sycl, takes_template_argument, identifier, Spelled, SpelledAs, spellings, mark, keyword, opening, closing}
use Rattle.sy_reading.specs.Input.{next, is_word, sees, sees_row, sees_namespace, expect_name, maybe_comma_list}
use Rattle.sy_reading.specs.Parts as r
use Rattle.sy_reading.specs.Tables.{fixed_width_of, keyword_of, one_word_of, plain_object_of}
use Rattle.sy_reading.proofs.StepLemmas.{word, and_both, is_that}
use Rattle.sy_reading.proofs.ReadStepLemmas.{sees_at, next_at, expect_at, sees_other, row_at, no_row, expect_row_at, after_none, after_at, maybe_sees, maybe_after, expect_name_at, within_at, at_length, ReadsAs, maybe_comma_list_read}

-- ---- brackets

pub expect_open_read : (b : Brackets) (s : Spot) (from rest : List Token) → At (mark (opening b)) s from rest → r.expect_open from ≡ Some ((b, s), rest)
unfolding r.expect_open mark
expect_open_read brackets.Parentheses s from rest h = rw (sees_at row.Mark (codes "(") h, expect_at row.Mark (codes "(") h) refl
expect_open_read brackets.Braces s from rest h = rw (sees_other row.Mark (codes "(") h refl, expect_at row.Mark (codes "{") h) refl

pub expect_close_read : (b : Brackets) (e : Spot) (from rest : List Token) → At (mark (closing b)) e from rest → r.expect_close b from ≡ Some (e, rest)
unfolding r.expect_close mark
expect_close_read brackets.Parentheses e from rest h = expect_at row.Mark (codes ")") h
expect_close_read brackets.Braces e from rest h = expect_at row.Mark (codes "}") h

pub empty_brackets_read : (b : Brackets) (s e : Spot) (from u rest : List Token) → At (mark (opening b)) s from u → At (mark (closing b)) e u rest →
    r.empty_brackets from ≡ Some ((b, e), rest)
unfolding r.empty_brackets
empty_brackets_read b s e from u rest h g = rw (expect_open_read b s from u h, expect_close_read b e u rest g) refl

-- ---- integer types: what follows one is no reserved word

abbrev pub NoWord : List Token → Type 0
NoWord rest = sees_row row.Reserved rest ≡ false

int_at : (k : Kind) {from rest : List Token} → Sees (keyword "int") from rest → r.eat_int k from ≡ Some (k, rest)
unfolding keyword
int_at k h = rw (after_at row.Reserved (codes "int") h.1) refl

no_int : (k : Kind) {rest : List Token} → NoWord rest → r.eat_int k rest ≡ Some (k, rest)
no_int k {rest} e = rw (after_none row.Reserved (codes "int") rest (no_row row.Reserved (codes "int") rest e)) refl

-- the word after the first, where it isn't that one
other_word : (text : List ℕ) (w : String) {s : Spot} {from rest : List Token} → At (keyword w) s from rest → bytes_eq (codes w) text ≡ false → sees row.Reserved text from ≡ false
unfolding keyword
other_word text w h e = sees_other row.Reserved text h e

module _ (once twice : Kind) where
  long_none : {rest : List Token} → NoWord rest → r.long_kind once twice rest ≡ Some (once, rest)
  unfolding r.long_kind
  long_none {rest} e =
      let no = no_row row.Reserved (codes "long") rest e in
      rw (no, after_none row.Reserved (codes "long") rest no) (no_int once e)

  long_int : {from rest : List Token} → Sees (keyword "int") from rest → r.long_kind once twice from ≡ Some (once, rest)
  unfolding r.long_kind
  long_int {from} h =
      let no = other_word (codes "long") "int" h.1 refl in
      rw (no, after_none row.Reserved (codes "long") from no) (int_at once h)

  long_long : {from rest : List Token} → Sees (keyword "long") from rest → NoWord rest → r.long_kind once twice from ≡ Some (twice, rest)
  unfolding r.long_kind keyword
  long_long h e = rw (sees_at row.Reserved (codes "long") h.1, after_at row.Reserved (codes "long") h.1) (no_int twice e)

  long_long_int : {from m rest : List Token} → Sees (keyword "long") from m → Sees (keyword "int") m rest → r.long_kind once twice from ≡ Some (twice, rest)
  unfolding r.long_kind keyword
  long_long_int h g = rw (sees_at row.Reserved (codes "long") h.1, after_at row.Reserved (codes "long") h.1) (int_at twice g)

signed_int : {from rest : List Token} → Sees (keyword "int") from rest → r.signed_kind from ≡ Some (kind.Int, rest)
unfolding r.signed_kind
signed_int {from} h =
    let no = other_word (codes "char") "int" h.1 refl in
    rw (no, after_none row.Reserved (codes "char") from no) (int_at kind.Int h)

signed_none : {rest : List Token} → NoWord rest → r.signed_kind rest ≡ Some (kind.Int, rest)
unfolding r.signed_kind
signed_none {rest} e =
    let no = no_row row.Reserved (codes "char") rest e in
    rw (no, after_none row.Reserved (codes "char") rest no) (no_int kind.Int e)

signed_char : {from rest : List Token} → Sees (keyword "char") from rest → r.signed_kind from ≡ Some (kind.SChar, rest)
unfolding r.signed_kind keyword
signed_char h = rw (sees_at row.Reserved (codes "char") h.1, after_at row.Reserved (codes "char") h.1) refl

unsigned_char : {from rest : List Token} → Sees (keyword "char") from rest → r.unsigned_kind from ≡ Some (kind.UChar, rest)
unfolding r.unsigned_kind keyword
unsigned_char h = rw (sees_at row.Reserved (codes "char") h.1, after_at row.Reserved (codes "char") h.1) refl

unsigned_long : (k : Kind) {from m rest : List Token} → Sees (keyword "long") from m → r.long_kind kind.ULong kind.ULLong m ≡ Some (k, rest) → r.unsigned_kind from ≡ Some (k, rest)
unfolding r.unsigned_kind keyword
unsigned_long k {from} h e =
    let no = sees_other row.Reserved (codes "char") h.1 refl in
    rw (no, after_none row.Reserved (codes "char") from no, sees_at row.Reserved (codes "long") h.1, after_at row.Reserved (codes "long") h.1) e

unsigned_short : {from m rest : List Token} → Sees (keyword "short") from m → r.eat_int kind.UShort m ≡ Some (kind.UShort, rest) → r.unsigned_kind from ≡ Some (kind.UShort, rest)
unfolding r.unsigned_kind keyword
unsigned_short {from} h e =
    let no = sees_other row.Reserved (codes "char") h.1 refl in
    let no_long = sees_other row.Reserved (codes "long") h.1 refl in
    rw (no, after_none row.Reserved (codes "char") from no, no_long, after_none row.Reserved (codes "long") from no_long, sees_at row.Reserved (codes "short") h.1, after_at row.Reserved (codes "short") h.1) e

unsigned_int : (from rest : List Token) → sees row.Reserved (codes "char") from ≡ false → sees row.Reserved (codes "long") from ≡ false → sees row.Reserved (codes "short") from ≡ false →
    r.eat_int kind.UInt from ≡ Some (kind.UInt, rest) → r.unsigned_kind from ≡ Some (kind.UInt, rest)
unfolding r.unsigned_kind
unsigned_int from rest a b c e =
    rw (a, after_none row.Reserved (codes "char") from a, b, after_none row.Reserved (codes "long") from b, c, after_none row.Reserved (codes "short") from c) e

module _ (s : Spot) (from rest : List Token) (ends : NoWord rest) where
  begun : (w : String) (k : Kind) (m : List Token) → At (keyword w) s from m → r.kind_by (codes w) m ≡ Some (k, rest) → r.integral from ≡ Some (record { spot = s; kind = k }, rest)
  unfolding r.integral keyword
  begun w k m h e = rw (expect_row_at row.Reserved (record { spot = s; text = codes w }) h, e) refl

  kind_read : (k : Kind) → SpelledAs (spellings k) s from rest → r.integral from ≡ Some (record { spot = s; kind = k }, rest)
  unfolding r.kind_by one_word_of keyword_of fixed_width_of
  kind_read kind.Bool (inl h) = begun "bool" kind.Bool rest h refl
  kind_read kind.Bool (inr h) = absurd h
  kind_read kind.Char (inl h) = begun "char" kind.Char rest h refl
  kind_read kind.Char (inr h) = absurd h
  kind_read kind.SChar (inl h) = begun "signed" kind.SChar h.0 h.2 (signed_char (h.1, h.3))
  kind_read kind.SChar (inr (inl h)) = begun "int8_t" kind.SChar rest h refl
  kind_read kind.SChar (inr (inr h)) = absurd h
  kind_read kind.UChar (inl h) = begun "unsigned" kind.UChar h.0 h.2 (unsigned_char (h.1, h.3))
  kind_read kind.UChar (inr (inl h)) = begun "uint8_t" kind.UChar rest h refl
  kind_read kind.UChar (inr (inr h)) = absurd h
  kind_read kind.Short (inl h) = begun "short" kind.Short rest h (no_int kind.Short ends)
  kind_read kind.Short (inr (inl h)) = begun "short" kind.Short h.0 h.2 (int_at kind.Short (h.1, h.3))
  kind_read kind.Short (inr (inr (inl h))) = begun "int16_t" kind.Short rest h refl
  kind_read kind.Short (inr (inr (inr h))) = absurd h
  kind_read kind.UShort (inl h) = begun "unsigned" kind.UShort h.0 h.2 (unsigned_short (h.1, h.3) (no_int kind.UShort ends))
  kind_read kind.UShort (inr (inl h)) = begun "unsigned" kind.UShort h.0 h.2 (unsigned_short (h.1, h.3.2) (int_at kind.UShort (h.3.1, h.3.3)))
  kind_read kind.UShort (inr (inr (inl h))) = begun "uint16_t" kind.UShort rest h refl
  kind_read kind.UShort (inr (inr (inr h))) = absurd h
  kind_read kind.Int (inl h) = begun "int" kind.Int rest h refl
  kind_read kind.Int (inr (inl h)) = begun "signed" kind.Int rest h (signed_none ends)
  kind_read kind.Int (inr (inr (inl h))) = begun "signed" kind.Int h.0 h.2 (signed_int (h.1, h.3))
  kind_read kind.Int (inr (inr (inr (inl h)))) = begun "int32_t" kind.Int rest h refl
  kind_read kind.Int (inr (inr (inr (inr h)))) = absurd h
  kind_read kind.UInt (inl h) =
      begun "unsigned" kind.UInt rest h (unsigned_int rest rest (no_row row.Reserved (codes "char") rest ends) (no_row row.Reserved (codes "long") rest ends)
      (no_row row.Reserved (codes "short") rest ends) (no_int kind.UInt ends))
  kind_read kind.UInt (inr (inl h)) =
      begun "unsigned" kind.UInt h.0 h.2 (unsigned_int h.0 rest (other_word (codes "char") "int" h.3 refl) (other_word (codes "long") "int" h.3 refl)
      (other_word (codes "short") "int" h.3 refl) (int_at kind.UInt (h.1, h.3)))
  kind_read kind.UInt (inr (inr (inl h))) = begun "uint32_t" kind.UInt rest h refl
  kind_read kind.UInt (inr (inr (inr h))) = absurd h
  kind_read kind.Long (inl h) = begun "long" kind.Long rest h (long_none kind.Long kind.LLong ends)
  kind_read kind.Long (inr (inl h)) = begun "long" kind.Long h.0 h.2 (long_int kind.Long kind.LLong (h.1, h.3))
  kind_read kind.Long (inr (inr (inl h))) = begun "int64_t" kind.Long rest h refl
  kind_read kind.Long (inr (inr (inr h))) = absurd h
  kind_read kind.ULong (inl h) = begun "unsigned" kind.ULong h.0 h.2 (unsigned_long kind.ULong (h.1, h.3) (long_none kind.ULong kind.ULLong ends))
  kind_read kind.ULong (inr (inl h)) = begun "unsigned" kind.ULong h.0 h.2 (unsigned_long kind.ULong (h.1, h.3.2) (long_int kind.ULong kind.ULLong (h.3.1, h.3.3)))
  kind_read kind.ULong (inr (inr (inl h))) = begun "size_t" kind.ULong rest h refl
  kind_read kind.ULong (inr (inr (inr (inl h)))) = begun "uint64_t" kind.ULong rest h refl
  kind_read kind.ULong (inr (inr (inr (inr h)))) = absurd h
  kind_read kind.LLong (inl h) = begun "long" kind.LLong h.0 h.2 (long_long kind.Long kind.LLong (h.1, h.3) ends)
  kind_read kind.LLong (inr (inl h)) = begun "long" kind.LLong h.0 h.2 (long_long_int kind.Long kind.LLong (h.1, h.3.2) (h.3.1, h.3.3))
  kind_read kind.LLong (inr (inr h)) = absurd h
  kind_read kind.ULLong (inl h) = begun "unsigned" kind.ULLong h.0 h.2 (unsigned_long kind.ULLong (h.1, h.3.2) (long_long kind.ULong kind.ULLong (h.3.1, h.3.3) ends))
  kind_read kind.ULLong (inr (inl h)) = begun "unsigned" kind.ULLong h.0 h.2 (unsigned_long kind.ULLong (h.1, h.3.2) (long_long_int kind.ULong kind.ULLong (h.3.1, h.3.3.2) (h.3.3.1, h.3.3.3)))
  kind_read kind.ULLong (inr (inr h)) = absurd h

pub integral_read : (t : IntegerType) (from rest : List Token) → NoWord rest → Integral t from rest → r.integral from ≡ Some (t, rest)
integral_read t from rest e h = kind_read t.spot from rest e t.kind h

-- ---- whether a type begins, and what stands behind its first word

typed : (w : String) {s : Spot} {from rest : List Token} → At (keyword w) s from rest → r.is_some (one_word_of (codes w)) ≡ true → r.sees_type from ≡ true
unfolding r.sees_type sees_row keyword
typed w h e = rw (h.2, e) refl

spelled_type : (w : String) (more : List String) (s : Spot) (from rest : List Token) → Spelled (w ∷ more) s from rest → r.is_some (one_word_of (codes w)) ≡ true → r.sees_type from ≡ true
spelled_type w [] s from rest h e = typed w h e
spelled_type w (v ∷ more) s from rest h e = typed w h.2 e

-- whether each of the ways begins so
ways_type : List (List String) → Bool
ways_type [] = true
ways_type ([] ∷ others) = ways_type others
ways_type ((w ∷ more) ∷ others) = r.is_some (one_word_of (codes w)) && ways_type others

spelled_as_type : (ways : List (List String)) (s : Spot) (from rest : List Token) → ways_type ways ≡ true → SpelledAs ways s from rest → r.sees_type from ≡ true
unfolding ways_type
spelled_as_type [] s from rest e h = absurd h
spelled_as_type ([] ∷ others) s from rest e (inl h) = absurd h
spelled_as_type ([] ∷ others) s from rest e (inr h) = spelled_as_type others s from rest e h
spelled_as_type ((w ∷ more) ∷ others) s from rest e (inl h) = spelled_type w more s from rest h (and_both (r.is_some (one_word_of (codes w))) _ e).0
spelled_as_type ((w ∷ more) ∷ others) s from rest e (inr h) = spelled_as_type others s from rest (and_both (r.is_some (one_word_of (codes w))) _ e).1 h

kinds_type : (k : Kind) → ways_type (spellings k) ≡ true
unfolding ways_type one_word_of keyword_of fixed_width_of
kinds_type kind.Bool = refl
kinds_type kind.Char = refl
kinds_type kind.SChar = refl
kinds_type kind.UChar = refl
kinds_type kind.Short = refl
kinds_type kind.UShort = refl
kinds_type kind.Int = refl
kinds_type kind.UInt = refl
kinds_type kind.Long = refl
kinds_type kind.ULong = refl
kinds_type kind.LLong = refl
kinds_type kind.ULLong = refl

pub integral_type : (t : IntegerType) (from rest : List Token) → Integral t from rest → r.sees_type from ≡ true
integral_type t from rest h = spelled_as_type (spellings t.kind) t.spot from rest (kinds_type t.kind) h

spelled_mark : (text : List ℕ) (words : List String) (s : Spot) (from rest : List Token) → Spelled words s from rest → sees row.Mark text from ≡ false
unfolding keyword
spelled_mark text [] s from rest h = absurd h
spelled_mark text (w ∷ []) s from rest h = sees_other row.Mark text h refl
spelled_mark text (w ∷ v ∷ more) s from rest h = sees_other row.Mark text h.2 refl

spelled_next : (text : List ℕ) (words : List String) (s : Spot) (from rest : List Token) → Spelled words s from rest → sees row.Mark text rest ≡ false →
    sees row.Mark text (next from) ≡ false
spelled_next text [] s from rest h e = absurd h
spelled_next text (w ∷ []) s from rest h e = ap (sees row.Mark text) (next_at h) ∙ e
spelled_next text (w ∷ v ∷ more) s from rest h e = ap (sees row.Mark text) (next_at h.2) ∙ spelled_mark text (v ∷ more) h.1 h.0 rest h.3

ways_next : (text : List ℕ) (ways : List (List String)) (s : Spot) (from rest : List Token) → SpelledAs ways s from rest → sees row.Mark text rest ≡ false →
    sees row.Mark text (next from) ≡ false
ways_next text [] s from rest h e = absurd h
ways_next text (w ∷ more) s from rest (inl h) e = spelled_next text w s from rest h e
ways_next text (w ∷ more) s from rest (inr h) e = ways_next text more s from rest h e

-- the mark isn't behind the first word of a type, unless it follows the type
pub integral_next : (text : List ℕ) (t : IntegerType) (from rest : List Token) → Integral t from rest → sees row.Mark text rest ≡ false → sees row.Mark text (next from) ≡ false
integral_next text t from rest h e = ways_next text (spellings t.kind) t.spot from rest h e

spelled_short : (words : List String) (s : Spot) (from rest : List Token) → Spelled words s from rest → length rest ≤ length from
spelled_short [] s from rest h = absurd h
spelled_short (w ∷ []) s from rest h = omega (arith, at_length h)
spelled_short (w ∷ v ∷ more) s from rest h = omega (arith, at_length h.2, spelled_short (v ∷ more) h.1 h.0 rest h.3)

-- a word that is no type's isn't where a type begins
pub not_type : (text : List ℕ) → one_word_of text ≡ None → (from : List Token) → r.sees_type from ≡ true → sees row.Reserved text from ≡ false
unfolding r.sees_type sees
not_type text e [] h = absurd cc
not_type text e (t ∷ ts) h = by (is_word row.Reserved text t.word) refl
  where
    by : (b : Bool) → is_word row.Reserved text t.word ≡ b → b ≡ false
    by false is = refl
    by true is =
        let w = is_that row.Reserved text t.word is in
        let none : r.is_some (one_word_of t.word.text) ≡ false = ap (λ w. r.is_some (one_word_of w.text)) w ∙ ap r.is_some e in
        let some = (and_both (sees_row row.Reserved (t ∷ ts)) _ h).1 in
        let clash : true ≡ false = sym some ∙ none in
        absurd cc

integral_auto : (t : IntegerType) (from rest : List Token) → Integral t from rest → sees row.Reserved (codes "auto") from ≡ false
unfolding one_word_of keyword_of fixed_width_of
integral_auto t from rest h = not_type (codes "auto") refl from (integral_type t from rest h)

-- a type of one token
module _ (s : Spot) (from rest : List Token) (short : length from ≡ suc (length rest)) where
  single : (w : String) (k : Kind) → At (keyword w) s from rest → one_word_of (codes w) ≡ Some k → r.one_word from ≡ Some (record { spot = s; kind = k }, rest)
  unfolding r.one_word keyword
  single w k h e = rw (expect_row_at row.Reserved (record { spot = s; text = codes w }) h, e) refl

  several : (w v : String) (more : List String) → Spelled (w ∷ v ∷ more) s from rest → ⊥
  several w v [] h = omega (arith, short, at_length h.2, at_length h.3)
  several w v (u ∷ []) h = omega (arith, short, at_length h.2, at_length h.3.2, at_length h.3.3)
  several w v (u ∷ x ∷ []) h = omega (arith, short, at_length h.2, at_length h.3.2, at_length h.3.3.2, at_length h.3.3.3)
  several w v (u ∷ x ∷ y ∷ more) h = omega (arith, short, at_length h.2, at_length h.3.2, at_length h.3.3.2, spelled_short (y ∷ more) h.3.3.3.1 h.3.3.3.0 rest h.3.3.3.3, at_length h.3.3.3.2)

  one_kind_read : (k : Kind) → SpelledAs (spellings k) s from rest → r.one_word from ≡ Some (record { spot = s; kind = k }, rest)
  unfolding one_word_of keyword_of fixed_width_of
  one_kind_read kind.Bool (inl h) = single "bool" kind.Bool h refl
  one_kind_read kind.Bool (inr h) = absurd h
  one_kind_read kind.Char (inl h) = single "char" kind.Char h refl
  one_kind_read kind.Char (inr h) = absurd h
  one_kind_read kind.SChar (inl h) = absurd (several "signed" "char" [] h)
  one_kind_read kind.SChar (inr (inl h)) = single "int8_t" kind.SChar h refl
  one_kind_read kind.SChar (inr (inr h)) = absurd h
  one_kind_read kind.UChar (inl h) = absurd (several "unsigned" "char" [] h)
  one_kind_read kind.UChar (inr (inl h)) = single "uint8_t" kind.UChar h refl
  one_kind_read kind.UChar (inr (inr h)) = absurd h
  one_kind_read kind.Short (inl h) = single "short" kind.Short h refl
  one_kind_read kind.Short (inr (inl h)) = absurd (several "short" "int" [] h)
  one_kind_read kind.Short (inr (inr (inl h))) = single "int16_t" kind.Short h refl
  one_kind_read kind.Short (inr (inr (inr h))) = absurd h
  one_kind_read kind.UShort (inl h) = absurd (several "unsigned" "short" [] h)
  one_kind_read kind.UShort (inr (inl h)) = absurd (several "unsigned" "short" ("int" ∷ []) h)
  one_kind_read kind.UShort (inr (inr (inl h))) = single "uint16_t" kind.UShort h refl
  one_kind_read kind.UShort (inr (inr (inr h))) = absurd h
  one_kind_read kind.Int (inl h) = single "int" kind.Int h refl
  one_kind_read kind.Int (inr (inl h)) = single "signed" kind.Int h refl
  one_kind_read kind.Int (inr (inr (inl h))) = absurd (several "signed" "int" [] h)
  one_kind_read kind.Int (inr (inr (inr (inl h)))) = single "int32_t" kind.Int h refl
  one_kind_read kind.Int (inr (inr (inr (inr h)))) = absurd h
  one_kind_read kind.UInt (inl h) = single "unsigned" kind.UInt h refl
  one_kind_read kind.UInt (inr (inl h)) = absurd (several "unsigned" "int" [] h)
  one_kind_read kind.UInt (inr (inr (inl h))) = single "uint32_t" kind.UInt h refl
  one_kind_read kind.UInt (inr (inr (inr h))) = absurd h
  one_kind_read kind.Long (inl h) = single "long" kind.Long h refl
  one_kind_read kind.Long (inr (inl h)) = absurd (several "long" "int" [] h)
  one_kind_read kind.Long (inr (inr (inl h))) = single "int64_t" kind.Long h refl
  one_kind_read kind.Long (inr (inr (inr h))) = absurd h
  one_kind_read kind.ULong (inl h) = absurd (several "unsigned" "long" [] h)
  one_kind_read kind.ULong (inr (inl h)) = absurd (several "unsigned" "long" ("int" ∷ []) h)
  one_kind_read kind.ULong (inr (inr (inl h))) = single "size_t" kind.ULong h refl
  one_kind_read kind.ULong (inr (inr (inr (inl h)))) = single "uint64_t" kind.ULong h refl
  one_kind_read kind.ULong (inr (inr (inr (inr h)))) = absurd h
  one_kind_read kind.LLong (inl h) = absurd (several "long" "long" [] h)
  one_kind_read kind.LLong (inr (inl h)) = absurd (several "long" "long" ("int" ∷ []) h)
  one_kind_read kind.LLong (inr (inr h)) = absurd h
  one_kind_read kind.ULLong (inl h) = absurd (several "unsigned" "long" ("long" ∷ []) h)
  one_kind_read kind.ULLong (inr (inl h)) = absurd (several "unsigned" "long" ("long" ∷ "int" ∷ []) h)
  one_kind_read kind.ULLong (inr (inr h)) = absurd h

pub one_word_read : (t : IntegerType) (from rest : List Token) → OneWordIntegral t from rest → r.one_word from ≡ Some (t, rest)
one_word_read t from rest h = one_kind_read t.spot from rest (ap length h.1.1) t.kind h.0

pub type_specifier_read : (t : TypeSpecifier) (from rest : List Token) → NoWord rest → TypeSpecified t from rest → r.type_specifier from ≡ Some (t, rest)
unfolding r.type_specifier keyword
type_specifier_read (specifier.Auto s) from rest e h = rw (sees_at row.Reserved (codes "auto") h, expect_at row.Reserved (codes "auto") h) refl
type_specifier_read (specifier.Integer t) from rest e h = rw (integral_auto t from rest h, integral_read t from rest e h) refl

pub const_specifier_read : (c : Option ConstSpecifier) (from rest : List Token) → sees row.Reserved (codes "const") rest ≡ false → sees row.Reserved (codes "constexpr") rest ≡ false →
    Optional ConstSpecified c from rest → r.const_specifier from ≡ Some (c, rest)
unfolding r.const_specifier keyword
const_specifier_read None from rest a b h = rw (h, a, b) refl
const_specifier_read (Some (const.Const s)) from rest a b h = rw (sees_at row.Reserved (codes "const") h, expect_at row.Reserved (codes "const") h) refl
const_specifier_read (Some (const.Constexpr s)) from rest a b h =
    rw (sees_other row.Reserved (codes "const") h refl, sees_at row.Reserved (codes "constexpr") h, expect_at row.Reserved (codes "constexpr") h) refl

-- ---- types of the library

pub dimensions_read : (x : Lexeme) (from rest : List Token) → Dimensions x from rest → r.dimensions from ≡ Some (x, rest)
unfolding r.dimensions mark
dimensions_read x from rest h = rw (expect_at row.Mark (codes "<") h.2.1, expect_row_at row.Int x h.3, expect_at row.Mark (codes ">") h.4.1) refl

maybe_dimensions_read : (x : Option Lexeme) (from rest : List Token) → sees row.Mark (codes "<") rest ≡ false → Optional Dimensions x from rest → r.maybe_dimensions from ≡ Some (x, rest)
unfolding r.maybe_dimensions mark
maybe_dimensions_read None from rest e h = rw (h, e) refl
maybe_dimensions_read (Some x) from rest e h = rw (sees_at row.Mark (codes "<") h.2.1, dimensions_read x from rest h) refl

comma_dimensions_read : (x : Option Lexeme) (from rest : List Token) → sees row.Mark (codes ",") rest ≡ false → Optional CommaDimensions x from rest → r.comma_dimensions from ≡ Some (x, rest)
unfolding r.comma_dimensions mark
comma_dimensions_read None from rest e h = rw (h, e, after_none row.Mark (codes ",") rest e) refl
comma_dimensions_read (Some x) from rest e h = rw (sees_at row.Mark (codes ",") h.1.1, after_at row.Mark (codes ",") h.1.1, expect_row_at row.Int x h.2) refl

-- what may follow an integer type, and then nothing more
comma_or_end : (x : Option Lexeme) (from m rest : List Token) → Optional CommaDimensions x from m → Sees (mark ">") m rest → NoWord from
unfolding mark
comma_or_end None from m rest h g = ap (sees_row row.Reserved) h ∙ row_at row.Reserved false g.1 refl
comma_or_end (Some x) from m rest h g = row_at row.Reserved false h.1.1 refl

elements_read : (x : ElementArguments) (from rest : List Token) → Elements x from rest → r.elements from ≡ Some (x, rest)
unfolding r.elements mark
elements_read x from rest h =
    rw (
      expect_at row.Mark (codes "<") h.3.1,
      integral_read x.element h.0 h.1 (comma_or_end x.dimensions h.1 h.2 rest h.5 h.6) h.4,
      comma_dimensions_read x.dimensions h.1 h.2 (sees_other row.Mark (codes ",") h.6.1 refl) h.5,
      expect_at row.Mark (codes ">") h.6.1,
    ) refl

maybe_elements_read : (x : Option ElementArguments) (from rest : List Token) → sees row.Mark (codes "<") rest ≡ false → Optional Elements x from rest → r.maybe_elements from ≡ Some (x, rest)
unfolding r.maybe_elements mark
maybe_elements_read None from rest e h = rw (h, e) refl
maybe_elements_read (Some x) from rest e h = rw (sees_at row.Mark (codes "<") h.3.1, elements_read x from rest h) refl

-- a name of the library, with its text
pub sycl_read : (w : String) (q : Qualified) (from m : List Token) → Sycl w q from m → expect_name (codes "sycl") from ≡ Some ((q.namespace, record { spot = q.name; text = codes w }), m)
unfolding identifier mark
sycl_read w q from m h = expect_name_at (codes "sycl") (codes w) q from h.0 h.1 m h.2 h.3 h.4

-- what is said of each name of an object's type
abbrev pub OfNames : (List ℕ → Type 0) → Type 0
OfNames P = P (codes "queue") × P (codes "device") × P (codes "context") × P (codes "event") × P (codes "accessor") × P (codes "host_accessor")
    × P (codes "local_accessor") × P (codes "buffer") × P (codes "range") × P (codes "id") × P (codes "nd_range")

-- the name of an object's type, and what is read behind it
abbrev pub NamedObject : (List ℕ → Type 0) → ObjectType → List Token → List Token → Type 0
NamedObject P t from rest = (text : List ℕ) × (p : Qualified) × (m : List Token) × P text × (expect_name (codes "sycl") from ≡ Some ((p.namespace, record { spot = p.name; text = text }), m)) × (r.object_by p text m ≡ Some (t, rest))

module _ (P : List ℕ → Type 0) (all : OfNames P) where
  of_name : (w : String) (q : Qualified) (t : ObjectType) (from m rest : List Token) → P (codes w) → Sycl w q from m → r.object_by q (codes w) m ≡ Some (t, rest) → NamedObject P t from rest
  of_name w q t from m rest p h e = (codes w, q, m, p, sycl_read w q from m h, e)

  pub object_named : (t : ObjectType) (from rest : List Token) → sees row.Mark (codes "<") rest ≡ false → Object t from rest → NamedObject P t from rest
  unfolding r.object_by plain_object_of r.template_object
  object_named (object.Queue q) from rest e h = of_name "queue" q (object.Queue q) from rest rest all.0 h refl
  object_named (object.Device q) from rest e h = of_name "device" q (object.Device q) from rest rest all.1 h refl
  object_named (object.Context q) from rest e h = of_name "context" q (object.Context q) from rest rest all.2 h refl
  object_named (object.Event q) from rest e h = of_name "event" q (object.Event q) from rest rest all.3 h refl
  object_named (object.Accessor q) from rest e h = of_name "accessor" q (object.Accessor q) from rest rest all.4 h refl
  object_named (object.HostAccessor q) from rest e h = of_name "host_accessor" q (object.HostAccessor q) from rest rest all.5 h refl
  object_named (object.LocalAccessor q x) from rest e h = of_name "local_accessor" q (object.LocalAccessor q x) from h.0 rest all.6 h.1 (rw (elements_read x h.0 rest h.2) refl)
  object_named (object.Buffer q x) from rest e h = of_name "buffer" q (object.Buffer q x) from h.0 rest all.7 h.1 (rw (maybe_elements_read x h.0 rest e h.2) refl)
  object_named (object.Range q x) from rest e h = of_name "range" q (object.Range q x) from h.0 rest all.8 h.1 (rw (maybe_dimensions_read x h.0 rest e h.2) refl)
  object_named (object.Id q x) from rest e h = of_name "id" q (object.Id q x) from h.0 rest all.9 h.1 (rw (maybe_dimensions_read x h.0 rest e h.2) refl)
  object_named (object.NdRange q x) from rest e h = of_name "nd_range" q (object.NdRange q x) from h.0 rest all.10 h.1 (rw (maybe_dimensions_read x h.0 rest e h.2) refl)

abbrev AnyName : List ℕ → Type 0
AnyName text = Unit

pub object_read : (t : ObjectType) (from rest : List Token) → sees row.Mark (codes "<") rest ≡ false → Object t from rest → r.object_type from ≡ Some (t, rest)
unfolding r.object_type
object_read t from rest e h = let n = object_named AnyName (tt, tt, tt, tt, tt, tt, tt, tt, tt, tt, tt) t from rest e h in rw n.4 n.5

-- ---- lambdas

-- the first token of a name of the library, or of a reserved word, is no mark
named_no : (text : List ℕ) {s : Spot} {from rest : List Token} → At (identifier "sycl") s from rest → sees row.Mark text from ≡ false
unfolding identifier
named_no text h = sees_other row.Mark text h refl

keyword_no : (text : List ℕ) (w : String) {s : Spot} {from rest : List Token} → At (keyword w) s from rest → sees row.Mark text from ≡ false
unfolding keyword
keyword_no text w h = sees_other row.Mark text h refl

pub namespace_at : (space : List ℕ) {s t : Spot} {from m k : List Token} → At (word row.Ident space) s from m → At (word row.Mark (codes "::")) t m k → sees_namespace space from ≡ true
unfolding sees_namespace
namespace_at space h g = rw (sees_at row.Ident space h, next_at h, sees_at row.Mark (codes "::") g) refl

class_no_namespace : {s : Spot} {from rest : List Token} → At (keyword "class") s from rest → sees_namespace (codes "sycl") from ≡ false
unfolding sees_namespace keyword
class_no_namespace h = rw (sees_other row.Ident (codes "sycl") h refl) refl

pub capture_read : (x : Capture) (from rest : List Token) → Captured x from rest → sees_row row.Ident rest ≡ false → ReadsAs (r.one_capture from) 0 x rest
unfolding r.one_capture r.reference_capture mark
capture_read (capture.DefaultReference s) from rest h e = (0, omega arith, rw (sees_at row.Mark (codes "&") h, expect_at row.Mark (codes "&") h, e) refl)
capture_read (capture.DefaultCopy s) from rest h e = (0, omega arith, rw (sees_other row.Mark (codes "&") h refl, sees_at row.Mark (codes "=") h, expect_at row.Mark (codes "=") h) refl)
capture_read (capture.Reference s x) from rest h e =
    (0, omega arith, rw (sees_at row.Mark (codes "&") h.1, expect_at row.Mark (codes "&") h.1, row_at row.Ident true h.2 refl, expect_row_at row.Ident x h.2) refl)
capture_read (capture.Copy x) from rest h e = (0, omega arith, rw (sees_other row.Mark (codes "&") h refl, sees_other row.Mark (codes "=") h refl, expect_row_at row.Ident x h) refl)

capture_short : (x : Capture) (from rest : List Token) → Captured x from rest → length rest ≤ length from
capture_short (capture.DefaultReference s) from rest h = omega (arith, at_length h)
capture_short (capture.DefaultCopy s) from rest h = omega (arith, at_length h)
capture_short (capture.Reference s x) from rest h = omega (arith, at_length h.1, at_length h.2)
capture_short (capture.Copy x) from rest h = omega (arith, at_length h)

capture_begins : (x : Capture) (from rest : List Token) → Captured x from rest → sees row.Mark (codes "]") from ≡ false
unfolding mark
capture_begins (capture.DefaultReference s) from rest h = sees_other row.Mark (codes "]") h refl
capture_begins (capture.DefaultCopy s) from rest h = sees_other row.Mark (codes "]") h refl
capture_begins (capture.Reference s x) from rest h = sees_other row.Mark (codes "]") h.1 refl
capture_begins (capture.Copy x) from rest h = sees_other row.Mark (codes "]") h refl

pub captures_read : (xs : List Capture) (from m rest : List Token) → MaybeListed Captured xs from m → Sees (mark "]") m rest → ReadsAs (maybe_comma_list r.one_capture (codes "]") from) 0 xs m
unfolding mark
captures_read xs from m rest h c =
    maybe_comma_list_read r.one_capture Captured 0 (λ ts. sees_row row.Ident ts ≡ false) capture_short capture_read (λ us ts k. row_at row.Ident false k.1 refl)
    (codes "]") xs from m capture_begins (omega (arith, at_length c.1)) h (row_at row.Ident false c.1 refl) (sees_other row.Mark (codes ",") c.1 refl) (sees_at row.Mark (codes "]") c.1)

parameter_type_read : (t : LambdaParameterType) (from rest : List Token) → LambdaParameterTyped t from rest → r.parameter_type from ≡ Some (t, rest)
unfolding r.parameter_type r.parameter_by keyword identifier
parameter_type_read (parameter.Handler q) from rest h = rw (sees_other row.Reserved (codes "auto") h.2 refl, sycl_read "handler" q from rest h) refl
parameter_type_read (parameter.Auto s) from rest h = rw (sees_at row.Reserved (codes "auto") h, expect_at row.Reserved (codes "auto") h) refl
parameter_type_read (parameter.Id q x) from rest h = rw (sees_other row.Reserved (codes "auto") h.1.2 refl, sycl_read "id" q from h.0 h.1, dimensions_read x h.0 rest h.2) refl
parameter_type_read (parameter.Item q x) from rest h = rw (sees_other row.Reserved (codes "auto") h.1.2 refl, sycl_read "item" q from h.0 h.1, dimensions_read x h.0 rest h.2) refl
parameter_type_read (parameter.NdItem q x) from rest h = rw (sees_other row.Reserved (codes "auto") h.1.2 refl, sycl_read "nd_item" q from h.0 h.1, dimensions_read x h.0 rest h.2) refl

abbrev Any : List Token → Type 0
Any ts = Unit

pub parameter_read : (x : LambdaParameter) (from rest : List Token) → OneLambdaParameter x from rest → Any rest → ReadsAs (r.one_parameter from) 0 x rest
unfolding r.one_parameter mark
parameter_read x from rest h e =
    let no = sees_other row.Mark (codes "&") h.4 refl in
    (0, omega arith, rw (parameter_type_read x.of from h.0 h.2, maybe_sees row.Mark (codes "&") x.by_reference h.0 h.1 h.3 no, maybe_after row.Mark (codes "&") x.by_reference h.0 h.1 h.3 no, expect_row_at row.Ident x.name h.4) refl)

dimensions_short : (x : Lexeme) (from rest : List Token) → Dimensions x from rest → length rest ≤ length from
dimensions_short x from rest h = omega (arith, at_length h.2.1, at_length h.3, at_length h.4.1)

parameter_type_short : (t : LambdaParameterType) (from rest : List Token) → LambdaParameterTyped t from rest → length rest ≤ length from
parameter_type_short (parameter.Handler q) from rest h = omega (arith, at_length h.2, at_length h.3.1, at_length h.4)
parameter_type_short (parameter.Auto s) from rest h = omega (arith, at_length h)
parameter_type_short (parameter.Id q x) from rest h = omega (arith, at_length h.1.2, at_length h.1.3.1, at_length h.1.4, dimensions_short x h.0 rest h.2)
parameter_type_short (parameter.Item q x) from rest h = omega (arith, at_length h.1.2, at_length h.1.3.1, at_length h.1.4, dimensions_short x h.0 rest h.2)
parameter_type_short (parameter.NdItem q x) from rest h = omega (arith, at_length h.1.2, at_length h.1.3.1, at_length h.1.4, dimensions_short x h.0 rest h.2)

maybe_short : (w : Word) (b : Bool) (from rest : List Token) → Maybe w b from rest → length rest ≤ length from
maybe_short w true from rest h = omega (arith, at_length h.1)
maybe_short w false from rest h = omega (arith, ap length h)

parameter_short : (x : LambdaParameter) (from rest : List Token) → OneLambdaParameter x from rest → length rest ≤ length from
parameter_short x from rest h = omega (arith, parameter_type_short x.of from h.0 h.2, maybe_short (mark "&") x.by_reference h.0 h.1 h.3, at_length h.4)

parameter_begins : (x : LambdaParameter) (from rest : List Token) → OneLambdaParameter x from rest → sees row.Mark (codes ")") from ≡ false
parameter_begins x from rest h = by x.of from h.0 h.2
  where
    by : (t : LambdaParameterType) (us ts : List Token) → LambdaParameterTyped t us ts → sees row.Mark (codes ")") us ≡ false
    by (parameter.Handler q) us ts h = named_no (codes ")") h.2
    by (parameter.Auto s) us ts h = keyword_no (codes ")") "auto" h
    by (parameter.Id q x) us ts h = named_no (codes ")") h.1.2
    by (parameter.Item q x) us ts h = named_no (codes ")") h.1.2
    by (parameter.NdItem q x) us ts h = named_no (codes ")") h.1.2

pub maybe_parameters_read : (x : Option (List LambdaParameter)) (from rest : List Token) → sees row.Mark (codes "(") rest ≡ false → Optional LambdaParameters x from rest →
    r.maybe_parameters from ≡ Some (x, rest)
unfolding r.maybe_parameters mark
maybe_parameters_read None from rest e h = rw (h, e, after_none row.Mark (codes "(") rest e) refl
maybe_parameters_read (Some ps) from rest e h =
    let all = maybe_comma_list_read r.one_parameter OneLambdaParameter 0 Any parameter_short parameter_read (λ us ts k. tt) (codes ")") ps h.0 h.1 parameter_begins
    (omega (arith, at_length h.4.1)) h.3 tt (sees_other row.Mark (codes ",") h.4.1 refl) (sees_at row.Mark (codes ")") h.4.1) in
    rw (sees_at row.Mark (codes "(") h.2.1, after_at row.Mark (codes "(") h.2.1, all.2, expect_at row.Mark (codes ")") h.4.1) refl

-- ---- template arguments of members

pub and_no : (a : Bool) → (a && false) ≡ false
and_no true = refl
and_no false = refl

kernel_no_namespace : (x : Lexeme) (from m rest : List Token) → Lexed row.Ident x from m → Sees (mark ">") m rest → sees_namespace (codes "sycl") from ≡ false
unfolding sees_namespace mark
kernel_no_namespace x from m rest h c = rw (next_at h, sees_other row.Mark (codes "::") c.1 refl) (and_no (sees row.Ident (codes "sycl") from))

template_read : (x : TemplateArgument) (from m rest : List Token) → OneTemplateArgument x from m → Sees (mark ">") m rest →
    cond (sees_namespace (codes "sycl") from) (r.information from) (r.kernel_name from) ≡ Some (x, m)
unfolding r.kernel_name r.information keyword mark identifier
template_read (template.Kernel true x) from m rest h c =
    rw (class_no_namespace h.1.1, sees_at row.Reserved (codes "class") h.1.1, after_at row.Reserved (codes "class") h.1.1, expect_row_at row.Ident x h.2) refl
template_read (template.Kernel false x) from m rest h c =
    let no = sees_other row.Reserved (codes "class") h.2 refl in
    rw (h.1, kernel_no_namespace x h.0 m rest h.2 c, no, after_none row.Reserved (codes "class") h.0 no, expect_row_at row.Ident x h.2) refl
template_read (template.Information q x y) from m rest h c =
    rw (namespace_at (codes "sycl") h.4.2 h.4.3.1, within_at (codes "sycl") (codes "info") q from h.4.0 h.4.1 h.0 h.4.2 h.4.3 h.4.4, expect_at row.Mark (codes "::") h.5.1, expect_row_at row.Ident x h.6, expect_at row.Mark (codes "::") h.7.1, expect_row_at row.Ident y h.8) refl

pub maybe_template_argument_read : (member : Lexeme) (x : Option TemplateArgument) (from rest : List Token) → sees row.Mark (codes "<") rest ≡ false →
    Optional (TemplateArguments member) x from rest → r.maybe_template_argument member.text from ≡ Some (x, rest)
unfolding r.maybe_template_argument r.template_argument mark
maybe_template_argument_read member None from rest e h = rw (h, e, and_no (takes_template_argument member.text)) refl
maybe_template_argument_read member (Some x) from rest e h =
    rw (h.0, sees_at row.Mark (codes "<") h.1.2.1, expect_at row.Mark (codes "<") h.1.2.1, template_read x h.1.0 h.1.1 rest h.1.3 h.1.4, expect_at row.Mark (codes ">") h.1.4.1) refl
