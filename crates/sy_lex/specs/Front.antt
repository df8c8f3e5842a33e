-- What stands at the front of a text, as a function: the working form, which the code computes.
use Rattle.std.specs.Prelude.{ℕ, ◌+◌, Bool, true, false, ◌&&◌, ◌||◌, if◌then◌else◌, ◌==◌, nat_le, nat_eq, filter, List, [], ◌∷◌, length, take, drop, codes, Option, Some, None}
use Rattle.std.specs.List.{prefix_len, list_any, starts_with}
use Rattle.sy_note.specs.declared.Spot.{Spot}
use Rattle.sy_lex.specs.declared.Row.{Row}
use Rattle.sy_lex.specs.declared.Token.{Token}
use Rattle.sy_lex.specs.declared.Row.TheVariants as row
use Rattle.sy_lex.specs.declared.scan.Front.{Front}
use Rattle.sy_lex.specs.declared.scan.Front.TheVariants.{Skip, Found, Stuck}
use Rattle.sy_lex.specs.Rows.{is_space, is_blank, is_digit, is_octal_digit, is_binary_digit, is_hexadecimal_digit, is_nondigit, is_word, is_character_byte, is_string_byte, is_escape_code, reserved_words, is_reserved, is_suffix}
use Rattle.sy_lex.specs.Tokens.{in_line, starts}

-- ---- places, byte by byte

abbrev pub step : Spot → ℕ → Spot
step s b = if b == 10 then record { line = s.line + 1; column = 1 } else record { line = s.line; column = s.column + 1 }

abbrev pub after : Spot → List ℕ → Spot
after s [] = s
after s (b ∷ bs) = after (step s b) bs

-- the token of these bytes, at that count and that spot
abbrev pub token_at : Row → List ℕ → ℕ → Spot → Token
token_at r text at s = record { word = record { row = r; text = text }; from = at; to = at + length text; spot = s }

-- ---- names

-- the reserved words whose first byte is one of these
abbrev pub words_between : ℕ → ℕ → List (List ℕ)
words_between low high = filter (λ w. starts (λ b. nat_le low b && nat_le b high) w) reserved_words

abbrev pub name_at : ℕ → List ℕ → Front
name_at n bytes = Found (if is_reserved (take n bytes) then row.Reserved else row.Ident) n

-- ---- integers

-- a suffix after the digits that stand in front
abbrev pub ends_in : (ℕ → Bool) → List ℕ → Bool
ends_in p text = is_suffix (drop (prefix_len p text) text)

-- the same, and there is a digit
abbrev pub some_then : (ℕ → Bool) → List ℕ → Bool
some_then p text = starts p text && ends_in p text

-- after a `0` in front
abbrev pub after_zero : List ℕ → Bool
after_zero [] = true
after_zero (x ∷ bs) = if x == 120 || x == 88 then some_then is_hexadecimal_digit bs else (if x == 98 || x == 66 then some_then is_binary_digit bs else ends_in is_octal_digit (x ∷ bs))

-- of a text with a digit in front
abbrev pub is_integer : List ℕ → Bool
is_integer [] = false
is_integer (b ∷ bs) = if b == 48 then after_zero bs else ends_in is_digit bs

abbrev pub integer_at : ℕ → List ℕ → Front
integer_at n bytes = if is_integer (take n bytes) then Found row.Int n else Stuck

-- ---- characters and strings

-- how many bytes a character literal has, by the bytes after its first quote
abbrev pub character_len : List ℕ → Option ℕ
character_len [] = None
character_len (b ∷ []) = None
character_len (b ∷ c ∷ []) = if is_character_byte b && c == 39 then Some 3 else None
character_len (b ∷ c ∷ d ∷ bs) = if is_character_byte b && c == 39 then Some 3 else (if b == 92 && is_escape_code c && d == 39 then Some 4 else None)

-- where a string literal ends, by the bytes after its first quote, counted from the number
abbrev pub string_from : ℕ → List ℕ → Option ℕ
string_from n [] = None
string_from n (b ∷ []) = if b == 34 then Some (n + 1) else None
string_from n (b ∷ c ∷ bs) = if b == 34 then Some (n + 1) else (if is_string_byte b then string_from (n + 1) (c ∷ bs) else (if b == 92 && is_escape_code c then string_from (n + 2) bs else None))

abbrev pub literal_at : Row → Option ℕ → Front
literal_at r None = Stuck
literal_at r (Some n) = Found r n

-- ---- the directive

abbrev pub header_len : List ℕ → Option ℕ
header_len text =
    if starts_with nat_eq text (codes "<sycl/sycl.hpp>") then Some 15
    else (if starts_with nat_eq text (codes "<iostream>") then Some 10
    else (if starts_with nat_eq text (codes "<vector>") then Some 8
    else (if starts_with nat_eq text (codes "<thread>") then Some 8
    else (if starts_with nat_eq text (codes "<cstdint>") then Some 9 else None))))

abbrev pub plus : ℕ → Option ℕ → Option ℕ
plus n None = None
plus n (Some k) = Some (n + k)

-- the header after the blanks in front
abbrev pub spaced_header_len : List ℕ → Option ℕ
spaced_header_len text = plus (prefix_len is_space text) (header_len (drop (prefix_len is_space text) text))

abbrev pub named_len : List ℕ → Option ℕ
named_len text = if starts_with nat_eq text (codes "include") then plus 7 (spaced_header_len (drop 7 text)) else None

-- how many bytes the directive has, by the bytes after its `#`
abbrev pub include_len : List ℕ → Option ℕ
include_len text = plus (1 + prefix_len is_space text) (named_len (drop (prefix_len is_space text) text))

-- ---- comments

-- where the first two of these are, counted from the number
abbrev pub pair_from : ℕ → ℕ → ℕ → List ℕ → Option ℕ
pair_from s c n [] = None
pair_from s c n (a ∷ []) = None
pair_from s c n (a ∷ b ∷ bs) = if a == s && b == c then Some n else pair_from s c (n + 1) (b ∷ bs)

abbrev pub block_at : Option ℕ → Front
block_at None = Stuck
block_at (Some n) = Skip (n + 4)

-- ---- punctuators

abbrev pub one_of : List ℕ → ℕ → Bool
one_of ks b = list_any (λ k. b == k) ks

abbrev pub is_single : ℕ → Bool
is_single b = one_of (codes "{}()[];:,.?+-*/%&|^~!=<>") b

abbrev pub is_pair : ℕ → ℕ → Bool
is_pair b c = if c == 61 then one_of (codes "+-*/%&|^=!<>") b else (b == c && one_of (codes ":<>&|+-") b)

abbrev pub is_triple : ℕ → ℕ → ℕ → Bool
is_triple b c d = b == c && (b == 60 || b == 62) && d == 61

abbrev pub single_at : ℕ → Front
single_at b = if is_single b then Found row.Mark 1 else Stuck

abbrev pub mark_at : List ℕ → Front
mark_at [] = Stuck
mark_at (b ∷ []) = single_at b
mark_at (b ∷ c ∷ []) = if is_pair b c then Found row.Mark 2 else single_at b
mark_at (b ∷ c ∷ d ∷ bs) = if is_triple b c d then Found row.Mark 3 else (if is_pair b c then Found row.Mark 2 else single_at b)

abbrev pub slash_at : List ℕ → List ℕ → Front
slash_at bytes [] = mark_at bytes
slash_at bytes (c ∷ bs) = if c == 47 then Skip (2 + prefix_len in_line bs) else (if c == 42 then block_at (pair_from 42 47 0 bs) else mark_at bytes)

-- ---- all of them, by the first byte

abbrev pub front_at : List ℕ → ℕ → List ℕ → Front
front_at bytes b bs =
    if is_blank b then Skip 1
    else (if is_nondigit b then name_at (prefix_len is_word bytes) bytes
    else (if is_digit b then integer_at (prefix_len is_word bytes) bytes
    else (if b == 34 then literal_at row.Str (string_from 1 bs)
    else (if b == 39 then literal_at row.Char (character_len bs)
    else (if b == 35 then literal_at row.Include (include_len bs)
    else (if b == 47 then slash_at bytes bs else mark_at bytes))))))

unfoldable pub front_of : List ℕ → Front
front_of [] = Stuck
front_of (b ∷ bs) = front_at (b ∷ bs) b bs
