-- The rows of the table of tokens: which bytes fit each row. The names are those of the grammar of C++17, [lex].
use Rattle.std.specs.Prelude.{◌≡◌, ℕ, Bool, true, false, not, ◌&&◌, ◌||◌, ◌==◌, nat_le, List, [], ◌∷◌, ◌++◌, codes}
use Rattle.std.specs.List.{list_all, list_any}
use Rattle.std.specs.Str.{bytes_eq}
use Rattle.sy_lex.specs.declared.Row.{Row}
use Rattle.sy_lex.specs.declared.Row.TheVariants as row

-- ---- bytes

-- a blank that ends no line
abbrev pub is_space : ℕ → Bool
is_space b = b == 32 || b == 9 || b == 13

abbrev pub is_blank : ℕ → Bool
is_blank b = is_space b || b == 10

abbrev pub is_digit : ℕ → Bool
is_digit b = nat_le 48 b && nat_le b 57

abbrev pub is_octal_digit : ℕ → Bool
is_octal_digit b = nat_le 48 b && nat_le b 55

abbrev pub is_binary_digit : ℕ → Bool
is_binary_digit b = b == 48 || b == 49

abbrev pub is_hexadecimal_digit : ℕ → Bool
is_hexadecimal_digit b = is_digit b || (nat_le 65 b && nat_le b 70) || (nat_le 97 b && nat_le b 102)

-- a letter or `_`
abbrev pub is_nondigit : ℕ → Bool
is_nondigit b = (nat_le 97 b && nat_le b 122) || (nat_le 65 b && nat_le b 90) || b == 95

-- a letter, a digit or `_`
abbrev pub is_word : ℕ → Bool
is_word b = is_nondigit b || is_digit b

-- what stands for itself in a character literal: 0x20 to 0x7E, but for `'` and `\`
abbrev pub is_character_byte : ℕ → Bool
is_character_byte b = nat_le 32 b && nat_le b 126 && not (b == 39) && not (b == 92)

-- what stands for itself in a string literal: 0x20 to 0x7E and 0x80 to 0xFF, but for `"` and `\`
abbrev pub is_string_byte : ℕ → Bool
is_string_byte b = ((nat_le 32 b && nat_le b 126) || (nat_le 128 b && nat_le b 255)) && not (b == 34) && not (b == 92)

-- what may follow `\`: n t r 0 \ ' "
abbrev pub is_escape_code : ℕ → Bool
is_escape_code b = b == 110 || b == 116 || b == 114 || b == 48 || b == 92 || b == 39 || b == 34

-- ---- names

abbrev pub is_identifier : List ℕ → Bool
is_identifier [] = false
is_identifier (b ∷ bs) = is_nondigit b && list_all is_word bs

-- [lex.key], table 5
abbrev pub keywords : List (List ℕ)
keywords = codes "alignas" ∷ codes "alignof" ∷ codes "asm" ∷ codes "auto" ∷ codes "bool" ∷ codes "break" ∷ codes "case" ∷ codes "catch" ∷ codes "char"
    ∷ codes "char16_t" ∷ codes "char32_t" ∷ codes "class" ∷ codes "const" ∷ codes "constexpr" ∷ codes "const_cast" ∷ codes "continue" ∷ codes "decltype"
    ∷ codes "default" ∷ codes "delete" ∷ codes "do" ∷ codes "double" ∷ codes "dynamic_cast" ∷ codes "else" ∷ codes "enum" ∷ codes "explicit" ∷ codes "export"
    ∷ codes "extern" ∷ codes "false" ∷ codes "float" ∷ codes "for" ∷ codes "friend" ∷ codes "goto" ∷ codes "if" ∷ codes "inline" ∷ codes "int" ∷ codes "long"
    ∷ codes "mutable" ∷ codes "namespace" ∷ codes "new" ∷ codes "noexcept" ∷ codes "nullptr" ∷ codes "operator" ∷ codes "private" ∷ codes "protected"
    ∷ codes "public" ∷ codes "register" ∷ codes "reinterpret_cast" ∷ codes "return" ∷ codes "short" ∷ codes "signed" ∷ codes "sizeof" ∷ codes "static"
    ∷ codes "static_assert" ∷ codes "static_cast" ∷ codes "struct" ∷ codes "switch" ∷ codes "template" ∷ codes "this" ∷ codes "thread_local" ∷ codes "throw"
    ∷ codes "true" ∷ codes "try" ∷ codes "typedef" ∷ codes "typeid" ∷ codes "typename" ∷ codes "union" ∷ codes "unsigned" ∷ codes "using" ∷ codes "virtual"
    ∷ codes "void" ∷ codes "volatile" ∷ codes "wchar_t" ∷ codes "while" ∷ []

-- [lex.key], table 6, and [lex.digraph]: other spellings of operators, which no name may have
abbrev pub alternatives : List (List ℕ)
alternatives = codes "and" ∷ codes "and_eq" ∷ codes "bitand" ∷ codes "bitor" ∷ codes "compl" ∷ codes "not" ∷ codes "not_eq" ∷ codes "or" ∷ codes "or_eq" ∷ codes "xor"
    ∷ codes "xor_eq" ∷ []

-- names of integer types, which this language reserves
abbrev pub type_words : List (List ℕ)
type_words = codes "size_t" ∷ codes "int8_t" ∷ codes "int16_t" ∷ codes "int32_t" ∷ codes "int64_t" ∷ codes "uint8_t" ∷ codes "uint16_t" ∷ codes "uint32_t"
    ∷ codes "uint64_t" ∷ []

abbrev pub reserved_words : List (List ℕ)
reserved_words = keywords ++ alternatives ++ type_words

abbrev pub is_reserved : List ℕ → Bool
is_reserved text = list_any (bytes_eq text) reserved_words

-- ---- integers, [lex.icon]

-- `0`, then octal digits
abbrev pub is_octal : List ℕ → Bool
is_octal [] = false
is_octal (b ∷ bs) = b == 48 && list_all is_octal_digit bs

-- a digit other than `0`, then digits
abbrev pub is_decimal : List ℕ → Bool
is_decimal [] = false
is_decimal (b ∷ bs) = is_digit b && not (b == 48) && list_all is_digit bs

-- `0x` or `0X`, then one or more hexadecimal digits
abbrev pub is_hexadecimal : List ℕ → Bool
is_hexadecimal (b ∷ x ∷ d ∷ bs) = b == 48 && (x == 120 || x == 88) && is_hexadecimal_digit d && list_all is_hexadecimal_digit bs
is_hexadecimal text = false

-- `0b` or `0B`, then one or more binary digits
abbrev pub is_binary : List ℕ → Bool
is_binary (b ∷ x ∷ d ∷ bs) = b == 48 && (x == 98 || x == 66) && is_binary_digit d && list_all is_binary_digit bs
is_binary text = false

-- nothing or an integer-suffix: `u` or `U`, `l`, `L`, `ll` or `LL`, or one of each kind in either order
abbrev pub suffixes : List (List ℕ)
suffixes = [] ∷ codes "u" ∷ codes "U" ∷ codes "l" ∷ codes "L" ∷ codes "ll" ∷ codes "LL" ∷ codes "ul" ∷ codes "uL" ∷ codes "Ul" ∷ codes "UL" ∷ codes "ull" ∷ codes "uLL"
    ∷ codes "Ull" ∷ codes "ULL" ∷ codes "lu" ∷ codes "lU" ∷ codes "Lu" ∷ codes "LU" ∷ codes "llu" ∷ codes "llU" ∷ codes "LLu" ∷ codes "LLU" ∷ []

abbrev pub is_suffix : List ℕ → Bool
is_suffix text = list_any (bytes_eq text) suffixes

pub record IsInteger (text : List ℕ) : Type 0 where
  pub digits : List ℕ
  pub suffix : List ℕ
  pub whole : text ≡ digits ++ suffix
  pub number : (is_octal digits || is_decimal digits || is_hexadecimal digits || is_binary digits) ≡ true
  pub ended : is_suffix suffix ≡ true

-- ---- characters and strings, [lex.ccon] and [lex.string]

-- `'`, a byte or an escape, `'`
abbrev pub is_character : List ℕ → Bool
is_character (q ∷ b ∷ e ∷ []) = q == 39 && is_character_byte b && e == 39
is_character (q ∷ s ∷ b ∷ e ∷ []) = q == 39 && s == 92 && is_escape_code b && e == 39
is_character text = false

-- bytes and escapes, then `"`
abbrev pub is_string_rest : List ℕ → Bool
is_string_rest [] = false
is_string_rest (b ∷ []) = b == 34
is_string_rest (b ∷ c ∷ bs) = (is_string_byte b && is_string_rest (c ∷ bs)) || (b == 92 && is_escape_code c && is_string_rest bs)

abbrev pub is_string : List ℕ → Bool
is_string [] = false
is_string (b ∷ bs) = b == 34 && is_string_rest bs

-- ---- the directive for one of the headers, [cpp.include]

abbrev pub headers : List (List ℕ)
headers = codes "<sycl/sycl.hpp>" ∷ codes "<iostream>" ∷ codes "<vector>" ∷ codes "<thread>" ∷ codes "<cstdint>" ∷ []

-- `#`, `include` and a header; any blanks that end no line may part them
pub record IsInclude (text : List ℕ) : Type 0 where
  pub left : List ℕ
  pub right : List ℕ
  pub header : List ℕ
  pub whole : text ≡ 35 ∷ (left ++ (codes "include" ++ (right ++ header)))
  pub left_blank : list_all is_space left ≡ true
  pub right_blank : list_all is_space right ≡ true
  pub known : list_any (bytes_eq header) headers ≡ true

-- ---- punctuators, [lex.operators]

abbrev pub marks : List (List ℕ)
marks = codes "{" ∷ codes "}" ∷ codes "(" ∷ codes ")" ∷ codes "[" ∷ codes "]" ∷ codes ";" ∷ codes ":" ∷ codes "::" ∷ codes "," ∷ codes "." ∷ codes "?" ∷ codes "+" ∷ codes "-"
    ∷ codes "*" ∷ codes "/" ∷ codes "%" ∷ codes "&" ∷ codes "|" ∷ codes "^" ∷ codes "~" ∷ codes "!" ∷ codes "=" ∷ codes "<" ∷ codes ">" ∷ codes "+=" ∷ codes "-="
    ∷ codes "*=" ∷ codes "/=" ∷ codes "%=" ∷ codes "&=" ∷ codes "|=" ∷ codes "^=" ∷ codes "<<" ∷ codes ">>" ∷ codes "<<=" ∷ codes ">>=" ∷ codes "==" ∷ codes "!="
    ∷ codes "<=" ∷ codes ">=" ∷ codes "&&" ∷ codes "||" ∷ codes "++" ∷ codes "--" ∷ []

abbrev pub is_mark : List ℕ → Bool
is_mark text = list_any (bytes_eq text) marks

-- ---- the table

-- the bytes of a token of each row
abbrev pub Fits : Row → List ℕ → Type 0
Fits row.Ident text = (is_identifier text ≡ true) × (is_reserved text ≡ false)
Fits row.Reserved text = is_reserved text ≡ true
Fits row.Int text = IsInteger text
Fits row.Char text = is_character text ≡ true
Fits row.Str text = is_string text ≡ true
Fits row.Include text = IsInclude text
Fits row.Mark text = is_mark text ≡ true
