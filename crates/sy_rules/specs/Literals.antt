-- What literals stand for. (C++17, [lex.icon], [lex.ccon], [lex.string])
use Rattle.std.specs.Prelude.{ℕ, zero, suc, ◌+◌, ◌-◌, ◌*◌, Bool, true, false, ◌||◌, ◌==◌, nat_le, if◌then◌else◌, List, [], ◌∷◌, fold, filter, length, drop, pos, Option, Some, None, find}
use Rattle.std.specs.List.{list_any}
use Rattle.sy_num.specs.declared.Kind.{Kind}
use Rattle.sy_num.specs.declared.Kind.TheVariants.{Int, UInt, Long, ULong, LLong, ULLong}
use Rattle.sy_num.specs.Kinds.{is_in_range}
use Rattle.sy_typed.specs.declared.things.Dimensions.{Dimensions}
use Rattle.sy_typed.specs.declared.things.Dimensions.TheVariants.{One, Two, Three}

-- ---- the number that an integer literal writes

abbrev pub is_u : ℕ → Bool
is_u b = b == 117 || b == 85

abbrev pub is_l : ℕ → Bool
is_l b = b == 108 || b == 76

-- 0 to 9, A to F, a to f
abbrev pub digit : ℕ → ℕ
digit b = if nat_le b 57 then b - 48 else if nat_le b 70 then b - 55 else b - 87

abbrev pub without_suffix : List ℕ → List ℕ
without_suffix [] = []
without_suffix (b ∷ bs) = if is_u b || is_l b then [] else b ∷ without_suffix bs

abbrev pub to_base : ℕ → List ℕ → ℕ
to_base base bs = fold (λ n b. n * base + digit b) 0 (without_suffix bs)

abbrev pub is_x : ℕ → Bool
is_x b = b == 120 || b == 88

abbrev pub is_b : ℕ → Bool
is_b b = b == 98 || b == 66

-- what follows a `0`
abbrev pub number_after_zero : List ℕ → ℕ
number_after_zero [] = 0
number_after_zero (b ∷ bs) = if is_x b then to_base 16 bs else if is_b b then to_base 2 bs else to_base 8 (b ∷ bs)

abbrev pub number_written : List ℕ → ℕ
number_written [] = 0
number_written (b ∷ bs) = if b == 48 then number_after_zero bs else to_base 10 (b ∷ bs)

-- ---- the kinds that it may have, in the order in which they are tried

abbrev pub is_decimal : List ℕ → Bool
is_decimal [] = false
is_decimal (b ∷ bs) = if b == 48 then false else true

-- by how often `l` stands in the suffix
abbrev pub signed_kinds : ℕ → List Kind
signed_kinds zero = Int ∷ Long ∷ LLong ∷ []
signed_kinds (suc zero) = Long ∷ LLong ∷ []
signed_kinds (suc (suc n)) = LLong ∷ []

abbrev pub unsigned_kinds : ℕ → List Kind
unsigned_kinds zero = UInt ∷ ULong ∷ ULLong ∷ []
unsigned_kinds (suc zero) = ULong ∷ ULLong ∷ []
unsigned_kinds (suc (suc n)) = ULLong ∷ []

abbrev pub all_kinds : ℕ → List Kind
all_kinds zero = Int ∷ UInt ∷ Long ∷ ULong ∷ LLong ∷ ULLong ∷ []
all_kinds (suc zero) = Long ∷ ULong ∷ LLong ∷ ULLong ∷ []
all_kinds (suc (suc n)) = LLong ∷ ULLong ∷ []

abbrev pub kinds_of : List ℕ → List Kind
kinds_of text =
    if list_any is_u text then unsigned_kinds (length (filter is_l text))
    else if is_decimal text then signed_kinds (length (filter is_l text))
    else all_kinds (length (filter is_l text))

-- the first kind of the list that holds the number
abbrev pub literal_kind : List ℕ → Option Kind
literal_kind text = find (λ k. is_in_range k (pos (number_written text))) (kinds_of text)

abbrev pub dimensions_numbered : ℕ → Option Dimensions
dimensions_numbered n = if n == 1 then Some One else if n == 2 then Some Two else if n == 3 then Some Three else None

-- the dimensions that a literal between `<` and `>` writes
abbrev pub dimensions_written : List ℕ → Option Dimensions
dimensions_written text = dimensions_numbered (number_written text)

-- ---- characters and strings

-- the byte that `\` and this one stand for: of n, t, r and 0 another
abbrev pub escaped : ℕ → ℕ
escaped b = if b == 110 then 10 else if b == 116 then 9 else if b == 114 then 13 else if b == 48 then 0 else b

-- what follows the opening quote, up to the closing one
abbrev pub unquoted : List ℕ → List ℕ
unquoted [] = []
unquoted (b ∷ []) = []
unquoted (b ∷ c ∷ bs) = if b == 92 then escaped c ∷ unquoted bs else b ∷ unquoted (c ∷ bs)

abbrev pub string_bytes_of : List ℕ → List ℕ
string_bytes_of text = unquoted (drop 1 text)

abbrev pub first_byte : List ℕ → ℕ
first_byte [] = 0
first_byte (b ∷ bs) = b

abbrev pub character_value : List ℕ → ℕ
character_value text = first_byte (string_bytes_of text)
