-- Which tokens a text has. Front to back, each step passes one blank, one comment or the longest token that fits.
use Rattle.std.specs.Prelude.{◌≡◌, ◌≢◌, ℕ, ◌+◌, ◌<◌, Bool, true, false, not, ◌&&◌, ◌||◌, ◌⊎◌, ◌==◌, List, [], ◌∷◌, ◌++◌, length, codes, count_by}
use Rattle.std.specs.List.{list_all, suffix_len}
use Rattle.std.specs.Str.{bytes_eq}
use Rattle.sy_note.specs.declared.Spot.{Spot}
use Rattle.sy_lex.specs.declared.Row.{Row}
use Rattle.sy_lex.specs.declared.Row.TheVariants as row
use Rattle.sy_lex.specs.declared.Token.{Token}
use Rattle.sy_lex.specs.Rows.{is_blank, is_word, Fits}

-- ---- places

-- what ends no line
abbrev pub in_line : ℕ → Bool
in_line b = not (b == 10)

-- the place after these bytes, counted from 1
abbrev pub spot_of : List ℕ → Spot
spot_of before = record { line = 1 + count_by (λ b. b == 10) before; column = 1 + suffix_len in_line before }

-- ---- blanks and comments, [lex.comment]

abbrev pub starts : (ℕ → Bool) → List ℕ → Bool
starts p [] = false
starts p (b ∷ bs) = p b

-- no place of the bytes has these two
abbrev pub no_pair : ℕ → ℕ → List ℕ → Bool
no_pair s c [] = true
no_pair s c (a ∷ []) = true
no_pair s c (a ∷ b ∷ bs) = not (a == s && b == c) && no_pair s c (b ∷ bs)

-- one blank
abbrev pub IsBlank : List ℕ → Type 0
IsBlank front = (b : ℕ) × (front ≡ b ∷ []) × (is_blank b ≡ true)

-- `//`, up to the line's end or the text's
abbrev pub IsLineComment : List ℕ → List ℕ → Type 0
IsLineComment front rest = (text : List ℕ) × (front ≡ 47 ∷ 47 ∷ text) × (list_all in_line text ≡ true) × (starts in_line rest ≡ false)

-- `/*`, up to the next `*/`
abbrev pub IsBlockComment : List ℕ → Type 0
IsBlockComment front = (text : List ℕ) × (front ≡ 47 ∷ 42 ∷ (text ++ 42 ∷ 47 ∷ [])) × (no_pair 42 47 text ≡ true)

abbrev pub IsSkipped : List ℕ → List ℕ → Type 0
IsSkipped front rest = IsBlank front ⊎ IsLineComment front rest ⊎ IsBlockComment front

-- ---- tokens

-- what may not follow: a letter, digit or `_` after an integer; `/` or `*` after `/`
abbrev pub is_spoiled : Row → List ℕ → List ℕ → Bool
is_spoiled row.Int text rest = starts is_word rest
is_spoiled row.Mark text rest = bytes_eq text (codes "/") && starts (λ b. b == 47 || b == 42) rest
is_spoiled r text rest = false

-- `front` is a token of that row where `rest` follows it
pub record IsToken (r : Row) (front rest : List ℕ) : Type 0 where
  pub fits : Fits r front
  pub clean : is_spoiled r front rest ≡ false

-- and no longer front of the bytes is one
pub record IsLongest (r : Row) (front rest : List ℕ) : Type 0 where
  pub token : IsToken r front rest
  pub longest : (longer others : List ℕ) (s : Row) → longer ++ others ≡ front ++ rest → length front < length longer → IsToken s longer others → ⊥

-- the token of these bytes, where `before` stands before them
abbrev pub token_of : List ℕ → Row → List ℕ → Token
token_of before r front = record { word = record { row = r; text = front }; from = length before; to = length before + length front; spot = spot_of before }

-- Where `before` stands before `bytes`, these are the tokens of `bytes` up to `left`, and `passed` stands before `left`.
pub data Reads : List ℕ → List ℕ → List Token → List ℕ → List ℕ → Type 0 where
  done : {before bytes : List ℕ} → Reads before bytes [] before bytes
  skipped : {before bytes passed left : List ℕ} {ts : List Token} → (front rest : List ℕ) → bytes ≡ front ++ rest → IsSkipped front rest →
      Reads (before ++ front) rest ts passed left → Reads before bytes ts passed left
  token : {before bytes passed left : List ℕ} {ts : List Token} → (r : Row) (front rest : List ℕ) → bytes ≡ front ++ rest → IsLongest r front rest →
      Reads (before ++ front) rest ts passed left → Reads before bytes (token_of before r front ∷ ts) passed left

-- the text has these tokens
abbrev pub HasTokens : List ℕ → List Token → Type 0
HasTokens bytes ts = (passed : List ℕ) × Reads [] bytes ts passed []

-- it has these and no others
abbrev pub IsOnly : List ℕ → List Token → Type 0
IsOnly bytes ts = (others : List Token) → HasTokens bytes others → others ≡ ts

-- it has none
abbrev pub HasNoTokens : List ℕ → Type 0
HasNoTokens bytes = (ts : List Token) → HasTokens bytes ts → ⊥

-- no step is possible: neither a blank nor a comment nor a token stands in front
abbrev pub NoStep : List ℕ → Type 0
NoStep bytes = (front rest : List ℕ) → bytes ≡ front ++ rest → (IsSkipped front rest → ⊥) × ((r : Row) → IsLongest r front rest → ⊥)

-- a reading comes to bytes with which nothing begins, and that spot is theirs
pub record IsStuck (bytes : List ℕ) (s : Spot) : Type 0 where
  pub passed : List ℕ
  pub left : List ℕ
  pub tokens : List Token
  pub reads : Reads [] bytes tokens passed left
  pub place : s ≡ spot_of passed
  pub some : left ≢ []
  pub none : NoStep left
