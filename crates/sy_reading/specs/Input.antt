-- Readers, and the readers of single tokens.
use Rattle.std.specs.Prelude.{ℕ, zero, suc, ◌+◌, max, Bool, false, ◌&&◌, if◌then◌else◌, nat_lt, List, [], ◌∷◌, ◌++◌, length, Option, Some, None, codes}
use Rattle.std.specs.Str.{bytes_eq}
use Rattle.sy_lex.specs.declared.Row.{Row}
use Rattle.sy_lex.specs.declared.Row.TheVariants as row
use Rattle.sy_lex.specs.declared.Token.{Token}
use Rattle.sy_lex.specs.declared.Word.{Word}
use Rattle.sy_note.specs.declared.Spot.{Spot}
use Rattle.sy_tree.specs.declared.parts.Lexeme.{Lexeme}
use Rattle.sy_tree.specs.declared.parts.Qualified.{Qualified}
use Rattle.sy_tree.specs.Qualification.{same_row}

-- what is read from the front of a list, and what is left of it; nothing where the list is refused
abbrev pub Reader : Type 0 → Type 0
Reader A = List Token → Option (A × List Token)

abbrev pub and_then : {A B : Type 0} → Option (A × List Token) → (A → Reader B) → Option (B × List Token)
and_then (Some p) f = f p.0 p.1
and_then None f = None

infixl 10 ◌>>=◌
abbrev pub ◌>>=◌ : {A B : Type 0} → Reader A → (A → Reader B) → Reader B
p >>= f = λ ts. and_then (p ts) f

infixl 10 ◌>>◌
abbrev pub ◌>>◌ : {A B : Type 0} → Reader A → Reader B → Reader B
p >> q = p >>= (λ _. q)

abbrev pub pure : {A : Type 0} → A → Reader A
pure a = λ ts. Some (a, ts)

abbrev pub refuse : {A : Type 0} → Reader A
refuse = λ ts. None

-- a part of a tree, and the height of the highest node in it
abbrev pub WithHeight : Type 0 → Type 0
WithHeight A = A × ℕ

-- a node over children of at most that height, unless it is too high
abbrev pub check_height : {A : Type 0} → A → ℕ → Reader (WithHeight A)
check_height x h = λ ts. if nat_lt h 64 then Some ((x, h + 1), ts) else None

-- ---- tokens

abbrev pub is_word : Row → List ℕ → Word → Bool
is_word r text w = same_row w.row r && bytes_eq w.text text

-- what stands behind the next token
abbrev pub next : List Token → List Token
next [] = []
next (t ∷ ts) = ts

-- whether that word comes next
unfoldable pub sees : Row → List ℕ → List Token → Bool
sees r text [] = false
sees r text (t ∷ ts) = is_word r text t.word

-- whether a word of that row comes next
unfoldable pub sees_row : Row → List Token → Bool
sees_row r [] = false
sees_row r (t ∷ ts) = same_row t.word.row r

-- whether a name of that namespace comes next
unfoldable pub sees_namespace : List ℕ → List Token → Bool
sees_namespace space ts = sees row.Ident space ts && sees row.Mark (codes "::") (next ts)

-- the text of the next token, if it is a mark
unfoldable pub mark_text : List Token → List ℕ
mark_text [] = []
mark_text (t ∷ ts) = if same_row t.word.row row.Mark then t.word.text else []

-- that word
unfoldable pub expect : Row → List ℕ → Reader Spot
expect r text [] = None
expect r text (t ∷ ts) = if is_word r text t.word then Some (t.spot, ts) else None

-- any token
unfoldable pub advance : Reader Spot
advance [] = None
advance (t ∷ ts) = Some (t.spot, ts)

-- a token of that row, with its text
unfoldable pub expect_row : Row → Reader Lexeme
expect_row r [] = None
expect_row r (t ∷ ts) = if same_row t.word.row r then Some (record { spot = t.spot; text = t.word.text }, ts) else None

-- takes the word, if it comes next
unfoldable pub after : Row → List ℕ → List Token → List Token
after r text ts = if sees r text ts then next ts else ts

abbrev pub eat : Row → List ℕ → Reader Bool
eat r text = λ ts. Some (sees r text ts, after r text ts)

-- any name of that namespace: where the namespace stands, and the name
unfoldable pub expect_name : List ℕ → Reader (Spot × Lexeme)
expect_name space = do
  s ← expect row.Ident space
  expect row.Mark (codes "::")
  x ← expect_row row.Ident
  pure (s, x)

abbrev pub qualified_name : Spot × Lexeme → Qualified
qualified_name p = record { namespace = p.0; name = p.1.spot }

-- that name of that namespace
unfoldable pub within : List ℕ → List ℕ → Reader Qualified
within space text = do
  s ← expect row.Ident space
  expect row.Mark (codes "::")
  t ← expect row.Ident text
  pure (record { namespace = s; name = t })

-- ---- lists

-- one or more, separated by commas; the number bounds the turns
unfoldable pub comma_list_from : {A : Type 0} → Reader (WithHeight A) → ℕ → List A → ℕ → Reader (WithHeight (List A))
comma_list_from one zero xs h = refuse
comma_list_from one (suc n) xs h = do
  x ← one
  more ← eat row.Mark (codes ",")
  if more then comma_list_from one n (xs ++ x.0 ∷ []) (max h x.1) else pure (xs ++ x.0 ∷ [], max h x.1)

abbrev pub comma_list : {A : Type 0} → Reader (WithHeight A) → Reader (WithHeight (List A))
comma_list one = λ ts. comma_list_from one (length ts) [] 0 ts

-- the same or none, up to that mark, which isn't taken
unfoldable pub maybe_comma_list : {A : Type 0} → Reader (WithHeight A) → List ℕ → Reader (WithHeight (List A))
maybe_comma_list one close = λ ts. if sees row.Mark close ts then Some (([], 0), ts) else comma_list one ts
