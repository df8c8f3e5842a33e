-- The words that a tree can begin with.
use Rattle.std.specs.Prelude.{ℕ, Bool, true, false, ◌||◌, List, [], ◌∷◌, codes}
use Rattle.sy_lex.specs.declared.Row.{Row}
use Rattle.sy_lex.specs.declared.Row.TheVariants as row
use Rattle.sy_lex.specs.declared.Token.{Token}
use Rattle.sy_lex.specs.declared.Word.{Word}
use Rattle.sy_lex.specs.Rows.{type_words}
use Rattle.sy_tree.specs.Expressions.{Node, an_expr, a_lambda, a_full, a_block, a_stmt}
use Rattle.sy_tree.specs.Qualification.{is_one_of}

-- the first words of integer types
abbrev pub integer_words : List (List ℕ)
integer_words = codes "bool" ∷ codes "char" ∷ codes "signed" ∷ codes "unsigned" ∷ codes "short" ∷ codes "int" ∷ codes "long" ∷ type_words

abbrev pub opens_type : Word → Bool
opens_type w = is_one_of row.Reserved integer_words w

-- an identifier or literal, a cast or a truth value, a parenthesis, or an operator with one operand
abbrev pub opens_expr : Word → Bool
opens_expr w = is_one_of row.Reserved (codes "true" ∷ codes "false" ∷ codes "static_cast" ∷ []) w || opens_type w
    || is_one_of row.Mark (codes "(" ∷ codes "+" ∷ codes "-" ∷ codes "!" ∷ codes "~" ∷ codes "++" ∷ codes "--" ∷ []) w || is_operand w.row
  where
    is_operand : Row → Bool
    is_operand row.Ident = true
    is_operand row.Int = true
    is_operand row.Char = true
    is_operand _ = false

-- a type, what may stand before it, or a namespace
abbrev pub opens_declaration : Word → Bool
opens_declaration w = opens_type w || is_one_of row.Reserved (codes "const" ∷ codes "constexpr" ∷ codes "auto" ∷ []) w
    || is_one_of row.Ident (codes "std" ∷ codes "sycl" ∷ []) w

-- a word of its own, or what an expression or declaration begins with
abbrev pub opens_stmt : Word → Bool
opens_stmt w = opens_expr w || opens_declaration w || is_one_of row.Mark (codes "{" ∷ codes ";" ∷ []) w
    || is_one_of row.Reserved (codes "break" ∷ codes "continue" ∷ codes "return" ∷ codes "if" ∷ codes "while" ∷ codes "do" ∷ codes "for" ∷ codes "try" ∷ []) w

abbrev pub opens : Node → Word → Bool
opens (an_expr least x) w = opens_expr w
opens (a_lambda l) w = is_one_of row.Mark (codes "[" ∷ []) w
opens (a_full x) w = opens_expr w
opens (a_block b) w = is_one_of row.Mark (codes "{" ∷ []) w
opens (a_stmt x) w = opens_stmt w

-- whether the list has a first token, and such a one
abbrev pub first : (Word → Bool) → List Token → Bool
first f [] = false
first f (t ∷ ts) = f t.word
