-- Two small sources, with every token at one place.
use Rattle.std.specs.Prelude.{List, [], ◌∷◌, Some, codes}
use Rattle.sy_lex.specs.declared.Row.TheVariants as row
use Rattle.sy_lex.specs.declared.Token.{Token}
use Rattle.sy_lex.specs.declared.Word.{Word}
use Rattle.sy_note.specs.declared.Spot.{Spot}
use Rattle.sy_num.specs.declared.Kind.TheVariants as kind
use Rattle.sy_tree.specs.declared.parts.ReturnType.TheVariants as returned
use Rattle.sy_tree.specs.declared.tree.Block.{Block, roll-Block}
use Rattle.sy_tree.specs.declared.tree.Expr.TheVariants as expr
use Rattle.sy_tree.specs.declared.tree.FileItem.TheVariants as item
use Rattle.sy_tree.specs.declared.tree.Stmt.{Stmt}
use Rattle.sy_tree.specs.declared.tree.Stmt.TheVariants as stmt
use Rattle.sy_tree.specs.declared.tree.Unit.{Unit as SourceUnit}
use Rattle.sy_tree.specs.Words.{mark, keyword, identifier}

module _ (s : Spot) where
  -- the word at that place
  abbrev pub here : Word → Token
  here w = record { word = w; from = 0; to = 0; spot = s }

  -- int main ( ) { }
  abbrev pub main_tokens : List Token
  main_tokens = here (keyword "int") ∷ here (identifier "main") ∷ here (mark "(") ∷ here (mark ")") ∷ here (mark "{") ∷ here (mark "}") ∷ []

  -- { }
  abbrev pub empty_block : Block
  empty_block = roll-Block (record { spot = s; statements = []; close = s })

  -- the unit with the one function `main`, which does nothing
  abbrev pub main_unit : SourceUnit
  main_unit = record {
    includes = [];
    usings = [];
    items = item.Function (record {
      returned = returned.Integer (record { spot = s; kind = kind.Int });
      name = record { spot = s; text = codes "main" };
      parameters = [];
      body = empty_block;
    }) ∷ [];
  }

  -- return 1 ;
  abbrev pub return_tokens : List Token
  return_tokens = here (keyword "return") ∷ here (record { row = row.Int; text = codes "1" }) ∷ here (mark ";") ∷ []

  -- the statement that returns 1
  abbrev pub return_stmt : Stmt
  return_stmt = stmt.Return s (Some (expr.Integer (record { spot = s; text = codes "1" }))) s
