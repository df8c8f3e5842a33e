-- What stands in a file.
use Rattle.std.specs.Prelude.{Bool, true, false}
use Rattle.sy_tree.specs.declared.tree.FileItem.{FileItem}
use Rattle.sy_tree.specs.declared.tree.FileItem.TheVariants as item
use Rattle.sy_rules.specs.Units.{is_main}

-- a `main` that returns int and takes nothing
abbrev pub is_main_item : FileItem → Bool
is_main_item (item.Constant c) = false
is_main_item (item.Function f) = is_main f

abbrev pub is_function : FileItem → Bool
is_function (item.Constant c) = false
is_function (item.Function f) = true
