-- The names of the library, written out.
use Rattle.std.specs.Prelude.{ℕ, Bool, true, false, ◌&&◌, ◌||◌, not, if◌then◌else◌, List, [], ◌∷◌, ◌++◌, codes}
use Rattle.std.specs.List.{list_any}
use Rattle.std.specs.Str.{bytes_eq}
use Rattle.sy_lex.specs.declared.Row.{Row}
use Rattle.sy_lex.specs.declared.Row.TheVariants as row
use Rattle.sy_lex.specs.declared.Token.{Token}
use Rattle.sy_lex.specs.declared.Word.{Word}
use Rattle.sy_lex.specs.Rows.{type_words}
use Rattle.sy_tree.specs.Words.{mark, identifier}

-- ---- words

abbrev pub same_row : Row → Row → Bool
same_row row.Ident row.Ident = true
same_row row.Reserved row.Reserved = true
same_row row.Int row.Int = true
same_row row.Char row.Char = true
same_row row.Str row.Str = true
same_row row.Include row.Include = true
same_row row.Mark row.Mark = true
same_row _ _ = false

-- whether it is a word of that row with one of these texts
abbrev pub is_one_of : Row → List (List ℕ) → Word → Bool
is_one_of r texts w = same_row w.row r && list_any (bytes_eq w.text) texts

abbrev pub is_std : Word → Bool
is_std w = is_one_of row.Ident (codes "std" ∷ []) w

abbrev pub is_scope : Word → Bool
is_scope w = is_one_of row.Mark (codes "::" ∷ []) w

abbrev pub is_type_word : Word → Bool
is_type_word w = is_one_of row.Reserved type_words w

-- `.` or `::`, after which a name is a member's
abbrev pub is_selector : Word → Bool
is_selector w = is_one_of row.Mark (codes "." ∷ codes "::" ∷ []) w

abbrev pub is_using : Word → Bool
is_using w = is_one_of row.Reserved (codes "using" ∷ []) w

-- the names that `using namespace sycl;` lets a source write without their namespace
abbrev pub library_names : List (List ℕ)
library_names = codes "buffer" ∷ codes "accessor" ∷ codes "host_accessor" ∷ codes "local_accessor" ∷ codes "queue" ∷ codes "device" ∷ codes "context"
    ∷ codes "handler" ∷ codes "event" ∷ codes "range" ∷ codes "id" ∷ codes "nd_range" ∷ codes "item" ∷ codes "nd_item" ∷ codes "group" ∷ codes "group_barrier"
    ∷ codes "read_only" ∷ codes "write_only" ∷ codes "read_write" ∷ codes "no_init" ∷ codes "property" ∷ codes "info" ∷ codes "exception" ∷ codes "errc"
    ∷ codes "reduction" ∷ codes "plus" ∷ codes "multiplies" ∷ codes "minimum" ∷ codes "maximum" ∷ codes "bit_and" ∷ codes "bit_or" ∷ codes "bit_xor"
    ∷ codes "reduce_over_group" ∷ codes "exclusive_scan_over_group" ∷ codes "inclusive_scan_over_group" ∷ codes "group_broadcast" ∷ []

abbrev pub is_library_name : Word → Bool
is_library_name w = is_one_of row.Ident library_names w

-- the word at the place of that token
abbrev pub beside : Token → Word → Token
beside t w = record { word = w; from = t.from; to = t.to; spot = t.spot }

-- ---- `std::` before the name of an integer type

-- it is dropped, as the bare name means the same; the name has the place of that `std`
abbrev pub without_std : List Token → List Token
without_std (s ∷ c ∷ t ∷ more) =
    if is_std s.word && is_scope c.word && is_type_word t.word then beside s t.word ∷ without_std more else s ∷ without_std (c ∷ t ∷ more)
without_std tokens = tokens

-- ---- `using namespace sycl;`

-- a name of the library with its namespace
abbrev pub with_namespace : Token → List Token
with_namespace t = beside t (identifier "sycl") ∷ beside t (mark "::") ∷ t ∷ []

-- The flags say whether a `using` stands before, and whether the token before is `.` or `::`. No unit has the word
-- `using` but in `using namespace sycl;`, and none of the words of that line is a name of the library.
abbrev pub with_namespaces : Bool → Bool → List Token → List Token
with_namespaces used selected [] = []
with_namespaces used selected (t ∷ more) =
    (if used && not selected && is_library_name t.word then with_namespace t else t ∷ []) ++ with_namespaces (used || is_using t.word) (is_selector t.word) more

-- The tokens that the grammar is about.
abbrev pub qualified : List Token → List Token
qualified tokens = with_namespaces false false (without_std tokens)
