-- What one step of the qualification looks at, and what it writes.
use Rattle.std.specs.Prelude.{ℕ, Bool, false, ◌&&◌, if◌then◌else◌, List, [], ◌∷◌, codes}
use Rattle.sy_lex.specs.declared.Token.{Token}
use Rattle.sy_tree.specs.Qualification.{is_std, is_scope, is_type_word, with_namespace}

-- whether `std::` and a name of an integer type come next
abbrev pub drops_std : List Token → Bool
drops_std (s ∷ c ∷ t ∷ more) = is_std s.word && is_scope c.word && is_type_word t.word
drops_std _ = false

-- a token, with its namespace if it is to have one
abbrev pub with_namespace_if : Bool → Token → List Token
with_namespace_if named t = if named then with_namespace t else t ∷ []

-- the names of the library in three parts: types, values and namespaces, functions and function objects
abbrev pub type_names : List (List ℕ)
type_names = codes "buffer" ∷ codes "accessor" ∷ codes "host_accessor" ∷ codes "local_accessor" ∷ codes "queue" ∷ codes "device" ∷ codes "context" ∷ codes "handler"
    ∷ codes "event" ∷ codes "range" ∷ codes "id" ∷ codes "nd_range" ∷ codes "item" ∷ codes "nd_item" ∷ codes "group" ∷ codes "group_barrier" ∷ []

abbrev pub value_names : List (List ℕ)
value_names = codes "read_only" ∷ codes "write_only" ∷ codes "read_write" ∷ codes "no_init" ∷ codes "property" ∷ codes "info" ∷ codes "exception" ∷ codes "errc" ∷ []

abbrev pub function_names : List (List ℕ)
function_names = codes "reduction" ∷ codes "plus" ∷ codes "multiplies" ∷ codes "minimum" ∷ codes "maximum" ∷ codes "bit_and" ∷ codes "bit_or" ∷ codes "bit_xor"
    ∷ codes "reduce_over_group" ∷ codes "exclusive_scan_over_group" ∷ codes "inclusive_scan_over_group" ∷ codes "group_broadcast" ∷ []
