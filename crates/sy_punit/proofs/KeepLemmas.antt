-- Steps of the qualification.
use Rattle.std.proofs.Common.{◌≡◌, ℕ, Bool, ◌&&◌, ◌||◌, not, List, [], ◌∷◌, ◌++◌, refl, sym, append_assoc}
use Rattle.std.proofs.lemmas.List.Folds.{list_any-append}
use Rattle.std.specs.List.{list_any}
use Rattle.std.specs.Str.{bytes_eq}
use Rattle.sy_lex.specs.declared.Token.{Token}
use Rattle.sy_tree.specs.Qualification.{with_namespaces, is_library_name, is_using, is_selector, library_names}
use Rattle.sy_punit.specs.Qualifying.{with_namespace_if, type_names, value_names, function_names}

-- one token more is written
pub one_written : (used selected : Bool) (t : Token) (rest more out : List Token) → rest ≡ t ∷ more →
    out ++ with_namespaces used selected rest
    ≡ (out ++ with_namespace_if (used && not selected && is_library_name t.word) t) ++ with_namespaces (used || is_using t.word) (is_selector t.word) more
one_written used selected t rest more out h =
    rw (h, append_assoc out (with_namespace_if (used && not selected && is_library_name t.word) t) (with_namespaces (used || is_using t.word) (is_selector t.word) more)) refl

-- a name of one of these kinds is a name of the library
pub library_name : (text : List ℕ) →
    (list_any (bytes_eq text) type_names || (list_any (bytes_eq text) value_names || list_any (bytes_eq text) function_names)) ≡ list_any (bytes_eq text) library_names
library_name text = rw (sym (list_any-append (bytes_eq text) value_names function_names), sym (list_any-append (bytes_eq text) type_names (value_names ++ function_names))) refl

-- three more
pub three_more : (old one two new : List Token) (a b c m n : Token) → m ≡ a → n ≡ b → one ≡ old ++ m ∷ [] → two ≡ one ++ n ∷ [] →
    new ≡ two ++ c ∷ [] → new ≡ old ++ a ∷ b ∷ c ∷ []
three_more old one two new a b c m n e f g h k = rw (k, h, g, e, f, append_assoc old (a ∷ []) (b ∷ []), append_assoc old (a ∷ b ∷ []) (c ∷ [])) refl
