-- The names that are declared, as a list with the newest first, and what surrounds them.
use Rattle.std.specs.Prelude.{ℕ, ◌+◌, ◌-◌, Bool, false, nat_eq, nat_le, if◌then◌else◌, List, [], ◌∷◌, Option, Some, None, drop}
use Rattle.std.specs.List.{prefix_len}
use Rattle.std.specs.Str.{bytes_eq}
use Rattle.sy_tree.specs.declared.parts.Lexeme.{Lexeme}
use Rattle.sy_typed.specs.declared.things.Thing.{Thing}
use Rattle.sy_rules.specs.declared.names.Entry.{Entry}
use Rattle.sy_rules.specs.declared.names.Named.{Named}
use Rattle.sy_rules.specs.declared.names.Names.{Names}
use Rattle.sy_rules.specs.declared.names.Setting.{Setting}
use Rattle.sy_rules.specs.declared.names.Taken.{Taken}
use Rattle.sy_rules.specs.declared.seen.Constant.{Constant}
use Rattle.sy_rules.specs.declared.seen.Constant.TheVariants as constant
use Rattle.sy_rules.specs.Outcome.{Outcome, Look, outcome}

abbrev pub look_up : List Entry → List ℕ → Option Named
look_up [] x = None
look_up (e ∷ es) x = if bytes_eq e.name x then Some e.named else look_up es x

-- ---- scopes (C++17, [basic.scope.block])

abbrev pub entered : Names → Names
entered n = record n { depth = n.depth + 1 }

-- without the names of the innermost scopes, from this depth on
abbrev pub outside : ℕ → List Entry → List Entry
outside d es = drop (prefix_len (λ e. nat_le d e.named.depth) es) es

abbrev pub left : Names → Names
left n = record n { entries = outside n.depth n.entries; depth = n.depth - 1 }

-- the name is declared in the innermost scope
abbrev pub is_at : ℕ → Option Named → Bool
is_at d None = false
is_at d (Some v) = nat_eq v.depth d

abbrev pub is_here : Names → List ℕ → Bool
is_here n x = is_at n.depth (look_up n.entries x)

-- ---- declarations

abbrev pub with_entry : List ℕ → Named → Names → Names
with_entry x v n = record n { entries = record { name = x; named = v } ∷ n.entries }

-- a new declaration in the innermost scope; the flag says whether the name stands for an element of a vector
abbrev pub declared_as : Bool → Lexeme → Option Thing → Bool → Constant → Names → Names
declared_as names_element x what fixed c n =
    with_entry x.text
    (record { number = n.next; what = what; spot = x.spot; fixed = fixed; names_element = names_element; depth = n.depth; constant = c; function = None })
    (record n { next = n.next + 1 })

-- a name that stands for no element of a vector
abbrev pub declared : Lexeme → Option Thing → Bool → Constant → Names → Names
declared x what fixed c n = declared_as false x what fixed c n

-- a name whose value changes, or isn't known before the program runs
abbrev pub declared_variable : Lexeme → Option Thing → Bool → Names → Names
declared_variable x what fixed n = declared x what fixed constant.Varying n

-- ---- the setting

abbrev pub with_setting : (Setting → Setting) → Names → Names
with_setting f n = record n { setting = f n.setting }

-- what the part looks at stands in another setting, and what follows in the old one
abbrev pub back_to : {T : Type 0} → Setting → Outcome T → Outcome T
back_to s o = outcome o.what o.found (with_setting (λ t. s) o.names)

abbrev pub in_setting : {T : Type 0} → (Setting → Setting) → Look T → Look T
in_setting f a n = back_to n.setting (a (with_setting f n))

-- the place of the part takes this
abbrev pub where_taken : {T : Type 0} → Taken → Look T → Look T
where_taken t a n = in_setting (λ s. record s { taken = t }) a n

-- a scope that ends with the part
abbrev pub closed : {T : Type 0} → Outcome T → Outcome T
closed o = outcome o.what o.found (left o.names)

abbrev pub scoped : {T : Type 0} → Look T → Look T
scoped a n = closed (a (entered n))
