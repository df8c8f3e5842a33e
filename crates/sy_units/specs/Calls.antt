-- Which functions kernels and groups call.
use Rattle.std.specs.Prelude.{◌≡◌, ◌<◌, ◌&&◌, ℕ, Bool, true, false, not, List, [], ◌∷◌, length, nat_eq, get_or, Option, None}
use Rattle.sy_note.specs.declared.Diagnostic.{Diagnostic}
use Rattle.sy_found.specs.Noted.{Notes, nothing_noted, found_in}
use Rattle.sy_found.specs.declared.parts.Call.{Call}
use Rattle.sy_rules.specs.Outcome.{Finding}
use Rattle.sy_rules.specs.Units.{Piece, a_constant, a_function, is_among}
use Rattle.sy_rules.specs.declared.names.Within.{Within}
use Rattle.sy_rules.specs.declared.names.Within.TheVariants as within

abbrev pub within_of : Bool → Within
within_of true = within.Kernel
within_of false = within.Group

abbrev pub first_held : Bool → Notes → Option Diagnostic
first_held true t = t.for_kernels
first_held false t = t.for_groups

-- a kernel, or a group, makes the call: in its own text, or in a function that it calls
abbrev pub made_from : Bool → Bool → Within → Bool
made_from in_kernels is_called within.Host = is_called
made_from in_kernels is_called within.Kernel = in_kernels
made_from in_kernels is_called within.Group = not in_kernels

abbrev pub makes : Bool → Bool → Call → Bool
makes in_kernels is_called c = made_from in_kernels is_called c.from

-- it makes the call, and that is a call of the function i
abbrev pub makes_to : Bool → Bool → ℕ → Call → Bool
makes_to in_kernels is_called i c = makes in_kernels is_called c && nat_eq i c.to

-- what is kept of these findings
abbrev pub noted_of : List Finding → Notes
noted_of xs = found_in None nothing_noted xs

-- of each function
abbrev pub notes_of : List Piece → List Notes
notes_of [] = []
notes_of (a_constant c ∷ more) = notes_of more
notes_of (a_function f found ∷ more) = noted_of found ∷ notes_of more

-- the flags are set at the places in the list
abbrev pub Agrees : List Bool → List ℕ → Type 0
Agrees called is = (i : ℕ) → i < length called → get_or called i false ≡ is_among i is
