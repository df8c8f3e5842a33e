-- Whether arguments are those that the library takes.
use Rattle.std.specs.Prelude.{ℕ, Bool, true, false, if◌then◌else◌, not, nat_eq, List, [], ◌∷◌, length, Option, Some, None}
use Rattle.std.specs.List.{list_all}
use Rattle.sy_tree.specs.declared.parts.Lexeme.{Lexeme}
use Rattle.sy_typed.specs.declared.things.Dimensions.{Dimensions}
use Rattle.sy_typed.specs.declared.things.Thing.{Thing}
use Rattle.sy_typed.specs.declared.things.Thing.TheVariants as thing
use Rattle.sy_typed.specs.Things.{dimension_count}
use Rattle.sy_rules.specs.declared.seen.Seen.{Seen}
use Rattle.sy_rules.specs.declared.library.Fit.{Fit}
use Rattle.sy_rules.specs.declared.library.Fit.TheVariants.{Fits, WrongDimension, WrongArguments, WrongElement}
use Rattle.sy_rules.specs.declared.library.Row.{Row}
use Rattle.sy_rules.specs.declared.library.Wanted.{Wanted}
use Rattle.sy_rules.specs.declared.library.Wanted.TheVariants as wanted
use Rattle.sy_rules.specs.declared.seen.SeenArgument.{SeenArgument}
use Rattle.sy_rules.specs.declared.seen.SeenArgument.TheVariants as argument
use Rattle.sy_rules.specs.Literals.{dimensions_written}
use Rattle.sy_rules.specs.Seen.{fails, is_integer, same_dimensions}

-- both; where the arguments aren't of the sorts that are taken, nothing else is asked of them
abbrev pub both : Fit → Fit → Fit
both Fits g = g
both WrongArguments g = WrongArguments
both WrongDimension WrongArguments = WrongArguments
both WrongDimension g = WrongDimension
both WrongElement Fits = WrongElement
both WrongElement g = g

abbrev pub arguments_if : Bool → Fit
arguments_if b = if b then Fits else WrongArguments

abbrev pub dimension_if : Bool → Fit
dimension_if b = if b then Fits else WrongDimension

abbrev pub element_if : Bool → Fit
element_if b = if b then Fits else WrongElement

abbrev pub row : Fit → Thing → Row
row f t = record { fit = f; gives = Some t }

-- ---- one argument

-- it may be a value of such a type; what a rule is broken in fits everywhere
abbrev pub may_be : (Thing → Bool) → SeenArgument → Bool
may_be p (argument.Value a) = not (fails p a.what)
may_be p (argument.Braced xs) = false
may_be p (argument.Lambda l) = not l.is_sound

abbrev pub is_lambda : SeenArgument → Bool
is_lambda (argument.Value a) = not (fails (λ t. false) a.what)
is_lambda (argument.Braced xs) = false
is_lambda (argument.Lambda l) = true

-- its type, if it is a value of a known one
abbrev pub type_in : SeenArgument → Option Thing
type_in (argument.Value a) = a.what
type_in _ = None

abbrev pub all_integers : List SeenArgument → Bool
all_integers = list_all (may_be is_integer)

abbrev pub each_integer : List Seen → Bool
each_integer = list_all (λ a. not (fails is_integer a.what))

abbrev pub nothing_given : List SeenArgument → Fit
nothing_given [] = Fits
nothing_given _ = WrongArguments

abbrev pub one_given : (SeenArgument → Bool) → List SeenArgument → Fit
one_given p (a ∷ []) = arguments_if (p a)
one_given p _ = WrongArguments

-- ---- dimensions

abbrev pub wanted_of : Option Dimensions → Wanted
wanted_of None = wanted.Unknown
wanted_of (Some d) = wanted.Written d

-- a literal between `<` and `>`, which may be left out
abbrev pub wanted_by : Option Lexeme → Wanted
wanted_by None = wanted.Unwritten
wanted_by (Some x) = wanted_of (dimensions_written x.text)

abbrev pub fit_dimensions : Wanted → Dimensions → Fit
fit_dimensions (wanted.Written d) e = dimension_if (same_dimensions d e)
fit_dimensions _ e = Fits

abbrev pub fit_count : Wanted → ℕ → Fit
fit_count (wanted.Written d) n = dimension_if (nat_eq n (dimension_count d))
fit_count _ n = Fits

-- ---- a range argument: a range's value, or `{..}` of integers where the dimensions are written

abbrev pub fit_range_type : Wanted → Option Thing → Fit
fit_range_type w None = Fits
fit_range_type w (Some (thing.Range d)) = fit_dimensions w d
fit_range_type w (Some _) = WrongArguments

abbrev pub fit_braced : Wanted → List Seen → Fit
fit_braced wanted.Unwritten xs = WrongArguments
fit_braced w xs = both (arguments_if (each_integer xs)) (fit_count w (length xs))

abbrev pub fit_range : Wanted → SeenArgument → Fit
fit_range w (argument.Value a) = fit_range_type w a.what
fit_range w (argument.Braced xs) = fit_braced w xs
fit_range w (argument.Lambda l) = WrongArguments
