-- What the rules ask of an expression that they see. One in which a rule is broken has no type and breaks nothing more.
use Rattle.std.specs.Prelude.{ℕ, Bool, true, false, if◌then◌else◌, List, [], ◌∷◌, Option, Some, None, is_some, not, ◌&&◌, nat_eq}
use Rattle.sy_access.specs.declared.Mode.TheVariants as mode
use Rattle.sy_note.specs.declared.Spot.{Spot}
use Rattle.sy_num.specs.declared.Kind.{Kind}
use Rattle.sy_num.specs.declared.Kind.TheVariants as kind
use Rattle.sy_typed.specs.declared.things.Dimensions.{Dimensions}
use Rattle.sy_typed.specs.declared.things.Dimensions.TheVariants.{One, Two, Three}
use Rattle.sy_typed.specs.declared.things.Thing.{Thing}
use Rattle.sy_typed.specs.declared.things.Thing.TheVariants as thing
use Rattle.sy_rules.specs.declared.seen.Denotes.{Denotes}
use Rattle.sy_rules.specs.declared.seen.Denotes.TheVariants as denotes
use Rattle.sy_rules.specs.declared.seen.Seen.{Seen}

abbrev pub when : Bool → Spot → List Spot
when b s = if b then s ∷ [] else []

-- the type is known, and doesn't pass the test
abbrev pub fails : (Thing → Bool) → Option Thing → Bool
fails p None = false
fails p (Some t) = not (p t)

-- the type is known, and passes the test
abbrev pub passes : (Thing → Bool) → Option Thing → Bool
passes p None = false
passes p (Some t) = p t

abbrev pub is_known : Seen → Bool
is_known a = is_some a.what

-- ---- integers

-- the kind that a value of the type has where an integer is wanted: an id or item of one dimension is its number
-- (SYCL 2020, "id class", "item class": conversion to size_t)
abbrev pub kind_in : Thing → Option Kind
kind_in (thing.Integer k) = Some k
kind_in (thing.Id One) = Some kind.ULong
kind_in (thing.Item One) = Some kind.ULong
kind_in _ = None

abbrev pub is_integer : Thing → Bool
is_integer t = is_some (kind_in t)

abbrev pub is_bool : Thing → Bool
is_bool (thing.Integer kind.Bool) = true
is_bool _ = false

abbrev pub kind_of : Option Thing → Option Kind
kind_of None = None
kind_of (Some t) = kind_in t

-- the first token of what isn't an integer
abbrev pub no_integer : Seen → List Spot
no_integer a = when (fails is_integer a.what) a.first

abbrev pub if_bool : Seen → List Spot
if_bool a = when (passes is_bool a.what) a.first

-- ---- kinds

abbrev pub kind_number : Kind → ℕ
kind_number kind.Bool = 0
kind_number kind.Char = 1
kind_number kind.SChar = 2
kind_number kind.UChar = 3
kind_number kind.Short = 4
kind_number kind.UShort = 5
kind_number kind.Int = 6
kind_number kind.UInt = 7
kind_number kind.Long = 8
kind_number kind.ULong = 9
kind_number kind.LLong = 10
kind_number kind.ULLong = 11

abbrev pub same_kind : Kind → Kind → Bool
same_kind j k = nat_eq (kind_number j) (kind_number k)

-- ---- types by their shape

abbrev pub is_error_code : Thing → Bool
is_error_code thing.ErrorCode = true
is_error_code _ = false

abbrev pub is_reducer : Thing → Bool
is_reducer (thing.Reducer k f) = true
is_reducer _ = false

-- the dimensions of an id or item
abbrev pub index_dimensions : Thing → Option Dimensions
index_dimensions (thing.Id d) = Some d
index_dimensions (thing.Item d) = Some d
index_dimensions _ = None

abbrev pub same_dimensions : Dimensions → Dimensions → Bool
same_dimensions One One = true
same_dimensions Two Two = true
same_dimensions Three Three = true
same_dimensions _ _ = false

-- ---- what is written and read

abbrev pub is_written : Thing → Bool
is_written (thing.Integer k) = true
is_written _ = false

abbrev pub is_target : Denotes → Bool
is_target denotes.Unknown = true
is_target denotes.Value = false
is_target (denotes.Place fixed) = not fixed
is_target (denotes.Element m) = true

-- the first token of what is no integer variable and no element, or is const
abbrev pub no_target : Seen → List Spot
no_target a = when (is_known a && not (is_target a.denotes && passes is_written a.what)) a.first

-- the first token of an element that is read through write_only
abbrev pub is_write_only : Denotes → Bool
is_write_only (denotes.Element mode.Write) = true
is_write_only _ = false

abbrev pub unread : Seen → List Spot
unread a = when (is_write_only a.denotes) a.first

-- the first token of an element that is written through read_only
abbrev pub is_read_only : Denotes → Bool
is_read_only (denotes.Element mode.Read) = true
is_read_only _ = false

abbrev pub unwritten : Seen → List Spot
unwritten a = when (is_read_only a.denotes) a.first
