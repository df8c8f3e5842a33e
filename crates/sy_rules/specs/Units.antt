-- A whole source: the rules that it breaks, whether it is accepted, and its typed program.
-- (C++17, [basic.link], [basic.start.main]; SYCL 2020, "Language restrictions for device functions")
use Rattle.std.specs.Prelude.{◌≡◌, ℕ, ◌+◌, Bool, true, false, ◌&&◌, if◌then◌else◌, nat_eq, List, [], ◌∷◌, ◌++◌, map, reverse, length, Option, Some, None, flat_map}
use Rattle.std.specs.List.{list_any}
use Rattle.std.specs.Str.{bytes_eq}
use Rattle.sy_note.specs.declared.Code.{Code}
use Rattle.sy_note.specs.declared.Code.TheVariants as code
use Rattle.sy_note.specs.declared.Diagnostic.{Diagnostic}
use Rattle.sy_note.specs.declared.Spot.{Spot}
use Rattle.sy_num.specs.declared.Kind.{Kind}
use Rattle.sy_num.specs.declared.Kind.TheVariants as kind
use Rattle.sy_tree.specs.declared.parts.ElementArguments.{ElementArguments}
use Rattle.sy_tree.specs.declared.parts.Lexeme.{Lexeme}
use Rattle.sy_tree.specs.declared.parts.Parameter.{Parameter}
use Rattle.sy_tree.specs.declared.parts.Parameter.TheVariants as parameter
use Rattle.sy_tree.specs.declared.parts.ReferenceType.{ReferenceType}
use Rattle.sy_tree.specs.declared.parts.ReferenceType.TheVariants as reference
use Rattle.sy_tree.specs.declared.parts.ReturnType.{ReturnType}
use Rattle.sy_tree.specs.declared.parts.ReturnType.TheVariants as returned
use Rattle.sy_tree.specs.declared.tree.Argument.TheOpen.{Declarator-F}
use Rattle.sy_tree.specs.declared.tree.Constant.{Constant}
use Rattle.sy_tree.specs.declared.tree.FileItem.{FileItem}
use Rattle.sy_tree.specs.declared.tree.FileItem.TheVariants as item
use Rattle.sy_tree.specs.declared.tree.Function.{Function}
use Rattle.sy_tree.specs.declared.tree.Unit.{Unit as SourceUnit}
use Rattle.sy_typed.specs.declared.things.Thing.{Thing}
use Rattle.sy_typed.specs.declared.things.Thing.TheVariants as thing
use Rattle.sy_typed.specs.declared.tree.Program.{Program}
use Rattle.sy_typed.specs.declared.tree.Typed.{Typed}
use Rattle.sy_typed.specs.declared.tree.TypedBlock.{TypedBlock}
use Rattle.sy_typed.specs.declared.tree.TypedConstant.{TypedConstant}
use Rattle.sy_typed.specs.declared.tree.TypedFunction.{TypedFunction}
use Rattle.sy_typed.specs.declared.tree.TypedNode.TheVariants as node
use Rattle.sy_typed.specs.declared.tree.Variable.{Variable}
use Rattle.sy_rules.specs.declared.names.Names.{Names}
use Rattle.sy_rules.specs.declared.names.Passed.{Passed}
use Rattle.sy_rules.specs.declared.names.Passed.TheVariants as passed
use Rattle.sy_rules.specs.declared.names.Setting.{Setting}
use Rattle.sy_rules.specs.declared.names.Signature.{Signature}
use Rattle.sy_rules.specs.declared.names.Taken.TheVariants as taken
use Rattle.sy_rules.specs.declared.names.Within.{Within}
use Rattle.sy_rules.specs.declared.names.Within.TheVariants as within
use Rattle.sy_rules.specs.declared.seen.Constant.TheVariants as constant
use Rattle.sy_rules.specs.declared.statements.Shared.TheVariants as shared
use Rattle.sy_rules.specs.ExprRules.{if_written, wide_literal, no_dimension}
use Rattle.sy_rules.specs.ExprTypes.{typed, variable}
use Rattle.sy_rules.specs.Faults.{at}
use Rattle.sy_rules.specs.Names.{declared_variable, with_entry, in_setting, scoped}
use Rattle.sy_rules.specs.Objects.{element_dimensions, elements_of}
use Rattle.sy_rules.specs.Outcome.{Finding, held, calls, Outcome, Look, outcome, and_then, after, known_as, in_turn, faults_found, all_broken}
use Rattle.sy_rules.specs.Seen.{when, same_kind}
use Rattle.sy_rules.specs.StmtRules.{Given, redeclared}
use Rattle.sy_rules.specs.Walk.{Dr, Bl, part, declared_value, declarator_of, block}
use Rattle.sy_rules.specs.Words.{main_name}

-- ---- parameters

abbrev pub buffer_of : ElementArguments → Option Thing
buffer_of t = elements_of (λ d. thing.Buffer t.element.kind d) (element_dimensions t)

abbrev pub reference_type : ReferenceType → Option Thing
reference_type (reference.Queue q) = Some thing.Queue
reference_type (reference.Device q) = Some thing.Device
reference_type (reference.Context q) = Some thing.Context
reference_type (reference.Buffer q t) = buffer_of t

abbrev pub in_reference : (Lexeme → List Spot) → ReferenceType → List Spot
in_reference f (reference.Buffer q t) = if_written f t.dimensions
in_reference f _ = []

abbrev pub passed_to : Parameter → Passed
passed_to (parameter.Integer c t x) = passed.Integer
passed_to (parameter.Object t x) = passed.Reference (reference_type t) false
passed_to (parameter.Vector c q t x) = passed.Reference (Some (thing.Vector t.kind)) c

abbrev pub one_declared : Lexeme → Option Thing → Bool → List Diagnostic → Look Variable
one_declared x t fixed more n =
    outcome (variable n.next t x.spot) (faults_found (at code.Redeclared (redeclared n x) ++ more)) (declared_variable x t fixed n)

-- there is no vector of bool
abbrev pub one_parameter : Parameter → Look Variable
one_parameter (parameter.Integer c t x) = one_declared x (Some (thing.Integer t.kind)) c []
one_parameter (parameter.Object t x) = one_declared x (reference_type t) false (at code.BadLiteral (in_reference wide_literal t) ++ at code.BadDimension (in_reference no_dimension t))
one_parameter (parameter.Vector c q t x) = one_declared x (Some (thing.Vector t.kind)) c (at code.WrongArguments (when (same_kind t.kind kind.Bool) x.spot))

-- ---- functions

abbrev pub returned_kind : ReturnType → Option Kind
returned_kind (returned.Void s) = None
returned_kind (returned.Integer t) = Some t.kind

abbrev pub is_named_main : Function → Bool
is_named_main f = bytes_eq f.name.text main_name

abbrev pub signature_of : Function → Signature
signature_of f = record { is_main = is_named_main f; returned = returned_kind f.returned; parameters = map passed_to f.parameters }

-- a function is declared before its body
abbrev pub with_function : Function → Names → Names
with_function f n =
    with_entry f.name.text
    (record { number = 0; what = Some thing.Void; spot = f.name.spot; fixed = true; names_element = false; depth = n.depth; constant = constant.Varying; function = Some (length n.functions) })
    (record n { functions = n.functions ++ (signature_of f ∷ []) })

abbrev pub in_function : ℕ → Function → Setting → Setting
in_function i f s = record { within = within.Host; function = Some i; returned = returned_kind f.returned; in_loop = false; kernel = None; taken = taken.Nothing }

-- the parameters belong to the scope of the body
abbrev pub parameters_then_body : List Parameter → Bl → Look (List Variable × TypedBlock)
parameters_then_body ps b n = and_then (in_turn (map one_parameter ps) n) (λ vs m. known_as (λ y. (vs, y)) (b m))

abbrev pub typed_function : Function → List Variable × TypedBlock → TypedFunction
typed_function f p = record { spot = f.name.spot; returned = returned_kind f.returned; parameters = p.0; body = p.1 }

abbrev pub function_inside : Function → Bl → ℕ → Look TypedFunction
function_inside f b i n = known_as (typed_function f) (in_setting (in_function i f) (λ m. scoped (parameters_then_body f.parameters b) m) n)

-- b looks at its body
abbrev pub one_function : Function → Bl → Look TypedFunction
one_function f b n =
    after (faults_found (at code.Redeclared (redeclared n f.name))) (function_inside f b (length n.functions) (with_function f n))

-- ---- constants

-- a constant of the file, whose initializer has to be one
abbrev pub constant_as : Constant → Lexeme → Given → Typed → Look TypedConstant
constant_as c x i a n = known_as (λ p. p.1) (declared_value true (Some c.specifier) c.of shared.Unknown x i (λ v. record { variable = v; initializer = a }) n)

abbrev pub no_initializer : Spot → Typed
no_initializer s = typed (node.Boolean false) None s

abbrev pub constant_by : Constant → Dr → Look TypedConstant
constant_by c (Declarator-F.Uninitialized x) n = constant_as c x None (no_initializer x.spot) n
constant_by c (Declarator-F.Equal x s a) n = and_then (part a n) (λ p. constant_as c x (Some (p.0, true)) p.1)
constant_by c (Declarator-F.Bracketed x b s a e) n = and_then (part a n) (λ p. constant_as c x (Some (p.0, false)) p.1)

-- ---- what a file holds; of a function also what is found in it

pub data Piece : Type 0 where
  a_constant : TypedConstant → Piece
  a_function : TypedFunction → List Finding → Piece

abbrev pub with_findings : Outcome TypedFunction → Outcome Piece
with_findings o = outcome (a_function o.what o.found) o.found o.names

abbrev pub one_item : FileItem → Look Piece
one_item (item.Constant c) n = known_as a_constant (constant_by c (declarator_of c.declarator) n)
one_item (item.Function f) n = with_findings (one_function f (block f.body) n)

abbrev pub function_items : List FileItem → List Function
function_items [] = []
function_items (item.Constant c ∷ more) = function_items more
function_items (item.Function f ∷ more) = f ∷ function_items more

-- the bodies of functions are numbered before those of lambdas
abbrev pub at_start : List Function → Names
at_start fs = record {
  entries = [];
  functions = [];
  threads = [];
  depth = 0;
  next = 0;
  next_body = length fs;
  setting = record { within = within.Host; function = None; returned = None; in_loop = false; kernel = None; taken = taken.Nothing };
}

abbrev pub looked_at : SourceUnit → Outcome (List Piece)
looked_at u = in_turn (map one_item u.items) (at_start (function_items u.items))

-- ---- NoMain

abbrev pub returns_int : ReturnType → Bool
returns_int (returned.Integer t) = same_kind t.kind kind.Int
returns_int (returned.Void s) = false

abbrev pub takes_nothing : List Parameter → Bool
takes_nothing [] = true
takes_nothing _ = false

abbrev pub is_main : Function → Bool
is_main f = is_named_main f && (returns_int f.returned && takes_nothing f.parameters)

abbrev pub beginning : Spot
beginning = record { line = 1; column = 1 }

abbrev pub no_main : List Function → List Spot
no_main fs = if list_any is_main fs then [] else beginning ∷ []

-- ---- NotInKernel and NotInGroup in functions that kernels and groups call, themselves or through others

abbrev pub same_within : Within → Within → Bool
same_within within.Host within.Host = true
same_within within.Group within.Group = true
same_within within.Kernel within.Kernel = true
same_within _ _ = false

-- a call that w makes: from its own text, or from a function that it calls
abbrev pub called_in : Within → Bool → Finding → List ℕ
called_in w is_called (calls within.Host i) = if is_called then i ∷ [] else []
called_in w is_called (calls u i) = if same_within w u then i ∷ [] else []
called_in w is_called _ = []

abbrev pub rule_of : Within → Code
rule_of within.Kernel = code.NotInKernel
rule_of _ = code.NotInGroup

abbrev pub held_in : Within → Finding → List Diagnostic
held_in w (held u s) = if same_within w u then record { spot = s; code = rule_of w } ∷ [] else []
held_in w _ = []

abbrev pub held_if : Bool → Within → List Finding → List Diagnostic
held_if true w found = flat_map (held_in w) found
held_if false w found = []

abbrev pub is_among : ℕ → List ℕ → Bool
is_among i is = list_any (nat_eq i) is

-- the functions with their places, the last of the source first: what calls a function stands behind it
abbrev pub held_back : Within → List ℕ → List (ℕ × List Finding) → List Diagnostic
held_back w called [] = []
held_back w called (f ∷ earlier) =
    held_if (is_among f.0 called) w f.1 ++ held_back w (flat_map (called_in w (is_among f.0 called)) f.1 ++ called) earlier

abbrev pub found_in_functions : ℕ → List Piece → List (ℕ × List Finding)
found_in_functions i [] = []
found_in_functions i (a_constant c ∷ more) = found_in_functions i more
found_in_functions i (a_function f found ∷ more) = (i, found) ∷ found_in_functions (i + 1) more

abbrev pub last_first : List Piece → List (ℕ × List Finding)
last_first ps = reverse (found_in_functions 0 ps)

-- ---- Acceptance

abbrev pub broken_in : List Function → Outcome (List Piece) → List Diagnostic
broken_in fs o =
    at code.NoMain (no_main fs)
    ++ (all_broken o.found
    ++ (held_back within.Kernel [] (last_first o.what)
    ++ held_back within.Group [] (last_first o.what)))

-- every rule of typing that the source breaks, with its place
unfoldable pub broken_rules : SourceUnit → List Diagnostic
broken_rules u = broken_in (function_items u.items) (looked_at u)

-- the source breaks none
abbrev pub Accepted : SourceUnit → Type 0
Accepted u = broken_rules u ≡ []

-- ---- the typed program

abbrev pub constants_of : List Piece → List TypedConstant
constants_of [] = []
constants_of (a_constant c ∷ more) = c ∷ constants_of more
constants_of (a_function f found ∷ more) = constants_of more

abbrev pub functions_of : List Piece → List TypedFunction
functions_of [] = []
functions_of (a_constant c ∷ more) = functions_of more
functions_of (a_function f found ∷ more) = f ∷ functions_of more

-- how many functions stand before `main`
abbrev pub place_of_main : List Function → ℕ
place_of_main [] = 0
place_of_main (f ∷ more) = if is_main f then 0 else 1 + place_of_main more

abbrev pub program_in : List Function → Outcome (List Piece) → Program
program_in fs o = record { constants = constants_of o.what; functions = functions_of o.what; main = place_of_main fs }

unfoldable pub program_of : SourceUnit → Program
program_of u = program_in (function_items u.items) (looked_at u)
