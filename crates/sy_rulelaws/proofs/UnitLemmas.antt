-- Whatever a whole source breaks is of typing.
use Rattle.std.proofs.Common.{◌≡◌, refl, sym, subst, ℕ, ◌+◌, Bool, true, false, List, [], ◌∷◌, ◌++◌, map, length, Some, None, inl, inr, if◌then◌else◌}
use Rattle.std.specs.Prelude.{flat_map}
use Rattle.sy_note.specs.declared.Code.TheVariants as code
use Rattle.sy_note.specs.declared.Diagnostic.{Diagnostic}
use Rattle.sy_note.specs.declared.Spot.{Spot}
use Rattle.sy_tree.specs.declared.parts.Lexeme.{Lexeme}
use Rattle.sy_tree.specs.declared.parts.Parameter.{Parameter}
use Rattle.sy_tree.specs.declared.parts.Parameter.TheVariants as parameter
use Rattle.sy_tree.specs.declared.tree.Argument.TheOpen.{Declarator-F}
use Rattle.sy_tree.specs.declared.tree.Constant.{Constant}
use Rattle.sy_tree.specs.declared.tree.FileItem.{FileItem}
use Rattle.sy_tree.specs.declared.tree.FileItem.TheVariants as item
use Rattle.sy_tree.specs.declared.tree.Function.{Function}
use Rattle.sy_tree.specs.declared.tree.Unit.{Unit as SourceUnit}
use Rattle.sy_rules.specs.declared.names.Names.{Names}
use Rattle.sy_rules.specs.declared.names.Taken.TheVariants as taken
use Rattle.sy_rules.specs.declared.names.Within.{Within}
use Rattle.sy_rules.specs.declared.names.Within.TheVariants as within
use Rattle.sy_rules.specs.declared.statements.Shared.TheVariants as shared
use Rattle.sy_rules.specs.Faults.{at, first_broken}
use Rattle.sy_rules.specs.Firsts.{Among}
use Rattle.sy_rules.specs.Names.{entered, with_setting}
use Rattle.sy_rules.specs.Outcome.{Finding, broken, foreign, held, calls, uses, Outcome, in_turn, faults_found, all_broken}
use Rattle.sy_rules.specs.StmtRules.{redeclared}
use Rattle.sy_rules.specs.Units.{one_parameter, with_function, in_function, one_function, constant_by, Piece, one_item, function_items, at_start, looked_at, no_main, same_within, rule_of, held_in, held_if, is_among, called_in, held_back, last_first, broken_in, broken_rules}
use Rattle.sy_rules.specs.Walk.{Dr, Bl, part, declarator_of, block}
use Rattle.sy_rules.proofs.Firsts.{first_among}
use Rattle.sy_rulelaws.specs.Typing.{is_typing}
use Rattle.sy_rulelaws.proofs.CodeLemmas.{EachTyping, AreTyping, none_typing, typing_cons, typing_append, at_typing, at_then, EachFound, AllFound, found_append, found_faults, declarator_typing}
use Rattle.sy_rulelaws.proofs.LookLemmas.{Clean, AllClean, DeclaratorClean, part_clean, all_clean}
use Rattle.sy_rulelaws.proofs.TreeLemmas.{block_is_clean, declarator_is_clean}

-- ---- parameters, functions and constants

declared_found : (n : Names) (x : Lexeme) (more : List Diagnostic) → AreTyping more → AllFound (faults_found (at code.Redeclared (redeclared n x) ++ more))
declared_found n x more h = found_faults _ (at_then code.Redeclared (redeclared n x) more refl h)

parameter_clean : (p : Parameter) → Clean (one_parameter p)
parameter_clean (parameter.Integer c t x) n = declared_found n x [] none_typing
parameter_clean (parameter.Object t x) n = declared_found n x _ (at_then code.BadLiteral _ _ refl (at_typing code.BadDimension _ refl))
parameter_clean (parameter.Vector c q t x) n = declared_found n x _ (at_typing code.WrongArguments _ refl)

parameters_clean : (ps : List Parameter) → AllClean (map one_parameter ps)
parameters_clean [] = tt
parameters_clean (p ∷ ps) = (parameter_clean p, parameters_clean ps)

function_clean : (f : Function) (b : Bl) → Clean b → Clean (one_function f b)
function_clean f b h n =
    let m = entered (with_setting (in_function (length n.functions) f) (with_function f n)) in
    let o = in_turn (map one_parameter f.parameters) m in
    found_append (faults_found (at code.Redeclared (redeclared n f.name))) _ (found_faults _ (at_typing code.Redeclared (redeclared n f.name) refl))
    (found_append o.found _ (all_clean (map one_parameter f.parameters) (parameters_clean f.parameters) m) (h o.names))

constant_clean : (c : Constant) (d : Dr) → DeclaratorClean d → Clean (constant_by c d)
constant_clean c (Declarator-F.Uninitialized x) h n = found_faults _ (declarator_typing n true (Some c.specifier) c.of shared.Unknown x None)
constant_clean c (Declarator-F.Equal x s a) h n =
    let o = part a n in
    found_append o.found _ (part_clean taken.Nothing a h n) (found_faults _ (declarator_typing o.names true (Some c.specifier) c.of shared.Unknown x (Some (o.what.0, true))))
constant_clean c (Declarator-F.Bracketed x b s a e) h n =
    let o = part a n in
    found_append o.found _ (part_clean taken.Nothing a h n) (found_faults _ (declarator_typing o.names true (Some c.specifier) c.of shared.Unknown x (Some (o.what.0, false))))

item_clean : (i : FileItem) → Clean (one_item i)
item_clean (item.Constant c) n = constant_clean c (declarator_of c.declarator) (declarator_is_clean c.declarator) n
item_clean (item.Function f) n = function_clean f (block f.body) (block_is_clean f.body) n

items_clean : (is : List FileItem) → AllClean (map one_item is)
items_clean [] = tt
items_clean (i ∷ is) = (item_clean i, items_clean is)

-- ---- what functions hold back

rule_typing : (w : Within) → is_typing (rule_of w) ≡ true
rule_typing within.Host = refl
rule_typing within.Group = refl
rule_typing within.Kernel = refl

rule_if : (b : Bool) (w : Within) (s : Spot) → AreTyping (if b then record { spot = s; code = rule_of w } ∷ [] else [])
rule_if true w s = typing_cons _ [] (rule_typing w) none_typing
rule_if false w s = none_typing

held_typing : (w : Within) (xs : List Finding) → AreTyping (flat_map (held_in w) xs)
held_typing w [] = none_typing
held_typing w (broken d ∷ xs) = held_typing w xs
held_typing w (foreign u ∷ xs) = held_typing w xs
held_typing w (held u s ∷ xs) = typing_append (held_in w (held u s)) (flat_map (held_in w) xs) (rule_if (same_within w u) w s) (held_typing w xs)
held_typing w (calls u i ∷ xs) = held_typing w xs
held_typing w (uses v ∷ xs) = held_typing w xs

held_if_typing : (b : Bool) (w : Within) (xs : List Finding) → AreTyping (held_if b w xs)
held_if_typing true w xs = held_typing w xs
held_if_typing false w xs = none_typing

held_back_typing : (w : Within) (called : List ℕ) (fs : List (ℕ × List Finding)) → AreTyping (held_back w called fs)
held_back_typing w called [] = none_typing
held_back_typing w called (f ∷ earlier) =
    typing_append (held_if (is_among f.0 called) w f.1) _ (held_if_typing (is_among f.0 called) w f.1) (held_back_typing w (flat_map (called_in w (is_among f.0 called)) f.1 ++ called) earlier)

-- ---- the source

each_broken : (xs : List Finding) → EachFound xs → AreTyping (all_broken xs)
each_broken [] h = none_typing
each_broken (broken d ∷ xs) h = typing_cons d (all_broken xs) h.0 (each_broken xs h.1)
each_broken (foreign u ∷ xs) h = each_broken xs h.1
each_broken (held u s ∷ xs) h = each_broken xs h.1
each_broken (calls u i ∷ xs) h = each_broken xs h.1
each_broken (uses v ∷ xs) h = each_broken xs h.1

broken_in_typing : (fs : List Function) (o : Outcome (List Piece)) → AllFound o.found → AreTyping (broken_in fs o)
broken_in_typing fs o h =
    at_then code.NoMain (no_main fs) _ refl
    (typing_append (all_broken o.found) _ (each_broken o.found h.each)
    (typing_append (held_back within.Kernel [] (last_first o.what)) _ (held_back_typing within.Kernel [] (last_first o.what))
    (held_back_typing within.Group [] (last_first o.what))))

all_typing : (u : SourceUnit) → AreTyping (broken_rules u)
unfolding broken_rules
all_typing u = broken_in_typing (function_items u.items) (looked_at u) (all_clean (map one_item u.items) (items_clean u.items) (at_start (function_items u.items)))

among_typing : (ds : List Diagnostic) (d : Diagnostic) → EachTyping ds → Among ds d → is_typing d.code ≡ true
among_typing [] d h m = absurd m
among_typing (e ∷ es) d h (inl s) = subst (λ x. is_typing x.code ≡ true) (sym s) h.0
among_typing (e ∷ es) d h (inr m) = among_typing es d h.1 m

pub first_is_typing : (u : SourceUnit) (d : Diagnostic) → first_broken (broken_rules u) ≡ Some d → is_typing d.code ≡ true
first_is_typing u d e = among_typing (broken_rules u) d (all_typing u).each (first_among (broken_rules u) d e)
