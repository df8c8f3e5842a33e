-- What the items of a file come to, one by one.
use Rattle.std.proofs.Common.{◌≡◌, refl, sym, ap, ◌∙◌, List, [], ◌∷◌, ◌++◌, map, append_assoc, Option, None}
use Rattle.std.specs.Prelude.{flat_map}
use Rattle.std.proofs.lemmas.Grind.{flat_map-append}
use Rattle.std.proofs.lemmas.List.{append-nil}
use Rattle.sy_findings.proofs.ToldLemmas.{told-append}
use Rattle.sy_findings.specs.Told.{told}
use Rattle.sy_found.proofs.FoundLemmas.{in_parts, first_in}
use Rattle.sy_found.specs.Noted.{Notes, nothing_noted, placed_by, found_in}
use Rattle.sy_items.specs.Files.{HasBegun, Kept, with_piece, with_pieces}
use Rattle.sy_looks.specs.Looked.{looked}
use Rattle.sy_looks.specs.declared.walk.Walk.{Walk}
use Rattle.sy_note.specs.declared.Diagnostic.{Diagnostic}
use Rattle.sy_rules.specs.declared.names.Names.{Names}
use Rattle.sy_rules.specs.Outcome.{Finding, Outcome, Look, after, in_turn, outcome, all_broken, broken_of}
use Rattle.sy_rules.specs.Units.{Piece, a_constant, a_function, constants_of, functions_of, one_item}
use Rattle.sy_tree.specs.declared.tree.FileItem.{FileItem}
use Rattle.sy_typed.specs.declared.tree.TypedConstant.{TypedConstant}
use Rattle.sy_typed.specs.declared.tree.TypedFunction.{TypedFunction}
use Rattle.sy_units.specs.Calls.{noted_of, notes_of}

-- first these are found, and the part is looked at with other names
pub after_step : {T : Type 0} (found : Names → List Finding) (change : Names → Names) (a : Names → Look T) (w m : Walk) (f : Notes) (n : Names) (x : T) →
    f ≡ found_in w.place w.found (found w.names) → n ≡ change w.names → (x, m) ≡ looked (a w.names) (record w { names = n; found = f }) →
    (x, m) ≡ looked (λ k. after (found k) (a k (change k))) w
after_step found change a w m f n x ef en e =
    let o = a w.names (change w.names) in
    e
    ∙ ap (λ z. looked (a w.names) (record w { names = n; found = z })) ef
    ∙ ap (λ z. looked (a w.names) (record w { names = z; found = found_in w.place w.found (found w.names) })) en
    ∙ ap (λ z. (o.what, record w { names = o.names; found = z })) (sym (in_parts w.place w.found (found w.names) o.found))

-- ---- what is found in one item

unplaced : (xs : List Finding) → flat_map (placed_by None) xs ≡ xs
unplaced [] = refl
unplaced (x ∷ xs) = ap (λ l. x ∷ l) (unplaced xs)

own_first : (t : Notes) (xs : List Finding) → t ≡ noted_of xs → t.first ≡ told None (all_broken xs)
own_first t xs e = ap (λ (z : Notes). z.first) e ∙ first_in None nothing_noted xs ∙ ap (λ l. told None (all_broken l)) (unplaced xs)

pub item_found : {T : Type 0} (a : Look T) (w m : Walk) (x : T) → HasBegun w → (x, m) ≡ looked a w → m.found ≡ noted_of (a w.names).found
item_found a w m x h e =
    ap (λ p. p.1.found) e
    ∙ ap (λ p. found_in p w.found (a w.names).found) h.place
    ∙ ap (λ f. found_in None f (a w.names).found) h.found

pub item_walked : {T : Type 0} (a : Look T) (w m : Walk) (x : T) → HasBegun w → (x, m) ≡ looked a w → record m { found = nothing_noted } ≡ record w { names = (a w.names).names }
item_walked a w m x h e =
    ap (λ p. record p.1 { found = nothing_noted }) e
    ∙ ap (λ f. record w { names = (a w.names).names; found = f }) (sym h.found)

pub item_known : {T : Type 0} (a : Look T) (w m : Walk) (x : T) → (x, m) ≡ looked a w → x ≡ (a w.names).what
item_known a w m x e = ap (λ p. p.0) e

-- ---- one item more

pub constant_kept : (k : Kept) (y : TypedConstant) (own : Notes) (xs : List Finding) (cs : List TypedConstant) (first : Option Diagnostic) →
    own ≡ noted_of xs → cs ≡ k.constants ++ y ∷ [] → ((ds : List Diagnostic) → own.first ≡ told None ds → first ≡ told k.first ds) →
    record k { constants = cs; first = first } ≡ with_piece (a_constant y) xs k
constant_kept k y own xs cs first eo ec ef =
    ap (λ c. record k { constants = c; first = first }) ec
    ∙ ap (λ f. record k { constants = k.constants ++ y ∷ []; first = f }) (ef (all_broken xs) (own_first own xs eo))
    ∙ ap (λ l. record k { constants = k.constants ++ y ∷ []; functions = l; first = told k.first (all_broken xs) }) (sym (append-nil k.functions))
    ∙ ap (λ l. record k { constants = k.constants ++ y ∷ []; functions = k.functions ++ []; notes = l; first = told k.first (all_broken xs) }) (sym (append-nil k.notes))

pub function_kept : (k : Kept) (y : TypedFunction) (own : Notes) (xs : List Finding) (fs : List TypedFunction) (ns : List Notes) (first : Option Diagnostic) →
    own ≡ noted_of xs → fs ≡ k.functions ++ y ∷ [] → ns ≡ k.notes ++ own ∷ [] → ((ds : List Diagnostic) → own.first ≡ told None ds → first ≡ told k.first ds) →
    record k { functions = fs; notes = ns; first = first } ≡ with_piece (a_function y xs) xs k
function_kept k y own xs fs ns first eo ec en ef =
    ap (λ l. record k { functions = l; notes = ns; first = first }) ec
    ∙ ap (λ l. record k { functions = k.functions ++ y ∷ []; notes = l; first = first }) (en ∙ ap (λ z. k.notes ++ z ∷ []) eo)
    ∙ ap (λ f. record k { functions = k.functions ++ y ∷ []; notes = k.notes ++ noted_of xs ∷ []; first = f }) (ef (all_broken xs) (own_first own xs eo))
    ∙ ap (λ l. record k { constants = l; functions = k.functions ++ y ∷ []; notes = k.notes ++ noted_of xs ∷ []; first = told k.first (all_broken xs) }) (sym (append-nil k.constants))

-- ---- all of them

constants_more : (p : Piece) (ps : List Piece) → constants_of (p ∷ []) ++ constants_of ps ≡ constants_of (p ∷ ps)
constants_more (a_constant c) ps = refl
constants_more (a_function f xs) ps = refl

functions_more : (p : Piece) (ps : List Piece) → functions_of (p ∷ []) ++ functions_of ps ≡ functions_of (p ∷ ps)
functions_more (a_constant c) ps = refl
functions_more (a_function f xs) ps = refl

notes_more : (p : Piece) (ps : List Piece) → notes_of (p ∷ []) ++ notes_of ps ≡ notes_of (p ∷ ps)
notes_more (a_constant c) ps = refl
notes_more (a_function f xs) ps = refl

behind_one : {A : Type 0} (ks xs ys zs : List A) → xs ++ ys ≡ zs → (ks ++ xs) ++ ys ≡ ks ++ zs
behind_one ks xs ys zs e = append_assoc ks xs ys ∙ ap (λ l. ks ++ l) e

piece_more : (k : Kept) (p : Piece) (xs : List Finding) (o : Outcome (List Piece)) → with_pieces o (with_piece p xs k) ≡ with_pieces (outcome (p ∷ o.what) (xs ++ o.found) o.names) k
piece_more k p xs o =
    let inner = with_pieces o (with_piece p xs k) in
    ap (λ l. record inner { constants = l }) (behind_one k.constants (constants_of (p ∷ [])) (constants_of o.what) (constants_of (p ∷ o.what)) (constants_more p o.what))
    ∙ ap (λ l. record inner { constants = k.constants ++ constants_of (p ∷ o.what); functions = l }) (behind_one k.functions (functions_of (p ∷ [])) (functions_of o.what) (functions_of (p ∷ o.what)) (functions_more p o.what))
    ∙ ap (λ l. record inner { constants = k.constants ++ constants_of (p ∷ o.what); functions = k.functions ++ functions_of (p ∷ o.what); notes = l })
    (behind_one k.notes (notes_of (p ∷ [])) (notes_of o.what) (notes_of (p ∷ o.what)) (notes_more p o.what))
    ∙ ap (λ f. record inner { constants = k.constants ++ constants_of (p ∷ o.what); functions = k.functions ++ functions_of (p ∷ o.what); notes = k.notes ++ notes_of (p ∷ o.what); first = f })
    (sym (told-append k.first (all_broken xs) (all_broken o.found)) ∙ ap (told k.first) (sym (flat_map-append broken_of xs o.found)))

pub one_more_kept : (x : FileItem) (rest left : List FileItem) (w m : Walk) (k j : Kept) → left ≡ x ∷ rest →
    m ≡ record w { names = (one_item x w.names).names } → j ≡ with_piece (one_item x w.names).what (one_item x w.names).found k →
    with_pieces (in_turn (map one_item rest) m.names) j ≡ with_pieces (in_turn (map one_item left) w.names) k
one_more_kept x rest left w m k j el em ej =
    let o = one_item x w.names in
    ap (λ z. with_pieces (in_turn (map one_item rest) m.names) z) ej
    ∙ ap (λ (z : Walk). with_pieces (in_turn (map one_item rest) z.names) (with_piece o.what o.found k)) em
    ∙ piece_more k o.what o.found (in_turn (map one_item rest) o.names)
    ∙ ap (λ l. with_pieces (in_turn (map one_item l) w.names) k) (sym el)

pub no_more_kept : (left : List FileItem) (n : Names) (k : Kept) → left ≡ [] → k ≡ with_pieces (in_turn (map one_item left) n) k
no_more_kept left n k e =
    ap (λ l. record k { constants = l }) (sym (append-nil k.constants))
    ∙ ap (λ l. record k { constants = k.constants ++ []; functions = l }) (sym (append-nil k.functions))
    ∙ ap (λ l. record k { constants = k.constants ++ []; functions = k.functions ++ []; notes = l }) (sym (append-nil k.notes))
    ∙ ap (λ l. with_pieces (in_turn (map one_item l) n) k) (sym e)

pub begun_behind : (w m : Walk) (n : Names) → HasBegun w → m ≡ record w { names = n } → HasBegun m
begun_behind w m n h e = record { found = ap (λ (z : Walk). z.found) e ∙ h.found; place = ap (λ (z : Walk). z.place) e ∙ h.place }
