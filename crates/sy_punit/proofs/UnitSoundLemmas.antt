-- A unit that is read stands there.
use Rattle.std.proofs.Common.{◌≡◌, ℕ, zero, suc, ◌<◌, nat_lt, Bool, true, false, cond, ◌&&◌, not, List, [], ◌∷◌, ◌++◌, length, ⊎_elim, Option, Some, None, refl, sym, ap, ◌∙◌, subst, arith, append_assoc, append-nil, codes}
use Rattle.std.proofs.lemmas.Bool.{ltb-true}
use Rattle.std.specs.List.{list_any}
use Rattle.sy_lex.specs.declared.Row.TheVariants as row
use Rattle.sy_lex.specs.declared.Token.{Token}
use Rattle.sy_note.specs.declared.Spot.{Spot}
use Rattle.sy_tree.specs.declared.parts.Brackets.TheVariants as brackets
use Rattle.sy_tree.specs.declared.parts.ConstSpecifier.{ConstSpecifier}
use Rattle.sy_tree.specs.declared.parts.ConstSpecifier.TheVariants as const
use Rattle.sy_tree.specs.declared.parts.ObjectType.{ObjectType}
use Rattle.sy_tree.specs.declared.parts.ObjectType.TheVariants as object
use Rattle.sy_tree.specs.declared.parts.Parameter.{Parameter}
use Rattle.sy_tree.specs.declared.parts.Parameter.TheVariants as parameter
use Rattle.sy_tree.specs.declared.parts.ReferenceType.{ReferenceType}
use Rattle.sy_tree.specs.declared.parts.ReferenceType.TheVariants as reference
use Rattle.sy_tree.specs.declared.parts.ReturnType.{ReturnType}
use Rattle.sy_tree.specs.declared.parts.ReturnType.TheVariants as returned
use Rattle.sy_tree.specs.declared.tree.Block.{Block}
use Rattle.sy_tree.specs.declared.tree.Constant.{Constant}
use Rattle.sy_tree.specs.declared.tree.Declarator.{Declarator, out-Declarator}
use Rattle.sy_tree.specs.declared.tree.Declarator.TheVariants as declarator
use Rattle.sy_tree.specs.declared.tree.Expr.{Expr}
use Rattle.sy_tree.specs.declared.tree.FileItem.{FileItem}
use Rattle.sy_tree.specs.declared.tree.FileItem.TheVariants as item
use Rattle.sy_tree.specs.declared.tree.Function.{Function}
use Rattle.sy_tree.specs.declared.tree.Unit.{Unit as SourceUnit}
use Rattle.sy_tree.specs.Declarations.{OneDeclarator}
use Rattle.sy_tree.specs.Expressions.{an_expr, a_block}
use Rattle.sy_tree.specs.Grammar.{Derives}
use Rattle.sy_tree.specs.Lists.{Rule, Maybe, Each}
use Rattle.sy_tree.specs.Types.{Object, Referenced, OneParameter, ConstSpecified, Returned}
use Rattle.sy_tree.specs.Units.{Included, Using, IsConstantInitializer, OneConstant, OneFunction, OneItem, FileItems, WholeUnit, ends}
use Rattle.sy_tree.specs.Words.{mark, keyword, identifier}
use Rattle.sy_tree.proofs.Theorems.{Derives-taller}
use Rattle.sy_reading.specs.Input.{Reader, WithHeight, expect, advance, expect_row, sees, sees_row, sees_namespace, after, within, maybe_comma_list}
use Rattle.sy_reading.specs.Parts.{integral, type_specifier, object_type}
use Rattle.sy_reading.specs.Reading.{readers, read_expr, read_block}
use Rattle.sy_reading.proofs.PartsSoundLemmas.{integral_is, type_specifier_is, object_type_is}
use Rattle.sy_reading.proofs.SoundLaws.{reads_sound}
use Rattle.sy_reading.proofs.StepLemmas.{bind_some, finish, guard_some, choice, and_both, word, same_row_is, placed, expected, expects, expect_row_is, eaten, within_is, maybe_comma_list_stand}
use Rattle.sy_reading.proofs.StmtSoundLemmas.{one_block_is}
use Rattle.sy_punit.specs.Reader as r

-- ---- several of one kind

module _ {A : Type 0} (begins : List Token → Bool) (one : Reader A) (P : Rule A)
    (stands : (from rest : List Token) (x : A) → begins from ≡ true → one from ≡ Some (x, rest) → P x from rest) where
  -- the items behind those before them
  abbrev EachStand : List A → List Token → List A → List Token → Type 0
  EachStand xs from all rest = (more : List A) × (all ≡ xs ++ more) × Each P more from rest

  each_stand : (n : ℕ) (xs : List A) (from rest : List Token) (all : List A) → r.each begins one n xs from ≡ Some (all, rest) → EachStand xs from all rest
  unfolding r.each
  each_stand zero xs from rest all h = finish {A = List A} (λ z vs. EachStand xs from z vs) xs all from rest h ([], sym (append-nil xs), refl)
  each_stand (suc n) xs from rest all h =
      ⊎_elim
      (λ p. let x = bind_some (one from) _ _ p.1 in
      let others = each_stand n (xs ++ x.0.0 ∷ []) x.0.1 rest all x.2 in
      (x.0.0 ∷ others.0, others.1 ∙ append_assoc xs (x.0.0 ∷ []) others.0, (x.0.1, stands from x.0.1 x.0.0 p.0 x.1, others.2)))
      (λ p. finish {A = List A} (λ z vs. EachStand xs from z vs) xs all from rest p.1 ([], sym (append-nil xs), refl))
      (choice (begins from) _ _ (all, rest) h)

  pub all_each_stand : (from rest : List Token) (all : List A) → r.all_each begins one from ≡ Some (all, rest) → Each P all from rest
  all_each_stand from rest all h =
      let e = each_stand (length from) [] from rest all h in
      subst (λ ys. Each P ys from rest) (sym e.1) e.2

-- ---- parameters

found_is : {A : Type 0} (o : Option A) (a : A) (ts rest : List Token) → r.require o ts ≡ Some (a, rest) → (o ≡ Some a) × (ts ≡ rest)
found_is None a ts rest h = absurd cc
found_is (Some b) a ts rest h = finish (λ c us. (Some b ≡ Some c) × (ts ≡ us)) b a ts rest h (refl, refl)

reference_is : (t : ObjectType) (u : ReferenceType) (from rest : List Token) → r.reference_of t ≡ Some u → Object t from rest → Referenced u from rest
reference_is (object.Queue q) u from rest h d = by u h
  where
    by : (u : ReferenceType) → Some (reference.Queue q) ≡ Some u → Referenced u from rest
    by u h = let e : reference.Queue q ≡ u = cc in subst (λ z. Referenced z from rest) e d
reference_is (object.Device q) u from rest h d = let e : reference.Device q ≡ u = cc in subst (λ z. Referenced z from rest) e d
reference_is (object.Context q) u from rest h d = let e : reference.Context q ≡ u = cc in subst (λ z. Referenced z from rest) e d
reference_is (object.Buffer q (Some x)) u from rest h d = let e : reference.Buffer q x ≡ u = cc in subst (λ z. Referenced z from rest) e d
reference_is _ u from rest h d = absurd cc

reference_type_is : (from rest : List Token) (t : ReferenceType) → r.reference_type from ≡ Some (t, rest) → Referenced t from rest
unfolding r.reference_type
reference_type_is from rest t h =
    let o = bind_some (object_type from) _ _ h in
    let f = found_is (r.reference_of o.0.0) t o.0.1 rest o.2 in
    subst (λ vs. Referenced t from vs) f.1 (reference_is o.0.0 t from o.0.1 f.0 (object_type_is from o.0.1 o.0.0 o.1))

-- a parameter holds no node, so its rule looks at no height
abbrev ParameterAt : ℕ → Rule Parameter
ParameterAt h x from rest = OneParameter x from rest

object_parameter_is : (from rest : List Token) (x : WithHeight Parameter) → r.object_parameter from ≡ Some (x, rest) → OneParameter x.0 from rest
unfolding r.object_parameter mark
object_parameter_is from rest x h =
    let t = bind_some (r.reference_type from) _ _ h in
    let a = bind_some (expect row.Mark (codes "&") t.0.1) _ _ t.2 in
    let n = bind_some (expect_row row.Ident a.0.1) _ _ a.2 in
    finish {A = WithHeight Parameter} (λ z vs. OneParameter z.0 from vs) (parameter.Object t.0.0 n.0.0, 0) x n.0.1 rest n.2
    (t.0.1, a.0.1, reference_type_is from t.0.1 t.0.0 t.1, expects _ _ _ _ _ a.1, expect_row_is _ _ _ _ n.1)

module _ (fixed : Bool) (from m : List Token) (there : Maybe (keyword "const") fixed from m) where
  vector_parameter_is : (rest : List Token) (x : WithHeight Parameter) → r.vector_parameter fixed m ≡ Some (x, rest) → OneParameter x.0 from rest
  unfolding r.vector_parameter mark identifier
  vector_parameter_is rest x h =
      let q = bind_some (within (codes "std") (codes "vector") m) _ _ h in
      let o = bind_some (expect row.Mark (codes "<") q.0.1) _ _ q.2 in
      let t = bind_some (integral o.0.1) _ _ o.2 in
      let c = bind_some (expect row.Mark (codes ">") t.0.1) _ _ t.2 in
      let a = bind_some (expect row.Mark (codes "&") c.0.1) _ _ c.2 in
      let n = bind_some (expect_row row.Ident a.0.1) _ _ a.2 in
      finish {A = WithHeight Parameter} (λ z vs. OneParameter z.0 from vs) (parameter.Vector fixed q.0.0 t.0.0 n.0.0, 0) x n.0.1 rest n.2 (
        m,
        c.0.1,
        a.0.1,
        there,
        (q.0.1, o.0.1, t.0.1, within_is (codes "std") (codes "vector") m q.0.1 q.0.0 q.1, expects row.Mark (codes "<") q.0.1 o.0.1 o.0.0 o.1, integral_is o.0.1 t.0.1 t.0.0 t.1, expects row.Mark (codes ">") t.0.1 c.0.1 c.0.0 c.1),
        expects row.Mark (codes "&") c.0.1 a.0.1 a.0.0 a.1,
        expect_row_is row.Ident a.0.1 n.0.1 n.0.0 n.1,
      )

  integer_parameter_is : (rest : List Token) (x : WithHeight Parameter) → r.integer_parameter fixed m ≡ Some (x, rest) → OneParameter x.0 from rest
  unfolding r.integer_parameter
  integer_parameter_is rest x h =
      let t = bind_some (integral m) _ _ h in
      let n = bind_some (expect_row row.Ident t.0.1) _ _ t.2 in
      finish {A = WithHeight Parameter} (λ z vs. OneParameter z.0 from vs) (parameter.Integer fixed t.0.0 n.0.0, 0) x n.0.1 rest n.2
      (m, t.0.1, there, integral_is m t.0.1 t.0.0 t.1, expect_row_is _ _ _ _ n.1)

fixed_no : (b c : Bool) → (not b && c) ≡ true → b ≡ false
fixed_no true c h = absurd cc
fixed_no false c h = refl

one_parameter_is : (from rest : List Token) (x : WithHeight Parameter) → r.one_parameter from ≡ Some (x, rest) → OneParameter x.0 from rest
unfolding r.one_parameter keyword
one_parameter_is from rest x h = by (sees row.Reserved (codes "const") from) (after row.Reserved (codes "const") from) (eaten row.Reserved (codes "const") from) h
  where
    by : (fixed : Bool) (m : List Token) → Maybe (word row.Reserved (codes "const")) fixed from m →
        cond (sees_namespace (codes "std") m) (r.vector_parameter fixed m) (cond (not fixed && sees_namespace (codes "sycl") m) (r.object_parameter m) (r.integer_parameter fixed m)) ≡ Some (x, rest) →
        OneParameter x.0 from rest
    by true m there h =
        ⊎_elim (λ p. vector_parameter_is true from m there rest x p.1) (λ p. integer_parameter_is true from m there rest x p.1)
        (choice (sees_namespace (codes "std") m) _ _ (x, rest) h)
    by false m there h =
        ⊎_elim (λ p. vector_parameter_is false from m there rest x p.1)
        (λ p. ⊎_elim (λ p. subst (λ us. OneParameter x.0 us rest) (sym there) (object_parameter_is m rest x p.1)) (λ p. integer_parameter_is false from m there rest x p.1)
        (choice (sees_namespace (codes "sycl") m) _ _ (x, rest) p.1))
        (choice (sees_namespace (codes "std") m) _ _ (x, rest) h)

-- ---- constants

pub short_value_is : (from rest : List Token) (x : Expr) → r.short_value from ≡ Some (x, rest) → Derives 63 (an_expr 1 x) from rest × (ends rest ≡ true)
unfolding r.short_value
short_value_is from rest x h =
    let a = bind_some (read_expr 64 1 from) _ _ h in
    let k = guard_some (nat_lt a.0.0.1 64 && ends a.0.1) (a.0.0.0, a.0.1) (x, rest) a.2 in
    let b = and_both (nat_lt a.0.0.1 64) (ends a.0.1) k.0 in
    let low : a.0.0.1 < 64 = ltb-true a.0.0.1 64 b.0 in
    let s = (reads_sound 64).0 1 from a.0.1 a.0.0 (omega arith) (omega arith) a.1 in
    let d = Derives-taller a.0.0.1 63 (omega arith) (an_expr 1 a.0.0.0) from a.0.1 s.0.0 in
    subst (λ q. Derives 63 (an_expr 1 q.0) from q.1 × (ends q.1 ≡ true)) k.1 (d, b.1)

fixed_specifier_is : (from rest : List Token) (c : ConstSpecifier) → r.fixed_specifier from ≡ Some (c, rest) → ConstSpecified c from rest
unfolding r.fixed_specifier keyword
fixed_specifier_is from rest c h =
    ⊎_elim
    (λ p. let s = bind_some (expect row.Reserved (codes "const") from) _ _ p.1 in
    finish (λ z vs. ConstSpecified z from vs) (const.Const s.0.0) c s.0.1 rest s.2 (expected _ _ _ _ _ s.1))
    (λ p. let s = bind_some (expect row.Reserved (codes "constexpr") from) _ _ p.1 in
    finish (λ z vs. ConstSpecified z from vs) (const.Constexpr s.0.0) c s.0.1 rest s.2 (expected _ _ _ _ _ s.1))
    (choice (sees row.Reserved (codes "const") from) _ _ (c, rest) h)

-- a declarator of a constant
abbrev pub ConstantDeclared : Rule Declarator
ConstantDeclared d from rest = IsConstantInitializer (out-Declarator d) × OneDeclarator (Derives 63) d from rest

constant_declarator_is : (from rest : List Token) (d : Declarator) → r.constant_declarator from ≡ Some (d, rest) → ConstantDeclared d from rest
unfolding r.constant_declarator r.braced_value r.equal_value mark
constant_declarator_is from rest d h =
    let n = bind_some (expect_row row.Ident from) _ _ h in
    ⊎_elim
    (λ p. let s = bind_some (expect row.Mark (codes "{") n.0.1) _ _ p.1 in
    let v = bind_some (r.short_value s.0.1) _ _ s.2 in
    let c = bind_some (expect row.Mark (codes "}") v.0.1) _ _ v.2 in
    finish (λ z vs. ConstantDeclared z from vs) (declarator.Bracketed n.0.0 brackets.Braces s.0.0 v.0.0 c.0.0) d c.0.1 rest c.2
    (rw (declarator.outs-Bracketed n.0.0 brackets.Braces s.0.0 v.0.0 c.0.0)
    (tt, (n.0.1, s.0.1, v.0.1, expect_row_is _ _ _ _ n.1, expected _ _ _ _ _ s.1, (short_value_is s.0.1 v.0.1 v.0.0 v.1).0, expected _ _ _ _ _ c.1))))
    (λ p. let s = bind_some (expect row.Mark (codes "=") n.0.1) _ _ p.1 in
    let v = bind_some (r.short_value s.0.1) _ _ s.2 in
    finish (λ z vs. ConstantDeclared z from vs) (declarator.Equal n.0.0 s.0.0 v.0.0) d v.0.1 rest v.2
    (rw (declarator.outs-Equal n.0.0 s.0.0 v.0.0)
    (tt, (n.0.1, s.0.1, expect_row_is _ _ _ _ n.1, expected _ _ _ _ _ s.1, (short_value_is s.0.1 v.0.1 v.0.0 v.1).0))))
    (choice (sees row.Mark (codes "{") n.0.1) _ _ (d, rest) n.2)

constant_is : (from rest : List Token) (c : Constant) → r.constant from ≡ Some (c, rest) → OneConstant c from rest
unfolding r.constant mark
constant_is from rest c h =
    let s = bind_some (r.fixed_specifier from) _ _ h in
    let t = bind_some (type_specifier s.0.1) _ _ s.2 in
    let d = bind_some (r.constant_declarator t.0.1) _ _ t.2 in
    let e = bind_some (expect row.Mark (codes ";") d.0.1) _ _ d.2 in
    let declared = constant_declarator_is t.0.1 d.0.1 d.0.0 d.1 in
    finish (λ z vs. OneConstant z from vs) (record { specifier = s.0.0; of = t.0.0; declarator = d.0.0 }) c e.0.1 rest e.2
    (s.0.1, t.0.1, d.0.1, fixed_specifier_is from s.0.1 s.0.0 s.1, type_specifier_is s.0.1 t.0.1 t.0.0 t.1, declared.0, declared.1, expects _ _ _ _ _ e.1)

-- ---- functions

return_type_is : (from rest : List Token) (t : ReturnType) → r.return_type from ≡ Some (t, rest) → Returned t from rest
unfolding r.return_type keyword
return_type_is from rest t h =
    ⊎_elim
    (λ p. let s = bind_some (expect row.Reserved (codes "void") from) _ _ p.1 in
    finish (λ z vs. Returned z from vs) (returned.Void s.0.0) t s.0.1 rest s.2 (expected _ _ _ _ _ s.1))
    (λ p. let i = bind_some (integral from) _ _ p.1 in
    finish (λ z vs. Returned z from vs) (returned.Integer i.0.0) t i.0.1 rest i.2 (integral_is from i.0.1 i.0.0 i.1))
    (choice (sees row.Reserved (codes "void") from) _ _ (t, rest) h)

pub body_is : (from rest : List Token) (b : Block) → r.body from ≡ Some (b, rest) → Derives 64 (a_block b) from rest
unfolding r.body
body_is from rest b h =
    let a = bind_some (read_block 64 from) _ _ h in
    let s = one_block_is (readers 64).0 (readers 64).1 (reads_sound 64).1 from a.0.1 a.0.0 a.1 in
    finish (λ z vs. Derives 64 (a_block z) from vs) a.0.0.0 b a.0.1 rest a.2 (Derives-taller a.0.0.1 64 s.1 (a_block a.0.0.0) from a.0.1 s.0)

function_is : (from rest : List Token) (f : Function) → r.function from ≡ Some (f, rest) → OneFunction f from rest
unfolding r.function mark
function_is from rest f h =
    let t = bind_some (r.return_type from) _ _ h in
    let n = bind_some (expect_row row.Ident t.0.1) _ _ t.2 in
    let o = bind_some (expect row.Mark (codes "(") n.0.1) _ _ n.2 in
    let ps = bind_some (maybe_comma_list r.one_parameter (codes ")") o.0.1) _ _ o.2 in
    let c = bind_some (expect row.Mark (codes ")") ps.0.1) _ _ ps.2 in
    let b = bind_some (r.body c.0.1) _ _ c.2 in
    finish (λ z vs. OneFunction z from vs) (record { returned = t.0.0; name = n.0.0; parameters = ps.0.0.0; body = b.0.0 }) f b.0.1 rest b.2 (
      t.0.1,
      n.0.1,
      o.0.1,
      ps.0.1,
      c.0.1,
      return_type_is from t.0.1 t.0.0 t.1,
      expect_row_is _ _ _ _ n.1,
      expects _ _ _ _ _ o.1,
      maybe_comma_list_stand r.one_parameter ParameterAt (λ m n le x us ts d. d) one_parameter_is (codes ")") o.0.1 ps.0.1 ps.0.0 ps.1,
      expects _ _ _ _ _ c.1,
      body_is c.0.1 b.0.1 b.0.0 b.1,
    )

-- ---- units

include_is : (from rest : List Token) (s : Spot) → sees_row row.Include from ≡ true → advance from ≡ Some (s, rest) → Included s from rest
unfolding sees_row advance
include_is [] rest s e h = absurd cc
include_is (t ∷ ts) rest s e h =
    finish (λ z vs. Included z (t ∷ ts) vs) t.spot s ts rest h
    (t.word.text, placed (word row.Include t.word.text) t.spot t ts ts (ap (λ a. word a t.word.text) (same_row_is t.word.row row.Include e)) refl refl)

using_line_is : (from rest : List Token) (s : Spot) → sees row.Reserved (codes "using") from ≡ true → r.using_line from ≡ Some (s, rest) → Using s from rest
unfolding r.using_line keyword identifier mark
using_line_is from rest s e h =
    let u = bind_some (expect row.Reserved (codes "using") from) _ _ h in
    let n = bind_some (expect row.Reserved (codes "namespace") u.0.1) _ _ u.2 in
    let k = bind_some (expect row.Ident (codes "sycl") n.0.1) _ _ n.2 in
    let c = bind_some (expect row.Mark (codes ";") k.0.1) _ _ k.2 in
    finish (λ z vs. Using z from vs) u.0.0 s c.0.1 rest c.2
    (u.0.1, n.0.1, k.0.1, expected _ _ _ _ _ u.1, expects _ _ _ _ _ n.1, expects _ _ _ _ _ k.1, expects _ _ _ _ _ c.1)

file_item_is : (from rest : List Token) (x : FileItem) → r.some_left from ≡ true → r.file_item from ≡ Some (x, rest) → OneItem x from rest
unfolding r.file_item
file_item_is from rest x e h =
    ⊎_elim
    (λ p. let c = bind_some (r.constant from) _ _ p.1 in
    finish (λ z vs. OneItem z from vs) (item.Constant c.0.0) x c.0.1 rest c.2 (constant_is from c.0.1 c.0.0 c.1))
    (λ p. let f = bind_some (r.function from) _ _ p.1 in
    finish (λ z vs. OneItem z from vs) (item.Function f.0.0) x f.0.1 rest f.2 (function_is from f.0.1 f.0.0 f.1))
    (choice (r.begins_constant from) _ _ (x, rest) h)

with_function : (xs : List FileItem) (from rest : List Token) → list_any r.is_function xs ≡ true → Each OneItem xs from rest → FileItems xs from rest
with_function [] from rest e h = absurd cc
with_function (item.Constant c ∷ more) from rest e h = (h.0, h.1, with_function more h.0 rest e h.2)
with_function (item.Function f ∷ more) from rest e h = h

none_left : (ts : List Token) → not (r.some_left ts) ≡ true → ts ≡ []
none_left [] h = refl
none_left (t ∷ ts) h = absurd cc

-- What is read of a list is the unit, and all of the list.
pub unit_is : (from rest : List Token) (u : SourceUnit) → r.read_unit from ≡ Some (u, rest) → WholeUnit u from [] × (rest ≡ [])
unfolding r.read_unit
unit_is from rest u h =
    let a = bind_some (r.include_lines from) _ _ h in
    let b = bind_some (r.using_lines a.0.1) _ _ a.2 in
    let xs = bind_some (r.file_items b.0.1) _ _ b.2 in
    let k = guard_some (list_any r.is_function xs.0.0 && not (r.some_left xs.0.1)) (record { includes = a.0.0; usings = b.0.0; items = xs.0.0 }, xs.0.1) (u, rest) xs.2 in
    let t = and_both (list_any r.is_function xs.0.0) (not (r.some_left xs.0.1)) k.0 in
    let whole = none_left xs.0.1 t.1 in
    let includes = all_each_stand (sees_row row.Include) advance Included include_is from a.0.1 a.0.0 a.1 in
    let usings = all_each_stand (sees row.Reserved (codes "using")) r.using_line Using using_line_is a.0.1 b.0.1 b.0.0 b.1 in
    let items = all_each_stand r.some_left r.file_item OneItem file_item_is b.0.1 xs.0.1 xs.0.0 xs.1 in
    let last = subst (λ us. FileItems xs.0.0 b.0.1 us) whole (with_function xs.0.0 b.0.1 xs.0.1 t.0 items) in
    subst (λ q. WholeUnit q.0 from [] × (q.1 ≡ [])) k.1 ((a.0.1, b.0.1, includes, usings, last), whole)
