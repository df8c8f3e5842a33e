-- A unit that stands there is read.
use Prim.Native.String.{String}
use Rattle.std.proofs.Common.{◌≡◌, ℕ, zero, suc, ◌≤◌, ◌<◌, nat_lt, Bool, true, false, not, List, [], ◌∷◌, ◌++◌, length, inl, inr, Option, Some, None, refl, ap, ◌∙◌, arith, append_assoc, append-nil, lt-ltb, codes}
use Rattle.std.specs.List.{list_any}
use Rattle.sy_lex.specs.declared.Row.TheVariants as row
use Rattle.sy_lex.specs.declared.Token.{Token}
use Rattle.sy_lex.specs.declared.Word.{Word}
use Rattle.sy_note.specs.declared.Spot.{Spot}
use Rattle.sy_tree.specs.declared.parts.Brackets.TheVariants as brackets
use Rattle.sy_tree.specs.declared.parts.ConstSpecifier.{ConstSpecifier}
use Rattle.sy_tree.specs.declared.parts.ConstSpecifier.TheVariants as const
use Rattle.sy_tree.specs.declared.parts.ElementArguments.{ElementArguments}
use Rattle.sy_tree.specs.declared.parts.IntegerType.{IntegerType}
use Rattle.sy_tree.specs.declared.parts.Lexeme.{Lexeme}
use Rattle.sy_tree.specs.declared.parts.ObjectType.{ObjectType}
use Rattle.sy_tree.specs.declared.parts.ObjectType.TheVariants as object
use Rattle.sy_tree.specs.declared.parts.Parameter.{Parameter}
use Rattle.sy_tree.specs.declared.parts.Parameter.TheVariants as parameter
use Rattle.sy_tree.specs.declared.parts.Qualified.{Qualified}
use Rattle.sy_tree.specs.declared.parts.ReferenceType.{ReferenceType}
use Rattle.sy_tree.specs.declared.parts.ReferenceType.TheVariants as reference
use Rattle.sy_tree.specs.declared.parts.ReturnType.{ReturnType}
use Rattle.sy_tree.specs.declared.parts.ReturnType.TheVariants as returned
use Rattle.sy_tree.specs.declared.parts.TypeSpecifier.{TypeSpecifier}
use Rattle.sy_tree.specs.declared.parts.TypeSpecifier.TheVariants as specifier
use Rattle.sy_tree.specs.declared.tree.Argument.TheOpen.{Declarator-F}
use Rattle.sy_tree.specs.declared.tree.Block.{Block}
use Rattle.sy_tree.specs.declared.tree.Constant.{Constant}
use Rattle.sy_tree.specs.declared.tree.Declarator.{Declarator, out-Declarator, roll-Declarator, roll-out-Declarator}
use Rattle.sy_tree.specs.declared.tree.Declarator.TheVariants as declarator
use Rattle.sy_tree.specs.declared.tree.Expr.{Expr}
use Rattle.sy_tree.specs.declared.tree.FileItem.{FileItem}
use Rattle.sy_tree.specs.declared.tree.FileItem.TheVariants as item
use Rattle.sy_tree.specs.declared.tree.Function.{Function}
use Rattle.sy_tree.specs.declared.tree.Unit.{Unit as SourceUnit}
use Rattle.sy_tree.specs.Declarations.{DeclaratorRule, OneDeclarator}
use Rattle.sy_tree.specs.Expressions.{an_expr, a_block}
use Rattle.sy_tree.specs.Grammar.{Derives}
use Rattle.sy_tree.specs.Layers.{DeclaratorLayer}
use Rattle.sy_tree.specs.Lists.{Rule, Maybe, Optional, Each, MaybeListed}
use Rattle.sy_tree.specs.Types.{Integral, CommaDimensions, Elements, Object, TypeSpecified, Referenced, VectorOf, OneParameter, ConstSpecified, Returned}
use Rattle.sy_tree.specs.Units.{Included, Using, IsConstantInitializer, OneConstant, OneFunction, OneItem, FileItems, WholeUnit, ends}
use Rattle.sy_tree.specs.Words.{At, Sees, mark, keyword, identifier, Spelled, SpelledAs, spellings}
use Rattle.sy_tree.proofs.Theorems.{Derives-takes}
use Rattle.sy_reading.specs.Exprs.{binds}
use Rattle.sy_reading.specs.Input.{Reader, advance, sees, sees_row, sees_namespace, after}
use Rattle.sy_reading.specs.Reading.{readers}
use Rattle.sy_reading.specs.Tables.{fixed_width_of, keyword_of, one_word_of}
use Rattle.sy_reading.proofs.CompleteLaws.{completes}
use Rattle.sy_reading.proofs.ExprReadLemmas.{block_read, type_row, advance_at, semicolon_ends, brace_ends}
use Rattle.sy_reading.proofs.PartsReadLemmas.{NoWord, integral_read, integral_type, not_type, type_specifier_read, object_read, and_no, namespace_at}
use Rattle.sy_reading.proofs.ReadStepLemmas.{ReadsAs, sees_at, sees_other, row_at, no_row, expect_at, expect_row_at, after_none, maybe_sees, maybe_after, within_at, at_length, passed, list_short, maybe_comma_list_read}
use Rattle.sy_reading.proofs.StepLemmas.{word, same_row_is}
use Rattle.sy_punit.specs.Reader as r

-- ---- several of one kind

module _ {A : Type 0} (begins : List Token → Bool) (one : Reader A) (P : Rule A)
    (short : (x : A) (from rest : List Token) → P x from rest → suc (length rest) ≤ length from)
    (opens : (x : A) (from rest : List Token) → P x from rest → begins from ≡ true)
    (reads : (x : A) (from rest : List Token) → P x from rest → one from ≡ Some (x, rest)) where
  each_read : (n : ℕ) (xs ys : List A) (from rest : List Token) → length from ≤ n → Each P ys from rest → begins rest ≡ false → r.each begins one n xs from ≡ Some (xs ++ ys, rest)
  unfolding r.each
  each_read zero xs [] from rest le d e = rw (d, append-nil xs) refl
  each_read zero xs (x ∷ ys) from rest le d e = absurd (omega (arith, short x from d.0 d.1, le))
  each_read (suc n) xs [] from rest le d e = rw (d, e, append-nil xs) refl
  each_read (suc n) xs (x ∷ ys) from rest le d e =
      let others = each_read n (xs ++ x ∷ []) ys d.0 rest (omega (arith, short x from d.0 d.1, le)) d.2 e in
      rw (opens x from d.0 d.1, reads x from d.0 d.1, others, append_assoc xs (x ∷ []) ys) refl

  pub all_each_read : (xs : List A) (from rest : List Token) → Each P xs from rest → begins rest ≡ false → r.all_each begins one from ≡ Some (xs, rest)
  all_each_read xs from rest d e = each_read (length from) [] xs from rest (omega arith) d e

-- ---- how many tokens are taken

spelled_short : (words : List String) (s : Spot) (from rest : List Token) → Spelled words s from rest → length rest ≤ length from
spelled_short [] s from rest h = absurd h
spelled_short (w ∷ []) s from rest h = omega (arith, at_length h)
spelled_short (w ∷ v ∷ more) s from rest h = omega (arith, at_length h.2, spelled_short (v ∷ more) h.1 h.0 rest h.3)

ways_short : (ways : List (List String)) (s : Spot) (from rest : List Token) → SpelledAs ways s from rest → length rest ≤ length from
ways_short [] s from rest h = absurd h
ways_short (w ∷ more) s from rest (inl h) = spelled_short w s from rest h
ways_short (w ∷ more) s from rest (inr h) = ways_short more s from rest h

integral_short : (t : IntegerType) (from rest : List Token) → Integral t from rest → length rest ≤ length from
integral_short t from rest h = ways_short (spellings t.kind) t.spot from rest h

maybe_short : (w : Word) (b : Bool) (from rest : List Token) → Maybe w b from rest → length rest ≤ length from
maybe_short w true from rest h = omega (arith, at_length h.1)
maybe_short w false from rest h = omega (arith, ap length h)

comma_short : (x : Option Lexeme) (from rest : List Token) → Optional CommaDimensions x from rest → length rest ≤ length from
comma_short None from rest h = omega (arith, ap length h)
comma_short (Some x) from rest h = omega (arith, at_length h.1.1, at_length h.2)

elements_short : (x : ElementArguments) (from rest : List Token) → Elements x from rest → length rest ≤ length from
elements_short x from rest h = omega (arith, at_length h.3.1, integral_short x.element h.0 h.1 h.4, comma_short x.dimensions h.1 h.2 h.5, at_length h.6.1)

reference_short : (t : ReferenceType) (from rest : List Token) → Referenced t from rest → length rest ≤ length from
reference_short (reference.Queue q) from rest h = omega (arith, at_length h.2, at_length h.3.1, at_length h.4)
reference_short (reference.Device q) from rest h = omega (arith, at_length h.2, at_length h.3.1, at_length h.4)
reference_short (reference.Context q) from rest h = omega (arith, at_length h.2, at_length h.3.1, at_length h.4)
reference_short (reference.Buffer q x) from rest h = omega (arith, at_length h.1.2, at_length h.1.3.1, at_length h.1.4, elements_short x h.0 rest h.2)

vector_short : (q : Qualified) (t : IntegerType) (from rest : List Token) → VectorOf q t from rest → length rest ≤ length from
vector_short q t from rest h = omega (arith, at_length h.3.2, at_length h.3.3.1, at_length h.3.4, at_length h.4.1, integral_short t h.1 h.2 h.5, at_length h.6.1)

parameter_short : (x : Parameter) (from rest : List Token) → OneParameter x from rest → length rest ≤ length from
parameter_short (parameter.Integer fixed t x) from rest h = omega (arith, maybe_short (keyword "const") fixed from h.0 h.2, integral_short t h.0 h.1 h.3, at_length h.4)
parameter_short (parameter.Object t x) from rest h = omega (arith, reference_short t from h.0 h.2, at_length h.3.1, at_length h.4)
parameter_short (parameter.Vector fixed q t x) from rest h =
    omega (arith, maybe_short (keyword "const") fixed from h.0 h.3, vector_short q t h.0 h.1 h.4, at_length h.5.1, at_length h.6)

parameters_short : (xs : List Parameter) (from rest : List Token) → MaybeListed OneParameter xs from rest → length rest ≤ length from
parameters_short [] from rest h = omega (arith, ap length h)
parameters_short (x ∷ more) from rest h = list_short OneParameter parameter_short (x ∷ more) from rest h

returned_short : (t : ReturnType) (from rest : List Token) → Returned t from rest → length rest ≤ length from
returned_short (returned.Void s) from rest h = omega (arith, at_length h)
returned_short (returned.Integer t) from rest h = integral_short t from rest h

specifier_short : (t : TypeSpecifier) (from rest : List Token) → TypeSpecified t from rest → length rest ≤ length from
specifier_short (specifier.Auto s) from rest h = omega (arith, at_length h)
specifier_short (specifier.Integer t) from rest h = integral_short t from rest h

fixed_short : (c : ConstSpecifier) (from rest : List Token) → ConstSpecified c from rest → suc (length rest) ≤ length from
fixed_short (const.Const s) from rest h = omega (arith, at_length h)
fixed_short (const.Constexpr s) from rest h = omega (arith, at_length h)

-- ---- what a type begins with

abbrev Begun : List Token → Type 0
Begun from = (sees_row row.Reserved from ≡ true) × (sees row.Reserved (codes "using") from ≡ false)

-- neither of the words that a constant begins with
abbrev NoConstant : List Token → Type 0
NoConstant from = (sees row.Reserved (codes "const") from ≡ false) × (sees row.Reserved (codes "constexpr") from ≡ false)

integral_begun : (t : IntegerType) (from rest : List Token) → Integral t from rest → Begun from × NoConstant from × (sees row.Reserved (codes "void") from ≡ false)
unfolding one_word_of keyword_of fixed_width_of
integral_begun t from rest h =
    let type = integral_type t from rest h in
    ((type_row from type, not_type (codes "using") refl from type), (not_type (codes "const") refl from type, not_type (codes "constexpr") refl from type), not_type (codes "void") refl from type)

returned_begun : (t : ReturnType) (from rest : List Token) → Returned t from rest → Begun from × NoConstant from
unfolding keyword
returned_begun (returned.Void s) from rest h =
    ((row_at row.Reserved true h refl, sees_other row.Reserved (codes "using") h refl), (sees_other row.Reserved (codes "const") h refl, sees_other row.Reserved (codes "constexpr") h refl))
returned_begun (returned.Integer t) from rest h = let b = integral_begun t from rest h in (b.0, b.1)

fixed_begun : (c : ConstSpecifier) (from rest : List Token) → ConstSpecified c from rest → Begun from × (r.begins_constant from ≡ true)
unfolding keyword r.begins_constant
fixed_begun (const.Const s) from rest h = ((row_at row.Reserved true h refl, sees_other row.Reserved (codes "using") h refl), rw (sees_at row.Reserved (codes "const") h) refl)
fixed_begun (const.Constexpr s) from rest h =
    ((row_at row.Reserved true h refl, sees_other row.Reserved (codes "using") h refl), rw (sees_other row.Reserved (codes "const") h refl, sees_at row.Reserved (codes "constexpr") h) refl)

-- a reserved word is no other token
reserved_no : (ts : List Token) → sees_row row.Reserved ts ≡ true → (sees_row row.Include ts ≡ false) × (sees_row row.Ident ts ≡ false) × (sees_row row.Mark ts ≡ false)
unfolding sees_row
reserved_no [] h = absurd cc
reserved_no (t ∷ ts) h = rw (same_row_is t.word.row row.Reserved h) (refl, refl, refl)

-- ---- parameters

-- the type of an object that a parameter refers to
object_of : ReferenceType → ObjectType
object_of (reference.Queue q) = object.Queue q
object_of (reference.Device q) = object.Device q
object_of (reference.Context q) = object.Context q
object_of (reference.Buffer q x) = object.Buffer q (Some x)

referred : (t : ReferenceType) → r.reference_of (object_of t) ≡ Some t
unfolding object_of
referred (reference.Queue q) = refl
referred (reference.Device q) = refl
referred (reference.Context q) = refl
referred (reference.Buffer q x) = refl

referred_object : (t : ReferenceType) (from rest : List Token) → Referenced t from rest → Object (object_of t) from rest
unfolding object_of
referred_object (reference.Queue q) from rest h = h
referred_object (reference.Device q) from rest h = h
referred_object (reference.Context q) from rest h = h
referred_object (reference.Buffer q x) from rest h = h

reference_type_read : (t : ReferenceType) (from rest : List Token) → sees row.Mark (codes "<") rest ≡ false → Referenced t from rest → r.reference_type from ≡ Some (t, rest)
unfolding r.reference_type
reference_type_read t from rest e h = rw (object_read (object_of t) from rest e (referred_object t from rest h), referred t) refl

-- a reference begins with the library's namespace
reference_space : (t : ReferenceType) (from rest : List Token) → Referenced t from rest →
    (sees row.Reserved (codes "const") from ≡ false) × (sees_namespace (codes "std") from ≡ false) × (sees_namespace (codes "sycl") from ≡ true) × (sees row.Mark (codes ")") from ≡ false)
unfolding identifier mark sees_namespace
reference_space t from rest h = by t from rest h
  where
    of : (s u : Spot) (from m k : List Token) → At (word row.Ident (codes "sycl")) s from m → At (word row.Mark (codes "::")) u m k →
        (sees row.Reserved (codes "const") from ≡ false) × (sees_namespace (codes "std") from ≡ false) × (sees_namespace (codes "sycl") from ≡ true) × (sees row.Mark (codes ")") from ≡ false)
    of s u from m k a b = (sees_other row.Reserved (codes "const") a refl, rw (sees_other row.Ident (codes "std") a refl) refl, namespace_at (codes "sycl") a b, sees_other row.Mark (codes ")") a refl)

    by : (t : ReferenceType) (from rest : List Token) → Referenced t from rest →
        (sees row.Reserved (codes "const") from ≡ false) × (sees_namespace (codes "std") from ≡ false) × (sees_namespace (codes "sycl") from ≡ true) × (sees row.Mark (codes ")") from ≡ false)
    by (reference.Queue q) from rest h = of q.namespace h.3.0 from h.0 h.1 h.2 h.3.1
    by (reference.Device q) from rest h = of q.namespace h.3.0 from h.0 h.1 h.2 h.3.1
    by (reference.Context q) from rest h = of q.namespace h.3.0 from h.0 h.1 h.2 h.3.1
    by (reference.Buffer q x) from rest h = of q.namespace h.1.3.0 from h.1.0 h.1.1 h.1.2 h.1.3.1

no_space : (space : List ℕ) (ts : List Token) → sees_row row.Ident ts ≡ false → sees_namespace space ts ≡ false
unfolding sees_namespace
no_space space ts e = rw (no_row row.Ident space ts e) refl

-- the word `const`, where it isn't what follows
module _ (fixed : Bool) (from m : List Token) (there : Maybe (keyword "const") fixed from m) (no : sees row.Reserved (codes "const") m ≡ false) where
  const_sees : sees row.Reserved (codes "const") from ≡ fixed
  unfolding keyword
  const_sees = maybe_sees row.Reserved (codes "const") fixed from m there no

  const_after : after row.Reserved (codes "const") from ≡ m
  unfolding keyword
  const_after = maybe_after row.Reserved (codes "const") fixed from m there no

  -- and what begins so is no mark, where what follows isn't
  const_mark : (text : List ℕ) → sees row.Mark text m ≡ false → sees row.Mark text from ≡ false
  unfolding keyword
  const_mark text e = by fixed there
    where
      by : (b : Bool) → Maybe (keyword "const") b from m → sees row.Mark text from ≡ false
      by true h = sees_other row.Mark text h.1 refl
      by false h = ap (sees row.Mark text) h ∙ e

abbrev Any : List Token → Type 0
Any ts = Unit

integer_parameter_read : (fixed : Bool) (t : IntegerType) (x : Lexeme) (from rest : List Token) → OneParameter (parameter.Integer fixed t x) from rest →
    r.one_parameter from ≡ Some ((parameter.Integer fixed t x, 0), rest)
unfolding r.one_parameter r.integer_parameter
integer_parameter_read fixed t x from rest h =
    let b = integral_begun t h.0 h.1 h.3 in
    let other = reserved_no h.0 b.0.0 in
    rw (
      const_sees fixed from h.0 h.2 b.1.0,
      const_after fixed from h.0 h.2 b.1.0,
      no_space (codes "std") h.0 other.1,
      no_space (codes "sycl") h.0 other.1,
      and_no (not fixed),
      integral_read t h.0 h.1 (row_at row.Reserved false h.4 refl) h.3,
      expect_row_at row.Ident x h.4,
    ) refl

vector_parameter_read : (fixed : Bool) (q : Qualified) (t : IntegerType) (x : Lexeme) (from rest : List Token) → OneParameter (parameter.Vector fixed q t x) from rest →
    r.one_parameter from ≡ Some ((parameter.Vector fixed q t x, 0), rest)
unfolding r.one_parameter r.vector_parameter identifier mark
vector_parameter_read fixed q t x from rest h =
    let no = sees_other row.Reserved (codes "const") h.4.3.2 refl in
    rw (
      const_sees fixed from h.0 h.3 no,
      const_after fixed from h.0 h.3 no,
      namespace_at (codes "std") h.4.3.2 h.4.3.3.1,
      within_at (codes "std") (codes "vector") q h.0 h.4.3.0 h.4.3.1 h.4.0 h.4.3.2 h.4.3.3 h.4.3.4,
      expect_at row.Mark (codes "<") h.4.4.1,
      integral_read t h.4.1 h.4.2 (row_at row.Reserved false h.4.6.1 refl) h.4.5,
      expect_at row.Mark (codes ">") h.4.6.1,
      expect_at row.Mark (codes "&") h.5.1,
      expect_row_at row.Ident x h.6,
    ) refl

object_parameter_read : (t : ReferenceType) (x : Lexeme) (from rest : List Token) → OneParameter (parameter.Object t x) from rest →
    r.one_parameter from ≡ Some ((parameter.Object t x, 0), rest)
unfolding r.one_parameter r.object_parameter mark
object_parameter_read t x from rest h =
    let s = reference_space t from h.0 h.2 in
    rw (
      s.0,
      after_none row.Reserved (codes "const") from s.0,
      s.1,
      s.2,
      reference_type_read t from h.0 (sees_other row.Mark (codes "<") h.3.1 refl) h.2,
      expect_at row.Mark (codes "&") h.3.1,
      expect_row_at row.Ident x h.4,
    ) refl

parameter_read : (x : Parameter) (from rest : List Token) → OneParameter x from rest → Any rest → ReadsAs (r.one_parameter from) 0 x rest
parameter_read (parameter.Integer fixed t x) from rest h e = (0, omega arith, integer_parameter_read fixed t x from rest h)
parameter_read (parameter.Object t x) from rest h e = (0, omega arith, object_parameter_read t x from rest h)
parameter_read (parameter.Vector fixed q t x) from rest h e = (0, omega arith, vector_parameter_read fixed q t x from rest h)

parameter_begins : (x : Parameter) (from rest : List Token) → OneParameter x from rest → sees row.Mark (codes ")") from ≡ false
unfolding identifier
parameter_begins (parameter.Integer fixed t x) from rest h =
    let b = integral_begun t h.0 h.1 h.3 in
    const_mark fixed from h.0 h.2 b.1.0 (codes ")") (no_row row.Mark (codes ")") h.0 (reserved_no h.0 b.0.0).2)
parameter_begins (parameter.Object t x) from rest h = (reference_space t from h.0 h.2).3
parameter_begins (parameter.Vector fixed q t x) from rest h =
    const_mark fixed from h.0 h.3 (sees_other row.Reserved (codes "const") h.4.3.2 refl) (codes ")") (sees_other row.Mark (codes ")") h.4.3.2 refl)

-- ---- constants

pub short_value_read : (x : Expr) (from rest : List Token) → Derives 63 (an_expr 1 x) from rest → binds rest < 1 → ends rest ≡ true → r.short_value from ≡ Some (x, rest)
unfolding r.short_value
short_value_read x from rest d b e =
    let c = (completes 64 (omega arith)).0 63 1 x from rest (omega arith) (omega arith) d b in
    let low : nat_lt c.0 64 ≡ true = lt-ltb c.0 64 (omega (arith, c.1)) in
    rw (c.2, low, e) refl

fixed_specifier_read : (c : ConstSpecifier) (from rest : List Token) → ConstSpecified c from rest → r.fixed_specifier from ≡ Some (c, rest)
unfolding r.fixed_specifier keyword
fixed_specifier_read (const.Const s) from rest h = rw (sees_at row.Reserved (codes "const") h, expect_at row.Reserved (codes "const") h) refl
fixed_specifier_read (const.Constexpr s) from rest h = rw (sees_other row.Reserved (codes "const") h refl, expect_at row.Reserved (codes "constexpr") h) refl

semicolon_end : {s : Spot} {from rest : List Token} → At (mark ";") s from rest → ends from ≡ true
unfolding mark
semicolon_end h = rw h.2 refl

brace_end : {s : Spot} {from rest : List Token} → At (mark "}") s from rest → ends from ≡ true
unfolding mark
brace_end h = rw h.2 refl

-- a declarator of a constant, up to the `;`
module _ (from m : List Token) (end : Sees (mark ";") from m) where
  value_end : (x : Expr) (us : List Token) → Derives 63 (an_expr 1 x) us from → r.short_value us ≡ Some (x, from)
  value_end x us d = short_value_read x us from d (semicolon_ends end.1) (semicolon_end end.1)

  constant_layer : (y : DeclaratorLayer) (us : List Token) → IsConstantInitializer y → DeclaratorRule (Derives 63) y us from → r.constant_declarator us ≡ Some (roll-Declarator y, from)
  unfolding r.constant_declarator r.braced_value r.equal_value mark
  constant_layer (Declarator-F.Uninitialized x) us i d = absurd i
  constant_layer (Declarator-F.Equal x s v) us i d =
      rw (
        declarator.rolls-Equal x s v,
        expect_row_at row.Ident x d.2,
        sees_other row.Mark (codes "{") d.3 refl,
        expect_at row.Mark (codes "=") d.3,
        value_end v d.1 d.4,
      ) refl
  constant_layer (Declarator-F.Bracketed x brackets.Parentheses s v e) us i d = absurd i
  constant_layer (Declarator-F.Bracketed x brackets.Braces s v e) us i d =
      rw (
        declarator.rolls-Bracketed x brackets.Braces s v e,
        expect_row_at row.Ident x d.3,
        sees_at row.Mark (codes "{") d.4,
        expect_at row.Mark (codes "{") d.4,
        short_value_read v d.1 d.2 d.5 (brace_ends d.6) (brace_end d.6),
        expect_at row.Mark (codes "}") d.6,
      ) refl

  constant_declarator_read : (x : Declarator) (us : List Token) → IsConstantInitializer (out-Declarator x) → OneDeclarator (Derives 63) x us from → r.constant_declarator us ≡ Some (x, from)
  constant_declarator_read x us i d = constant_layer (out-Declarator x) us i d ∙ ap (λ z. Some (z, from)) (roll-out-Declarator x)

-- a declarator begins with its name
declarator_first : (x : Declarator) (from rest : List Token) → OneDeclarator (Derives 63) x from rest → sees_row row.Reserved from ≡ false
declarator_first x from rest d = by (out-Declarator x) d
  where
    by : (y : DeclaratorLayer) → DeclaratorRule (Derives 63) y from rest → sees_row row.Reserved from ≡ false
    by (Declarator-F.Uninitialized x) d = row_at row.Reserved false d refl
    by (Declarator-F.Equal x s v) d = row_at row.Reserved false d.2 refl
    by (Declarator-F.Bracketed x b s v e) d = row_at row.Reserved false d.3 refl

declarator_short : (x : Declarator) (from rest : List Token) → OneDeclarator (Derives 63) x from rest → length rest ≤ length from
declarator_short x from rest d = by (out-Declarator x) d
  where
    value_short : (v : Expr) (us ts : List Token) → Derives 63 (an_expr 1 v) us ts → length ts ≤ length us
    value_short v us ts d = passed (Derives-takes 63 (an_expr 1 v) us ts d)

    by : (y : DeclaratorLayer) → DeclaratorRule (Derives 63) y from rest → length rest ≤ length from
    by (Declarator-F.Uninitialized x) d = omega (arith, at_length d)
    by (Declarator-F.Equal x s v) d = omega (arith, at_length d.2, at_length d.3, value_short v d.1 rest d.4)
    by (Declarator-F.Bracketed x b s v e) d = omega (arith, at_length d.3, at_length d.4, value_short v d.1 d.2 d.5, at_length d.6)

constant_read : (c : Constant) (from rest : List Token) → OneConstant c from rest → r.constant from ≡ Some (c, rest)
unfolding r.constant mark
constant_read c from rest h =
    rw (
      fixed_specifier_read c.specifier from h.0 h.3,
      type_specifier_read c.of h.0 h.1 (declarator_first c.declarator h.1 h.2 h.6) h.4,
      constant_declarator_read h.2 rest h.7 c.declarator h.1 h.5 h.6,
      expect_at row.Mark (codes ";") h.7.1,
    ) refl

-- ---- functions

return_type_read : (t : ReturnType) (from rest : List Token) → NoWord rest → Returned t from rest → r.return_type from ≡ Some (t, rest)
unfolding r.return_type keyword
return_type_read (returned.Void s) from rest e h = rw (sees_at row.Reserved (codes "void") h, expect_at row.Reserved (codes "void") h) refl
return_type_read (returned.Integer t) from rest e h = rw ((integral_begun t from rest h).2, integral_read t from rest e h) refl

pub body_read : (b : Block) (from rest : List Token) → Derives 64 (a_block b) from rest → r.body from ≡ Some (b, rest)
unfolding r.body
body_read b from rest d =
    let whole = completes 64 (omega arith) in
    let c = block_read (readers 64).0 (readers 64).1 63 (omega arith) (λ m x us ts le d. whole.1 m x us ts (omega (arith, le)) d) 64 (omega arith) b from rest d in
    rw c.2 refl

function_read : (f : Function) (from rest : List Token) → OneFunction f from rest → r.function from ≡ Some (f, rest)
unfolding r.function mark
function_read f from rest h =
    let all = maybe_comma_list_read r.one_parameter OneParameter 0 Any parameter_short parameter_read (λ us ts k. tt) (codes ")") f.parameters h.2 h.3 parameter_begins
    (omega (arith, at_length h.9.1)) h.8 tt (sees_other row.Mark (codes ",") h.9.1 refl) (sees_at row.Mark (codes ")") h.9.1) in
    rw (
      return_type_read f.returned from h.0 (row_at row.Reserved false h.6 refl) h.5,
      expect_row_at row.Ident f.name h.6,
      expect_at row.Mark (codes "(") h.7.1,
      all.2,
      expect_at row.Mark (codes ")") h.9.1,
      body_read f.body h.4 rest h.10,
    ) refl

-- ---- units

include_read : (s : Spot) (from rest : List Token) → Included s from rest → advance from ≡ Some (s, rest)
include_read s from rest h = advance_at h.1

include_begins : (s : Spot) (from rest : List Token) → Included s from rest → sees_row row.Include from ≡ true
include_begins s from rest h = row_at row.Include true h.1 refl

include_short : (s : Spot) (from rest : List Token) → Included s from rest → suc (length rest) ≤ length from
include_short s from rest h = omega (arith, at_length h.1)

using_read : (s : Spot) (from rest : List Token) → Using s from rest → r.using_line from ≡ Some (s, rest)
unfolding r.using_line keyword identifier mark
using_read s from rest h =
    rw (expect_at row.Reserved (codes "using") h.3, expect_at row.Reserved (codes "namespace") h.4.1, expect_at row.Ident (codes "sycl") h.5.1, expect_at row.Mark (codes ";") h.6.1) refl

using_begins : (s : Spot) (from rest : List Token) → Using s from rest → sees row.Reserved (codes "using") from ≡ true
unfolding keyword
using_begins s from rest h = sees_at row.Reserved (codes "using") h.3

using_short : (s : Spot) (from rest : List Token) → Using s from rest → suc (length rest) ≤ length from
using_short s from rest h = omega (arith, at_length h.3, at_length h.4.1, at_length h.5.1, at_length h.6.1)

constant_short : (c : Constant) (from rest : List Token) → OneConstant c from rest → suc (length rest) ≤ length from
constant_short c from rest h = omega (arith, fixed_short c.specifier from h.0 h.3, specifier_short c.of h.0 h.1 h.4, declarator_short c.declarator h.1 h.2 h.6, at_length h.7.1)

function_short : (f : Function) (from rest : List Token) → OneFunction f from rest → suc (length rest) ≤ length from
function_short f from rest h =
    let block : length rest ≤ length h.4 = passed (Derives-takes 64 (a_block f.body) h.4 rest h.10) in
    omega (arith, returned_short f.returned from h.0 h.5, at_length h.6, at_length h.7.1, parameters_short f.parameters h.2 h.3 h.8, at_length h.9.1, block)

item_short : (x : FileItem) (from rest : List Token) → OneItem x from rest → suc (length rest) ≤ length from
item_short (item.Constant c) from rest h = constant_short c from rest h
item_short (item.Function f) from rest h = function_short f from rest h

some_there : (ts : List Token) → 1 ≤ length ts → r.some_left ts ≡ true
some_there [] h = absurd (omega (arith, h))
some_there (t ∷ ts) h = refl

item_begins : (x : FileItem) (from rest : List Token) → OneItem x from rest → r.some_left from ≡ true
item_begins x from rest h = some_there from (omega (arith, item_short x from rest h))

no_constant : (from : List Token) → NoConstant from → r.begins_constant from ≡ false
unfolding r.begins_constant
no_constant from e = rw (e.0, e.1) refl

item_read : (x : FileItem) (from rest : List Token) → OneItem x from rest → r.file_item from ≡ Some (x, rest)
unfolding r.file_item
item_read (item.Constant c) from rest h = rw ((fixed_begun c.specifier from h.0 h.3).1, constant_read c from rest h) refl
item_read (item.Function f) from rest h = rw (no_constant from (returned_begun f.returned from h.0 h.5).1, function_read f from rest h) refl

-- the items of a file, one of which is a function
items_are : (xs : List FileItem) (from rest : List Token) → FileItems xs from rest → Each OneItem xs from rest × (list_any r.is_function xs ≡ true)
items_are [] from rest h = absurd h
items_are (item.Constant c ∷ more) from rest h = let others = items_are more h.0 rest h.2 in ((h.0, h.1, others.0), others.1)
items_are (item.Function f ∷ more) from rest h = (h, refl)

items_begin : (xs : List FileItem) (from rest : List Token) → FileItems xs from rest → Begun from
items_begin [] from rest h = absurd h
items_begin (item.Constant c ∷ more) from rest h = (fixed_begun c.specifier from h.1.0 h.1.3).0
items_begin (item.Function f ∷ more) from rest h = (returned_begun f.returned from h.1.0 h.1.5).0

-- what follows the includes begins none
usings_begin : (xs : List Spot) (from rest : List Token) → Each Using xs from rest → sees_row row.Include rest ≡ false → sees_row row.Include from ≡ false
unfolding keyword
usings_begin [] from rest h e = ap (sees_row row.Include) h ∙ e
usings_begin (x ∷ more) from rest h e = row_at row.Include false h.1.3 refl

-- A unit that is all of a list is what is read of it.
pub unit_read : (u : SourceUnit) (from : List Token) → WholeUnit u from [] → r.read_unit from ≡ Some (u, [])
unfolding r.read_unit
unit_read u from h =
    let b = items_begin u.items h.1 [] h.4 in
    let xs = items_are u.items h.1 [] h.4 in
    rw (
      all_each_read (sees_row row.Include) advance Included include_short include_begins include_read u.includes from h.0 h.2 (usings_begin u.usings h.0 h.1 h.3 (reserved_no h.1 b.0).0),
      all_each_read (sees row.Reserved (codes "using")) r.using_line Using using_short using_begins using_read u.usings h.0 h.1 h.3 b.1,
      all_each_read r.some_left r.file_item OneItem item_short item_begins item_read u.items h.1 [] xs.0 refl,
      xs.1,
    ) refl
