-- Parts that are read stand there.
use Prim.Native.String.{String}
use Rattle.std.proofs.Common.{◌≡◌, ℕ, if◌then◌else◌, Bool, true, false, cond, ◌&&◌, List, ◌∷◌, inl, inr, ⊎_elim, Option, Some, None, IsTrue, refl, ap, ◌∙◌, subst, codes}
use Rattle.std.proofs.lemmas.Slice.Eq.{bytes_eq-Decides}
use Rattle.std.specs.Str.{bytes_eq}
use Rattle.sy_lex.specs.declared.Row.TheVariants as row
use Rattle.sy_lex.specs.declared.Token.{Token}
use Rattle.sy_note.specs.declared.Spot.{Spot}
use Rattle.sy_num.specs.declared.Kind.{Kind}
use Rattle.sy_num.specs.declared.Kind.TheVariants as kind
use Rattle.sy_tree.specs.declared.parts.Brackets.{Brackets}
use Rattle.sy_tree.specs.declared.parts.Brackets.TheVariants as brackets
use Rattle.sy_tree.specs.declared.parts.Capture.{Capture}
use Rattle.sy_tree.specs.declared.parts.Capture.TheVariants as capture
use Rattle.sy_tree.specs.declared.parts.ConstSpecifier.{ConstSpecifier}
use Rattle.sy_tree.specs.declared.parts.ConstSpecifier.TheVariants as const
use Rattle.sy_tree.specs.declared.parts.ElementArguments.{ElementArguments}
use Rattle.sy_tree.specs.declared.parts.IntegerType.{IntegerType}
use Rattle.sy_tree.specs.declared.parts.LambdaParameter.{LambdaParameter}
use Rattle.sy_tree.specs.declared.parts.LambdaParameterType.{LambdaParameterType}
use Rattle.sy_tree.specs.declared.parts.LambdaParameterType.TheVariants as parameter
use Rattle.sy_tree.specs.declared.parts.Lexeme.{Lexeme}
use Rattle.sy_tree.specs.declared.parts.ObjectType.{ObjectType}
use Rattle.sy_tree.specs.declared.parts.ObjectType.TheVariants as object
use Rattle.sy_tree.specs.declared.parts.Qualified.{Qualified}
use Rattle.sy_tree.specs.declared.parts.TemplateArgument.{TemplateArgument}
use Rattle.sy_tree.specs.declared.parts.TemplateArgument.TheVariants as template
use Rattle.sy_tree.specs.declared.parts.TypeSpecifier.{TypeSpecifier}
use Rattle.sy_tree.specs.declared.parts.TypeSpecifier.TheVariants as specifier
use Rattle.sy_tree.specs.Lists.{Rule, Optional, MaybeListed}
use Rattle.sy_tree.specs.Types.{Integral, OneWordIntegral, TypeSpecified, ConstSpecified, Dimensions, CommaDimensions, Elements, Object, Captured, LambdaParameterTyped, OneLambdaParameter, LambdaParameters, OneTemplateArgument, TemplateArguments}
use Rattle.sy_tree.specs.Words.{At, Sees, Sycl, takes_template_argument, identifier, SpelledAs, spellings, mark, keyword, opening, closing}
use Rattle.sy_reading.specs.Input.{Reader, WithHeight, ◌>>=◌, ◌>>◌, pure, expect, expect_row, sees, sees_row, sees_namespace, after, eat, expect_name, within, qualified_name, maybe_comma_list}
use Rattle.sy_reading.specs.Parts as r
use Rattle.sy_reading.specs.Tables.{fixed_width_of, keyword_of, one_word_of, plain_object_of, or_else}
use Rattle.sy_reading.proofs.StepLemmas.{bind_some, one, choice, which, word, expected, expects, expect_row_is, eaten, maybe_that, expect_name_is, within_is, maybe_comma_list_stand, and_both, is_true, finish}

-- ---- brackets

pub expect_open_is : (from rest : List Token) (b : Brackets × Spot) → r.expect_open from ≡ Some (b, rest) → At (mark (opening b.0)) b.1 from rest
unfolding r.expect_open mark
expect_open_is from rest b h =
    ⊎_elim
    (λ p. let s = bind_some (expect row.Mark (codes "(") from) _ _ p.1 in
    finish {A = Brackets × Spot} (λ q us. At (mark (opening q.0)) q.1 from us) (brackets.Parentheses, s.0.0) b s.0.1 rest s.2 (expected _ _ _ _ _ s.1))
    (λ p. let s = bind_some (expect row.Mark (codes "{") from) _ _ p.1 in
    finish {A = Brackets × Spot} (λ q us. At (mark (opening q.0)) q.1 from us) (brackets.Braces, s.0.0) b s.0.1 rest s.2 (expected _ _ _ _ _ s.1))
    (choice (sees row.Mark (codes "(") from) _ _ (b, rest) h)

pub expect_close_is : (b : Brackets) (from rest : List Token) (e : Spot) → r.expect_close b from ≡ Some (e, rest) → At (mark (closing b)) e from rest
unfolding r.expect_close mark
expect_close_is brackets.Parentheses from rest e h = expected _ _ _ _ _ h
expect_close_is brackets.Braces from rest e h = expected _ _ _ _ _ h

pub empty_brackets_are : (from rest : List Token) (b : Brackets × Spot) → r.empty_brackets from ≡ Some (b, rest) →
    (u : List Token) × Sees (mark (opening b.0)) from u × At (mark (closing b.0)) b.1 u rest
unfolding r.empty_brackets
empty_brackets_are from rest b h =
    let o = bind_some (r.expect_open from) _ _ h in
    let c = bind_some (r.expect_close o.0.0.0 o.0.1) _ _ o.2 in
    finish {A = Brackets × Spot} (λ q us. (u : List Token) × Sees (mark (opening q.0)) from u × At (mark (closing q.0)) q.1 u us) (o.0.0.0, c.0.0) b c.0.1 rest c.2
    (o.0.1, (o.0.0.1, expect_open_is from o.0.1 o.0.0 o.1), expect_close_is o.0.0.0 o.0.1 c.0.1 c.0.0 c.1)

-- ---- integer types

abbrev Kinded : Kind → Spot → List Token → List Token → Type 0
Kinded k s from rest = SpelledAs (spellings k) s from rest

-- a table's row, or the rows below it
pick : (P : Kind → Type 0) (b : Bool) (x : Kind) (o : Option Kind) (k : Kind) → (b ≡ true → P x) → (o ≡ Some k → P k) → cond b (Some x) o ≡ Some k → P k
pick P true x o k f g h = subst P (one x k h) (f refl)
pick P false x o k f g h = g h

module _ (text : List ℕ) (s : Spot) (from rest : List Token) (there : At (word row.Reserved text) s from rest) where
  -- the word, as it is written out
  said : (w : String) → bytes_eq text (codes w) ≡ true → At (keyword w) s from rest
  unfolding keyword
  said w e = subst (λ t. At (word row.Reserved t) s from rest) ((bytes_eq-Decides text (codes w)).0 e) there

  fixed_width_is : (k : Kind) → fixed_width_of text ≡ Some k → Kinded k s from rest
  unfolding fixed_width_of
  fixed_width_is k h =
      let P : Kind → Type 0 = λ k. Kinded k s from rest in
      pick P _ kind.SChar _ k (λ e. inr (inl (said "int8_t" e)))
      (pick P _ kind.UChar _ k (λ e. inr (inl (said "uint8_t" e)))
      (pick P _ kind.Short _ k (λ e. inr (inr (inl (said "int16_t" e))))
      (pick P _ kind.UShort _ k (λ e. inr (inr (inl (said "uint16_t" e))))
      (pick P _ kind.Int _ k (λ e. inr (inr (inr (inl (said "int32_t" e)))))
      (pick P _ kind.UInt _ k (λ e. inr (inr (inl (said "uint32_t" e))))
      (pick P _ kind.Long _ k (λ e. inr (inr (inl (said "int64_t" e))))
      (pick P _ kind.ULong _ k (λ e. inr (inr (inr (inl (said "uint64_t" e)))))
      (pick P _ kind.ULong _ k (λ e. inr (inr (inl (said "size_t" e)))) (λ h. absurd cc))))))))) h

  keyword_is : (k : Kind) → keyword_of text ≡ Some k → Kinded k s from rest
  unfolding keyword_of
  keyword_is k h =
      let P : Kind → Type 0 = λ k. Kinded k s from rest in
      pick P _ kind.Int _ k (λ e. inl (said "int" e))
      (pick P _ kind.Bool _ k (λ e. inl (said "bool" e))
      (pick P _ kind.Char _ k (λ e. inl (said "char" e))
      (pick P _ kind.Int _ k (λ e. inr (inl (said "signed" e)))
      (pick P _ kind.UInt _ k (λ e. inl (said "unsigned" e))
      (pick P _ kind.Short _ k (λ e. inl (said "short" e))
      (pick P _ kind.Long _ k (λ e. inl (said "long" e)) (λ h. absurd cc))))))) h

  one_word_is : (k : Kind) → one_word_of text ≡ Some k → Kinded k s from rest
  unfolding one_word_of
  one_word_is k h = by (keyword_of text) refl h
    where
      by : (o : Option Kind) → keyword_of text ≡ o → or_else o (fixed_width_of text) ≡ Some k → Kinded k s from rest
      by (Some j) is h = keyword_is k (is ∙ h)
      by None is h = fixed_width_is k h

-- a word that may be there
maybe_word : (w : String) (m : List Token) (P : Bool → List Token → Type 0) → ((us : List Token) → Sees (keyword w) m us → P true us) → P false m →
    P (sees row.Reserved (codes w) m) (after row.Reserved (codes w) m)
unfolding keyword
maybe_word w m P f g = maybe_that row.Reserved (codes w) m P f g

module _ (s : Spot) (from : List Token) where
  int_is : (j k : Kind) (m rest : List Token) → Kinded j s from m → ((us : List Token) → Sees (keyword "int") m us → Kinded j s from us) →
      r.eat_int j m ≡ Some (k, rest) → Kinded k s from rest
  int_is j k m rest without with_int h =
      maybe_word "int" m (λ b us. pure j us ≡ Some (k, rest) → Kinded k s from rest)
      (λ us c h. finish (λ z vs. Kinded z s from vs) j k us rest h (with_int us c)) (λ h. finish (λ z vs. Kinded z s from vs) j k m rest h without) h

  long_is : (once twice k : Kind) (m rest : List Token) → Kinded once s from m → ((us : List Token) → Sees (keyword "int") m us → Kinded once s from us) →
      ((us : List Token) → Sees (keyword "long") m us → Kinded twice s from us) →
      ((us vs : List Token) → Sees (keyword "long") m us → Sees (keyword "int") us vs → Kinded twice s from vs) →
      r.long_kind once twice m ≡ Some (k, rest) → Kinded k s from rest
  unfolding r.long_kind
  long_is once twice k m rest a b c d h =
      maybe_word "long" m (λ more us. r.eat_int (if more then twice else once) us ≡ Some (k, rest) → Kinded k s from rest)
      (λ us l h. int_is twice k us rest (c us l) (λ vs i. d us vs l i) h) (λ h. int_is once k m rest a b h) h

  signed_is : (k : Kind) (m rest : List Token) → At (keyword "signed") s from m → r.signed_kind m ≡ Some (k, rest) → Kinded k s from rest
  unfolding r.signed_kind
  signed_is k m rest at h =
      maybe_word "char" m (λ b us. (if b then pure kind.SChar else r.eat_int kind.Int) us ≡ Some (k, rest) → Kinded k s from rest)
      (λ us c h. finish (λ z vs. Kinded z s from vs) kind.SChar k us rest h (inl (m, c.0, at, c.1)))
      (λ h. int_is kind.Int k m rest (inr (inl at)) (λ us i. inr (inr (inl (m, i.0, at, i.1)))) h) h

  unsigned_is : (k : Kind) (m rest : List Token) → At (keyword "unsigned") s from m → r.unsigned_kind m ≡ Some (k, rest) → Kinded k s from rest
  unfolding r.unsigned_kind
  unsigned_is k m rest at h =
      maybe_word "char" m (λ b us. (if b then pure kind.UChar else long_or_short) us ≡ Some (k, rest) → Kinded k s from rest)
      (λ us c h. finish (λ z vs. Kinded z s from vs) kind.UChar k us rest h (inl (m, c.0, at, c.1)))
      (λ h. maybe_word "long" m (λ b us. (if b then r.long_kind kind.ULong kind.ULLong else short_or_none) us ≡ Some (k, rest) → Kinded k s from rest)
      (λ us l h. long_is kind.ULong kind.ULLong k us rest (inl (m, l.0, at, l.1)) (λ vs i. inr (inl (m, l.0, at, (us, i.0, l.1, i.1))))
      (λ vs l2. inl (m, l.0, at, (us, l2.0, l.1, l2.1))) (λ vs ws l2 i. inr (inl (m, l.0, at, (us, l2.0, l.1, (vs, i.0, l2.1, i.1))))) h)
      (λ h. maybe_word "short" m (λ b us. r.eat_int (if b then kind.UShort else kind.UInt) us ≡ Some (k, rest) → Kinded k s from rest)
      (λ us c h. int_is kind.UShort k us rest (inl (m, c.0, at, c.1)) (λ vs i. inr (inl (m, c.0, at, (us, i.0, c.1, i.1)))) h)
      (λ h. int_is kind.UInt k m rest (inl at) (λ us i. inr (inl (m, i.0, at, i.1))) h) h) h) h
    where
      short_or_none : Reader Kind
      short_or_none = eat row.Reserved (codes "short") >>= (λ short. r.eat_int (if short then kind.UShort else kind.UInt))

      long_or_short : Reader Kind
      long_or_short = eat row.Reserved (codes "long") >>= (λ long. if long then r.long_kind kind.ULong kind.ULLong else short_or_none)

  word_kind_is : (o : Option Kind) (k : Kind) (m rest : List Token) → ((j : Kind) → o ≡ Some j → Kinded j s from m) → r.word_kind o m ≡ Some (k, rest) → Kinded k s from rest
  word_kind_is None k m rest f h = absurd cc
  word_kind_is (Some j) k m rest f h = finish (λ z vs. Kinded z s from vs) j k m rest h (f j refl)

  kind_by_is : (text : List ℕ) (k : Kind) (m rest : List Token) → At (word row.Reserved text) s from m → r.kind_by text m ≡ Some (k, rest) → Kinded k s from rest
  unfolding r.kind_by
  kind_by_is text k m rest at h =
      ⊎_elim (λ p. signed_is k m rest (said text s from m at "signed" p.0) p.1)
      (λ p. ⊎_elim (λ p. unsigned_is k m rest (said text s from m at "unsigned" p.0) p.1)
      (λ p. ⊎_elim (λ p. let w = said text s from m at "short" p.0 in int_is kind.Short k m rest (inl w) (λ us i. inr (inl (m, i.0, w, i.1))) p.1)
      (λ p. ⊎_elim (λ p. let w = said text s from m at "long" p.0 in
      long_is kind.Long kind.LLong k m rest (inl w) (λ us i. inr (inl (m, i.0, w, i.1))) (λ us l. inl (m, l.0, w, l.1)) (λ us vs l i. inr (inl (m, l.0, w, (us, i.0, l.1, i.1)))) p.1)
      (λ p. word_kind_is (one_word_of text) k m rest (λ j is. one_word_is text s from m at j is) p.1)
      (which (bytes_eq text (codes "long")) _ _ m (k, rest) p.1))
      (which (bytes_eq text (codes "short")) _ _ m (k, rest) p.1))
      (which (bytes_eq text (codes "unsigned")) _ _ m (k, rest) p.1))
      (which (bytes_eq text (codes "signed")) _ _ m (k, rest) h)

pub integral_is : (from rest : List Token) (t : IntegerType) → r.integral from ≡ Some (t, rest) → Integral t from rest
unfolding r.integral
integral_is from rest t h =
    let x = bind_some (expect_row row.Reserved from) _ _ h in
    let k = bind_some (r.kind_by x.0.0.text x.0.1) _ _ x.2 in
    finish (λ z vs. Integral z from vs) (record { spot = x.0.0.spot; kind = k.0.0 }) t k.0.1 rest k.2
    (kind_by_is x.0.0.spot from x.0.0.text k.0.0 x.0.1 k.0.1 (expect_row_is _ _ _ _ x.1) k.1)

pub one_word_integral_is : (from rest : List Token) (t : IntegerType) → r.one_word from ≡ Some (t, rest) → OneWordIntegral t from rest
unfolding r.one_word
one_word_integral_is from rest t h =
    let x = bind_some (expect_row row.Reserved from) _ _ h in
    let k = bind_some (r.word_kind (one_word_of x.0.0.text) x.0.1) _ _ x.2 in
    let there = expect_row_is row.Reserved from x.0.1 x.0.0 x.1 in
    let found = word_kind_is x.0.0.spot from (one_word_of x.0.0.text) k.0.0 x.0.1 k.0.1 (λ j is. one_word_is x.0.0.text x.0.0.spot from x.0.1 there j is) k.1 in
    finish (λ z vs. OneWordIntegral z from vs) (record { spot = x.0.0.spot; kind = k.0.0 }) t k.0.1 rest k.2 (
      found,
      (
        record { word = word row.Reserved x.0.0.text; from = there.0; to = there.1; spot = x.0.0.spot },
        there.2 ∙ ap (λ us. record { word = word row.Reserved x.0.0.text; from = there.0; to = there.1; spot = x.0.0.spot } ∷ us) (untaken (one_word_of x.0.0.text) k.0.0 x.0.1 k.0.1 k.1),
      ),
    )
  where
    untaken : (o : Option Kind) (k : Kind) (m rest : List Token) → r.word_kind o m ≡ Some (k, rest) → m ≡ rest
    untaken None k m rest h = absurd cc
    untaken (Some j) k m rest h = ap (λ p. p.1) (one {Y = Kind × List Token} (j, m) (k, rest) h)

pub type_specifier_is : (from rest : List Token) (t : TypeSpecifier) → r.type_specifier from ≡ Some (t, rest) → TypeSpecified t from rest
unfolding r.type_specifier keyword
type_specifier_is from rest t h =
    ⊎_elim
    (λ p. let s = bind_some (expect row.Reserved (codes "auto") from) _ _ p.1 in
    finish (λ z vs. TypeSpecified z from vs) (specifier.Auto s.0.0) t s.0.1 rest s.2 (expected _ _ _ _ _ s.1))
    (λ p. let i = bind_some (r.integral from) _ _ p.1 in
    finish (λ z vs. TypeSpecified z from vs) (specifier.Integer i.0.0) t i.0.1 rest i.2 (integral_is from i.0.1 i.0.0 i.1))
    (choice (sees row.Reserved (codes "auto") from) _ _ (t, rest) h)

pub const_specifier_is : (from rest : List Token) (c : Option ConstSpecifier) → r.const_specifier from ≡ Some (c, rest) → Optional ConstSpecified c from rest
unfolding r.const_specifier keyword
const_specifier_is from rest c h =
    ⊎_elim
    (λ p. let s = bind_some (expect row.Reserved (codes "const") from) _ _ p.1 in
    finish (λ z vs. Optional ConstSpecified z from vs) (Some (const.Const s.0.0)) c s.0.1 rest s.2 (expected _ _ _ _ _ s.1))
    (λ p. ⊎_elim
    (λ p. let s = bind_some (expect row.Reserved (codes "constexpr") from) _ _ p.1 in
    finish (λ z vs. Optional ConstSpecified z from vs) (Some (const.Constexpr s.0.0)) c s.0.1 rest s.2 (expected _ _ _ _ _ s.1))
    (λ p. finish (λ z vs. Optional ConstSpecified z from vs) None c from rest p.1 refl)
    (choice (sees row.Reserved (codes "constexpr") from) _ _ (c, rest) p.1))
    (choice (sees row.Reserved (codes "const") from) _ _ (c, rest) h)

-- ---- types of the library

pub dimensions_are : (from rest : List Token) (x : Lexeme) → r.dimensions from ≡ Some (x, rest) → Dimensions x from rest
unfolding r.dimensions mark
dimensions_are from rest x h =
    let o = bind_some (expect row.Mark (codes "<") from) _ _ h in
    let n = bind_some (expect_row row.Int o.0.1) _ _ o.2 in
    let c = bind_some (expect row.Mark (codes ">") n.0.1) _ _ n.2 in
    finish (λ z vs. Dimensions z from vs) n.0.0 x c.0.1 rest c.2 (o.0.1, n.0.1, expects _ _ _ _ _ o.1, expect_row_is _ _ _ _ n.1, expects _ _ _ _ _ c.1)

maybe_dimensions_are : (from rest : List Token) (x : Option Lexeme) → r.maybe_dimensions from ≡ Some (x, rest) → Optional Dimensions x from rest
unfolding r.maybe_dimensions
maybe_dimensions_are from rest x h =
    ⊎_elim
    (λ p. let d = bind_some (r.dimensions from) _ _ p.1 in
    finish (λ z vs. Optional Dimensions z from vs) (Some d.0.0) x d.0.1 rest d.2 (dimensions_are from d.0.1 d.0.0 d.1))
    (λ p. finish (λ z vs. Optional Dimensions z from vs) None x from rest p.1 refl)
    (choice (sees row.Mark (codes "<") from) _ _ (x, rest) h)

comma_dimensions_are : (from rest : List Token) (x : Option Lexeme) → r.comma_dimensions from ≡ Some (x, rest) → Optional CommaDimensions x from rest
unfolding r.comma_dimensions mark
comma_dimensions_are from rest x h =
    maybe_that row.Mark (codes ",") from (λ b us. (if b then (expect_row row.Int >>= (λ x. pure (Some x))) else pure None) us ≡ Some (x, rest) → Optional CommaDimensions x from rest)
    (λ us c h. let n = bind_some (expect_row row.Int us) _ _ h in
    finish (λ z vs. Optional CommaDimensions z from vs) (Some n.0.0) x n.0.1 rest n.2 (us, c, expect_row_is _ _ _ _ n.1))
    (λ h. finish (λ z vs. Optional CommaDimensions z from vs) None x from rest h refl) h

elements_are : (from rest : List Token) (x : ElementArguments) → r.elements from ≡ Some (x, rest) → Elements x from rest
unfolding r.elements mark
elements_are from rest x h =
    let o = bind_some (expect row.Mark (codes "<") from) _ _ h in
    let t = bind_some (r.integral o.0.1) _ _ o.2 in
    let d = bind_some (r.comma_dimensions t.0.1) _ _ t.2 in
    let c = bind_some (expect row.Mark (codes ">") d.0.1) _ _ d.2 in
    finish (λ z vs. Elements z from vs) (record { element = t.0.0; dimensions = d.0.0 }) x c.0.1 rest c.2
    (o.0.1, t.0.1, d.0.1, expects _ _ _ _ _ o.1, integral_is o.0.1 t.0.1 t.0.0 t.1, comma_dimensions_are t.0.1 d.0.1 d.0.0 d.1, expects _ _ _ _ _ c.1)

maybe_elements_are : (from rest : List Token) (x : Option ElementArguments) → r.maybe_elements from ≡ Some (x, rest) → Optional Elements x from rest
unfolding r.maybe_elements
maybe_elements_are from rest x h =
    ⊎_elim
    (λ p. let d = bind_some (r.elements from) _ _ p.1 in
    finish (λ z vs. Optional Elements z from vs) (Some d.0.0) x d.0.1 rest d.2 (elements_are from d.0.1 d.0.0 d.1))
    (λ p. finish (λ z vs. Optional Elements z from vs) None x from rest p.1 refl)
    (choice (sees row.Mark (codes "<") from) _ _ (x, rest) h)

-- any name of the library, of which the text is known
abbrev pub Library : List ℕ → Qualified → List Token → List Token → Type 0
Library text q from rest = (m k : List Token) × At (word row.Ident (codes "sycl")) q.namespace from m × Sees (word row.Mark (codes "::")) m k × At (word row.Ident text) q.name k rest

pub library_is : (from rest : List Token) (p : Spot × Lexeme) → expect_name (codes "sycl") from ≡ Some (p, rest) → Library p.1.text (qualified_name p) from rest
library_is from rest p h = expect_name_is (codes "sycl") from rest p h

-- the name, as it is written out
pub library_name : (text : List ℕ) (w : String) (q : Qualified) (from rest : List Token) → Library text q from rest → bytes_eq text (codes w) ≡ true → Sycl w q from rest
unfolding identifier mark
library_name text w q from rest h e = subst (λ t. Library t q from rest) ((bytes_eq-Decides text (codes w)).0 e) h

module _ (text : List ℕ) (q : Qualified) (from m : List Token) (there : Library text q from m) where
  name : (w : String) → bytes_eq text (codes w) ≡ true → Sycl w q from m
  name w e = library_name text w q from m there e

  plain : (P : ObjectType → Type 0) (b : Bool) (x : ObjectType) (o : Option ObjectType) (t : ObjectType) → (b ≡ true → P x) → (o ≡ Some t → P t) → cond b (Some x) o ≡ Some t → P t
  plain P true x o k f g h = subst P (one x k h) (f refl)
  plain P false x o k f g h = g h

  plain_object_is : (t : ObjectType) → plain_object_of q text ≡ Some t → Object t from m
  unfolding plain_object_of
  plain_object_is t h =
      let P : ObjectType → Type 0 = λ t. Object t from m in
      plain P _ (object.Queue q) _ t (λ e. name "queue" e)
      (plain P _ (object.Device q) _ t (λ e. name "device" e)
      (plain P _ (object.Context q) _ t (λ e. name "context" e)
      (plain P _ (object.Event q) _ t (λ e. name "event" e)
      (plain P _ (object.Accessor q) _ t (λ e. name "accessor" e)
      (plain P _ (object.HostAccessor q) _ t (λ e. name "host_accessor" e) (λ h. absurd cc)))))) h

  template_object_is : (t : ObjectType) (rest : List Token) → r.template_object q text m ≡ Some (t, rest) → Object t from rest
  unfolding r.template_object
  template_object_is t rest h =
      ⊎_elim (λ p. let x = bind_some (r.maybe_elements m) _ _ p.1 in
      finish (λ z vs. Object z from vs) (object.Buffer q x.0.0) t x.0.1 rest x.2 (m, name "buffer" p.0, maybe_elements_are m x.0.1 x.0.0 x.1))
      (λ p. ⊎_elim (λ p. let x = bind_some (r.elements m) _ _ p.1 in
      finish (λ z vs. Object z from vs) (object.LocalAccessor q x.0.0) t x.0.1 rest x.2 (m, name "local_accessor" p.0, elements_are m x.0.1 x.0.0 x.1))
      (λ p. ⊎_elim (λ p. let x = bind_some (r.maybe_dimensions m) _ _ p.1 in
      finish (λ z vs. Object z from vs) (object.Range q x.0.0) t x.0.1 rest x.2 (m, name "range" p.0, maybe_dimensions_are m x.0.1 x.0.0 x.1))
      (λ p. ⊎_elim (λ p. let x = bind_some (r.maybe_dimensions m) _ _ p.1 in
      finish (λ z vs. Object z from vs) (object.Id q x.0.0) t x.0.1 rest x.2 (m, name "id" p.0, maybe_dimensions_are m x.0.1 x.0.0 x.1))
      (λ p. ⊎_elim (λ p. let x = bind_some (r.maybe_dimensions m) _ _ p.1 in
      finish (λ z vs. Object z from vs) (object.NdRange q x.0.0) t x.0.1 rest x.2 (m, name "nd_range" p.0, maybe_dimensions_are m x.0.1 x.0.0 x.1))
      (λ p. absurd (let clash : None ≡ Some (t, rest) = p.1 in cc))
      (which (bytes_eq text (codes "nd_range")) _ _ m (t, rest) p.1))
      (which (bytes_eq text (codes "id")) _ _ m (t, rest) p.1))
      (which (bytes_eq text (codes "range")) _ _ m (t, rest) p.1))
      (which (bytes_eq text (codes "local_accessor")) _ _ m (t, rest) p.1))
      (which (bytes_eq text (codes "buffer")) _ _ m (t, rest) h)

  pub object_by_is : (t : ObjectType) (rest : List Token) → r.object_by q text m ≡ Some (t, rest) → Object t from rest
  unfolding r.object_by
  object_by_is t rest h = by (plain_object_of q text) refl h
    where
      by : (o : Option ObjectType) → plain_object_of q text ≡ o → r.object_or q text o m ≡ Some (t, rest) → Object t from rest
      by (Some u) is h = finish (λ z vs. Object z from vs) u t m rest h (plain_object_is u is)
      by None is h = template_object_is t rest h

pub object_type_is : (from rest : List Token) (t : ObjectType) → r.object_type from ≡ Some (t, rest) → Object t from rest
unfolding r.object_type
object_type_is from rest t h =
    let p = bind_some (expect_name (codes "sycl") from) _ _ h in
    object_by_is p.0.0.1.text (qualified_name p.0.0) from p.0.1 (library_is from p.0.1 p.0.0 p.1) t rest p.2

-- ---- lambdas

-- these parts hold no node, so their rules look at no height
abbrev pub CaptureAt : ℕ → Rule Capture
CaptureAt h x from rest = Captured x from rest

abbrev pub ParameterAt : ℕ → Rule LambdaParameter
ParameterAt h x from rest = OneLambdaParameter x from rest

reference_capture_is : (from rest : List Token) (x : WithHeight Capture) → r.reference_capture from ≡ Some (x, rest) → Captured x.0 from rest
unfolding r.reference_capture mark
reference_capture_is from rest x h =
    let s = bind_some (expect row.Mark (codes "&") from) _ _ h in
    ⊎_elim
    (λ p. let n = bind_some (expect_row row.Ident s.0.1) _ _ p.1 in
    finish {A = WithHeight Capture} (λ z vs. Captured z.0 from vs) (capture.Reference s.0.0 n.0.0, 0) x n.0.1 rest n.2 (s.0.1, expected _ _ _ _ _ s.1, expect_row_is _ _ _ _ n.1))
    (λ p. finish {A = WithHeight Capture} (λ z vs. Captured z.0 from vs) (capture.DefaultReference s.0.0, 0) x s.0.1 rest p.1 (expected _ _ _ _ _ s.1))
    (choice (sees_row row.Ident s.0.1) _ _ (x, rest) s.2)

one_capture_is : (from rest : List Token) (x : WithHeight Capture) → r.one_capture from ≡ Some (x, rest) → Captured x.0 from rest
unfolding r.one_capture mark
one_capture_is from rest x h =
    ⊎_elim (λ p. reference_capture_is from rest x p.1)
    (λ p. ⊎_elim
    (λ p. let s = bind_some (expect row.Mark (codes "=") from) _ _ p.1 in
    finish {A = WithHeight Capture} (λ z vs. Captured z.0 from vs) (capture.DefaultCopy s.0.0, 0) x s.0.1 rest s.2 (expected _ _ _ _ _ s.1))
    (λ p. let n = bind_some (expect_row row.Ident from) _ _ p.1 in
    finish {A = WithHeight Capture} (λ z vs. Captured z.0 from vs) (capture.Copy n.0.0, 0) x n.0.1 rest n.2 (expect_row_is _ _ _ _ n.1))
    (choice (sees row.Mark (codes "=") from) _ _ (x, rest) p.1))
    (choice (sees row.Mark (codes "&") from) _ _ (x, rest) h)

pub captures_are : (close : List ℕ) (from rest : List Token) (xs : WithHeight (List Capture)) → maybe_comma_list r.one_capture close from ≡ Some (xs, rest) → MaybeListed Captured xs.0 from rest
captures_are close from rest xs h = maybe_comma_list_stand r.one_capture CaptureAt (λ m n le x us ts d. d) one_capture_is close from rest xs h

module _ (text : List ℕ) (q : Qualified) (from m : List Token) (there : Library text q from m) where
  parameter_by_is : (t : LambdaParameterType) (rest : List Token) → r.parameter_by q text m ≡ Some (t, rest) → LambdaParameterTyped t from rest
  unfolding r.parameter_by
  parameter_by_is t rest h =
      ⊎_elim (λ p. finish (λ z vs. LambdaParameterTyped z from vs) (parameter.Handler q) t m rest p.1 (library_name text "handler" q from m there p.0))
      (λ p. ⊎_elim (λ p. let x = bind_some (r.dimensions m) _ _ p.1 in
      finish (λ z vs. LambdaParameterTyped z from vs) (parameter.Id q x.0.0) t x.0.1 rest x.2 (m, library_name text "id" q from m there p.0, dimensions_are m x.0.1 x.0.0 x.1))
      (λ p. ⊎_elim (λ p. let x = bind_some (r.dimensions m) _ _ p.1 in
      finish (λ z vs. LambdaParameterTyped z from vs) (parameter.Item q x.0.0) t x.0.1 rest x.2 (m, library_name text "item" q from m there p.0, dimensions_are m x.0.1 x.0.0 x.1))
      (λ p. ⊎_elim (λ p. let x = bind_some (r.dimensions m) _ _ p.1 in
      finish (λ z vs. LambdaParameterTyped z from vs) (parameter.NdItem q x.0.0) t x.0.1 rest x.2 (m, library_name text "nd_item" q from m there p.0, dimensions_are m x.0.1 x.0.0 x.1))
      (λ p. absurd (let clash : None ≡ Some (t, rest) = p.1 in cc))
      (which (bytes_eq text (codes "nd_item")) _ _ m (t, rest) p.1))
      (which (bytes_eq text (codes "item")) _ _ m (t, rest) p.1))
      (which (bytes_eq text (codes "id")) _ _ m (t, rest) p.1))
      (which (bytes_eq text (codes "handler")) _ _ m (t, rest) h)

parameter_type_is : (from rest : List Token) (t : LambdaParameterType) → r.parameter_type from ≡ Some (t, rest) → LambdaParameterTyped t from rest
unfolding r.parameter_type keyword
parameter_type_is from rest t h =
    ⊎_elim
    (λ p. let s = bind_some (expect row.Reserved (codes "auto") from) _ _ p.1 in
    finish (λ z vs. LambdaParameterTyped z from vs) (parameter.Auto s.0.0) t s.0.1 rest s.2 (expected _ _ _ _ _ s.1))
    (λ p. let n = bind_some (expect_name (codes "sycl") from) _ _ p.1 in
    parameter_by_is n.0.0.1.text (qualified_name n.0.0) from n.0.1 (library_is from n.0.1 n.0.0 n.1) t rest n.2)
    (choice (sees row.Reserved (codes "auto") from) _ _ (t, rest) h)

one_parameter_is : (from rest : List Token) (x : WithHeight LambdaParameter) → r.one_parameter from ≡ Some (x, rest) → OneLambdaParameter x.0 from rest
unfolding r.one_parameter mark
one_parameter_is from rest x h =
    let t = bind_some (r.parameter_type from) _ _ h in
    let n = bind_some (expect_row row.Ident (after row.Mark (codes "&") t.0.1)) _ _ t.2 in
    finish {A = WithHeight LambdaParameter} (λ z vs. OneLambdaParameter z.0 from vs)
    (record { of = t.0.0; by_reference = sees row.Mark (codes "&") t.0.1; name = n.0.0 }, 0) x n.0.1 rest n.2
    (t.0.1, after row.Mark (codes "&") t.0.1, parameter_type_is from t.0.1 t.0.0 t.1, eaten row.Mark (codes "&") t.0.1, expect_row_is _ _ _ _ n.1)

pub maybe_parameters_are : (from rest : List Token) (x : Option (List LambdaParameter)) → r.maybe_parameters from ≡ Some (x, rest) → Optional LambdaParameters x from rest
unfolding r.maybe_parameters mark
maybe_parameters_are from rest x h =
    maybe_that row.Mark (codes "(") from
    (λ b us. (if b then (maybe_comma_list r.one_parameter (codes ")") >>= (λ ps. expect row.Mark (codes ")") >> pure (Some ps.0))) else pure None) us ≡ Some (x, rest) → Optional LambdaParameters x from rest)
    (λ us o h. let ps = bind_some (maybe_comma_list r.one_parameter (codes ")") us) _ _ h in
    let c = bind_some (expect row.Mark (codes ")") ps.0.1) _ _ ps.2 in
    finish (λ z vs. Optional LambdaParameters z from vs) (Some ps.0.0.0) x c.0.1 rest c.2
    (us, ps.0.1, o, maybe_comma_list_stand r.one_parameter ParameterAt (λ m n le x us ts d. d) one_parameter_is (codes ")") us ps.0.1 ps.0.0 ps.1, expects _ _ _ _ _ c.1))
    (λ h. finish (λ z vs. Optional LambdaParameters z from vs) None x from rest h refl) h

-- ---- template arguments of members

kernel_name_is : (from rest : List Token) (x : TemplateArgument) → r.kernel_name from ≡ Some (x, rest) → OneTemplateArgument x from rest
unfolding r.kernel_name keyword
kernel_name_is from rest x h =
    let n = bind_some (expect_row row.Ident (after row.Reserved (codes "class") from)) _ _ h in
    finish (λ z vs. OneTemplateArgument z from vs) (template.Kernel (sees row.Reserved (codes "class") from) n.0.0) x n.0.1 rest n.2
    (after row.Reserved (codes "class") from, eaten row.Reserved (codes "class") from, expect_row_is _ _ _ _ n.1)

information_is : (from rest : List Token) (x : TemplateArgument) → r.information from ≡ Some (x, rest) → OneTemplateArgument x from rest
unfolding r.information mark identifier
information_is from rest x h =
    let q = bind_some (within (codes "sycl") (codes "info") from) _ _ h in
    let c = bind_some (expect row.Mark (codes "::") q.0.1) _ _ q.2 in
    let n = bind_some (expect_row row.Ident c.0.1) _ _ c.2 in
    let d = bind_some (expect row.Mark (codes "::") n.0.1) _ _ n.2 in
    let k = bind_some (expect_row row.Ident d.0.1) _ _ d.2 in
    finish (λ z vs. OneTemplateArgument z from vs) (template.Information q.0.0 n.0.0 k.0.0) x k.0.1 rest k.2
    (q.0.1, c.0.1, n.0.1, d.0.1, within_is _ _ _ _ _ q.1, expects _ _ _ _ _ c.1, expect_row_is _ _ _ _ n.1, expects _ _ _ _ _ d.1, expect_row_is _ _ _ _ k.1)

one_template_argument_is : (from rest : List Token) (x : TemplateArgument) →
    cond (sees_namespace (codes "sycl") from) (r.information from) (r.kernel_name from) ≡ Some (x, rest) → OneTemplateArgument x from rest
one_template_argument_is from rest x h =
    ⊎_elim (λ p. information_is from rest x p.1) (λ p. kernel_name_is from rest x p.1)
    (choice (sees_namespace (codes "sycl") from) (r.information from) (r.kernel_name from) (x, rest) h)

pub maybe_template_argument_is : (member : Lexeme) (from rest : List Token) (x : Option TemplateArgument) → r.maybe_template_argument member.text from ≡ Some (x, rest) →
    Optional (TemplateArguments member) x from rest
unfolding r.maybe_template_argument r.template_argument mark
maybe_template_argument_is member from rest x h =
    ⊎_elim
    (λ p. let a = bind_some (r.template_argument from) _ _ p.1 in
    let o = bind_some (expect row.Mark (codes "<") from) _ _ a.1 in
    let t = bind_some (cond (sees_namespace (codes "sycl") o.0.1) (r.information o.0.1) (r.kernel_name o.0.1)) _ _ o.2 in
    let c = bind_some (expect row.Mark (codes ">") t.0.1) _ _ t.2 in
    let takes : IsTrue (takes_template_argument member.text) = is_true (takes_template_argument member.text) (and_both (takes_template_argument member.text) _ p.0).0 in
    let found = finish (λ z vs. TemplateArguments member z from vs) t.0.0 a.0.0 c.0.1 a.0.1 c.2
    (takes, (o.0.1, t.0.1, expects _ _ _ _ _ o.1, one_template_argument_is o.0.1 t.0.1 t.0.0 t.1, expects _ _ _ _ _ c.1)) in
    finish (λ z vs. Optional (TemplateArguments member) z from vs) (Some a.0.0) x a.0.1 rest a.2 found)
    (λ p. finish (λ z vs. Optional (TemplateArguments member) z from vs) None x from rest p.1 refl)
    (choice (takes_template_argument member.text && sees row.Mark (codes "<") from) _ _ (x, rest) h)
