-- What a step that answered has found.
use Rattle.std.proofs.Common.{◌≡◌, ℕ, zero, suc, ◌+◌, ◌≤◌, ◌<◌, max, nat_lt, if◌then◌else◌, Bool, true, false, cond, ◌&&◌, List, [], ◌∷◌, ◌++◌, length, ◌⊎◌, inl, inr, Option, Some, None, refl, sym, ap, ◌∙◌, subst, arith, append_assoc, IsTrue, codes}
use Rattle.std.proofs.lemmas.Bool.{ltb-true}
use Rattle.std.proofs.lemmas.Slice.Eq.{bytes_eq-Decides}
use Rattle.std.specs.Str.{bytes_eq}
use Rattle.sy_lex.specs.declared.Row.{Row}
use Rattle.sy_lex.specs.declared.Row.TheVariants as row
use Rattle.sy_lex.specs.declared.Token.{Token}
use Rattle.sy_lex.specs.declared.Word.{Word}
use Rattle.sy_note.specs.declared.Spot.{Spot}
use Rattle.sy_tree.specs.declared.parts.Lexeme.{Lexeme}
use Rattle.sy_tree.specs.declared.parts.Qualified.{Qualified}
use Rattle.sy_tree.specs.Lists.{Rule, Maybe, Listed, MaybeListed}
use Rattle.sy_tree.specs.Qualification.{same_row}
use Rattle.sy_tree.specs.Words.{At, Sees, Lexed, mark}
use Rattle.sy_reading.specs.Input.{Reader, WithHeight, pure, next, and_then, is_word, sees, expect, expect_row, after, check_height, comma_list_from, comma_list, maybe_comma_list, expect_name, within}

-- ---- readers in general

pub bind_some : {A B : Type 0} (o : Option (A × List Token)) (f : A → Reader B) (y : B × List Token) → and_then o f ≡ Some y →
    (p : A × List Token) × (o ≡ Some p) × (f p.0 p.1 ≡ Some y)
bind_some (Some p) f y h = (p, refl, h)
bind_some None f y h = absurd cc

pub one : {Y : Type 0} (p q : Y) → Some p ≡ Some q → p ≡ q
one p q h = cc

-- what an answer that is given has, the value read has
pub finish : {A : Type 0} (P : A → List Token → Type 0) (a b : A) (ts rest : List Token) → ◌≡◌ {A = Option (A × List Token)} (Some (a, ts)) (Some (b, rest)) → P a ts → P b rest
finish P a b ts rest h d = subst (λ q. P q.0 q.1) (one (a, ts) (b, rest) h) d

pub guard_some : {Y : Type 0} (b : Bool) (x y : Y) → cond b (Some x) None ≡ Some y → (b ≡ true) × (x ≡ y)
guard_some true x y h = (refl, cc)
guard_some false x y h = absurd cc

-- which of two readers answered
pub choice : {Y : Type 0} (b : Bool) (o p : Option Y) (y : Y) → cond b o p ≡ Some y → ((b ≡ true) × (o ≡ Some y)) ⊎ ((b ≡ false) × (p ≡ Some y))
choice true o p y h = inl (refl, h)
choice false o p y h = inr (refl, h)

pub which : {A : Type 0} (b : Bool) (p q : Reader A) (ts : List Token) (y : A × List Token) → cond b p q ts ≡ Some y →
    ((b ≡ true) × (p ts ≡ Some y)) ⊎ ((b ≡ false) × (q ts ≡ Some y))
which true p q ts y h = inl (refl, h)
which false p q ts y h = inr (refl, h)

pub and_both : (a b : Bool) → (a && b) ≡ true → (a ≡ true) × (b ≡ true)
and_both true b h = (refl, h)
and_both false b h = absurd cc

pub is_true : (b : Bool) → b ≡ true → IsTrue b
is_true true h = refl
is_true false h = absurd cc

pub grew : {A : Type 0} (x : A) (h : ℕ) (ts : List Token) (y : WithHeight A) (rest : List Token) → check_height x h ts ≡ Some (y, rest) → (h < 64) × (y ≡ (x, h + 1)) × (rest ≡ ts)
grew x h ts y rest e =
    let k = guard_some (nat_lt h 64) ((x, h + 1), ts) (y, rest) e in (ltb-true h 64 k.0, sym (ap (λ p. p.0) k.1), sym (ap (λ p. p.1) k.1))

-- ---- tokens

abbrev pub word : Row → List ℕ → Word
word r text = record { row = r; text = text }

pub same_row_is : (a b : Row) → same_row a b ≡ true → a ≡ b
same_row_is row.Ident row.Ident h = refl
same_row_is row.Reserved row.Reserved h = refl
same_row_is row.Int row.Int h = refl
same_row_is row.Char row.Char h = refl
same_row_is row.Str row.Str h = refl
same_row_is row.Include row.Include h = refl
same_row_is row.Mark row.Mark h = refl
same_row_is _ _ h = absurd cc

pub is_that : (r : Row) (text : List ℕ) (w : Word) → is_word r text w ≡ true → w ≡ word r text
is_that r text w h =
    let k = and_both (same_row w.row r) (bytes_eq w.text text) h in
    ap (λ a. word a w.text) (same_row_is w.row r k.0) ∙ ap (λ t. word r t) ((bytes_eq-Decides w.text text).0 k.1)

-- a token is that word, at that place
pub placed : (w : Word) (s : Spot) (t : Token) (ts rest : List Token) → t.word ≡ w → t.spot ≡ s → ts ≡ rest → At w s (t ∷ ts) rest
placed w s t ts rest a b c = (
  t.from,
  t.to,
  ap (λ v. record { word = v; from = t.from; to = t.to; spot = t.spot } ∷ ts) a
      ∙ ap (λ p. record { word = w; from = t.from; to = t.to; spot = p } ∷ ts) b
      ∙ ap (λ us. record { word = w; from = t.from; to = t.to; spot = s } ∷ us) c,
)

pub expected : (r : Row) (text : List ℕ) (from rest : List Token) (s : Spot) → expect r text from ≡ Some (s, rest) → At (word r text) s from rest
unfolding expect
expected r text [] rest s h = absurd cc
expected r text (t ∷ ts) rest s h =
    let k = guard_some (is_word r text t.word) (t.spot, ts) (s, rest) h in
    placed (word r text) s t ts rest (is_that r text t.word k.0) (ap (λ p. p.0) k.1) (ap (λ p. p.1) k.1)

-- the same at any place
pub expects : (r : Row) (text : List ℕ) (from rest : List Token) (s : Spot) → expect r text from ≡ Some (s, rest) → Sees (word r text) from rest
expects r text from rest s h = (s, expected r text from rest s h)

pub expect_row_is : (r : Row) (from rest : List Token) (x : Lexeme) → expect_row r from ≡ Some (x, rest) → Lexed r x from rest
unfolding expect_row
expect_row_is r [] rest x h = absurd cc
expect_row_is r (t ∷ ts) rest x h =
    let k = guard_some (same_row t.word.row r) (record { spot = t.spot; text = t.word.text }, ts) (x, rest) h in
    let text : t.word.text ≡ x.text = ap (λ p. p.0.text) k.1 in
    placed (word r x.text) x.spot t ts rest (ap (λ a. word a t.word.text) (same_row_is t.word.row r k.0) ∙ ap (λ b. word r b) text) (ap (λ p. p.0.spot) k.1) (ap (λ p. p.1) k.1)

pub seen : (r : Row) (text : List ℕ) (from : List Token) → sees r text from ≡ true → Sees (word r text) from (next from)
unfolding sees
seen r text [] h = absurd cc
seen r text (t ∷ ts) h = (t.spot, placed (word r text) t.spot t ts ts (is_that r text t.word h) refl refl)

pub eaten : (r : Row) (text : List ℕ) (from : List Token) → Maybe (word r text) (sees r text from) from (after r text from)
unfolding after
eaten r text from = by (sees r text from) refl
  where
    by : (b : Bool) → sees r text from ≡ b → Maybe (word r text) b from (cond b (next from) from)
    by true h = seen r text from h
    by false h = refl

-- a word that may be there
pub maybe_that : (r : Row) (text : List ℕ) (m : List Token) (P : Bool → List Token → Type 0) → ((us : List Token) → Sees (word r text) m us → P true us) → P false m →
    P (sees r text m) (after r text m)
maybe_that r text m P f g = of (sees r text m) (after r text m) (eaten r text m)
  where
    of : (b : Bool) (us : List Token) → Maybe (word r text) b m us → P b us
    of true us h = f us h
    of false us h = subst (P false) h g

-- ---- names of a namespace

pub expect_name_is : (space : List ℕ) (from rest : List Token) (p : Spot × Lexeme) → expect_name space from ≡ Some (p, rest) →
    (m k : List Token) × At (word row.Ident space) p.0 from m × Sees (word row.Mark (codes "::")) m k × Lexed row.Ident p.1 k rest
unfolding expect_name
expect_name_is space from rest p h =
    let s = bind_some (expect row.Ident space from) _ _ h in
    let c = bind_some (expect row.Mark (codes "::") s.0.1) _ _ s.2 in
    let x = bind_some (expect_row row.Ident c.0.1) _ _ c.2 in
    let same = one {Y = (Spot × Lexeme) × List Token} ((s.0.0, x.0.0), x.0.1) (p, rest) x.2 in
    subst (λ q. (m k : List Token) × At (word row.Ident space) q.0.0 from m × Sees (word row.Mark (codes "::")) m k × Lexed row.Ident q.0.1 k q.1) same
    (s.0.1, c.0.1, expected _ _ _ _ _ s.1, expects _ _ _ _ _ c.1, expect_row_is _ _ _ _ x.1)

pub within_is : (space text : List ℕ) (from rest : List Token) (p : Qualified) → within space text from ≡ Some (p, rest) →
    (m k : List Token) × At (word row.Ident space) p.namespace from m × Sees (word row.Mark (codes "::")) m k × At (word row.Ident text) p.name k rest
unfolding within
within_is space text from rest p h =
    let s = bind_some (expect row.Ident space from) _ _ h in
    let c = bind_some (expect row.Mark (codes "::") s.0.1) _ _ s.2 in
    let x = bind_some (expect row.Ident text c.0.1) _ _ c.2 in
    let same = one {Y = Qualified × List Token} (record { namespace = s.0.0; name = x.0.0 }, x.0.1) (p, rest) x.2 in
    subst (λ q. (m k : List Token) × At (word row.Ident space) q.0.namespace from m × Sees (word row.Mark (codes "::")) m k × At (word row.Ident text) q.0.name k q.1) same
    (s.0.1, c.0.1, expected _ _ _ _ _ s.1, expects _ _ _ _ _ c.1, expected _ _ _ _ _ x.1)

-- ---- lists: what is read for each item stands by a rule that a height bounds

module _ {A : Type 0} (item : Reader (WithHeight A)) (P : ℕ → Rule A)
    (taller : (m n : ℕ) → m ≤ n → (x : A) (from rest : List Token) → P m x from rest → P n x from rest)
    (stands : (from rest : List Token) (x : WithHeight A) → item from ≡ Some (x, rest) → P x.1 x.0 from rest) where
  -- a list goes on behind the items before it
  abbrev ListStands : List A → ℕ → List Token → WithHeight (List A) → List Token → Type 0
  ListStands xs h from all rest = (x : A) × (more : List A) × (h ≤ all.1) × (all.0 ≡ xs ++ (x ∷ more)) × Listed (P all.1) (x ∷ more) from rest

  list_step : (n : ℕ) (xs : List A) (h : ℕ) (from rest : List Token) (all : WithHeight (List A)) (x : WithHeight A) (mid : List Token) → item from ≡ Some (x, mid) →
      ((ys : List A) (g : ℕ) (ts : List Token) → comma_list_from item n ys g ts ≡ Some (all, rest) → ListStands ys g ts all rest) →
      (b : Bool) → sees row.Mark (codes ",") mid ≡ b →
      (if b then comma_list_from item n (xs ++ x.0 ∷ []) (max h x.1) else pure (xs ++ x.0 ∷ [], max h x.1)) (if b then next mid else mid) ≡ Some (all, rest) →
      ListStands xs h from all rest
  unfolding mark
  list_step n xs h from rest all x mid d on true is e =
      let others = on (xs ++ x.0 ∷ []) (max h x.1) (next mid) e in
      let first = taller x.1 all.1 (omega (arith, others.2)) x.0 from mid (stands from mid x d) in (
        x.0,
        others.0 ∷ others.1,
        omega (arith, others.2),
        others.3 ∙ append_assoc xs (x.0 ∷ []) (others.0 ∷ others.1),
        (mid, next mid, first, seen row.Mark (codes ",") mid is, others.4),
      )
  list_step n xs h from rest all x mid d on false is e =
      let same = one {Y = WithHeight (List A) × List Token} ((xs ++ x.0 ∷ [], max h x.1), mid) (all, rest) e in
      subst (λ q. ListStands xs h from q.0 q.1) same
      (x.0, [], omega arith, refl, taller x.1 (max h x.1) (omega arith) x.0 from mid (stands from mid x d))

  list_stands : (n : ℕ) (xs : List A) (h : ℕ) (from rest : List Token) (all : WithHeight (List A)) → comma_list_from item n xs h from ≡ Some (all, rest) → ListStands xs h from all rest
  unfolding comma_list_from after
  list_stands zero xs h from rest all e = absurd cc
  list_stands (suc n) xs h from rest all e =
      let a = bind_some (item from) _ _ e in
      list_step n xs h from rest all a.0.0 a.0.1 a.1 (λ ys g ts. list_stands n ys g ts rest all) (sees row.Mark (codes ",") a.0.1) refl a.2

  pub comma_list_stand : (from rest : List Token) (all : WithHeight (List A)) → comma_list item from ≡ Some (all, rest) → Listed (P all.1) all.0 from rest
  comma_list_stand from rest all e =
      let l = list_stands (length from) [] 0 from rest all e in
      subst (λ ys. Listed (P all.1) ys from rest) (sym l.3) l.4

  pub maybe_comma_list_stand : (close : List ℕ) (from rest : List Token) (all : WithHeight (List A)) → maybe_comma_list item close from ≡ Some (all, rest) →
      MaybeListed (P all.1) all.0 from rest
  unfolding maybe_comma_list
  maybe_comma_list_stand close from rest all e = by (choice (sees row.Mark close from) (Some (([], 0), from)) (comma_list item from) (all, rest) e)
    where
      by : ((sees row.Mark close from ≡ true) × (◌≡◌ {A = Option (WithHeight (List A) × List Token)} (Some (([], 0), from)) (Some (all, rest)))) ⊎ ((sees row.Mark close from ≡ false) × (comma_list item from ≡ Some (all, rest))) →
          MaybeListed (P all.1) all.0 from rest
      by (inl h) = let same = one {Y = WithHeight (List A) × List Token} (([], 0), from) (all, rest) h.1 in subst (λ q. MaybeListed (P q.0.1) q.0.0 from q.1) same refl
      by (inr h) = let l = list_stands (length from) [] 0 from rest all h.1 in subst (λ ys. MaybeListed (P all.1) ys from rest) (sym l.3) l.4
