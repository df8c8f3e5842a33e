-- What stands in the grammar is read: tokens, names, and lists.
use Rattle.std.proofs.Common.{◌≡◌, ℕ, zero, suc, ◌+◌, ◌≤◌, ◌<◌, max, nat_lt, Bool, true, false, List, [], ◌∷◌, ◌++◌, length, Option, Some, refl, ap, ◌∙◌, arith, append_assoc, lt-ltb, length-drop, codes}
use Rattle.std.proofs.lemmas.Slice.Eq.{bytes_eq-Decides}
use Rattle.std.specs.Str.{bytes_eq}
use Rattle.sy_lex.specs.declared.Row.{Row}
use Rattle.sy_lex.specs.declared.Row.TheVariants as row
use Rattle.sy_lex.specs.declared.Token.{Token}
use Rattle.sy_lex.specs.declared.Word.{Word}
use Rattle.sy_note.specs.declared.Spot.{Spot}
use Rattle.sy_tree.specs.declared.parts.Lexeme.{Lexeme}
use Rattle.sy_tree.specs.declared.parts.Qualified.{Qualified}
use Rattle.sy_tree.specs.Grammar.{Passes}
use Rattle.sy_tree.specs.Lists.{Rule, Maybe, Listed, MaybeListed}
use Rattle.sy_tree.specs.Qualification.{same_row}
use Rattle.sy_tree.specs.Words.{At, Sees, Lexed, mark}
use Rattle.sy_reading.specs.Input.{Reader, WithHeight, next, is_word, sees, sees_row, expect, expect_row, after, check_height, comma_list_from, comma_list, maybe_comma_list, expect_name, within}
use Rattle.sy_reading.proofs.StepLemmas.{word}

-- ---- words

pub same_row_self : (r : Row) → same_row r r ≡ true
same_row_self row.Ident = refl
same_row_self row.Reserved = refl
same_row_self row.Int = refl
same_row_self row.Char = refl
same_row_self row.Str = refl
same_row_self row.Include = refl
same_row_self row.Mark = refl

pub same_text : (text : List ℕ) → bytes_eq text text ≡ true
same_text text = (bytes_eq-Decides text text).1 refl

pub sees_at : (r : Row) (text : List ℕ) {s : Spot} {from rest : List Token} → At (word r text) s from rest → sees r text from ≡ true
unfolding sees
sees_at r text h = rw (h.2, same_row_self r, same_text text) refl

pub next_at : {w : Word} {s : Spot} {from rest : List Token} → At w s from rest → next from ≡ rest
next_at h = ap next h.2

pub expect_at : (r : Row) (text : List ℕ) {s : Spot} {from rest : List Token} → At (word r text) s from rest → expect r text from ≡ Some (s, rest)
unfolding expect
expect_at r text h = rw (h.2, same_row_self r, same_text text) refl

-- another word stands there
pub sees_other : (r : Row) (text : List ℕ) {w : Word} {s : Spot} {from rest : List Token} → At w s from rest → is_word r text w ≡ false → sees r text from ≡ false
unfolding sees
sees_other r text h e = rw (h.2, e) refl

pub row_at : (r : Row) (b : Bool) {w : Word} {s : Spot} {from rest : List Token} → At w s from rest → same_row w.row r ≡ b → sees_row r from ≡ b
unfolding sees_row
row_at r b h e = rw (h.2, e) refl

pub no_row : (r : Row) (text : List ℕ) (ts : List Token) → sees_row r ts ≡ false → sees r text ts ≡ false
unfolding sees sees_row
no_row r text [] e = refl
no_row r text (t ∷ ts) e = rw e refl

pub expect_row_at : (r : Row) (x : Lexeme) {from rest : List Token} → Lexed r x from rest → expect_row r from ≡ Some (x, rest)
unfolding expect_row
expect_row_at r x h = rw (h.2, same_row_self r) refl

pub after_none : (r : Row) (text : List ℕ) (ts : List Token) → sees r text ts ≡ false → after r text ts ≡ ts
unfolding after
after_none r text ts e = rw e refl

pub after_at : (r : Row) (text : List ℕ) {s : Spot} {from rest : List Token} → At (word r text) s from rest → after r text from ≡ rest
unfolding after
after_at r text h = rw (sees_at r text h) (next_at h)

-- a word that may be there, where it isn't what follows
pub maybe_sees : (r : Row) (text : List ℕ) (b : Bool) (from rest : List Token) → Maybe (word r text) b from rest → sees r text rest ≡ false → sees r text from ≡ b
maybe_sees r text true from rest h e = sees_at r text h.1
maybe_sees r text false from rest h e = ap (sees r text) h ∙ e

pub maybe_after : (r : Row) (text : List ℕ) (b : Bool) (from rest : List Token) → Maybe (word r text) b from rest → sees r text rest ≡ false → after r text from ≡ rest
maybe_after r text true from rest h e = after_at r text h.1
maybe_after r text false from rest h e = ap (after r text) h ∙ after_none r text rest e

pub grows : {A : Type 0} (x : A) (h : ℕ) (ts : List Token) → h < 64 → check_height x h ts ≡ Some ((x, h + 1), ts)
grows x h ts lt = let t : nat_lt h 64 ≡ true = lt-ltb h 64 lt in rw t refl

-- ---- names of a namespace

pub expect_name_at : (space text : List ℕ) (q : Qualified) (from m k rest : List Token) → At (word row.Ident space) q.namespace from m → Sees (word row.Mark (codes "::")) m k →
    At (word row.Ident text) q.name k rest → expect_name space from ≡ Some ((q.namespace, record { spot = q.name; text = text }), rest)
unfolding expect_name
expect_name_at space text q from m k rest a b c =
    rw (expect_at row.Ident space a, expect_at row.Mark (codes "::") b.1, expect_row_at row.Ident (record { spot = q.name; text = text }) c) refl

pub within_at : (space text : List ℕ) (q : Qualified) (from m k rest : List Token) → At (word row.Ident space) q.namespace from m → Sees (word row.Mark (codes "::")) m k →
    At (word row.Ident text) q.name k rest → within space text from ≡ Some (q, rest)
unfolding within
within_at space text q from m k rest a b c =
    rw (expect_at row.Ident space a, expect_at row.Mark (codes "::") b.1, expect_at row.Ident text c) refl

-- ---- lengths

pub at_length : {w : Word} {s : Spot} {from rest : List Token} → At w s from rest → length from ≡ suc (length rest)
at_length h = ap length h.2

pub passed : {n : ℕ} {from rest : List Token} → Passes n from rest → length rest ≤ length from
passed {n} {from} p = omega (arith, ap length p.is, length-drop p.taken from)

-- ---- lists

-- it was read, with a height of at most m
abbrev pub ReadsAs : {A : Type 0} → Option (WithHeight A × List Token) → ℕ → A → List Token → Type 0
ReadsAs {A} answer m x rest = (h : ℕ) × (h ≤ m) × (answer ≡ Some ((x, h), rest))

module _ {A : Type 0} (P : Rule A) (short : (x : A) (from rest : List Token) → P x from rest → length rest ≤ length from) where
  pub list_short : (xs : List A) (from rest : List Token) → Listed P xs from rest → length rest ≤ length from
  list_short [] from rest d = absurd d
  list_short (x ∷ []) from rest d = short x from rest d
  list_short (x ∷ y ∷ more) from rest d = omega (arith, short x from d.0 d.2, at_length d.3.1, list_short (y ∷ more) d.1 rest d.4)

module _ {A : Type 0} (item : Reader (WithHeight A)) (P : Rule A) (m : ℕ) (Ends : List Token → Type 0)
    (short : (x : A) (from rest : List Token) → P x from rest → length rest ≤ length from)
    (reads : (x : A) (from rest : List Token) → P x from rest → Ends rest → ReadsAs (item from) m x rest)
    (comma : (us ts : List Token) → Sees (mark ",") us ts → Ends us) where
  -- a list, after the items xs of a height of at most h
  list_reads : (t h : ℕ) (xs ys : List A) (from rest : List Token) → h ≤ m → length from ≤ t → 0 < length rest → Listed P ys from rest → Ends rest → sees row.Mark (codes ",") rest ≡ false →
      ReadsAs (comma_list_from item t xs h from) m (xs ++ ys) rest
  unfolding comma_list_from mark
  list_reads t h xs [] from rest lh lt some d e c = absurd d
  list_reads zero h xs (x ∷ ys) from rest lh lt some d e c = absurd (omega (arith, list_short P short (x ∷ ys) from rest d))
  list_reads (suc t) h xs (x ∷ []) from rest lh lt some d e c =
      let first = reads x from rest d e in
      (max h first.0, omega (arith, first.1), rw (first.2, c, after_none row.Mark (codes ",") rest c) refl)
  list_reads (suc t) h xs (x ∷ y ∷ more) from rest lh lt some d e c =
      let first = reads x from d.0 d.2 (comma d.0 d.1 d.3) in
      let shorter : length d.1 ≤ t = omega (arith, short x from d.0 d.2, at_length d.3.1) in
      let others = list_reads t (max h first.0) (xs ++ x ∷ []) (y ∷ more) d.1 rest (omega (arith, first.1)) shorter some d.4 e c in
      (others.0, others.1, rw (first.2, sees_at row.Mark (codes ",") d.3.1, after_at row.Mark (codes ",") d.3.1, others.2, append_assoc) refl)

  pub comma_list_read : (xs : List A) (from rest : List Token) → 0 < length rest → Listed P xs from rest → Ends rest → sees row.Mark (codes ",") rest ≡ false →
      ReadsAs (comma_list item from) m xs rest
  comma_list_read xs from rest some d e c = list_reads (length from) 0 [] xs from rest (omega arith) (omega arith) some d e c

  -- up to the mark that closes
  pub maybe_comma_list_read : (close : List ℕ) (xs : List A) (from rest : List Token) → ((x : A) (us ts : List Token) → P x us ts → sees row.Mark close us ≡ false) →
      0 < length rest → MaybeListed P xs from rest → Ends rest → sees row.Mark (codes ",") rest ≡ false → sees row.Mark close rest ≡ true →
      ReadsAs (maybe_comma_list item close from) m xs rest
  unfolding maybe_comma_list
  maybe_comma_list_read close [] from rest begins some d e c is = (0, omega arith, rw (d, is) refl)
  maybe_comma_list_read close (x ∷ more) from rest begins some d e c is =
      let all = comma_list_read (x ∷ more) from rest some d e c in
      (all.0, all.1, rw (opens (x ∷ more) d) all.2)
    where
      opens : (ys : List A) → Listed P ys from rest → sees row.Mark close from ≡ false
      opens [] h = absurd h
      opens (y ∷ []) h = begins y from rest h
      opens (y ∷ z ∷ zs) h = begins y from h.0 h.2
