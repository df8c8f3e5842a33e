-- Whole readings: there is one at most, and the scan makes it step by step.
use Rattle.std.proofs.Common.{◌≡◌, ℕ, ◌+◌, ◌≤◌, Bool, true, false, not, ◌==◌, cond, List, [], ◌∷◌, ◌++◌, length, take, drop, ⊎_elim, refl, sym, ap, ◌∙◌, subst, arith, length-append, append_assoc, append-nil, take-append-drop, length-take-le}
use Rattle.std.specs.List.{count_by, prefix_len, suffix_len}
use Rattle.std.proofs.lemmas.List.{reverse-append}
use Rattle.std.proofs.lemmas.List.Sums.{sum_by_push}
use Rattle.sy_note.specs.declared.Spot.{Spot}
use Rattle.sy_lex.specs.declared.Row.{Row}
use Rattle.sy_lex.specs.declared.Row.TheVariants as row
use Rattle.sy_lex.specs.Rows.{Fits}
use Rattle.sy_lex.specs.declared.Token.{Token}
use Rattle.sy_lex.specs.declared.scan.Front.{Front}
use Rattle.sy_lex.specs.declared.scan.Front.TheVariants.{Skip, Found, Stuck}
use Rattle.sy_lex.specs.Tokens.{in_line, spot_of, IsSkipped, IsLongest, token_of, Reads, done, skipped, token, HasTokens, NoStep, IsStuck}
use Rattle.sy_lex.specs.Front.{step, after, front_of}
use Rattle.sy_lex.proofs.Says.{Says}
use Rattle.sy_lex.proofs.Texts.{front_cases, same_front}
use Rattle.sy_lex.proofs.FirstBytes.{kind_of, empty_fits, only_name, only_row, row_kind}
use Rattle.sy_lex.proofs.Comments.{skips, skip_token}
use Rattle.sy_lex.proofs.Fronts.{front_says, nothing_left}

-- ---- places

spot_step : (v : Bool) (n m : ℕ) → ◌≡◌ {A = Spot} (cond v (record { line = 1 + n + 1; column = 1 }) (record { line = 1 + n; column = 1 + m + 1 })) (record { line = 1 + (n + cond v 1 0); column = 1 + cond (not v) (1 + m) 0 })
spot_step true n m = let e : 1 + n + 1 ≡ 1 + (n + 1) = omega arith in λ i. record { line = e i; column = 1 }
spot_step false n m =
    let e : 1 + n ≡ 1 + (n + 0) = omega arith in
    let f : 1 + m + 1 ≡ 1 + (1 + m) = omega arith in
    λ i. record { line = e i; column = f i }

after_one : (before : List ℕ) (b : ℕ) → step (spot_of before) b ≡ spot_of (before ++ b ∷ [])
after_one before b =
    let lines = sum_by_push (λ c. cond (c == 10) 1 0) before b in
    let column = ap (prefix_len in_line) (reverse-append before (b ∷ [])) in
    spot_step (b == 10) (count_by (λ c. c == 10) before) (suffix_len in_line before) ∙ (λ i. record { line = 1 + sym lines i; column = 1 + sym column i })

pub after_is : (front before : List ℕ) → after (spot_of before) front ≡ spot_of (before ++ front)
after_is [] before = ap spot_of (sym (append-nil before))
after_is (b ∷ front) before = ap (λ s. after s front) (after_one before b) ∙ after_is front (before ++ b ∷ []) ∙ ap spot_of (append_assoc before (b ∷ []) front)

-- ---- two longest tokens of one text are one

named_row : (r s : Row) (b : ℕ) (f : List ℕ) → kind_of b ≡ 0 → Fits r (b ∷ f) → Fits s (b ∷ f) → r ≡ s
named_row r s b f k p q = (only_name r b f k p).1 ∙ sym (only_name s b f k q).1

same_row : (r s : Row) (b : ℕ) (f : List ℕ) → Fits r (b ∷ f) → Fits s (b ∷ f) → r ≡ s
same_row r row.Ident b f p q = named_row r row.Ident b f (row_kind row.Ident b f q) p q
same_row r row.Reserved b f p q = named_row r row.Reserved b f (row_kind row.Reserved b f q) p q
same_row r row.Int b f p q = only_row row.Int r b f (row_kind row.Int b f q) (λ e. omega arith) p
same_row r row.Char b f p q = only_row row.Char r b f (row_kind row.Char b f q) (λ e. omega arith) p
same_row r row.Str b f p q = only_row row.Str r b f (row_kind row.Str b f q) (λ e. omega arith) p
same_row r row.Include b f p q = only_row row.Include r b f (row_kind row.Include b f q) (λ e. omega arith) p
same_row r row.Mark b f p q = only_row row.Mark r b f (row_kind row.Mark b f q) (λ e. omega arith) p

one_row : (r s : Row) (f : List ℕ) → Fits r f → Fits s f → r ≡ s
one_row r s [] p q = absurd (empty_fits r p)
one_row r s (b ∷ f) p q = same_row r s b f p q

one_token : (r s : Row) (a b x y : List ℕ) → a ++ x ≡ b ++ y → IsLongest r a x → IsLongest s b y → (r ≡ s) × (a ≡ b) × (x ≡ y)
one_token r s a b x y h p q =
    ⊎_elim (λ lt. absurd (p.longest b y s (sym h) lt q.token))
    (⊎_elim (λ lt. absurd (q.longest a x r h lt p.token)) (λ e. (one_row r s a p.token.fits (subst (Fits s) (sym e.0) q.token.fits), e.0, e.1)))
    (front_cases a b x y h)

-- ---- one reading at most

pub one_reading : {before bytes passed left others other : List ℕ} {ts us : List Token} → Reads before bytes ts passed left → NoStep left → Reads before bytes us others other → NoStep other → (ts ≡ us) × (left ≡ other)
one_reading done n done m = (refl, refl)
one_reading done n (skipped g y d q more) m = absurd ((n g y d).0 q)
one_reading done n (token r g y d q more) m = absurd ((n g y d).1 r q)
one_reading (skipped f x e p on) n done m = absurd ((m f x e).0 p)
one_reading (skipped f x e p on) n (token r g y d q more) m = absurd (skip_token f g x y r (sym e ∙ d) p q.token)
one_reading (token r f x e p on) n done m = absurd ((m f x e).1 r p)
one_reading (token r f x e p on) n (skipped g y d q more) m = absurd (skip_token g f y x r (sym d ∙ e) q p.token)
one_reading {before} {bytes} {passed} {left} {others} {other} {ts} {us} (skipped f x e p on) n (skipped g y d q more) m =
    let same = same_front f g x y (sym e ∙ d) (skips f g x y (sym e ∙ d) p q) in
    one_reading on n (subst (λ k. Reads (before ++ k) x us others other) (sym same.0) (subst (λ k. Reads (before ++ g) k us others other) (sym same.1) more)) m
one_reading {before} {bytes} {passed} {left} {others} {other} (token r f x e p on) n (token {ts = more_tokens} q g y d k more) m =
    let same = one_token r q f g x y (sym e ∙ d) p k in
    let rest = one_reading on n (subst (λ k. Reads (before ++ k) x more_tokens others other) (sym same.1) (subst (λ k. Reads (before ++ g) k more_tokens others other) (sym same.2) more)) m in
    ((λ i. token_of before (same.0 i) (same.1 i) ∷ rest.0 i), rest.1)

-- ---- a reading, made step by step

reads_skip : {before bytes passed left : List ℕ} {ts : List Token} → Reads before bytes ts passed left → (front rest : List ℕ) → left ≡ front ++ rest → IsSkipped front rest → Reads before bytes ts (passed ++ front) rest
reads_skip done front rest e p = skipped front rest e p done
reads_skip (skipped f x d q on) front rest e p = skipped f x d q (reads_skip on front rest e p)
reads_skip (token r f x d q on) front rest e p = token r f x d q (reads_skip on front rest e p)

reads_token : {before bytes passed left : List ℕ} {ts : List Token} → Reads before bytes ts passed left → (r : Row) (front rest : List ℕ) → left ≡ front ++ rest → IsLongest r front rest →
    Reads before bytes (ts ++ token_of passed r front ∷ []) (passed ++ front) rest
reads_token done r front rest e p = token r front rest e p done
reads_token (skipped f x d q on) r front rest e p = skipped f x d q (reads_token on r front rest e p)
reads_token (token k f x d q on) r front rest e p = token k f x d q (reads_token on r front rest e p)

-- the scan has read these tokens, and stands at that count of bytes and that spot
pub record IsAt (bytes : List ℕ) (ts : List Token) (rest : List ℕ) (at : ℕ) (s : Spot) : Type 0 where
  pub passed : List ℕ
  pub reads : Reads [] bytes ts passed rest
  pub place : s ≡ spot_of passed
  pub count : at ≡ length passed

pub at_start : (bytes : List ℕ) → IsAt bytes [] bytes 0 (record { line = 1; column = 1 })
at_start bytes = record { passed = []; reads = done; place = refl; count = refl }

counted : (passed rest : List ℕ) (n at : ℕ) → n ≤ length rest → at ≡ length passed → at + n ≡ length (passed ++ take n rest)
counted passed rest n at le e = omega (arith, length-append passed (take n rest), length-take-le n rest le)

placed : (passed front rest : List ℕ) (n : ℕ) (s t : Spot) → front ≡ take n rest → s ≡ spot_of passed → t ≡ after s front → t ≡ spot_of (passed ++ take n rest)
placed passed front rest n s t f p e = e ∙ (λ i. after (p i) (f i)) ∙ after_is (take n rest) passed

pub skip_kept : (bytes rest : List ℕ) (ts : List Token) (at : ℕ) (s t : Spot) (n : ℕ) (front back : List ℕ) → Says rest (Skip n) → IsAt bytes ts rest at s → front ≡ take n rest → back ≡ drop n rest → t ≡ after s front →
    IsAt bytes ts back (at + n) t
skip_kept bytes rest ts at s t n front back there is f b e = subst (λ k. IsAt bytes ts k (at + n) t) (sym b) (record {
  passed = is.passed ++ take n rest;
  reads = reads_skip is.reads (take n rest) (drop n rest) (sym (take-append-drop n rest)) there.2;
  place = placed is.passed front rest n s t f is.place e;
  count = counted is.passed rest n at there.0 is.count;
})

pub token_kept : (bytes rest : List ℕ) (ts more : List Token) (r : Row) (at : ℕ) (s t : Spot) (n : ℕ) (front back : List ℕ) → Says rest (Found r n) → IsAt bytes ts rest at s → front ≡ take n rest → back ≡ drop n rest →
    t ≡ after s front → more ≡ ts ++ record { word = record { row = r; text = front }; from = at; to = at + length front; spot = s } ∷ [] → IsAt bytes more back (at + n) t
token_kept bytes rest ts more r at s t n front back there is f b e m =
    let kept : more ≡ ts ++ token_of is.passed r (take n rest) ∷ [] = m ∙ (λ i. ts ++ record { word = record { row = r; text = f i }; from = is.count i; to = is.count i + length (f i); spot = is.place i } ∷ []) in
    subst (λ k. IsAt bytes more k (at + n) t) (sym b) (subst (λ k. IsAt bytes k (drop n rest) (at + n) t) (sym kept) (record {
      passed = is.passed ++ take n rest;
      reads = reads_token is.reads r (take n rest) (drop n rest) (sym (take-append-drop n rest)) there.2;
      place = placed is.passed front rest n s t f is.place e;
      count = counted is.passed rest n at there.0 is.count;
    }))

-- ---- the ends of the scan

pub says : (rest : List ℕ) (f : Front) → f ≡ front_of rest → Says rest f
says rest f e = subst (Says rest) (sym e) (front_says rest)

pub ended : (bytes rest : List ℕ) (ts : List Token) (at : ℕ) (s : Spot) → IsAt bytes ts rest at s → length rest ≡ 0 → HasTokens bytes ts
ended bytes [] ts at s is h = (is.passed, is.reads)
ended bytes (b ∷ rest) ts at s is h = absurd (omega arith)

pub only : (bytes : List ℕ) (ts others : List Token) → HasTokens bytes ts → HasTokens bytes others → others ≡ ts
only bytes ts others a b = (one_reading b.1 nothing_left a.1 nothing_left).0

some_left : (rest : List ℕ) → (length rest ≡ 0 → ⊥) → rest ≡ [] → ⊥
some_left [] some e = some refl
some_left (b ∷ rest) some e = cc

pub refused : (bytes rest : List ℕ) (ts : List Token) (at : ℕ) (s : Spot) → IsAt bytes ts rest at s → Stuck ≡ front_of rest → (length rest ≡ 0 → ⊥) → (others : List Token) → HasTokens bytes others → ⊥
refused bytes rest ts at s is e some others b = some_left rest some (sym (one_reading b.1 nothing_left is.reads (says rest Stuck e)).1)

pub stuck : (bytes rest : List ℕ) (ts : List Token) (at : ℕ) (s t : Spot) → IsAt bytes ts rest at s → Stuck ≡ front_of rest → (length rest ≡ 0 → ⊥) → s ≡ t → IsStuck bytes t
stuck bytes rest ts at s t is e some same =
    subst (IsStuck bytes) same (record { passed = is.passed; left = rest; tokens = ts; reads = is.reads; place = is.place; some = some_left rest some; none = says rest Stuck e })
