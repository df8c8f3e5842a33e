-- Comments.
use Rattle.std.proofs.Common.{◌≡◌, ℕ, suc, ◌+◌, Bool, true, false, not, ◌&&◌, ◌||◌, ◌==◌, List, [], ◌∷◌, ◌++◌, length, take, Option, Some, None, inl, inr, ⊎_elim, refl, sym, ap, ◌∙◌, subst, eq-eqb, true-eqb, arith, length-append, append_assoc}
use Rattle.std.specs.List.{prefix_len}
use Rattle.std.proofs.lemmas.List.Sums.{prefix_len-le-length}
use Rattle.sy_lex.specs.declared.Row.{Row}
use Rattle.sy_lex.specs.declared.Row.TheVariants as row
use Rattle.sy_lex.specs.declared.scan.Front.TheVariants.{Skip}
use Rattle.sy_lex.specs.Rows.{is_blank, marks, is_mark, Fits}
use Rattle.sy_lex.specs.Tokens.{in_line, starts, no_pair, IsBlank, IsLineComment, IsBlockComment, IsSkipped, is_spoiled, IsToken, NoStep}
use Rattle.sy_lex.specs.Front.{pair_from, block_at}
use Rattle.sy_lex.proofs.Says.{Says}
use Rattle.sy_lex.proofs.Tables.{both, clash, choice, some_same, none_some, all_any, each_of}
use Rattle.sy_lex.proofs.Texts.{take_front, run_all, run_stops, run_same}
use Rattle.sy_lex.proofs.FirstBytes.{kind_of, empty_fits, only_row}

-- ---- no token stands where a blank or a comment does

pub blank_token : (b : ℕ) (f x : List ℕ) (r : Row) → is_blank b ≡ true → IsToken r (b ∷ f) x → ⊥
blank_token b f x r blank t =
    let k : kind_of b ≡ 5 = true-eqb (kind_of b) 5 (sym (each_of (λ c. kind_of c == 5) b (32 ∷ 9 ∷ 13 ∷ 10 ∷ []) (of_blank (b == 32) (b == 9) (b == 13) (b == 10) blank) refl)) in
    let is = only_row row.Mark r b f k (λ e. omega arith) t.fits in
    let mark : is_mark (b ∷ f) ≡ true = subst (λ q. Fits q (b ∷ f)) is t.fits in
    let no = all_any (λ m. starts (λ c. not (is_blank c)) m) (b ∷ f) marks mark refl in
    clash (sym no ∙ ap not blank)
  where
    of_blank : (p q u v : Bool) → (p || q || u || v) ≡ true → (p || (q || (u || (v || false)))) ≡ true
    of_blank true q u v h = refl
    of_blank false true u v h = refl
    of_blank false false true v h = refl
    of_blank false false false true h = refl
    of_blank false false false false h = h

abbrev is_slash : ℕ → Bool
is_slash b = b == 47 || b == 42

-- a punctuator that begins with a slash has nothing that makes a comment behind it
abbrev no_comment : List ℕ → Bool
no_comment [] = true
no_comment (a ∷ []) = true
no_comment (a ∷ b ∷ f) = not (a == 47 && is_slash b)

pub comment_token : (c : ℕ) (l : List ℕ) (r : Row) (f x : List ℕ) → f ++ x ≡ 47 ∷ c ∷ l → is_slash c ≡ true → IsToken r f x → ⊥
comment_token c l r [] x h s t = empty_fits r t.fits
comment_token c l r (a ∷ []) x h s t =
    let head : a ≡ 47 = cc in
    let tail : x ≡ c ∷ l = cc in
    let is = only_row row.Mark r a [] (ap kind_of head) (λ e. omega arith) t.fits in
    let clean : is_spoiled row.Mark (47 ∷ []) (c ∷ l) ≡ false =
    subst (λ v. is_spoiled row.Mark (v ∷ []) (c ∷ l) ≡ false) head (subst (λ v. is_spoiled row.Mark (a ∷ []) v ≡ false) tail (subst (λ q. is_spoiled q (a ∷ []) x ≡ false) is t.clean)) in
    clash (sym s ∙ clean)
comment_token c l r (a ∷ b ∷ f) x h s t =
    let head : a ≡ 47 = cc in
    let next : b ≡ c = cc in
    let is = only_row row.Mark r a (b ∷ f) (ap kind_of head) (λ e. omega arith) t.fits in
    let mark : is_mark (a ∷ b ∷ f) ≡ true = subst (λ q. Fits q (a ∷ b ∷ f)) is t.fits in
    let rule : not (a == 47 && is_slash b) ≡ true = all_any no_comment (a ∷ b ∷ f) marks mark refl in
    let both_there : (a == 47 && is_slash b) ≡ true = rw (eq-eqb a 47 head) (ap is_slash next ∙ s) in
    clash (sym rule ∙ ap not both_there)

-- ---- a line comment

pub line_says : (bs : List ℕ) → Says (47 ∷ 47 ∷ bs) (Skip (2 + prefix_len in_line bs))
line_says bs = (omega (arith, prefix_len-le-length in_line bs), omega arith, rw (two_plus (prefix_len in_line bs)) (inr (inl (take (prefix_len in_line bs) bs, refl, run_all in_line bs, run_stops in_line bs))))
  where
    two_plus : (n : ℕ) → 2 + n ≡ suc (suc n)
    two_plus n = omega arith

-- ---- a block comment ends at one place

module _ (s c : ℕ) (apart : s ≡ c → ⊥) where
  no_pair_tail : (b : ℕ) (u : List ℕ) → no_pair s c (b ∷ u) ≡ true → no_pair s c u ≡ true
  no_pair_tail b [] h = refl
  no_pair_tail b (d ∷ u) h = (both (not (b == s && d == c)) (no_pair s c (d ∷ u)) h).1

  pair_there : (a b : ℕ) (v : List ℕ) → a ≡ s → b ≡ c → no_pair s c (a ∷ b ∷ v) ≡ true → ⊥
  pair_there a b v p q h =
      let one = eq-eqb a s p in
      let two = eq-eqb b c q in
      let test = (both (not (a == s && b == c)) (no_pair s c (b ∷ v)) h).0 in
      no_test (a == s) (b == c) one two test
    where
      no_test : (x y : Bool) → x ≡ true → y ≡ true → not (x && y) ≡ true → ⊥
      no_test true true p q h = cc
      no_test true false p q h = cc
      no_test false y p q h = cc

  close_early : (v x y : List ℕ) → s ∷ c ∷ x ≡ v ++ (s ∷ c ∷ y) → no_pair s c v ≡ true → x ≡ y
  close_early [] x y h k = cc
  close_early (a ∷ []) x y h k = let same : s ≡ c = cc in absurd (apart same)
  close_early (a ∷ b ∷ v) x y h k = absurd (pair_there a b v (cc) (cc) k)

  close_same : (u v x y : List ℕ) → u ++ (s ∷ c ∷ x) ≡ v ++ (s ∷ c ∷ y) → no_pair s c u ≡ true → no_pair s c v ≡ true → x ≡ y
  close_same [] v x y h a b = close_early v x y h b
  close_same (k ∷ u) [] x y h a b = sym (close_early (k ∷ u) y x (sym h) a)
  close_same (k ∷ u) (j ∷ v) x y h a b = let tail : u ++ (s ∷ c ∷ x) ≡ v ++ (s ∷ c ∷ y) = cc in close_same u v x y tail (no_pair_tail k u a) (no_pair_tail j v b)

star_slash : ◌≡◌ {A = ℕ} 42 47 → ⊥
star_slash h = omega arith

-- ---- two things that are skipped at the front of one text are one

blank_slash : (f g x y : List ℕ) (c : ℕ) (k : List ℕ) → f ++ x ≡ g ++ y → IsBlank f → g ≡ 47 ∷ c ∷ k → ⊥
blank_slash f g x y c k h p e =
    let whole : p.0 ∷ x ≡ 47 ∷ c ∷ (k ++ y) = ap (λ l. l ++ x) (sym p.1) ∙ h ∙ ap (λ l. l ++ y) e in
    let head : p.0 ≡ 47 = cc in
    clash (sym p.2 ∙ ap is_blank head)

line_block : (f g x y : List ℕ) → f ++ x ≡ g ++ y → IsLineComment f x → IsBlockComment g → ⊥
line_block f g x y h p q =
    let whole : 47 ∷ 47 ∷ (p.0 ++ x) ≡ 47 ∷ 42 ∷ ((q.0 ++ 42 ∷ 47 ∷ []) ++ y) = ap (λ l. l ++ x) (sym p.1) ∙ h ∙ ap (λ l. l ++ y) q.1 in
    let same : ◌≡◌ {A = ℕ} 47 42 = cc in
    star_slash (sym same)

blanks : (f g x y : List ℕ) → f ++ x ≡ g ++ y → IsBlank f → IsBlank g → x ≡ y
blanks f g x y h p q = let whole : p.0 ∷ x ≡ q.0 ∷ y = ap (λ l. l ++ x) (sym p.1) ∙ h ∙ ap (λ l. l ++ y) q.1 in cc

lines : (f g x y : List ℕ) → f ++ x ≡ g ++ y → IsLineComment f x → IsLineComment g y → x ≡ y
lines f g x y h p q =
    let whole : 47 ∷ 47 ∷ (p.0 ++ x) ≡ 47 ∷ 47 ∷ (q.0 ++ y) = ap (λ l. l ++ x) (sym p.1) ∙ h ∙ ap (λ l. l ++ y) q.1 in
    let tail : p.0 ++ x ≡ q.0 ++ y = cc in
    run_same in_line p.0 q.0 x y tail p.2 q.2 p.3 q.3

blocks : (f g x y : List ℕ) → f ++ x ≡ g ++ y → IsBlockComment f → IsBlockComment g → x ≡ y
blocks f g x y h p q =
    let whole : 47 ∷ 42 ∷ ((p.0 ++ 42 ∷ 47 ∷ []) ++ x) ≡ 47 ∷ 42 ∷ ((q.0 ++ 42 ∷ 47 ∷ []) ++ y) = ap (λ l. l ++ x) (sym p.1) ∙ h ∙ ap (λ l. l ++ y) q.1 in
    let tail : (p.0 ++ 42 ∷ 47 ∷ []) ++ x ≡ (q.0 ++ 42 ∷ 47 ∷ []) ++ y = cc in
    close_same 42 47 star_slash p.0 q.0 x y (sym (append_assoc p.0 (42 ∷ 47 ∷ []) x) ∙ tail ∙ append_assoc q.0 (42 ∷ 47 ∷ []) y) p.2 q.2

pub skips : (f g x y : List ℕ) → f ++ x ≡ g ++ y → IsSkipped f x → IsSkipped g y → x ≡ y
skips f g x y h p q =
    ⊎_elim
    (λ a. ⊎_elim (λ b. blanks f g x y h a b) (⊎_elim (λ b. absurd (blank_slash f g x y _ _ h a b.1)) (λ b. absurd (blank_slash f g x y _ _ h a b.1))) q)
    (⊎_elim
    (λ a. ⊎_elim (λ b. absurd (blank_slash g f y x _ _ (sym h) b a.1)) (⊎_elim (λ b. lines f g x y h a b) (λ b. absurd (line_block f g x y h a b))) q)
    (λ a. ⊎_elim (λ b. absurd (blank_slash g f y x _ _ (sym h) b a.1)) (⊎_elim (λ b. absurd (line_block g f y x (sym h) b a)) (λ b. blocks f g x y h a b)) q))
    p

-- nothing that is skipped begins as a token
pub skip_token : (f g x y : List ℕ) (r : Row) → f ++ x ≡ g ++ y → IsSkipped f x → IsToken r g y → ⊥
skip_token f g x y r h p t =
    ⊎_elim (λ a. at_blank a g h t)
    (⊎_elim (λ a. comment_token 47 (a.0 ++ x) r g y (sym h ∙ ap (λ l. l ++ x) a.1) refl t) (λ a. comment_token 42 ((a.0 ++ 42 ∷ 47 ∷ []) ++ x) r g y (sym h ∙ ap (λ l. l ++ x) a.1) refl t)) p
  where
    at_blank : IsBlank f → (k : List ℕ) → f ++ x ≡ k ++ y → IsToken r k y → ⊥
    at_blank a [] h t = empty_fits r t.fits
    at_blank a (b ∷ k) h t =
        let whole : a.0 ∷ x ≡ b ∷ (k ++ y) = ap (λ l. l ++ x) (sym a.1) ∙ h in
        let head : b ≡ a.0 = cc in
        blank_token b k y r (ap is_blank head ∙ a.2) t

-- ---- where a block comment closes

module _ (s c : ℕ) where
  abbrev Pair : ℕ → List ℕ → ℕ → Type 0
  Pair k l n = (text rest : List ℕ) × (l ≡ text ++ (s ∷ c ∷ rest)) × (no_pair s c text ≡ true) × (n ≡ k + length text)

  still : (a b : ℕ) (u l rest : List ℕ) → b ∷ l ≡ u ++ (s ∷ c ∷ rest) → no_pair s c u ≡ true → (a == s && b == c) ≡ false → no_pair s c (a ∷ u) ≡ true
  still a b [] l rest h k t = refl
  still a b (d ∷ u) l rest h k t =
      let head : b ≡ d = cc in
      join (a == s && d == c) (no_pair s c (d ∷ u)) (ap (λ v. a == s && v == c) (sym head) ∙ t) k
    where
      join : (x y : Bool) → x ≡ false → y ≡ true → (not x && y) ≡ true
      join true y p q = cc
      join false y p q = q

  pair_sound : (l : List ℕ) (k n : ℕ) → pair_from s c k l ≡ Some n → Pair k l n
  pair_sound [] k n h = absurd (none_some n h)
  pair_sound (a ∷ []) k n h = absurd (none_some n h)
  pair_sound (a ∷ b ∷ l) k n h =
      ⊎_elim
      (λ p.
      let t = both (a == s) (b == c) p.0 in
      let first = true-eqb a s (sym t.0) in
      let second = true-eqb b c (sym t.1) in
      let same : k ≡ n = some_same k n p.1 in
      ([], l, (λ i. first i ∷ second i ∷ l), refl, omega arith))
      (λ p.
      let on = pair_sound (b ∷ l) (k + 1) n p.1 in
      (a ∷ on.0, on.1, ap (λ u. a ∷ u) on.2, still a b on.0 l on.1 on.2 on.3 p.0, omega (arith, on.4)))
      (choice (a == s && b == c) (Some k) (pair_from s c (k + 1) (b ∷ l)) (Some n) h)

  pair_none : (l : List ℕ) (k : ℕ) → pair_from s c k l ≡ None → (text rest : List ℕ) → l ≡ text ++ (s ∷ c ∷ rest) → ⊥
  pair_none [] k h [] rest e = cc
  pair_none [] k h (x ∷ u) rest e = cc
  pair_none (a ∷ []) k h [] rest e = cc
  pair_none (a ∷ []) k h (x ∷ []) rest e = cc
  pair_none (a ∷ []) k h (x ∷ y ∷ u) rest e = cc
  pair_none (a ∷ b ∷ l) k h [] rest e =
      let first : a ≡ s = cc in
      let second : b ≡ c = cc in
      let test : (a == s && b == c) ≡ true = join (a == s) (b == c) (eq-eqb a s first) (eq-eqb b c second) in
      ⊎_elim (λ p. none_some k (sym p.1)) (λ p. clash (sym test ∙ p.0)) (choice (a == s && b == c) (Some k) (pair_from s c (k + 1) (b ∷ l)) None h)
    where
      join : (x y : Bool) → x ≡ true → y ≡ true → (x && y) ≡ true
      join true true p q = refl
      join true false p q = cc
      join false y p q = cc
  pair_none (a ∷ b ∷ l) k h (x ∷ u) rest e =
      let tail : b ∷ l ≡ u ++ (s ∷ c ∷ rest) = cc in
      ⊎_elim (λ p. none_some k (sym p.1)) (λ p. pair_none (b ∷ l) (k + 1) p.1 u rest tail) (choice (a == s && b == c) (Some k) (pair_from s c (k + 1) (b ∷ l)) None h)

block_skipped : (bs : List ℕ) (n : ℕ) → pair_from 42 47 0 bs ≡ Some n → Says (47 ∷ 42 ∷ bs) (Skip (n + 4))
block_skipped bs n h =
    let p = pair_sound 42 47 bs 0 n h in
    let front = 47 ∷ 42 ∷ (p.0 ++ 42 ∷ 47 ∷ []) in
    let whole : front ++ p.1 ≡ 47 ∷ 42 ∷ bs = ap (λ l. 47 ∷ 42 ∷ l) (append_assoc p.0 (42 ∷ 47 ∷ []) p.1 ∙ sym p.2) in
    let count : length front ≡ n + 4 = omega (arith, p.4, length-append p.0 (42 ∷ 47 ∷ [])) in
    let taken : front ≡ take (n + 4) (47 ∷ 42 ∷ bs) = take_front front p.1 (47 ∷ 42 ∷ bs) whole ∙ ap (λ k. take k (47 ∷ 42 ∷ bs)) count in
    (omega (arith, ap length whole, length-append front p.1), omega arith, inr (inr (p.0, sym taken, p.3)))

block_stuck : (bs : List ℕ) → pair_from 42 47 0 bs ≡ None → NoStep (47 ∷ 42 ∷ bs)
block_stuck bs none f x h = (
  λ p. ⊎_elim (λ a. blank a) (⊎_elim (λ a. line a) (λ a. block a)) p,
  λ r t. comment_token 42 bs r f x (sym h) refl t.token,
)
  where
    blank : IsBlank f → ⊥
    blank a =
        let whole : 47 ∷ 42 ∷ bs ≡ a.0 ∷ x = h ∙ ap (λ l. l ++ x) a.1 in
        let head : a.0 ≡ 47 = cc in
        clash (sym a.2 ∙ ap is_blank head)

    line : IsLineComment f x → ⊥
    line a =
        let whole : 47 ∷ 42 ∷ bs ≡ 47 ∷ 47 ∷ (a.0 ++ x) = h ∙ ap (λ l. l ++ x) a.1 in
        let same : ◌≡◌ {A = ℕ} 42 47 = cc in
        star_slash same

    block : IsBlockComment f → ⊥
    block a =
        let whole : 47 ∷ 42 ∷ bs ≡ 47 ∷ 42 ∷ ((a.0 ++ 42 ∷ 47 ∷ []) ++ x) = h ∙ ap (λ l. l ++ x) a.1 in
        let tail : bs ≡ (a.0 ++ 42 ∷ 47 ∷ []) ++ x = cc in
        pair_none 42 47 bs 0 none a.0 x (tail ∙ append_assoc a.0 (42 ∷ 47 ∷ []) x)

pub block_says : (bs : List ℕ) → Says (47 ∷ 42 ∷ bs) (block_at (pair_from 42 47 0 bs))
block_says bs = of_answer (pair_from 42 47 0 bs) refl
  where
    of_answer : (o : Option ℕ) → pair_from 42 47 0 bs ≡ o → Says (47 ∷ 42 ∷ bs) (block_at o)
    of_answer None h = block_stuck bs h
    of_answer (Some n) h = block_skipped bs n h
