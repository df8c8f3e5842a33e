-- Punctuators.
use Rattle.std.proofs.Common.{◌≡◌, ℕ, zero, suc, ◌+◌, ◌<◌, ◌≤◌, Bool, true, false, ◌&&◌, ◌||◌, ◌==◌, nat_le, cond, List, [], ◌∷◌, ◌++◌, length, take, drop, codes, refl, sym, ap, ◌∙◌, subst, true-eqb, arith}
use Rattle.std.specs.Str.{bytes_eq}
use Rattle.std.proofs.lemmas.Bool.Decides.{nat_tests}
use Rattle.sy_lex.specs.declared.Row.{Row}
use Rattle.sy_lex.specs.declared.Row.TheVariants as row
use Rattle.sy_lex.specs.declared.scan.Front.TheVariants.{Found, Stuck}
use Rattle.sy_lex.specs.Rows.{is_blank, marks, is_mark, Fits}
use Rattle.sy_lex.specs.Tokens.{starts, is_spoiled, IsToken}
use Rattle.sy_lex.specs.Front.{one_of, is_single, is_pair, is_triple, single_at, mark_at}
use Rattle.sy_lex.proofs.Says.{Says}
use Rattle.sy_lex.proofs.Tables.{both, and_none, clash, one_way, all_any, each_of, test_le}
use Rattle.sy_lex.proofs.Texts.{take_front, within}
use Rattle.sy_lex.proofs.FirstBytes.{kind_of, empty_fits, only_row, found_says, stuck_says}

-- ---- the table by tests of its bytes

abbrev is_tested : List ℕ → Bool
is_tested [] = false
is_tested (b ∷ []) = is_single b
is_tested (b ∷ c ∷ []) = is_pair b c
is_tested (b ∷ c ∷ d ∷ []) = is_triple b c d
is_tested (b ∷ c ∷ d ∷ e ∷ l) = false

mark_tested : (f : List ℕ) → is_mark f ≡ true → is_tested f ≡ true
mark_tested f h = all_any is_tested f marks h refl

tested_short : (f : List ℕ) → is_tested f ≡ true → (0 < length f) × (length f ≤ 3)
tested_short [] h = absurd (clash (sym h))
tested_short (b ∷ []) h = (omega arith, omega arith)
tested_short (b ∷ c ∷ []) h = (omega arith, omega arith)
tested_short (b ∷ c ∷ d ∷ []) h = (omega arith, omega arith)
tested_short (b ∷ c ∷ d ∷ e ∷ l) h = absurd (clash (sym h))

single_mark : (b : ℕ) → is_single b ≡ true → is_mark (b ∷ []) ≡ true
single_mark b h = each_of (λ k. is_mark (k ∷ [])) b (codes "{}()[];:,.?+-*/%&|^~!=<>") h refl

branch : (P : Type 0) (v x y : Bool) → cond v x y ≡ true → (v ≡ true → x ≡ true → P) → (v ≡ false → y ≡ true → P) → P
branch P true x y h p q = p refl h
branch P false x y h p q = q refl h

pair_mark : (b c : ℕ) → is_pair b c ≡ true → is_mark (b ∷ c ∷ []) ≡ true
pair_mark b c h =
    branch (is_mark (b ∷ c ∷ []) ≡ true) (c == 61) (one_of (codes "+-*/%&|^=!<>") b) (b == c && one_of (codes ":<>&|+-") b) h
    (λ p k. subst (λ v. is_mark (b ∷ v ∷ []) ≡ true) (sym (true-eqb c 61 (sym p))) (each_of (λ k. is_mark (k ∷ 61 ∷ [])) b (codes "+-*/%&|^=!<>") k refl))
    (λ p k.
    let t = both (b == c) (one_of (codes ":<>&|+-") b) k in
    subst (λ v. is_mark (b ∷ v ∷ []) ≡ true) (true-eqb b c (sym t.0)) (each_of (λ k. is_mark (k ∷ k ∷ [])) b (codes ":<>&|+-") t.1 refl))

triple_mark : (b c d : ℕ) → is_triple b c d ≡ true → is_mark (b ∷ c ∷ d ∷ []) ≡ true
triple_mark b c d h =
    let t = both (b == c && (b == 60 || b == 62)) (d == 61) h in
    let u = both (b == c) (b == 60 || b == 62) t.0 in
    let at : is_mark (b ∷ b ∷ 61 ∷ []) ≡ true = each_of (λ k. is_mark (k ∷ k ∷ 61 ∷ [])) b (60 ∷ 62 ∷ []) (ends (b == 60) (b == 62) u.1) refl in
    subst (λ v. is_mark (b ∷ c ∷ v ∷ []) ≡ true) (sym (true-eqb d 61 (sym t.1))) (subst (λ v. is_mark (b ∷ v ∷ 61 ∷ []) ≡ true) (true-eqb b c (sym u.0)) at)
  where
    ends : (p q : Bool) → (p || q) ≡ true → (p || (q || false)) ≡ true
    ends true q h = refl
    ends false true h = refl
    ends false false h = h

-- ---- the longest

-- a token in front is a tested front of one to three bytes
abbrev Tested : List ℕ → ℕ → Type 0
Tested bytes m = (0 < m) × (m ≤ 3) × (m ≤ length bytes) × (is_tested (take m bytes) ≡ true)

mark_front : (b : ℕ) (bs f x : List ℕ) (r : Row) → kind_of b ≡ 5 → f ++ x ≡ b ∷ bs → IsToken r f x → Tested (b ∷ bs) (length f)
mark_front b bs [] x r k h t = absurd (empty_fits r t.fits)
mark_front b bs (a ∷ f) x r k h t =
    let head : a ≡ b = cc in
    let is = only_row row.Mark r a f (ap kind_of head ∙ k) (λ e. omega arith) t.fits in
    let tested = mark_tested (a ∷ f) (subst (λ q. Fits q (a ∷ f)) is t.fits) in
    let short = tested_short (a ∷ f) tested in
    (short.0, short.1, within (a ∷ f) x (b ∷ bs) h, subst (λ v. is_tested v ≡ true) (take_front (a ∷ f) x (b ∷ bs) h) tested)

-- no tested front has that many bytes
abbrev None_of : List ℕ → ℕ → Type 0
None_of bytes n = n ≤ length bytes → is_tested (take n bytes) ≡ false

below : (bytes : List ℕ) (n m : ℕ) → None_of bytes (n + 1) → Tested bytes m → m ≤ n + 1 → m ≤ n
below bytes n m none t le = by_order (nat_le m n) refl
  where
    by_order : (v : Bool) → nat_le m n ≡ v → m ≤ n
    by_order true h = test_le m n h
    by_order false h =
        let same : m ≡ n + 1 = grind (arith, nat_tests) in
        let there : n + 1 ≤ length bytes = omega (arith, t.2) in
        absurd (clash (sym t.3 ∙ ap (λ k. is_tested (take k bytes)) same ∙ none there))

module _ (b : ℕ) (bs : List ℕ) (k : kind_of b ≡ 5) (clean : (b == 47 && starts (λ c. c == 47 || c == 42) bs) ≡ false) where
  clean_at : (n : ℕ) → 0 < n → n ≤ length (b ∷ bs) → is_spoiled row.Mark (take n (b ∷ bs)) (drop n (b ∷ bs)) ≡ false
  clean_at zero some le = absurd (omega arith)
  clean_at (suc zero) some le = one (b == 47) (starts (λ c. c == 47 || c == 42) bs) clean
    where
      one : (p q : Bool) → (p && q) ≡ false → (p && true && q) ≡ false
      one true q h = h
      one false q h = refl
  clean_at (suc (suc n)) some le = more bs le
    where
      more : (l : List ℕ) → suc (suc n) ≤ length (b ∷ l) → (bytes_eq (take (suc (suc n)) (b ∷ l)) (codes "/") && starts (λ c. c == 47 || c == 42) (drop (suc (suc n)) (b ∷ l))) ≡ false
      more [] le = absurd (omega arith)
      more (c ∷ l) le = rw (and_none (b == 47)) refl

  found_at : (n : ℕ) → 0 < n → n ≤ length (b ∷ bs) → is_mark (take n (b ∷ bs)) ≡ true → ((m : ℕ) → Tested (b ∷ bs) m → m ≤ n) → Says (b ∷ bs) (Found row.Mark n)
  found_at n some le mark most =
      found_says (b ∷ bs) row.Mark n le some (record { fits = mark; clean = clean_at n some le }) (λ f x r h t. most (length f) (mark_front b bs f x r k h t))

  stuck_at : (is_blank b || b == 47) ≡ false → ((m : ℕ) → Tested (b ∷ bs) m → ⊥) → Says (b ∷ bs) Stuck
  stuck_at other none = stuck_says b bs other (λ f x r h t. none (length f) (mark_front b bs f x r k h t))

none_above : (bytes : List ℕ) (n : ℕ) → length bytes < n → None_of bytes n
none_above bytes n lt le = absurd (omega arith)

-- whether the text begins with a slash, or with what begins no token but a punctuator
abbrev Begins : ℕ → Type 0
Begins b = (is_single b ≡ false → (is_blank b || b == 47) ≡ false)

single_says : (b : ℕ) (bs : List ℕ) → kind_of b ≡ 5 → (b == 47 && starts (λ c. c == 47 || c == 42) bs) ≡ false → Begins b → None_of (b ∷ bs) 3 → None_of (b ∷ bs) 2 → Says (b ∷ bs) (single_at b)
single_says b bs k clean other three two =
    one_way (is_single b) (Found row.Mark 1) Stuck (Says (b ∷ bs)) (λ h. found_at b bs k clean 1 (omega arith) (omega arith) (single_mark b h) most)
    (λ h. stuck_at b bs k clean (other h) (λ m t. nothing h m t))
  where
    most : (m : ℕ) → Tested (b ∷ bs) m → m ≤ 1
    most m t = below (b ∷ bs) 1 m two t (below (b ∷ bs) 2 m three t t.1)

    nothing : is_single b ≡ false → (m : ℕ) → Tested (b ∷ bs) m → ⊥
    nothing h m t = let least = below (b ∷ bs) 0 m (λ le. h) t (most m t) in omega (arith, t.0)

pair_says : (b c : ℕ) (bs : List ℕ) → kind_of b ≡ 5 → (b == 47 && (c == 47 || c == 42)) ≡ false → Begins b → None_of (b ∷ c ∷ bs) 3 →
    Says (b ∷ c ∷ bs) (cond (is_pair b c) (Found row.Mark 2) (single_at b))
pair_says b c bs k clean other three =
    one_way (is_pair b c) (Found row.Mark 2) (single_at b) (Says (b ∷ c ∷ bs))
    (λ h. found_at b (c ∷ bs) k clean 2 (omega arith) (omega arith) (pair_mark b c h) (λ m t. below (b ∷ c ∷ bs) 2 m three t t.1)) (λ h. single_says b (c ∷ bs) k clean other three (λ le. h))

-- where no comment begins, the longest punctuator is found
pub mark_says : (b : ℕ) (bs : List ℕ) → kind_of b ≡ 5 → (b == 47 && starts (λ c. c == 47 || c == 42) bs) ≡ false → Begins b → Says (b ∷ bs) (mark_at (b ∷ bs))
mark_says b [] k clean other = single_says b [] k clean other (none_above (b ∷ []) 3 (omega arith)) (none_above (b ∷ []) 2 (omega arith))
mark_says b (c ∷ []) k clean other = pair_says b c [] k clean other (none_above (b ∷ c ∷ []) 3 (omega arith))
mark_says b (c ∷ d ∷ bs) k clean other =
    one_way (is_triple b c d) (Found row.Mark 3) _ (Says (b ∷ c ∷ d ∷ bs)) (λ h. found_at b (c ∷ d ∷ bs) k clean 3 (omega arith) (omega arith) (triple_mark b c d h) (λ m t. t.1))
    (λ h. pair_says b c (d ∷ bs) k clean other (λ le. h))
