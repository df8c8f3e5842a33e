-- Names and integers.
use Rattle.std.proofs.Common.{◌≡◌, ℕ, Bool, true, false, not, ◌&&◌, ◌||◌, ◌==◌, cond, List, [], ◌∷◌, ◌++◌, length, take, drop, ◌⊎◌, inl, inr, ⊎_elim, refl, sym, ap, ◌∙◌, subst, true-eqb, arith, take-append-drop}
use Rattle.std.specs.List.{list_all, prefix_len}
use Rattle.std.proofs.lemmas.Bool.Decides.{nat_tests}
use Rattle.std.proofs.lemmas.List.Folds.{list_all-append}
use Rattle.std.proofs.lemmas.List.Sums.{prefix_len-le-length}
use Rattle.sy_lex.specs.declared.Row.{Row}
use Rattle.sy_lex.specs.declared.Row.TheVariants as row
use Rattle.sy_lex.specs.declared.scan.Front.TheVariants.{Found, Stuck}
use Rattle.sy_lex.specs.Rows.{is_blank, is_digit, is_octal_digit, is_binary_digit, is_hexadecimal_digit, is_nondigit, is_word, is_identifier, is_reserved, is_octal, is_decimal, is_hexadecimal, is_binary, suffixes, is_suffix, IsInteger, Fits}
use Rattle.sy_lex.specs.Tokens.{starts, is_spoiled, IsToken}
use Rattle.sy_lex.specs.Front.{name_at, ends_in, some_then, after_zero, is_integer, integer_at}
use Rattle.sy_lex.proofs.Says.{Says}
use Rattle.sy_lex.proofs.Tables.{both, either, both_in, left_in, right_in, clash, not_true, one_way, all_any}
use Rattle.sy_lex.proofs.Texts.{one_plus, take_front, run_all, run_stops, run_most, run_len, wider}
use Rattle.sy_lex.proofs.FirstBytes.{kind_of, is_number, empty_fits, name_row, only_name, only_row, AtMost, found_says, stuck_says}

-- ---- names

name_taken : (b : ℕ) (bs : List ℕ) → is_nondigit b ≡ true → is_identifier (take (prefix_len is_word (b ∷ bs)) (b ∷ bs)) ≡ true
name_taken b bs letter = let word : is_word b ≡ true = left_in _ _ letter in rw (word, one_plus (prefix_len is_word bs), letter) (run_all is_word bs)

name_fits : (text : List ℕ) → is_identifier text ≡ true → Fits (name_row text) text
name_fits text h = one_way (is_reserved text) row.Reserved row.Ident (λ r. Fits r text) (λ p. p) (λ p. (h, p))

name_clean : (text rest : List ℕ) → is_spoiled (name_row text) text rest ≡ false
name_clean text rest = one_way (is_reserved text) row.Reserved row.Ident (λ r. is_spoiled r text rest ≡ false) (λ p. refl) (λ p. refl)

identifier_word : (f : List ℕ) → is_identifier f ≡ true → list_all is_word f ≡ true
identifier_word [] h = refl
identifier_word (a ∷ f) h = let t = both (is_nondigit a) (list_all is_word f) h in both_in _ _ (left_in _ _ t.0) t.1

name_most : (b : ℕ) (bs : List ℕ) → kind_of b ≡ 0 → AtMost (b ∷ bs) (prefix_len is_word (b ∷ bs))
name_most b bs k [] x r h t = omega arith
name_most b bs k (a ∷ f) x r h t =
    let head : a ≡ b = cc in
    let name = only_name r a f (ap kind_of head ∙ k) t.fits in
    run_most is_word (a ∷ f) x (b ∷ bs) h (identifier_word (a ∷ f) name.0)

pub name_says : (b : ℕ) (bs : List ℕ) → is_nondigit b ≡ true → Says (b ∷ bs) (name_at (prefix_len is_word (b ∷ bs)) (b ∷ bs))
name_says b bs letter =
    let n = prefix_len is_word (b ∷ bs) in
    let word : is_word b ≡ true = left_in _ _ letter in
    let k : kind_of b ≡ 0 = rw letter refl in
    found_says (b ∷ bs) (name_row (take n (b ∷ bs))) n (prefix_len-le-length is_word (b ∷ bs)) (rw word (omega arith))
    (record { fits = name_fits (take n (b ∷ bs)) (name_taken b bs letter); clean = name_clean (take n (b ∷ bs)) (drop n (b ∷ bs)) })
    (name_most b bs k)

-- ---- digits are words

digit_word : (b : ℕ) → is_digit b ≡ true → is_word b ≡ true
digit_word b h = right_in _ _ h

octal_word : (b : ℕ) → is_octal_digit b ≡ true → is_word b ≡ true
octal_word b h = grind (arith, nat_tests)

binary_word : (b : ℕ) → is_binary_digit b ≡ true → is_word b ≡ true
binary_word b h = ⊎_elim (λ p. ap is_word (true-eqb b 48 (sym p))) (λ p. ap is_word (true-eqb b 49 (sym p))) (either (b == 48) (b == 49) h)

hexadecimal_word : (b : ℕ) → is_hexadecimal_digit b ≡ true → is_word b ≡ true
hexadecimal_word b h = grind (arith, nat_tests)

suffix_word : (s : List ℕ) → is_suffix s ≡ true → list_all is_word s ≡ true
suffix_word s h = all_any (list_all is_word) s suffixes h refl

abbrev no_digit : List ℕ → Bool
no_digit s = not (starts is_hexadecimal_digit s)

suffix_no_digit : (s : List ℕ) → is_suffix s ≡ true → starts is_hexadecimal_digit s ≡ false
suffix_no_digit s h = not_true _ (all_any no_digit s suffixes h refl)

narrower : (p q : ℕ → Bool) → ((b : ℕ) → p b ≡ true → q b ≡ true) → (s : List ℕ) → starts q s ≡ false → starts p s ≡ false
narrower p q w [] h = refl
narrower p q w (b ∷ s) h = of_test (p b) refl
  where
    of_test : (v : Bool) → p b ≡ v → v ≡ false
    of_test true is = absurd (clash (sym (w b is) ∙ h))
    of_test false is = refl

-- ---- digits, then a suffix

ends_step : (p : ℕ → Bool) (d : ℕ) (l : List ℕ) → p d ≡ true → ends_in p (d ∷ l) ≡ ends_in p l
ends_step p d l h = rw (h, one_plus (prefix_len p l)) refl

ends_all : (p : ℕ → Bool) (ds s : List ℕ) → list_all p ds ≡ true → starts p s ≡ false → is_suffix s ≡ true → ends_in p (ds ++ s) ≡ true
ends_all p [] [] a n h = refl
ends_all p [] (b ∷ s) a n h = rw n h
ends_all p (d ∷ ds) s a n h = let t = both (p d) (list_all p ds) a in ends_step p d (ds ++ s) t.0 ∙ ends_all p ds s t.1 n h

octal_hexadecimal : (b : ℕ) → is_octal_digit b ≡ true → is_hexadecimal_digit b ≡ true
octal_hexadecimal b h = grind (arith, nat_tests)

binary_hexadecimal : (b : ℕ) → is_binary_digit b ≡ true → is_hexadecimal_digit b ≡ true
binary_hexadecimal b h = ⊎_elim (λ p. ap is_hexadecimal_digit (true-eqb b 48 (sym p))) (λ p. ap is_hexadecimal_digit (true-eqb b 49 (sym p))) (either (b == 48) (b == 49) h)

digit_hexadecimal : (b : ℕ) → is_digit b ≡ true → is_hexadecimal_digit b ≡ true
digit_hexadecimal b h = left_in _ _ (left_in _ _ h)

octal_no_mark : (x : ℕ) → is_octal_digit x ≡ true → (x == 120 || x == 88) ≡ false
octal_no_mark x h = grind (arith, nat_tests)

octal_no_b : (x : ℕ) → is_octal_digit x ≡ true → (x == 98 || x == 66) ≡ false
octal_no_b x h = grind (arith, nat_tests)

b_no_x : (x : ℕ) → (x == 98 || x == 66) ≡ true → (x == 120 || x == 88) ≡ false
b_no_x x h = grind (arith, nat_tests)

-- what the test says of a text that is digits and a suffix
abbrev Reads : List ℕ → Type 0
Reads text = (is_integer text ≡ true) × (list_all is_word text ≡ true)

words_in : (p : ℕ → Bool) → ((b : ℕ) → p b ≡ true → is_word b ≡ true) → (ds s : List ℕ) → list_all p ds ≡ true → is_suffix s ≡ true → list_all is_word (ds ++ s) ≡ true
words_in p w ds s a h = list_all-append is_word ds s ∙ both_in _ _ (wider p is_word w ds a) (suffix_word s h)

octal_reads : (b : ℕ) (ds s : List ℕ) → is_octal (b ∷ ds) ≡ true → is_suffix s ≡ true → Reads (b ∷ (ds ++ s))
octal_reads b ds s o h =
    let t = both (b == 48) (list_all is_octal_digit ds) o in
    let zero_ = true-eqb b 48 (sym t.0) in
    (rw zero_ (tail ds t.1), both_in _ _ (ap is_word zero_) (words_in is_octal_digit octal_word ds s t.1 h))
  where
    tail : (l : List ℕ) → list_all is_octal_digit l ≡ true → after_zero (l ++ s) ≡ true
    tail [] a = all_any after_zero s suffixes h refl
    tail (x ∷ l) a =
        let u = both (is_octal_digit x) (list_all is_octal_digit l) a in
        let ends = ends_all is_octal_digit (x ∷ l) s a (narrower is_octal_digit is_hexadecimal_digit octal_hexadecimal s (suffix_no_digit s h)) h in
        rw (octal_no_mark x u.0, octal_no_b x u.0) ends

decimal_reads : (b : ℕ) (ds s : List ℕ) → is_decimal (b ∷ ds) ≡ true → is_suffix s ≡ true → Reads (b ∷ (ds ++ s))
decimal_reads b ds s o h =
    let t = both (is_digit b && not (b == 48)) (list_all is_digit ds) o in
    let u = both (is_digit b) (not (b == 48)) t.0 in
    let ends = ends_all is_digit ds s t.1 (narrower is_digit is_hexadecimal_digit digit_hexadecimal s (suffix_no_digit s h)) h in
    (rw (not_true (b == 48) u.1) ends, both_in _ _ (digit_word b u.0) (words_in is_digit digit_word ds s t.1 h))

hexadecimal_reads : (b : ℕ) (ds s : List ℕ) → is_hexadecimal (b ∷ ds) ≡ true → is_suffix s ≡ true → Reads (b ∷ (ds ++ s))
hexadecimal_reads b [] s o h = absurd (clash (sym o))
hexadecimal_reads b (x ∷ []) s o h = absurd (clash (sym o))
hexadecimal_reads b (x ∷ d ∷ ds) s o h =
    let t = both _ (list_all is_hexadecimal_digit ds) o in
    let u = both (b == 48 && (x == 120 || x == 88)) (is_hexadecimal_digit d) t.0 in
    let v = both (b == 48) (x == 120 || x == 88) u.0 in
    let zero_ = true-eqb b 48 (sym v.0) in
    let ends = ends_all is_hexadecimal_digit (d ∷ ds) s (both_in _ _ u.1 t.1) (suffix_no_digit s h) h in
    let x_word : is_word x ≡ true = ⊎_elim (λ p. ap is_word (true-eqb x 120 (sym p))) (λ p. ap is_word (true-eqb x 88 (sym p))) (either (x == 120) (x == 88) v.1) in
    (rw zero_ (rw v.1 (both_in _ _ u.1 ends)), both_in _ _ (ap is_word zero_) (both_in _ _ x_word (words_in is_hexadecimal_digit hexadecimal_word (d ∷ ds) s (both_in _ _ u.1 t.1) h)))

binary_reads : (b : ℕ) (ds s : List ℕ) → is_binary (b ∷ ds) ≡ true → is_suffix s ≡ true → Reads (b ∷ (ds ++ s))
binary_reads b [] s o h = absurd (clash (sym o))
binary_reads b (x ∷ []) s o h = absurd (clash (sym o))
binary_reads b (x ∷ d ∷ ds) s o h =
    let t = both _ (list_all is_binary_digit ds) o in
    let u = both (b == 48 && (x == 98 || x == 66)) (is_binary_digit d) t.0 in
    let v = both (b == 48) (x == 98 || x == 66) u.0 in
    let zero_ = true-eqb b 48 (sym v.0) in
    let all = both_in (is_binary_digit d) _ u.1 t.1 in
    let ends = ends_all is_binary_digit (d ∷ ds) s all (narrower is_binary_digit is_hexadecimal_digit binary_hexadecimal s (suffix_no_digit s h)) h in
    let x_word : is_word x ≡ true = ⊎_elim (λ p. ap is_word (true-eqb x 98 (sym p))) (λ p. ap is_word (true-eqb x 66 (sym p))) (either (x == 98) (x == 66) v.1) in
    (rw zero_ (rw (b_no_x x v.1, v.1) (both_in _ _ u.1 ends)), both_in _ _ (ap is_word zero_) (both_in _ _ x_word (words_in is_binary_digit binary_word (d ∷ ds) s all h)))

number_reads : (digits s : List ℕ) → is_number digits ≡ true → is_suffix s ≡ true → Reads (digits ++ s)
number_reads [] s n h = absurd (clash (sym n))
number_reads (b ∷ ds) s n h =
    ⊎_elim
    (λ p. ⊎_elim (λ q. ⊎_elim (λ r. octal_reads b ds s r h) (λ r. decimal_reads b ds s r h) (either (is_octal (b ∷ ds)) (is_decimal (b ∷ ds)) q))
    (λ q. hexadecimal_reads b ds s q h) (either (is_octal (b ∷ ds) || is_decimal (b ∷ ds)) (is_hexadecimal (b ∷ ds)) p))
    (λ p. binary_reads b ds s p h) (either (is_octal (b ∷ ds) || is_decimal (b ∷ ds) || is_hexadecimal (b ∷ ds)) (is_binary (b ∷ ds)) n)

integer_reads : (text : List ℕ) → IsInteger text → Reads text
integer_reads text i = subst Reads (sym i.whole) (number_reads i.digits i.suffix i.number i.ended)

-- ---- and the other way

some_digits : (p : ℕ → Bool) (ds : List ℕ) → some_then p ds ≡ true → (d : ℕ) × (l s : List ℕ) × (ds ≡ d ∷ (l ++ s)) × (p d ≡ true) × (list_all p l ≡ true) × (is_suffix s ≡ true)
some_digits p [] h = absurd (clash (sym h))
some_digits p (d ∷ l) h =
    let t = both (p d) (ends_in p (d ∷ l)) h in
    (d, take (prefix_len p l) l, drop (prefix_len p l) l, ap (λ v. d ∷ v) (sym (take-append-drop (prefix_len p l) l)), t.0, run_all p l, sym (ends_step p d l t.0) ∙ t.1)

split_digits : (p : ℕ → Bool) (l : List ℕ) → ends_in p l ≡ true → (ds s : List ℕ) × (l ≡ ds ++ s) × (list_all p ds ≡ true) × (is_suffix s ≡ true)
split_digits p l h = (take (prefix_len p l) l, drop (prefix_len p l) l, sym (take-append-drop (prefix_len p l) l), run_all p l, h)

octal_integer : (b : ℕ) (l : List ℕ) → (b == 48) ≡ true → ends_in is_octal_digit l ≡ true → IsInteger (b ∷ l)
octal_integer b l z h =
    let s = split_digits is_octal_digit l h in
    record { digits = b ∷ s.0; suffix = s.1; whole = ap (λ v. b ∷ v) s.2; number = left_in _ _ (left_in _ _ (left_in _ _ (both_in _ _ z s.3))); ended = s.4 }

hexadecimal_integer : (b x : ℕ) (l : List ℕ) → (b == 48) ≡ true → (x == 120 || x == 88) ≡ true → some_then is_hexadecimal_digit l ≡ true → IsInteger (b ∷ x ∷ l)
hexadecimal_integer b x l z m h =
    let s = some_digits is_hexadecimal_digit l h in
    record {
      digits = b ∷ x ∷ s.0 ∷ s.1;
      suffix = s.2;
      whole = ap (λ v. b ∷ x ∷ v) s.3;
      number = left_in _ _ (right_in _ _ (both_in _ _ (both_in _ _ (both_in _ _ z m) s.4) s.5));
      ended = s.6;
    }

binary_integer : (b x : ℕ) (l : List ℕ) → (b == 48) ≡ true → (x == 98 || x == 66) ≡ true → some_then is_binary_digit l ≡ true → IsInteger (b ∷ x ∷ l)
binary_integer b x l z m h =
    let s = some_digits is_binary_digit l h in
    record {
      digits = b ∷ x ∷ s.0 ∷ s.1;
      suffix = s.2;
      whole = ap (λ v. b ∷ x ∷ v) s.3;
      number = right_in _ _ (both_in _ _ (both_in _ _ (both_in _ _ z m) s.4) s.5);
      ended = s.6;
    }

branch : (v x y : Bool) → cond v x y ≡ true → ((v ≡ true) × (x ≡ true)) ⊎ ((v ≡ false) × (y ≡ true))
branch true x y h = inl (refl, h)
branch false x y h = inr (refl, h)

zero_integer : (b : ℕ) (l : List ℕ) → (b == 48) ≡ true → after_zero l ≡ true → IsInteger (b ∷ l)
zero_integer b [] z h = octal_integer b [] z refl
zero_integer b (x ∷ l) z h =
    ⊎_elim (λ p. hexadecimal_integer b x l z p.0 p.1)
    (λ p. ⊎_elim (λ q. binary_integer b x l z q.0 q.1) (λ q. octal_integer b (x ∷ l) z q.1) (branch (x == 98 || x == 66) _ _ p.1))
    (branch (x == 120 || x == 88) _ _ h)

decimal_integer : (b : ℕ) (l : List ℕ) → is_digit b ≡ true → (b == 48) ≡ false → ends_in is_digit l ≡ true → IsInteger (b ∷ l)
decimal_integer b l d z h =
    let s = split_digits is_digit l h in
    let no : not (b == 48) ≡ true = rw z refl in
    record { digits = b ∷ s.0; suffix = s.1; whole = ap (λ v. b ∷ v) s.2; number = left_in _ _ (left_in _ _ (right_in _ _ (both_in _ _ (both_in _ _ d no) s.3))); ended = s.4 }

integer_sound : (text : List ℕ) → starts is_digit text ≡ true → is_integer text ≡ true → IsInteger text
integer_sound [] d h = absurd (clash (sym h))
integer_sound (b ∷ l) d h = ⊎_elim (λ p. zero_integer b l p.0 p.1) (λ p. decimal_integer b l d p.0 p.1) (branch (b == 48) _ _ h)

-- ---- an integer in front is the whole run of letters, digits and `_`

whole_run : (b : ℕ) (bs f x : List ℕ) (r : Row) → kind_of b ≡ 1 → f ++ x ≡ b ∷ bs → IsToken r f x → (prefix_len is_word (b ∷ bs) ≡ length f) × (is_integer f ≡ true)
whole_run b bs [] x r k h t = absurd (empty_fits r t.fits)
whole_run b bs (a ∷ f) x r k h t =
    let head : a ≡ b = cc in
    let is = only_row row.Int r a f (ap kind_of head ∙ k) (λ e. omega arith) t.fits in
    let reads = integer_reads (a ∷ f) (subst (λ q. Fits q (a ∷ f)) is t.fits) in
    let clean : starts is_word x ≡ false = subst (λ q. is_spoiled q (a ∷ f) x ≡ false) is t.clean in
    (ap (prefix_len is_word) (sym h) ∙ run_len is_word (a ∷ f) x reads.1 clean, reads.0)

digit_kind : (b : ℕ) → is_nondigit b ≡ false → is_digit b ≡ true → kind_of b ≡ 1
digit_kind b letter digit = rw (letter, digit) refl

digit_other : (b : ℕ) → is_digit b ≡ true → (is_blank b || b == 47) ≡ false
digit_other b h = grind (arith, nat_tests)

run_starts : (b : ℕ) (bs : List ℕ) → is_digit b ≡ true → starts is_digit (take (prefix_len is_word (b ∷ bs)) (b ∷ bs)) ≡ true
run_starts b bs digit = let word : is_word b ≡ true = digit_word b digit in rw (word, one_plus (prefix_len is_word bs)) digit

integer_found : (b : ℕ) (bs : List ℕ) → kind_of b ≡ 1 → is_digit b ≡ true → is_integer (take (prefix_len is_word (b ∷ bs)) (b ∷ bs)) ≡ true → Says (b ∷ bs) (Found row.Int (prefix_len is_word (b ∷ bs)))
integer_found b bs k digit h =
    let n = prefix_len is_word (b ∷ bs) in
    let word : is_word b ≡ true = digit_word b digit in
    found_says (b ∷ bs) row.Int n (prefix_len-le-length is_word (b ∷ bs)) (rw word (omega arith))
    (record { fits = integer_sound (take n (b ∷ bs)) (run_starts b bs digit) h; clean = run_stops is_word (b ∷ bs) })
    (λ f x r e t. let same = (whole_run b bs f x r k e t).0 in omega arith)

integer_stuck : (b : ℕ) (bs : List ℕ) → kind_of b ≡ 1 → is_digit b ≡ true → is_integer (take (prefix_len is_word (b ∷ bs)) (b ∷ bs)) ≡ false → Says (b ∷ bs) Stuck
integer_stuck b bs k digit h = stuck_says b bs (digit_other b digit) (λ f x r e t.
    let same = whole_run b bs f x r k e t in
    clash (sym same.1 ∙ ap is_integer (take_front f x (b ∷ bs) e ∙ ap (λ m. take m (b ∷ bs)) (sym same.0)) ∙ h))

pub integer_says : (b : ℕ) (bs : List ℕ) → is_nondigit b ≡ false → is_digit b ≡ true → Says (b ∷ bs) (integer_at (prefix_len is_word (b ∷ bs)) (b ∷ bs))
integer_says b bs letter digit =
    let k = digit_kind b letter digit in
    one_way (is_integer (take (prefix_len is_word (b ∷ bs)) (b ∷ bs))) (Found row.Int (prefix_len is_word (b ∷ bs))) Stuck (Says (b ∷ bs)) (integer_found b bs k digit) (integer_stuck b bs k digit)
