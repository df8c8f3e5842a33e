-- String literals.
use Rattle.std.proofs.Common.{◌≡◌, ℕ, suc, ◌+◌, ◌-◌, ◌≤◌, true, false, ◌&&◌, ◌==◌, List, [], ◌∷◌, ◌++◌, length, take, drop, get_or, Some, None, ⊎_elim, refl, sym, ap, ◌∙◌, true-eqb, arith, length-drop}
use Rattle.std.proofs.lemmas.Bool.Decides.{nat_tests}
use Rattle.std.proofs.lemmas.List.{take_rest}
use Rattle.sy_lex.specs.Rows.{is_string_byte, is_escape_code, is_string_rest}
use Rattle.sy_lex.specs.Front.{string_from}
use Rattle.sy_lex.proofs.Tables.{both, either, both_in, left_in, right_in, is_not, choice, some_same, none_some}

-- ---- a step of the scan

plain_at : (k : ℕ) (l : List ℕ) → 1 ≤ length l → (get_or l 0 0 ≡ 34 → ⊥) → is_string_byte (get_or l 0 0) ≡ true → string_from k l ≡ string_from (k + 1) (drop 1 l)
plain_at k [] le ne is = absurd (omega arith)
plain_at k (b ∷ []) le ne is = rw (is_not b 34 ne) refl
plain_at k (b ∷ c ∷ bs) le ne is = rw (is, is_not b 34 ne) refl

pub plain_step : (k : ℕ) (l : List ℕ) → 1 ≤ length l → (get_or l 0 0 ≡ 34 → ⊥) → is_string_byte (get_or l 0 0) ≡ true → string_from k l ≡ string_from (k + 1) (take (length l - 1) (drop 1 l))
plain_step k l le ne is = plain_at k l le ne is ∙ ap (string_from (k + 1)) (sym (take_rest l 1))

escape_at : (k : ℕ) (l : List ℕ) → 1 ≤ length (drop 1 l) → get_or l 0 0 ≡ 92 → is_escape_code (get_or (drop 1 l) 0 0) ≡ true → string_from k l ≡ string_from (k + 2) (drop 1 (drop 1 l))
escape_at k [] le is code = absurd (omega arith)
escape_at k (b ∷ []) le is code = absurd (omega arith)
escape_at k (b ∷ c ∷ bs) le is code = rw (is, code) refl

pub escape_step : (k : ℕ) (l : List ℕ) → 1 ≤ length (take (length l - 1) (drop 1 l)) → get_or l 0 0 ≡ 92 → is_escape_code (get_or (take (length l - 1) (drop 1 l)) 0 0) ≡ true →
    string_from k l ≡ string_from (k + 2) (take (length (take (length l - 1) (drop 1 l)) - 1) (drop 1 (take (length l - 1) (drop 1 l))))
escape_step k l = rw (take_rest l 1, take_rest (drop 1 l) 1) (escape_at k l)

pub plain_count : (k n : ℕ) (l : List ℕ) → 1 ≤ length l → k + length l ≡ n → k + 1 + length (take (length l - 1) (drop 1 l)) ≡ n
plain_count k n l le e = rw (take_rest l 1, length-drop 1 l) (omega arith)

pub escape_count : (k n : ℕ) (l : List ℕ) → 1 ≤ length (take (length l - 1) (drop 1 l)) → k + length l ≡ n →
    k + 2 + length (take (length (take (length l - 1) (drop 1 l)) - 1) (drop 1 (take (length l - 1) (drop 1 l)))) ≡ n
escape_count k n l = rw (take_rest l 1, take_rest (drop 1 l) 1, length-drop 1 (drop 1 l), length-drop 1 l) (λ le e. omega arith)

-- ---- what the scan finds

string_byte_quote : (b : ℕ) → is_string_byte b ≡ true → (b == 34) ≡ false
string_byte_quote b h = grind (arith, nat_tests)

-- the first bytes of the list are the rest of a string, up to the number from the other
pub record Closes (k : ℕ) (l : List ℕ) (n : ℕ) : Type 0 where
  pub text : List ℕ
  pub rest : List ℕ
  pub whole : text ++ rest ≡ l
  pub closed : is_string_rest text ≡ true
  pub count : n ≡ k + length text

closes_plain : (k n b c : ℕ) (bs : List ℕ) → is_string_byte b ≡ true → Closes (k + 1) (c ∷ bs) n → Closes k (b ∷ c ∷ bs) n
closes_plain k n b c bs is on = plain on.text on.whole on.closed on.count
  where
    plain : (u : List ℕ) → u ++ on.rest ≡ c ∷ bs → is_string_rest u ≡ true → n ≡ k + 1 + length u → Closes k (b ∷ c ∷ bs) n
    plain [] w h e = absurd cc
    plain (d ∷ u) w h e = record { text = b ∷ d ∷ u; rest = on.rest; whole = ap (λ v. b ∷ v) w; closed = left_in _ _ (both_in _ _ is h); count = omega arith }

closes_escape : (k n b c : ℕ) (bs : List ℕ) → (b == 92 && is_escape_code c) ≡ true → Closes (k + 2) bs n → Closes k (b ∷ c ∷ bs) n
closes_escape k n b c bs is on = record {
  text = b ∷ c ∷ on.text;
  rest = on.rest;
  whole = ap (λ v. b ∷ c ∷ v) on.whole;
  closed = right_in _ _ (both_in _ _ is on.closed);
  count = omega (arith, on.count);
}

closes_quote : (k n b : ℕ) (bs : List ℕ) → (b == 34) ≡ true → k + 1 ≡ n → Closes k (b ∷ bs) n
closes_quote k n b bs is e = record { text = b ∷ []; rest = bs; whole = refl; closed = is; count = omega arith }

pub string_sound : (l : List ℕ) (k n : ℕ) → string_from k l ≡ Some n → Closes k l n
string_sound [] k n h = absurd (none_some n h)
string_sound (b ∷ []) k n h =
    ⊎_elim (λ p. closes_quote k n b [] p.0 (some_same (k + 1) n p.1)) (λ p. absurd (none_some n p.1)) (choice (b == 34) (Some (k + 1)) None (Some n) h)
string_sound (b ∷ c ∷ bs) k n h =
    ⊎_elim (λ p. closes_quote k n b (c ∷ bs) p.0 (some_same (k + 1) n p.1))
    (λ p. ⊎_elim (λ q. closes_plain k n b c bs q.0 (string_sound (c ∷ bs) (k + 1) n q.1))
    (λ q. ⊎_elim (λ r. closes_escape k n b c bs r.0 (string_sound bs (k + 2) n r.1)) (λ r. absurd (none_some n r.1))
    (choice (b == 92 && is_escape_code c) (string_from (k + 2) bs) None (Some n) q.1))
    (choice (is_string_byte b) (string_from (k + 1) (c ∷ bs)) _ (Some n) p.1))
    (choice (b == 34) (Some (k + 1)) _ (Some n) h)

plus_one : (k m : ℕ) → k + 1 + m ≡ k + suc m
plus_one k m = omega arith

plus_two : (k m : ℕ) → k + 2 + m ≡ k + suc (suc m)
plus_two k m = omega arith

pub string_complete : (u x : List ℕ) (k : ℕ) → is_string_rest u ≡ true → string_from k (u ++ x) ≡ Some (k + length u)
string_complete [] x k h = absurd cc
string_complete (b ∷ []) [] k h = rw h refl
string_complete (b ∷ []) (d ∷ x) k h = rw h refl
string_complete (b ∷ c ∷ u) x k h =
    ⊎_elim
    (λ p.
    let t = both (is_string_byte b) (is_string_rest (c ∷ u)) p in
    rw (t.0, string_byte_quote b t.0) (string_complete (c ∷ u) x (k + 1) t.1 ∙ ap Some (plus_one k (length (c ∷ u)))))
    (λ p.
    let t = both (b == 92 && is_escape_code c) (is_string_rest u) p in
    let s = both (b == 92) (is_escape_code c) t.0 in
    let is = true-eqb b 92 (sym s.0) in
    rw (is, s.1) (string_complete u x (k + 2) t.1 ∙ ap Some (plus_two k (length u))))
    (either (is_string_byte b && is_string_rest (c ∷ u)) (b == 92 && is_escape_code c && is_string_rest u) h)
