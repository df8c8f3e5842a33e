-- What the function finds at the front is what stands there.
use Rattle.std.proofs.Common.{◌≡◌, ℕ, ◌+◌, true, false, ◌&&◌, ◌||◌, ◌==◌, List, [], ◌∷◌, ◌++◌, inl, refl, sym, subst, true-eqb, arith}
use Rattle.std.specs.List.{prefix_len}
use Rattle.sy_lex.specs.declared.Row.{Row}
use Rattle.sy_lex.specs.declared.Row.TheVariants as row
use Rattle.sy_lex.specs.declared.scan.Front.TheVariants.{Skip}
use Rattle.sy_lex.specs.Rows.{is_blank, is_digit, is_nondigit, is_word}
use Rattle.sy_lex.specs.Tokens.{in_line, starts, NoStep, IsToken}
use Rattle.sy_lex.specs.Front.{name_at, integer_at, literal_at, string_from, character_len, include_len, pair_from, block_at, mark_at, slash_at, front_of}
use Rattle.sy_lex.proofs.Says.{Says}
use Rattle.sy_lex.proofs.Tables.{clash, one_way, neither}
use Rattle.sy_lex.proofs.FirstBytes.{kind_of, empty_fits, empty_skip}
use Rattle.sy_lex.proofs.Integers.{name_says, integer_says}
use Rattle.sy_lex.proofs.Literals.{character_says, string_says, include_says}
use Rattle.sy_lex.proofs.Comments.{line_says, block_says}
use Rattle.sy_lex.proofs.Marks.{mark_says}

blank_says : (b : ℕ) (bs : List ℕ) → is_blank b ≡ true → Says (b ∷ bs) (Skip 1)
blank_says b bs h = (omega arith, omega arith, inl (b, refl, h))

slash_mark_says : (bs : List ℕ) → starts (λ c. c == 47 || c == 42) bs ≡ false → Says (47 ∷ bs) (mark_at (47 ∷ bs))
slash_mark_says bs other = mark_says 47 bs refl other (λ h. absurd (clash h))

slash_says : (bs : List ℕ) → Says (47 ∷ bs) (slash_at (47 ∷ bs) bs)
slash_says [] = slash_mark_says [] refl
slash_says (c ∷ bs) =
    one_way (c == 47) (Skip (2 + prefix_len in_line bs)) _ (Says (47 ∷ c ∷ bs))
    (λ h. let is : 47 ≡ c = sym (true-eqb c 47 (sym h)) in subst (λ k. Says (47 ∷ k ∷ bs) (Skip (2 + prefix_len in_line bs))) is (line_says bs))
    (λ line. one_way (c == 42) (block_at (pair_from 42 47 0 bs)) (mark_at (47 ∷ c ∷ bs)) (Says (47 ∷ c ∷ bs))
    (λ h. let is : 42 ≡ c = sym (true-eqb c 42 (sym h)) in subst (λ k. Says (47 ∷ k ∷ bs) (block_at (pair_from 42 47 0 bs))) is (block_says bs))
    (λ star. slash_mark_says (c ∷ bs) (neither (c == 47) (c == 42) line star)))

nothing_in : (f x : List ℕ) (r : Row) → [] ≡ f ++ x → IsToken r f x → ⊥
nothing_in [] x r h t = empty_fits r t.fits
nothing_in (a ∷ f) x r h t = cc

pub nothing_left : NoStep []
nothing_left f x h = (λ p. empty_skip f x h p, λ r t. nothing_in f x r h t.token)

pub front_says : (bytes : List ℕ) → Says bytes (front_of bytes)
unfolding front_of
front_says [] = nothing_left
front_says (b ∷ bs) =
    one_way (is_blank b) (Skip 1) _ (Says (b ∷ bs)) (blank_says b bs)
    (λ blank. one_way (is_nondigit b) (name_at (prefix_len is_word (b ∷ bs)) (b ∷ bs)) _ (Says (b ∷ bs)) (name_says b bs)
    (λ letter. one_way (is_digit b) (integer_at (prefix_len is_word (b ∷ bs)) (b ∷ bs)) _ (Says (b ∷ bs)) (integer_says b bs letter)
    (λ digit. one_way (b == 34) (literal_at row.Str (string_from 1 bs)) _ (Says (b ∷ bs))
    (λ h. subst (λ k. Says (k ∷ bs) (literal_at row.Str (string_from 1 bs))) (sym (true-eqb b 34 (sym h))) (string_says bs))
    (λ double. one_way (b == 39) (literal_at row.Char (character_len bs)) _ (Says (b ∷ bs))
    (λ h. subst (λ k. Says (k ∷ bs) (literal_at row.Char (character_len bs))) (sym (true-eqb b 39 (sym h))) (character_says bs))
    (λ single. one_way (b == 35) (literal_at row.Include (include_len bs)) _ (Says (b ∷ bs))
    (λ h. subst (λ k. Says (k ∷ bs) (literal_at row.Include (include_len bs))) (sym (true-eqb b 35 (sym h))) (include_says bs))
    (λ hash. one_way (b == 47) (slash_at (b ∷ bs) bs) (mark_at (b ∷ bs)) (Says (b ∷ bs))
    (λ h. subst (λ k. Says (k ∷ bs) (slash_at (k ∷ bs) bs)) (sym (true-eqb b 47 (sym h))) (slash_says bs))
    (λ slash.
    let kind : kind_of b ≡ 5 = rw (letter, digit, single, double, hash) refl in
    let clean : (b == 47 && starts (λ c. c == 47 || c == 42) bs) ≡ false = rw slash refl in
    mark_says b bs kind clean (λ h. neither (is_blank b) (b == 47) blank slash))))))))
