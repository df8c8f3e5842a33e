-- What the first byte of a token says of its row.
use Rattle.std.proofs.Common.{◌≡◌, ℕ, ◌<◌, ◌≤◌, Bool, true, false, ◌||◌, ◌==◌, if◌then◌else◌, List, [], ◌∷◌, ◌++◌, length, take, drop, Option, Some, None, ⊎_elim, refl, sym, ap, ◌∙◌, true-eqb, arith, take-append-drop, length-take-le}
use Rattle.std.proofs.lemmas.Bool.Decides.{nat_tests}
use Rattle.sy_lex.specs.declared.Row.{Row}
use Rattle.sy_lex.specs.declared.Row.TheVariants as row
use Rattle.sy_lex.specs.declared.scan.Front.TheVariants.{Found, Stuck}
use Rattle.sy_lex.specs.Rows.{is_blank, is_digit, is_nondigit, is_identifier, reserved_words, is_reserved, is_octal, is_decimal, is_hexadecimal, is_binary, is_character, marks, Fits}
use Rattle.sy_lex.specs.Tokens.{starts, IsSkipped, IsToken}
use Rattle.sy_lex.specs.Front.{literal_at}
use Rattle.sy_lex.proofs.Says.{Says}
use Rattle.sy_lex.proofs.Tables.{both, either, clash, all_any, some_same, none_some}

-- ---- the kind of a first byte: 0 names, 1 integers, 2 characters, 3 strings, 4 directives, 5 all others

abbrev pub kind_of : ℕ → ℕ
kind_of b = if is_nondigit b then 0 else (if is_digit b then 1 else (if b == 39 then 2 else (if b == 34 then 3 else (if b == 35 then 4 else 5))))

abbrev pub kind_of_row : Row → ℕ
kind_of_row row.Ident = 0
kind_of_row row.Reserved = 0
kind_of_row row.Int = 1
kind_of_row row.Char = 2
kind_of_row row.Str = 3
kind_of_row row.Include = 4
kind_of_row row.Mark = 5

digit_kind : (b : ℕ) → is_digit b ≡ true → kind_of b ≡ 1
digit_kind b h = let no : is_nondigit b ≡ false = grind (arith, nat_tests) in rw (no, h) refl

abbrev pub is_number : List ℕ → Bool
is_number digits = is_octal digits || is_decimal digits || is_hexadecimal digits || is_binary digits

zero_digit : (a : ℕ) → (a == 48) ≡ true → is_digit a ≡ true
zero_digit a h = ap is_digit (true-eqb a 48 (sym h))

pub number_first : (digits : List ℕ) → is_number digits ≡ true → starts is_digit digits ≡ true
number_first [] h = absurd cc
number_first (a ∷ as_) h =
    ⊎_elim (λ p. ⊎_elim (λ q. ⊎_elim (λ r. zero_digit a (both (a == 48) _ r).0) (λ r. (both (is_digit a) _ (both _ _ r).0).0) (either (is_octal (a ∷ as_)) (is_decimal (a ∷ as_)) q))
    (λ q. hex as_ q) (either (is_octal (a ∷ as_) || is_decimal (a ∷ as_)) (is_hexadecimal (a ∷ as_)) p))
    (λ p. bin as_ p) (either (is_octal (a ∷ as_) || is_decimal (a ∷ as_) || is_hexadecimal (a ∷ as_)) (is_binary (a ∷ as_)) h)
  where
    hex : (l : List ℕ) → is_hexadecimal (a ∷ l) ≡ true → is_digit a ≡ true
    hex [] h = absurd cc
    hex (x ∷ []) h = absurd cc
    hex (x ∷ d ∷ l) h = zero_digit a (both (a == 48) _ (both _ _ (both _ _ h).0).0).0

    bin : (l : List ℕ) → is_binary (a ∷ l) ≡ true → is_digit a ≡ true
    bin [] h = absurd cc
    bin (x ∷ []) h = absurd cc
    bin (x ∷ d ∷ l) h = zero_digit a (both (a == 48) _ (both _ _ (both _ _ h).0).0).0

int_first : (b : ℕ) (f digits suffix : List ℕ) → b ∷ f ≡ digits ++ suffix → is_number digits ≡ true → is_digit b ≡ true
int_first b f [] suffix w h = absurd cc
int_first b f (d ∷ ds) suffix w h = let head : b ≡ d = cc in ap is_digit head ∙ number_first (d ∷ ds) h

char_first : (b : ℕ) (f : List ℕ) → is_character (b ∷ f) ≡ true → (b == 39) ≡ true
char_first b [] h = absurd cc
char_first b (x ∷ []) h = absurd cc
char_first b (x ∷ y ∷ []) h = (both (b == 39) _ (both _ _ h).0).0
char_first b (x ∷ y ∷ z ∷ []) h = (both (b == 39) _ (both _ _ (both _ _ h).0).0).0
char_first b (x ∷ y ∷ z ∷ w ∷ f) h = absurd cc

abbrev starts_kind : ℕ → List ℕ → Bool
starts_kind n m = starts (λ b. kind_of b == n) m

pub row_kind : (r : Row) (b : ℕ) (f : List ℕ) → Fits r (b ∷ f) → kind_of b ≡ kind_of_row r
row_kind row.Ident b f h = let t = both (is_nondigit b) _ h.0 in rw t.0 refl
row_kind row.Reserved b f h = true-eqb (kind_of b) 0 (sym (all_any (starts_kind 0) (b ∷ f) reserved_words h refl))
row_kind row.Int b f h = digit_kind b (int_first b f h.digits h.suffix h.whole h.number)
row_kind row.Char b f h = ap kind_of (true-eqb b 39 (sym (char_first b f h)))
row_kind row.Str b f h = ap kind_of (true-eqb b 34 (sym (both (b == 34) _ h).0))
row_kind row.Include b f h = let head : b ≡ 35 = head_of h.whole in ap kind_of head
  where
    head_of : {l : List ℕ} → b ∷ f ≡ 35 ∷ l → b ≡ 35
    head_of e = cc
row_kind row.Mark b f h = true-eqb (kind_of b) 5 (sym (all_any (starts_kind 5) (b ∷ f) marks h refl))

-- no token is empty
pub empty_fits : (r : Row) → Fits r [] → ⊥
empty_fits row.Ident h = let no : false ≡ true = h.0 in cc
empty_fits row.Reserved h = let no : false ≡ true = h in cc
empty_fits row.Int h = none h.digits h.suffix h.whole h.number
  where
    none : (digits suffix : List ℕ) → [] ≡ digits ++ suffix → is_number digits ≡ true → ⊥
    none [] suffix w n = let no : false ≡ true = n in cc
    none (d ∷ ds) suffix w n = cc
empty_fits row.Char h = let no : false ≡ true = h in cc
empty_fits row.Str h = let no : false ≡ true = h in cc
empty_fits row.Include h = none h.whole
  where
    none : {l : List ℕ} → [] ≡ 35 ∷ l → ⊥
    none e = cc
empty_fits row.Mark h = let no : false ≡ true = h in cc

abbrev pub name_row : List ℕ → Row
name_row text = if is_reserved text then row.Reserved else row.Ident

other_kind : (b n k : ℕ) → kind_of b ≡ n → kind_of b ≡ k → (n ≡ k → ⊥) → ⊥
other_kind b n k p q ne = ne (sym p ∙ q)

pub only_name : (r : Row) (b : ℕ) (f : List ℕ) → kind_of b ≡ 0 → Fits r (b ∷ f) → (is_identifier (b ∷ f) ≡ true) × (r ≡ name_row (b ∷ f))
only_name row.Ident b f k h = (h.0, rw h.1 refl)
only_name row.Reserved b f k h = (all_any is_identifier (b ∷ f) reserved_words h refl, rw h refl)
only_name row.Int b f k h = absurd (other_kind b 0 1 k (row_kind row.Int b f h) (λ e. omega arith))
only_name row.Char b f k h = absurd (other_kind b 0 2 k (row_kind row.Char b f h) (λ e. omega arith))
only_name row.Str b f k h = absurd (other_kind b 0 3 k (row_kind row.Str b f h) (λ e. omega arith))
only_name row.Include b f k h = absurd (other_kind b 0 4 k (row_kind row.Include b f h) (λ e. omega arith))
only_name row.Mark b f k h = absurd (other_kind b 0 5 k (row_kind row.Mark b f h) (λ e. omega arith))

row_of_kind : (r s : Row) → kind_of_row r ≡ kind_of_row s → (kind_of_row s ≡ 0 → ⊥) → r ≡ s
row_of_kind row.Ident s e ne = absurd (ne (sym e))
row_of_kind row.Reserved s e ne = absurd (ne (sym e))
row_of_kind row.Int row.Int e ne = refl
row_of_kind row.Char row.Char e ne = refl
row_of_kind row.Str row.Str e ne = refl
row_of_kind row.Include row.Include e ne = refl
row_of_kind row.Mark row.Mark e ne = refl
row_of_kind r s e ne = absurd (omega arith)

-- but for names, the first byte fixes the row
pub only_row : (s r : Row) (b : ℕ) (f : List ℕ) → kind_of b ≡ kind_of_row s → (kind_of_row s ≡ 0 → ⊥) → Fits r (b ∷ f) → r ≡ s
only_row s r b f k ne h = row_of_kind r s (sym (row_kind r b f h) ∙ k) ne

-- ---- from all tokens in front to what is said of the text

abbrev pub AtMost : List ℕ → ℕ → Type 0
AtMost bytes n = (f x : List ℕ) (r : Row) → f ++ x ≡ bytes → IsToken r f x → length f ≤ n

abbrev pub NoToken : List ℕ → Type 0
NoToken bytes = (f x : List ℕ) (r : Row) → f ++ x ≡ bytes → IsToken r f x → ⊥

pub found_says : (bytes : List ℕ) (r : Row) (n : ℕ) → n ≤ length bytes → 0 < n → IsToken r (take n bytes) (drop n bytes) → AtMost bytes n → Says bytes (Found r n)
found_says bytes r n le lt t most = (
  le,
  lt,
  record {
    token = t;
    longest = λ longer others s whole more tok. longer_not (length longer) (most longer others s (whole ∙ take-append-drop n bytes) tok) (length-take-le n bytes le) more;
  },
)
  where
    longer_not : (k : ℕ) → k ≤ n → length (take n bytes) ≡ n → length (take n bytes) < k → ⊥
    longer_not k a b c = omega arith

-- what is skipped begins with a blank or a slash
skip_head : (f x : List ℕ) → IsSkipped f x → starts (λ b. is_blank b || b == 47) f ≡ true
skip_head f x p = ⊎_elim (λ a. rw (a.1, a.2) refl) (⊎_elim (λ a. rw a.1 refl) (λ a. rw a.1 refl)) p

pub no_skip : (b : ℕ) (bs f x : List ℕ) → (is_blank b || b == 47) ≡ false → b ∷ bs ≡ f ++ x → IsSkipped f x → ⊥
no_skip b bs [] x other h p = clash (sym (skip_head [] x p))
no_skip b bs (a ∷ f) x other h p = let head : a ≡ b = cc in clash (sym (skip_head (a ∷ f) x p) ∙ ap (λ k. is_blank k || k == 47) head ∙ other)

pub empty_skip : (f x : List ℕ) → [] ≡ f ++ x → IsSkipped f x → ⊥
empty_skip [] x h p = clash (sym (skip_head [] x p))
empty_skip (a ∷ f) x h p = cc

pub stuck_says : (b : ℕ) (bs : List ℕ) → (is_blank b || b == 47) ≡ false → NoToken (b ∷ bs) → Says (b ∷ bs) Stuck
stuck_says b bs other none f x h = (no_skip b bs f x other h, λ r t. none f x r (sym h) t.token)

-- where the length of a token in front is the answer, and an answer is the length of one
pub literal_says : (r : Row) (b : ℕ) (bs : List ℕ) (o : Option ℕ) → (is_blank b || b == 47) ≡ false →
    ((n : ℕ) → o ≡ Some n → (n ≤ length (b ∷ bs)) × (0 < n) × IsToken r (take n (b ∷ bs)) (drop n (b ∷ bs))) →
    ((f x : List ℕ) (s : Row) → f ++ x ≡ b ∷ bs → IsToken s f x → o ≡ Some (length f)) → Says (b ∷ bs) (literal_at r o)
literal_says r b bs None other sound complete = stuck_says b bs other (λ f x s h t. none_some (length f) (complete f x s h t))
literal_says r b bs (Some n) other sound complete =
    let t = sound n refl in
    found_says (b ∷ bs) r n t.0 t.1 t.2 (λ f x s h tok. let e = some_same n (length f) (complete f x s h tok) in omega arith)
