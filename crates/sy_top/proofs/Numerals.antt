-- The number of a text digit by digit, up to the greatest, is the number that the text is.
use Rattle.std.proofs.Common.{◌≡◌, ℕ, ◌+◌, ◌-◌, ◌*◌, ◌<◌, ◌≤◌, Bool, true, false, List, [], ◌∷◌, fold, nat_le, Option, Some, None, refl, sym, ap, ◌∙◌, arith}
use Rattle.std.specs.Prelude.{◌&&◌, ◌||◌, not, length, ◌==◌, if◌then◌else◌}
use Rattle.std.specs.List.{list_all}
use Rattle.std.proofs.lemmas.Bool.Decides.{nat_tests}
use Rattle.sy_top.specs.Words.{is_digit, number_of, is_numeral, push_digit, number_within}

abbrev more : ℕ → ℕ → ℕ
more n b = 10 * n + (b - 48)

-- a number only grows by more digits
grows : (n : ℕ) (bs : List ℕ) → n ≤ fold more n bs
grows n [] = omega arith
grows n (b ∷ bs) = let h = grows (more n b) bs in omega arith

spent : (greatest : ℕ) (bs : List ℕ) → fold (push_digit greatest) None bs ≡ None
spent greatest [] = refl
spent greatest (b ∷ bs) = spent greatest bs

below : (n m : ℕ) → n ≤ m → nat_le n m ≡ true
below n m h = grind (arith, nat_tests)

above : (n m : ℕ) → m < n → nat_le n m ≡ false
above n m h = grind (arith, nat_tests)

is_below : (n m : ℕ) → nat_le n m ≡ true → n ≤ m
is_below n m h = grind (arith, nat_tests)

is_above : (n m : ℕ) → nat_le n m ≡ false → m < n
is_above n m h = grind (arith, nat_tests)

first_true : (a b : Bool) → (a && b) ≡ true → a ≡ true
first_true true b h = refl
first_true false b h = h

second_true : (a b : Bool) → (a && b) ≡ true → b ≡ true
second_true true b h = h
second_true false b h = cc

-- all that fits is taken
fits_in : (greatest n : ℕ) (bs : List ℕ) → list_all is_digit bs ≡ true → fold more n bs ≤ greatest → fold (push_digit greatest) (Some n) bs ≡ Some (fold more n bs)
fits_in greatest n [] d h = refl
fits_in greatest n (b ∷ bs) d h =
    let digit = first_true (is_digit b) (list_all is_digit bs) d in
    let g = grows (more n b) bs in
    let small : nat_le (more n b) greatest ≡ true = below (more n b) greatest (omega arith) in
    ap (λ t. fold (push_digit greatest) (if t && nat_le (more n b) greatest then Some (more n b) else None) bs) digit
    ∙ ap (λ t. fold (push_digit greatest) (if t then Some (more n b) else None) bs) small
    ∙ fits_in greatest (more n b) bs (second_true (is_digit b) (list_all is_digit bs) d) h

-- and no more
too_great : (greatest n : ℕ) (bs : List ℕ) → n ≤ greatest → list_all is_digit bs ≡ true → greatest < fold more n bs → fold (push_digit greatest) (Some n) bs ≡ None
too_great greatest n [] le d h = absurd (omega arith)
too_great greatest n (b ∷ bs) le d h =
    let digit = first_true (is_digit b) (list_all is_digit bs) d in
    let turn : (t : Bool) → nat_le (more n b) greatest ≡ t → fold (push_digit greatest) (if t then Some (more n b) else None) bs ≡ None = λ t. elim t as (λ t. nat_le (more n b) greatest ≡ t → fold (push_digit greatest) (if t then Some (more n b) else None) bs ≡ None) [
      | true ↦ λ e. too_great greatest (more n b) bs (is_below (more n b) greatest e) (second_true (is_digit b) (list_all is_digit bs) d) h
      | false ↦ λ e. spent greatest bs
    ] in
    ap (λ t. fold (push_digit greatest) (if t && nat_le (more n b) greatest then Some (more n b) else None) bs) digit
    ∙ turn (nat_le (more n b) greatest) refl

digits : (text : List ℕ) → is_numeral text ≡ true → list_all is_digit text ≡ true
digits [] h = refl
digits (b ∷ bs) h = first_true (list_all is_digit (b ∷ bs)) (not (b == 48) || length bs == 0) h

-- the two ways that the digits may go
data Ways (greatest n : ℕ) (r : Option ℕ) : Type 0 where
  taken : n ≤ greatest → r ≡ Some n → Ways greatest n r
  left : greatest < n → r ≡ None → Ways greatest n r

ways : (greatest : ℕ) (text : List ℕ) → is_numeral text ≡ true → Ways greatest (number_of text) (fold (push_digit greatest) (Some 0) text)
ways greatest text h =
    let turn : (t : Bool) → nat_le (number_of text) greatest ≡ t → Ways greatest (number_of text) (fold (push_digit greatest) (Some 0) text) = λ t. elim t as (λ t. nat_le (number_of text) greatest ≡ t → Ways greatest (number_of text) (fold (push_digit greatest) (Some 0) text)) [
      | true ↦ λ e. taken (is_below (number_of text) greatest e) (fits_in greatest 0 text (digits text h) (is_below (number_of text) greatest e))
      | false ↦ λ e. left (is_above (number_of text) greatest e) (too_great greatest 0 text (omega arith) (digits text h) (is_above (number_of text) greatest e))
    ] in
    turn (nat_le (number_of text) greatest) refl

abbrev number_if : Bool → Bool → Bool → ℕ → Option ℕ
number_if numeral low high n = if numeral && (low && high) then Some n else None

all_true : (numeral low high : Bool) (n : ℕ) → numeral ≡ true → low ≡ true → high ≡ true → number_if numeral low high n ≡ Some n
all_true numeral low high n e f g = ap (λ t. number_if t low high n) e ∙ ap (λ t. number_if true t high n) f ∙ ap (λ t. number_if true true t n) g

low_false : (numeral low high : Bool) (n : ℕ) → numeral ≡ true → low ≡ false → number_if numeral low high n ≡ None
low_false numeral low high n e f = ap (λ t. number_if t low high n) e ∙ ap (λ t. number_if true t high n) f

high_false : (numeral low high : Bool) (n : ℕ) → high ≡ false → number_if numeral low high n ≡ None
high_false true true high n e = ap (λ t. number_if true true t n) e
high_false true false high n e = refl
high_false false low high n e = refl

pub no_numeral : (least greatest : ℕ) (text : List ℕ) → is_numeral text ≡ false → None ≡ number_within least greatest text
unfolding number_within
no_numeral least greatest text e = sym (ap (λ t. number_if t (nat_le least (number_of text)) (nat_le (number_of text) greatest) (number_of text)) e)

pub no_number : (least greatest : ℕ) (text : List ℕ) → is_numeral text ≡ true → fold (push_digit greatest) (Some 0) text ≡ None → None ≡ number_within least greatest text
unfolding number_within
no_number least greatest text e f = elim (ways greatest text e) [
  | taken le g ↦ cc
  | left lt g ↦ sym (high_false (is_numeral text) (nat_le least (number_of text)) (nat_le (number_of text) greatest) (number_of text) (above (number_of text) greatest lt))
]

some_is : (n m : ℕ) (r : Option ℕ) → r ≡ Some n → r ≡ Some m → n ≡ m
some_is n m r e f = cc

pub a_number : (least greatest n : ℕ) (text : List ℕ) → is_numeral text ≡ true → fold (push_digit greatest) (Some 0) text ≡ Some n → least ≤ n → Some n ≡ number_within least greatest text
unfolding number_within
a_number least greatest n text e f le = elim (ways greatest text e) [
  | taken small g ↦
      let same : n ≡ number_of text = some_is n (number_of text) _ f g in
      ap Some same ∙ sym (all_true (is_numeral text) (nat_le least (number_of text)) (nat_le (number_of text) greatest) (number_of text) e (below least (number_of text) (omega arith)) (below (number_of text) greatest small))
  | left lt g ↦ cc
]

pub too_little : (least greatest n : ℕ) (text : List ℕ) → is_numeral text ≡ true → fold (push_digit greatest) (Some 0) text ≡ Some n → n < least → None ≡ number_within least greatest text
unfolding number_within
too_little least greatest n text e f lt = elim (ways greatest text e) [
  | taken small g ↦
      let same : n ≡ number_of text = some_is n (number_of text) _ f g in
      sym (low_false (is_numeral text) (nat_le least (number_of text)) (nat_le (number_of text) greatest) (number_of text) e (above least (number_of text) (omega arith)))
  | left big g ↦ cc
]
