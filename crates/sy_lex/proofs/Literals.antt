-- Characters, strings and directives.
use Rattle.std.proofs.Common.{◌≡◌, ℕ, suc, ◌+◌, ◌<◌, ◌≤◌, Bool, true, false, not, ◌&&◌, ◌==◌, nat_eq, List, [], ◌∷◌, ◌++◌, length, take, drop, codes, Option, Some, None, ⊎_elim, refl, sym, ap, ◌∙◌, subst, true-eqb, arith, append_assoc, length-append, take-append-drop}
use Rattle.std.specs.List.{list_all, list_any, prefix_len, starts_with}
use Rattle.std.specs.Str.{bytes_eq}
use Rattle.std.proofs.lemmas.Slice.Eq.{bytes_eq-Decides}
use Rattle.std.proofs.lemmas.List.Folds.{length-prefix_len}
use Rattle.sy_lex.specs.declared.Row.{Row}
use Rattle.sy_lex.specs.declared.Row.TheVariants as row
use Rattle.sy_lex.specs.Rows.{is_space, is_character_byte, is_escape_code, is_character, is_string_rest, is_string, headers, IsInclude, Fits}
use Rattle.sy_lex.specs.Tokens.{starts, is_spoiled, IsToken}
use Rattle.sy_lex.specs.Front.{character_len, string_from, literal_at, header_len, plus, spaced_header_len, named_len, include_len}
use Rattle.sy_lex.proofs.Says.{Says}
use Rattle.sy_lex.proofs.Tables.{both, both_in, clash, not_true, choice, some_same, none_some, all_any}
use Rattle.sy_lex.proofs.Texts.{take_front, within, run_all, run_len, drop_front}
use Rattle.sy_lex.proofs.FirstBytes.{kind_of, empty_fits, only_row, literal_says}
use Rattle.sy_lex.proofs.Strings.{string_sound, string_complete}

-- a front of the bytes, by its length
front_token : (r : Row) (front rest bytes : List ℕ) (n : ℕ) → front ++ rest ≡ bytes → n ≡ length front → 0 < length front → Fits r front → ((text others : List ℕ) → is_spoiled r text others ≡ false) →
    (n ≤ length bytes) × (0 < n) × IsToken r (take n bytes) (drop n bytes)
front_token r front rest bytes n w e some f clean =
    let le = within front rest bytes w in
    let taken : front ≡ take n bytes = take_front front rest bytes w ∙ ap (λ k. take k bytes) (sym e) in
    (omega arith, omega arith, record { fits = subst (Fits r) taken f; clean = clean (take n bytes) (drop n bytes) })

-- ---- characters

three_is : (b c : ℕ) (bs : List ℕ) → (is_character_byte b && c == 39) ≡ true → (n : ℕ) → 3 ≡ n → (n ≤ length (39 ∷ b ∷ c ∷ bs)) × (0 < n) × IsToken row.Char (take n (39 ∷ b ∷ c ∷ bs)) (drop n (39 ∷ b ∷ c ∷ bs))
three_is b c bs h n e = let t = both (is_character_byte b) (c == 39) h in front_token row.Char (39 ∷ b ∷ c ∷ []) bs (39 ∷ b ∷ c ∷ bs) n refl (sym e) (omega arith) (both_in _ _ t.0 t.1) (λ u v. refl)

character_sound : (bs : List ℕ) (n : ℕ) → character_len bs ≡ Some n → (n ≤ length (39 ∷ bs)) × (0 < n) × IsToken row.Char (take n (39 ∷ bs)) (drop n (39 ∷ bs))
character_sound [] n h = absurd (none_some n h)
character_sound (b ∷ []) n h = absurd (none_some n h)
character_sound (b ∷ c ∷ []) n h = ⊎_elim (λ p. three_is b c [] p.0 n (some_same 3 n p.1)) (λ p. absurd (none_some n p.1)) (choice (is_character_byte b && c == 39) (Some 3) None (Some n) h)
character_sound (b ∷ c ∷ d ∷ bs) n h =
    ⊎_elim (λ p. three_is b c (d ∷ bs) p.0 n (some_same 3 n p.1))
    (λ p. ⊎_elim (λ q.
    let t = both (b == 92 && is_escape_code c) (d == 39) q.0 in
    front_token row.Char (39 ∷ b ∷ c ∷ d ∷ []) bs (39 ∷ b ∷ c ∷ d ∷ bs) n refl (sym (some_same 4 n q.1)) (omega arith) (both_in _ _ t.0 t.1) (λ u v. refl))
    (λ q. absurd (none_some n q.1)) (choice (b == 92 && is_escape_code c && d == 39) (Some 4) None (Some n) p.1))
    (choice (is_character_byte b && c == 39) (Some 3) _ (Some n) h)

character_three : (b e : ℕ) (x : List ℕ) → is_character_byte b ≡ true → (e == 39) ≡ true → character_len (b ∷ e ∷ x) ≡ Some 3
character_three b e [] h k = rw (h, k) refl
character_three b e (d ∷ x) h k = rw (h, k) refl

character_complete : (f x bs : List ℕ) → f ++ x ≡ 39 ∷ bs → is_character f ≡ true → character_len bs ≡ Some (length f)
character_complete [] x bs h k = absurd (clash (sym k))
character_complete (q ∷ []) x bs h k = absurd (clash (sym k))
character_complete (q ∷ b ∷ []) x bs h k = absurd (clash (sym k))
character_complete (q ∷ b ∷ e ∷ []) x bs h k =
    let t = both (q == 39 && is_character_byte b) (e == 39) k in
    let tail : bs ≡ b ∷ e ∷ x = cc in
    ap character_len tail ∙ character_three b e x (both (q == 39) (is_character_byte b) t.0).1 t.1
character_complete (q ∷ s ∷ b ∷ e ∷ []) x bs h k =
    let t = both (q == 39 && s == 92 && is_escape_code b) (e == 39) k in
    let u = both (q == 39 && s == 92) (is_escape_code b) t.0 in
    let v = both (q == 39) (s == 92) u.0 in
    let tail : bs ≡ s ∷ b ∷ e ∷ x = cc in
    let slash = true-eqb s 92 (sym v.1) in
    ap character_len tail ∙ rw (slash, u.1, t.1) refl
character_complete (q ∷ s ∷ b ∷ e ∷ d ∷ f) x bs h k = absurd (clash (sym k))

character_token : (f x bs : List ℕ) (r : Row) → f ++ x ≡ 39 ∷ bs → IsToken r f x → character_len bs ≡ Some (length f)
character_token [] x bs r h t = absurd (empty_fits r t.fits)
character_token (a ∷ f) x bs r h t =
    let head : a ≡ 39 = cc in
    let is = only_row row.Char r a f (ap kind_of head) (λ e. omega arith) t.fits in
    character_complete (a ∷ f) x bs h (subst (λ q. Fits q (a ∷ f)) is t.fits)

pub character_says : (bs : List ℕ) → Says (39 ∷ bs) (literal_at row.Char (character_len bs))
character_says bs = literal_says row.Char 39 bs (character_len bs) refl (character_sound bs) (λ f x s h t. character_token f x bs s h t)

-- ---- strings

string_sound_at : (bs : List ℕ) (n : ℕ) → string_from 1 bs ≡ Some n → (n ≤ length (34 ∷ bs)) × (0 < n) × IsToken row.Str (take n (34 ∷ bs)) (drop n (34 ∷ bs))
string_sound_at bs n h =
    let s = string_sound bs 1 n h in
    front_token row.Str (34 ∷ s.text) s.rest (34 ∷ bs) n (ap (λ v. 34 ∷ v) s.whole) (count s.text s.count) (omega arith) s.closed (λ u v. refl)
  where
    count : (u : List ℕ) → n ≡ 1 + length u → n ≡ length (34 ∷ u)
    count u e = omega arith

string_token : (f x bs : List ℕ) (r : Row) → f ++ x ≡ 34 ∷ bs → IsToken r f x → string_from 1 bs ≡ Some (length f)
string_token [] x bs r h t = absurd (empty_fits r t.fits)
string_token (a ∷ f) x bs r h t =
    let head : a ≡ 34 = cc in
    let tail : bs ≡ f ++ x = cc in
    let is = only_row row.Str r a f (ap kind_of head) (λ e. omega arith) t.fits in
    let string : is_string (a ∷ f) ≡ true = subst (λ q. Fits q (a ∷ f)) is t.fits in
    ap (string_from 1) tail ∙ string_complete f x 1 (both (a == 34) (is_string_rest f) string).1 ∙ ap Some (count f)
  where
    count : (u : List ℕ) → 1 + length u ≡ suc (length u)
    count u = omega arith

pub string_says : (bs : List ℕ) → Says (34 ∷ bs) (literal_at row.Str (string_from 1 bs))
string_says bs = literal_says row.Str 34 bs (string_from 1 bs) refl (string_sound_at bs) (λ f x s h t. string_token f x bs s h t)

-- ---- directives

abbrev is_len : Option ℕ → ℕ → Bool
is_len None n = false
is_len (Some k) n = k == n

len_is : (o : Option ℕ) (n : ℕ) → is_len o n ≡ true → o ≡ Some n
len_is None n h = absurd (clash (sym h))
len_is (Some k) n h = ap Some (true-eqb k n (sym h))

header_there : (h x : List ℕ) → list_any (bytes_eq h) headers ≡ true → header_len (h ++ x) ≡ Some (length h)
header_there h x k = len_is _ _ (all_any (λ m. is_len (header_len (m ++ x)) (length m)) h headers k refl)

header_space : (h x : List ℕ) → list_any (bytes_eq h) headers ≡ true → starts is_space (h ++ x) ≡ false
header_space h x k = not_true _ (all_any (λ m. not (starts is_space (m ++ x))) h headers k refl)

spaced_there : (right header x : List ℕ) → list_all is_space right ≡ true → list_any (bytes_eq header) headers ≡ true → spaced_header_len (right ++ (header ++ x)) ≡ Some (length right + length header)
spaced_there right header x a k = rw (run_len is_space right (header ++ x) a (header_space header x k), drop_front right (header ++ x), header_there header x k) refl

named_there : (tail : List ℕ) (n : ℕ) → spaced_header_len tail ≡ Some n → named_len (codes "include" ++ tail) ≡ Some (7 + n)
named_there tail n h = ap (plus 7) h

include_there : (left tail : List ℕ) (n : ℕ) → list_all is_space left ≡ true → starts is_space tail ≡ false → named_len tail ≡ Some n → include_len (left ++ tail) ≡ Some (1 + length left + n)
include_there left tail n a s h = rw (run_len is_space left tail a s, drop_front left tail, h) refl

include_complete : (f x bs : List ℕ) → f ++ x ≡ 35 ∷ bs → IsInclude f → include_len bs ≡ Some (length f)
include_complete f x bs h i =
    let whole : 35 ∷ ((i.left ++ (codes "include" ++ (i.right ++ i.header))) ++ x) ≡ 35 ∷ bs = ap (λ v. v ++ x) (sym i.whole) ∙ h in
    let tail : (i.left ++ (codes "include" ++ (i.right ++ i.header))) ++ x ≡ bs = cc in
    ap include_len (sym tail ∙ apart i.left i.right i.header)
    ∙ include_there i.left (codes "include" ++ (i.right ++ (i.header ++ x))) (7 + (length i.right + length i.header)) i.left_blank refl
    (named_there (i.right ++ (i.header ++ x)) (length i.right + length i.header) (spaced_there i.right i.header x i.right_blank i.known))
    ∙ ap Some (count i.left i.right i.header ∙ ap length (sym i.whole))
  where
    apart : (l r k : List ℕ) → (l ++ (codes "include" ++ (r ++ k))) ++ x ≡ l ++ (codes "include" ++ (r ++ (k ++ x)))
    apart l r k = append_assoc l (codes "include" ++ (r ++ k)) x ∙ ap (λ v. l ++ v) (append_assoc (codes "include") (r ++ k) x ∙ ap (λ v. codes "include" ++ v) (append_assoc r k x))

    count : (l r k : List ℕ) → 1 + length l + (7 + (length r + length k)) ≡ length (35 ∷ (l ++ (codes "include" ++ (r ++ k))))
    count l r k = omega (arith, length-append l (codes "include" ++ (r ++ k)), length-append (codes "include") (r ++ k), length-append r k)

include_token : (f x bs : List ℕ) (r : Row) → f ++ x ≡ 35 ∷ bs → IsToken r f x → include_len bs ≡ Some (length f)
include_token [] x bs r h t = absurd (empty_fits r t.fits)
include_token (a ∷ f) x bs r h t =
    let head : a ≡ 35 = cc in
    let is = only_row row.Include r a f (ap kind_of head) (λ e. omega arith) t.fits in
    include_complete (a ∷ f) x bs h (subst (λ q. Fits q (a ∷ f)) is t.fits)

needle_front : (t needle : List ℕ) → starts_with nat_eq t needle ≡ true → t ≡ needle ++ drop (length needle) t
needle_front t needle h = sym (take-append-drop (length needle) t) ∙ ap (λ v. v ++ drop (length needle) t) (sym ((bytes_eq-Decides needle (take (length needle) t)).0 h))

abbrev Header : List ℕ → ℕ → Type 0
Header t n = (header rest : List ℕ) × (t ≡ header ++ rest) × (list_any (bytes_eq header) headers ≡ true) × (length header ≡ n)

header_is : (t header : List ℕ) (k n : ℕ) → starts_with nat_eq t header ≡ true → list_any (bytes_eq header) headers ≡ true → length header ≡ k → Some k ≡ Some n → Header t n
header_is t header k n h known len e = (header, drop (length header) t, needle_front t header h, known, len ∙ some_same k n e)

header_sound : (t : List ℕ) (n : ℕ) → header_len t ≡ Some n → Header t n
header_sound t n h =
    ⊎_elim (λ p. header_is t (codes "<sycl/sycl.hpp>") 15 n p.0 refl refl p.1)
    (λ p. ⊎_elim (λ q. header_is t (codes "<iostream>") 10 n q.0 refl refl q.1)
    (λ q. ⊎_elim (λ u. header_is t (codes "<vector>") 8 n u.0 refl refl u.1)
    (λ u. ⊎_elim (λ v. header_is t (codes "<thread>") 8 n v.0 refl refl v.1)
    (λ v. ⊎_elim (λ w. header_is t (codes "<cstdint>") 9 n w.0 refl refl w.1) (λ w. absurd (none_some n w.1))
    (choice _ _ _ _ v.1)) (choice _ _ _ _ u.1)) (choice _ _ _ _ q.1)) (choice _ _ _ _ p.1)) (choice _ _ _ _ h)

plus_some : (k : ℕ) (o : Option ℕ) (n : ℕ) → plus k o ≡ Some n → (m : ℕ) × (o ≡ Some m) × (k + m ≡ n)
plus_some k None n h = absurd (none_some n h)
plus_some k (Some m) n h = (m, refl, some_same (k + m) n h)

abbrev Spaced : List ℕ → ℕ → Type 0
Spaced t n = (right header rest : List ℕ) × (t ≡ right ++ (header ++ rest)) × (list_all is_space right ≡ true) × (list_any (bytes_eq header) headers ≡ true) × (length right + length header ≡ n)

run_length : (p : ℕ → Bool) (l : List ℕ) → length (take (prefix_len p l) l) ≡ prefix_len p l
run_length p l = length-prefix_len p l

spaced_sound : (t : List ℕ) (n : ℕ) → spaced_header_len t ≡ Some n → Spaced t n
spaced_sound t n h =
    let k = prefix_len is_space t in
    let p = plus_some k (header_len (drop k t)) n h in
    let q = header_sound (drop k t) p.0 p.1 in
    let right_len = run_length is_space t in
    (take k t, q.0, q.1, sym (take-append-drop k t) ∙ ap (λ v. take k t ++ v) q.2, run_all is_space t, q.3, omega (arith, right_len, q.4, p.2))

record Named (t : List ℕ) (n : ℕ) : Type 0 where
  tail : List ℕ
  len : ℕ
  whole : t ≡ codes "include" ++ tail
  spaced : Spaced tail len
  count : 7 + len ≡ n

named_sound : (t : List ℕ) (n : ℕ) → named_len t ≡ Some n → Named t n
named_sound t n h =
    ⊎_elim (λ p.
    let q = plus_some 7 (spaced_header_len (drop 7 t)) n p.1 in
    record { tail = drop 7 t; len = q.0; whole = needle_front t (codes "include") p.0; spaced = spaced_sound (drop 7 t) q.0 q.1; count = q.2 })
    (λ p. absurd (none_some n p.1)) (choice (starts_with nat_eq t (codes "include")) (plus 7 (spaced_header_len (drop 7 t))) None (Some n) h)

include_front : (bs left right header rest : List ℕ) (n : ℕ) → bs ≡ left ++ (codes "include" ++ (right ++ (header ++ rest))) → list_all is_space left ≡ true → list_all is_space right ≡ true →
    list_any (bytes_eq header) headers ≡ true → 1 + length left + (7 + (length right + length header)) ≡ n → (n ≤ length (35 ∷ bs)) × (0 < n) × IsToken row.Include (take n (35 ∷ bs)) (drop n (35 ∷ bs))
include_front bs left right header rest n w a b k e =
    front_token row.Include (35 ∷ (left ++ (codes "include" ++ (right ++ header)))) rest (35 ∷ bs) n (ap (λ v. 35 ∷ v) (together ∙ sym w)) (sym e ∙ count) (omega arith)
    (record { left = left; right = right; header = header; whole = refl; left_blank = a; right_blank = b; known = k }) (λ u v. refl)
  where
    together : (left ++ (codes "include" ++ (right ++ header))) ++ rest ≡ left ++ (codes "include" ++ (right ++ (header ++ rest)))
    together = append_assoc left (codes "include" ++ (right ++ header)) rest
        ∙ ap (λ v. left ++ v) (append_assoc (codes "include") (right ++ header) rest ∙ ap (λ v. codes "include" ++ v) (append_assoc right header rest))

    count : 1 + length left + (7 + (length right + length header)) ≡ length (35 ∷ (left ++ (codes "include" ++ (right ++ header))))
    count = omega (arith, length-append left (codes "include" ++ (right ++ header)), length-append (codes "include") (right ++ header), length-append right header)

include_sound : (bs : List ℕ) (n : ℕ) → include_len bs ≡ Some n → (n ≤ length (35 ∷ bs)) × (0 < n) × IsToken row.Include (take n (35 ∷ bs)) (drop n (35 ∷ bs))
include_sound bs n h =
    let k = prefix_len is_space bs in
    let p = plus_some (1 + k) (named_len (drop k bs)) n h in
    let q = named_sound (drop k bs) p.0 p.1 in
    let s = q.spaced in
    let left_len = run_length is_space bs in
    include_front bs (take k bs) s.0 s.1 s.2 n (sym (take-append-drop k bs) ∙ ap (λ v. take k bs ++ v) (q.whole ∙ ap (λ v. codes "include" ++ v) s.3)) (run_all is_space bs) s.4 s.5
    (omega (arith, left_len, s.6, q.count, p.2))

pub include_says : (bs : List ℕ) → Says (35 ∷ bs) (literal_at row.Include (include_len bs))
include_says bs = literal_says row.Include 35 bs (include_len bs) refl (include_sound bs) (λ f x s h t. include_token f x bs s h t)
