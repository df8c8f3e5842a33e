-- Asks that make a buffer or change none, as events of the core that the copies show.
use Rattle.std.proofs.Common.{◌≡◌, ◌≢◌, ℕ, zero, suc, ◌+◌, ◌<◌, ◌≤◌, ℤ, List, [], ◌∷◌, ◌++◌, length, true, false, Option, Some, None, refl, sym, ap, ◌∙◌, subst, inl, inr, arith}
use Rattle.std.specs.Prelude.{slice_get, unwrap_or, IsSome, ◌==◌, if◌then◌else◌}
use Rattle.std.proofs.lemmas.Bool.{cases_eq}
use Rattle.std.proofs.lemmas.Bool.Decides.{nat_tests}
use Rattle.std.proofs.lemmas.Option.{slice_get_within}
use Rattle.sy_work.specs.declared.asks.Ask.{Ask}
use Rattle.sy_onecopy.specs.declared.Buffer.{Buffer as Values}
use Rattle.sy_onecopy.specs.State.{Board}
use Rattle.sy_onecopy.specs.Outcome.{values_at, values_of}
use Rattle.sy_onecopy.specs.Step.{apply, begin_ask, add_buffer}
use Rattle.sy_settling.proofs.ListLemmas.{some_is}
use Rattle.sy_copies.specs.declared.buffer.Buffer.{Buffer}
use Rattle.sy_copies.specs.Places.{zeros}
use Rattle.sy_copies.specs.Current.{buffer_at, copy_of, copy_at, len_at}
use Rattle.sy_copies.specs.Calls.{Makes, first_copy}
use Rattle.sy_coreboard.specs.Core.{Core, IsKept}
use Rattle.sy_coreboard.specs.Events.{Asks, keeps_copies}
use Rattle.sy_coreboard.specs.Sources.{IsLive}
use Rattle.sy_coreboard.proofs.LiveLemmas.{Lives, apply-lives, lives_begin_ask, lives_back, below_or_not}
use Rattle.sy_coreboard.proofs.AskLemmas.{Quiet, apply-quiet, quiet_begin_ask}
use Rattle.sy_corelinks.specs.Shown.{Shows}

asked-quiet : (c : Core) (t : ℕ) (q : Ask) → keeps_copies q ≡ true → Quiet c.board (apply (begin_ask c.board t) t q)
asked-quiet c t q h = quiet_begin_ask c.board t q (apply-quiet (begin_ask c.board t) t q h)

asked-lives : (c : Core) (t : ℕ) (q : Ask) → keeps_copies q ≡ true → Lives c.board (apply (begin_ask c.board t) t q)
asked-lives c t q h = lives_begin_ask c.board t (apply (begin_ask c.board t) t q) (apply-lives (begin_ask c.board t) t q h)

values_past : (xs : List Values) (r : ℕ) → length xs ≤ r → values_at xs r ≡ []
values_past [] r h = refl
values_past (x ∷ xs) zero h = absurd (omega (arith, h))
values_past (x ∷ xs) (suc r) h = values_past xs r (omega (arith, h))

-- beyond two lists of one length there are no numbers
same_past : (xs ys : List Values) (r : ℕ) → length ys ≡ length xs → length xs ≤ r → values_at ys r ≡ values_at xs r
same_past xs ys r n le = values_past ys r (omega (arith, n, le)) ∙ sym (values_past xs r le)

-- ---- no buffer is made

pub asks_core : (copies : List (Option Buffer)) (c : Core) (t : ℕ) (q : Ask) → keeps_copies q ≡ true → length (apply (begin_ask c.board t) t q).buffers ≡ length c.board.buffers → IsKept c → Shows copies c → (d : Core) × Asks c d t q × Shows copies d
asks_core copies c t q h n kept s =
    let board = apply (begin_ask c.board t) t q in
    let quiet = asked-quiet c t q h in
    let lives = asked-lives c t q h in
    let d : Core = record { board = board; copies = c.copies; out = c.out; moving = c.moving } in
    let within = λ (r : ℕ) (l : IsLive board r). (let lt : r < length c.board.buffers = (let w = slice_get_within board.buffers r l.root l.there in omega (arith, w, n)) in lt) in
    let past = λ (p r : ℕ) (v : List ℤ) (le : length c.board.buffers ≤ r) (e : c.copies p r ≡ Some v). (let z : v ≡ values_at board.buffers r = kept.copies p r v e ∙ sym (same_past c.board.buffers board.buffers r n le) in z) in
    let event : Asks c d t q = record {
      board = refl;
      copies = λ p r lt. refl;
      fresh = λ p r v le e. past p r v le e;
      out = λ j. refl;
      moving = λ p r. refl;
      sources = λ r le l. absurd (let w = within r l in omega (arith, le, w));
    } in
    let shown : Shows copies d = record {
      count = s.count ∙ sym n;
      values = s.values;
      lens = λ r l. (let lt = within r l in s.lens r (lives_back c.board board r lives lt l) ∙ ap (λ x. Some (length x)) (sym (quiet.values r lt)));
    } in
    (d, event, shown)

-- ---- a buffer is made

beyond : (copies : List (Option Buffer)) (r : ℕ) → length copies ≤ r → buffer_at copies r ≡ None
beyond [] r h = refl
beyond (x ∷ xs) zero h = absurd (omega (arith, h))
beyond (x ∷ xs) (suc r) h = beyond xs r (omega (arith, h))

none_beyond : (copies : List (Option Buffer)) (p r : ℕ) → length copies ≤ r → copy_at copies p r ≡ None
unfolding copy_at
none_beyond copies p r h = ap (λ o. copy_of o p) (beyond copies r h)

first_is : (init : Option (List ℤ)) (len p : ℕ) (v : List ℤ) → first_copy len init p ≡ Some v → v ≡ unwrap_or init (zeros len)
first_is None len p v h = sym (some_is h)
first_is (Some x) len zero v h = sym (some_is h)
first_is (Some x) len (suc p) v h = absurd (let t : (0 == suc p) ≡ false = grind (arith, nat_tests) in let z : None ≡ Some v = sym (ap (λ b. if b then Some x else None) t) ∙ h in cc)

first_here : (init : Option (List ℤ)) (len : ℕ) → IsSome (first_copy len init 0)
first_here None len = refl
first_here (Some x) len = refl

at_last : (xs : List Values) (x : Values) → slice_get (xs ++ x ∷ []) (length xs) ≡ Some x
at_last [] x = refl
at_last (y ∷ ys) x = at_last ys x

is_one : (n : ℕ) → (n == n) ≡ true
is_one n = grind (arith, nat_tests)

is_other : (n r : ℕ) → n ≢ r → (n == r) ≡ false
is_other n r h = grind (arith, nat_tests)

-- an ask that makes a buffer of so many elements, with these numbers or zeros
record Making (old new : List (Option Buffer)) (c : Core) (t : ℕ) (q : Ask) (x : Values) (len : ℕ) (init : Option (List ℤ)) (n : ℕ) : Type 0 where
  plain : keeps_copies q ≡ true
  added : apply (begin_ask c.board t) t q ≡ add_buffer (begin_ask c.board t) t x
  numbers : x.values ≡ unwrap_or init (zeros len)
  counted : length x.values ≡ len
  kept : IsKept c
  shows : Shows old c
  makes : Makes old new len init n

-- the number is that of the board's new buffer
number_is : (old new : List (Option Buffer)) (c : Core) (t : ℕ) (q : Ask) (x : Values) (len : ℕ) (init : Option (List ℤ)) (n : ℕ) → Making old new c t q x len init n → n ≡ length c.board.buffers
number_is old new c t q x len init n m = m.makes.number ∙ m.shows.count

last_values : (old new : List (Option Buffer)) (c : Core) (t : ℕ) (q : Ask) (x : Values) (len : ℕ) (init : Option (List ℤ)) (n : ℕ) → Making old new c t q x len init n → values_at (apply (begin_ask c.board t) t q).buffers n ≡ x.values
last_values old new c t q x len init n m =
    ap (λ (b : Board). values_at b.buffers n) m.added
    ∙ ap (λ i. values_at (c.board.buffers ++ x ∷ []) i) (number_is old new c t q x len init n m)
    ∙ ap values_of (at_last c.board.buffers x)

length_more : (xs : List Values) (x : Values) → length (xs ++ x ∷ []) ≡ length xs + 1
length_more [] x = refl
length_more (y ∷ ys) x = let h = length_more ys x in omega (arith, h)

made-fresh : (old new : List (Option Buffer)) (c : Core) (t : ℕ) (q : Ask) (x : Values) (len : ℕ) (init : Option (List ℤ)) (n : ℕ) → Making old new c t q x len init n → (p r : ℕ) (v : List ℤ) → length c.board.buffers ≤ r → copy_at new p r ≡ Some v → v ≡ values_at (apply (begin_ask c.board t) t q).buffers r
made-fresh old new c t q x len init n m p r v le h = elim (cases_eq n r) [
  | inl e ↦
      let first : first_copy len init p ≡ Some v = sym (m.makes.copies p r ∙ ap (λ b. if b then first_copy len init p else copy_at old p r) (ap (λ i. n == i) (sym e) ∙ is_one n)) ∙ h in
      first_is init len p v first ∙ sym m.numbers ∙ sym (last_values old new c t q x len init n m) ∙ ap (values_at (apply (begin_ask c.board t) t q).buffers) e
  | inr ne ↦
      let past : length old ≤ r = (let s = m.shows.count in omega (arith, le, s)) in
      absurd (let z : None ≡ Some v = sym (m.makes.copies p r ∙ ap (λ b. if b then first_copy len init p else copy_at old p r) (is_other n r ne) ∙ none_beyond old p r past) ∙ h in cc)
]

made-kept : (old new : List (Option Buffer)) (c : Core) (t : ℕ) (q : Ask) (x : Values) (len : ℕ) (init : Option (List ℤ)) (n : ℕ) → Making old new c t q x len init n → (p r : ℕ) → r < length c.board.buffers → copy_at new p r ≡ c.copies p r
made-kept old new c t q x len init n m p r lt =
    let ne : n ≢ r = λ e. (let i = number_is old new c t q x len init n m in absurd (omega (arith, lt, i, e))) in
    m.makes.copies p r ∙ ap (λ b. if b then first_copy len init p else copy_at old p r) (is_other n r ne) ∙ sym (m.shows.values p r)

pub makes_core : (old new : List (Option Buffer)) (c : Core) (t : ℕ) (q : Ask) (x : Values) (len : ℕ) (init : Option (List ℤ)) (n : ℕ) → keeps_copies q ≡ true → apply (begin_ask c.board t) t q ≡ add_buffer (begin_ask c.board t) t x → x.values ≡ unwrap_or init (zeros len) → length x.values ≡ len → IsKept c → Shows old c → Makes old new len init n → (d : Core) × Asks c d t q × Shows new d
makes_core old new c t q x len init n h added numbers counted kept s f =
    let m : Making old new c t q x len init n = record { plain = h; added = added; numbers = numbers; counted = counted; kept = kept; shows = s; makes = f } in
    let board = apply (begin_ask c.board t) t q in
    let quiet = asked-quiet c t q h in
    let lives = asked-lives c t q h in
    let i = number_is old new c t q x len init n m in
    let longer : length board.buffers ≡ length c.board.buffers + 1 = ap (λ (b : Board). length b.buffers) added ∙ length_more c.board.buffers x in
    let d : Core = record { board = board; copies = λ p r. copy_at new p r; out = c.out; moving = c.moving } in
    let last = λ (r : ℕ) (l : IsLive board r) (le : length c.board.buffers ≤ r). (let e : n ≡ r = (let w = slice_get_within board.buffers r l.root l.there in omega (arith, w, longer, le, i)) in e) in
    let event : Asks c d t q = record {
      board = refl;
      copies = λ p r lt. made-kept old new c t q x len init n m p r lt;
      fresh = λ p r v le e. made-fresh old new c t q x len init n m p r v le e;
      out = λ j. refl;
      moving = λ p r. refl;
      sources = λ r le l. (0, subst IsSome (sym (f.copies 0 r ∙ ap (λ b. if b then first_copy len init 0 else copy_at old 0 r) (ap (λ j. n == j) (sym (last r l le)) ∙ is_one n))) (first_here init len));
    } in
    let shown : Shows new d = record {
      count = f.made ∙ ap (λ j. j + 1) s.count ∙ sym longer;
      values = λ p r. refl;
      lens = λ r l. elim (below_or_not r (length c.board.buffers)) [
        | inl lt ↦
            let ne : n ≢ r = λ e. absurd (omega (arith, lt, i, e)) in
            f.lens r ∙ ap (λ b. if b then Some len else len_at old r) (is_other n r ne) ∙ s.lens r (lives_back c.board board r lives lt l) ∙ ap (λ v. Some (length v)) (sym (quiet.values r lt))
        | inr le ↦
            let e = last r l le in
            f.lens r ∙ ap (λ b. if b then Some len else len_at old r) (ap (λ j. n == j) (sym e) ∙ is_one n)
            ∙ ap Some (sym counted) ∙ ap (λ v. Some (length v)) (sym (last_values old new c t q x len init n m)) ∙ ap (λ j. Some (length (values_at board.buffers j))) e
      ];
    } in
    (d, event, shown)
