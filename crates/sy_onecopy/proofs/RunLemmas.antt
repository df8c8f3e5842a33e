-- A run goes on until it ends, and its order decides the rest.
use Rattle.std.proofs.Common.{◌≡◌, ℕ, suc, ℤ, ◌^◌, List, [], ◌∷◌, ◌++◌, Bool, true, false, Option, Some, None, refl, sym, ap, ◌∙◌, subst}
use Rattle.std.specs.Prelude.{◌&&◌, nat_lt, if◌then◌else◌}
use Rattle.sy_work.specs.Programs.{Program}
use Rattle.sy_work.specs.declared.endings.Ending.{Ending}
use Rattle.sy_work.specs.declared.endings.Ending.TheVariants.{HistoryFull}
use Rattle.sy_onecopy.specs.declared.Entry.{Entry}
use Rattle.sy_onecopy.specs.State.{State, start}
use Rattle.sy_onecopy.specs.Step.{step}
use Rattle.sy_onecopy.specs.Copies.{copies, pairs_from, pairs_after, version_after, version_from, made_after, made_from}
use Rattle.sy_onecopy.specs.Sequence.{may_step, is_legal, seq_from, first_from, first_thread, ending_of_threads, ending_by_main, ending_by_step, ending, value_of_main, IsSerial, IsRun}
use Rattle.sy_onecopy.proofs.StepLemmas.{ended_is_final}

-- ---- a state without an ending

some_none : {A B : Type 0} {x : A} → Some x ≡ None → B
some_none e = absurd (let z : ⊥ = cc in z)

in_time : (v : Bool) → (if v then None else Some HistoryFull) ≡ None → v ≡ true
in_time true h = refl
in_time false h = some_none h

found : {A : Type 0} (test : ℕ → Bool) (k t : ℕ) (xs : List A) (rest : first_from test (suc k) xs ≡ Some t → test t ≡ true) (v : Bool) → test k ≡ v → (if v then Some k else first_from test (suc k) xs) ≡ Some t → test t ≡ true
found test k t xs rest true e h = let same : k ≡ t = cc in ap test (sym same) ∙ e
found test k t xs rest false e h = rest h

passes : {A : Type 0} (test : ℕ → Bool) (k t : ℕ) (xs : List A) → first_from test k xs ≡ Some t → test t ≡ true
passes test k t [] h = some_none (sym h)
passes test k t (x ∷ xs) h = found test k t xs (passes test (suc k) t xs) (test k) refl h

pub first_may : (p : Program) (s : State) (t : ℕ) → first_thread p s ≡ Some t → may_step p s t ≡ true
unfolding first_thread
first_may p s t h = passes (may_step p s) 0 t s.board.waits h

both : (a b : Bool) → a ≡ true → b ≡ true → (a && b) ≡ true
both true b e f = f
both false b e f = e

abbrev GoesOn : Program → State → Type 0
GoesOn p s = (t : ℕ) × (first_thread p s ≡ Some t) × (is_legal p s t ≡ true)

by_threads : (p : Program) (s : State) (o : Option ℕ) → first_thread p s ≡ o → ending_of_threads s.board.steps o ≡ None → GoesOn p s
by_threads p s None e h = some_none h
by_threads p s (Some t) e h = (t, e, both (may_step p s t) (nat_lt s.board.steps (2 ^ 24)) (first_may p s t e) (in_time (nat_lt s.board.steps (2 ^ 24)) h))

by_main : (p : Program) (s : State) (o : Option ℤ) → ending_by_main s.board (first_thread p s) o ≡ None → GoesOn p s
by_main p s (Some v) h = some_none h
by_main p s None h = by_threads p s (first_thread p s) refl h

by_step : (p : Program) (s : State) (o : Option Ending) → ending_by_step s.board (first_thread p s) o ≡ None → GoesOn p s
by_step p s (Some e) h = some_none h
by_step p s None h = by_main p s (value_of_main s.board.waits) h

pub goes_on_until : (p : Program) (s : State) → ending p s ≡ None → GoesOn p s
unfolding ending
goes_on_until p s h = by_step p s s.board.ended h

-- ---- two runs

some_is : {A : Type 0} {x y : A} → Some x ≡ Some y → x ≡ y
some_is e = cc

pub legal_first : (v : Bool) (o : Option State) (r : State) → (if v then o else None) ≡ Some r → (v ≡ true) × (o ≡ Some r)
legal_first true o r h = (refl, h)
legal_first false o r h = some_none (sym h)

-- one step more
pub one_more_step : (p : Program) (r s : State) (ts : List ℕ) (t : ℕ) → seq_from p r ts ≡ Some s → is_legal p s t ≡ true → seq_from p r (ts ++ t ∷ []) ≡ Some (step p s t)
one_more_step p r s [] t h l =
    let same : r ≡ s = some_is h in
    ap (λ (x : State). if is_legal p x t then Some (step p x t) else None) same ∙ ap (λ v. if v then Some (step p s t) else None) l
one_more_step p r s (x ∷ xs) t h l =
    let a = legal_first (is_legal p r x) (seq_from p (step p r x) xs) s h in
    ap (λ v. if v then seq_from p (step p r x) (xs ++ t ∷ []) else None) a.0 ∙ one_more_step p (step p r x) s xs t a.1 l

-- no step is made after an ending
pub no_more : (p : Program) (s r : State) (e : Ending) (t : ℕ) (ts : List ℕ) {A : Type 0} → ending p s ≡ Some e → seq_from p s (t ∷ ts) ≡ Some r → A
no_more p s r e t ts h g =
    let l = (legal_first (is_legal p s t) (seq_from p (step p s t) ts) r g).0 in
    let z : true ≡ false = sym l ∙ ended_is_final p s e t h in absurd cc

same_order : (p : Program) (s u w : State) (e f : Ending) (xs ys : List ℕ) → seq_from p s xs ≡ Some u → ending p u ≡ Some e → IsSerial p s xs → seq_from p s ys ≡ Some w → ending p w ≡ Some f → IsSerial p s ys → ys ≡ xs
same_order p s u w e f [] [] gu eu su gw ew sw = refl
same_order p s u w e f [] (y ∷ ys) gu eu su gw ew sw = no_more p s w e y ys (ap (ending p) (some_is gu) ∙ eu) gw
same_order p s u w e f (x ∷ xs) [] gu eu su gw ew sw = no_more p s u f x xs (ap (ending p) (some_is gw) ∙ ew) gu
same_order p s u w e f (x ∷ xs) (y ∷ ys) gu eu su gw ew sw =
    let same : y ≡ x = some_is (sym sw.0 ∙ su.0) in
    let a = legal_first (is_legal p s x) (seq_from p (step p s x) xs) u gu in
    let b = legal_first (is_legal p s y) (seq_from p (step p s y) ys) w gw in
    let bx : seq_from p (step p s x) ys ≡ Some w = subst (λ t. seq_from p (step p s t) ys ≡ Some w) same b.1 in
    let sx : IsSerial p (step p s x) ys = subst (λ t. IsSerial p (step p s t) ys) same sw.1 in
    ap (λ t. t ∷ ys) same ∙ ap (λ l. x ∷ l) (same_order p (step p s x) u w e f xs ys a.1 eu su.1 bx ew sx)

pub one_order : (p : Program) (order : List ℕ) (e f : Ending) (v w : List ℕ) (m n : ℕ) → IsRun p order e v m → IsRun p order f w n → (f ≡ e) × (w ≡ v) × (n ≡ m)
one_order p order e f v w m n a b =
    let same : b.state ≡ a.state = some_is (sym b.legal ∙ a.legal) in (
      some_is (sym b.ends ∙ ap (ending p) same ∙ a.ends),
      b.written ∙ ap (λ (s : State). s.board.output) same ∙ sym a.written,
      b.counted ∙ ap (λ (s : State). copies s.board.entries s.board.buffers) same ∙ sym a.counted,
    )

pub one_serial : (p : Program) (order other : List ℕ) (e f : Ending) (v w : List ℕ) (m n : ℕ) → IsRun p order e v m → IsSerial p (start p) order → IsRun p other f w n → IsSerial p (start p) other → (other ≡ order) × (f ≡ e) × (w ≡ v) × (n ≡ m)
one_serial p order other e f v w m n a sa b sb =
    let same : other ≡ order = same_order p (start p) a.state b.state e f order other a.legal a.ends sa b.legal b.ends sb in
    let r = one_order p order e f v w m n a (subst (λ l. IsRun p l f w n) same b) in
    (same, r.0, r.1, r.2)

-- ---- copies

pub one_more_pair : (r count : ℕ) (es : List Entry) (e : Entry) (version : ℕ) (made : Option ℕ) (pairs : List (ℕ × ℕ)) → pairs_from r count (es ++ e ∷ []) version made pairs ≡ pairs_after e r count (version_from r es version) (made_from r es made) (pairs_from r count es version made pairs)
one_more_pair r count [] e version made pairs = refl
one_more_pair r count (x ∷ es) e version made pairs = one_more_pair r count es e (version_after x r version) (made_after x r made) (pairs_after x r count version made pairs)
