-- Where thread 0 starts no thread it makes every step.
use Rattle.std.proofs.Common.{◌≡◌, ℕ, zero, suc, List, [], ◌∷◌, length, true, Some, refl, ap, ◌∙◌, subst, arith}
use Rattle.std.specs.Prelude.{All}
use Rattle.std.proofs.lemmas.List.{length-map}
use Rattle.std.proofs.lemmas.List.Elements.{All-nil, All-cons}
use Rattle.sy_work.specs.Programs.{Program}
use Rattle.sy_work.specs.declared.asks.Ask.{Ask}
use Rattle.sy_work.specs.declared.asks.Ask.TheVariants.{Spawn}
use Rattle.sy_work.specs.declared.endings.Ending.{Ending}
use Rattle.sy_onecopy.specs.State.{State, start, next_ask}
use Rattle.sy_onecopy.specs.Step.{step, once_heard}
use Rattle.sy_onecopy.specs.Sequence.{is_legal, seq_from, seq, ending, IsRun}
use Rattle.sy_onecopy.proofs.RunLemmas.{legal_first, no_more}
use Rattle.sy_answers.specs.Fitting.{IsSpawn, board_after, count_after}
use Rattle.sy_answers.specs.Alone.{StartsNone}
use Rattle.sy_answers.proofs.TurnLemmas.{Keeps, legal_ready, ready_within, kept_fits}
use Rattle.sy_answers.proofs.RunLemmas.{start_keeps, step_keeps}

-- a state of one thread that suits its asks
record IsAlone (p : Program) (s : State) : Type 0 where
  keeps : Keeps p s
  one : length s.board.waits ≡ 1

some_is : {A : Type 0} {x y : A} → Some x ≡ Some y → x ≡ y
some_is e = cc

thread_0 : (p : Program) (s : State) (t : ℕ) → IsAlone p s → is_legal p s t ≡ true → t ≡ 0
thread_0 p s t h l = let lt = ready_within s.board.waits t (legal_ready p s t l) in let n = h.one in omega (arith, lt, n)

count_same : (q : Ask) (n : ℕ) → (IsSpawn q → ⊥) → count_after q n ≡ n
count_same (Spawn body captures) n h = absurd (h (body, captures, refl))
count_same q n h = refl

-- a step that starts no thread
next_alone : (p : Program) (s : State) → IsAlone p s → is_legal p s 0 ≡ true → (IsSpawn (next_ask p s 0) → ⊥) → IsAlone p (step p s 0)
unfolding step
next_alone p s h l none = record {
  keeps = step_keeps p s 0 h.keeps l;
  one = length-map (board_after p s 0).waits once_heard ∙ (kept_fits p s 0 h.keeps l).count ∙ count_same (next_ask p s 0) (length s.board.waits) none ∙ h.one;
}

zeros_cons : (ts : List ℕ) → All (λ t. t ≡ 0) ts → All (λ t. t ≡ 0) (0 ∷ ts)
zeros_cons ts h = All-cons (λ t. t ≡ 0) 0 ts refl h

zeros_from : (p : Program) (s u : State) (ts : List ℕ) → IsAlone p s → seq_from p s ts ≡ Some u → StartsNone p s ts → All (λ t. t ≡ 0) ts
zeros_from p s u [] h g none = All-nil (λ t. t ≡ 0)
zeros_from p s u (zero ∷ ts) h g none =
    let a = legal_first (is_legal p s 0) (seq_from p (step p s 0) ts) u g in
    zeros_cons ts (zeros_from p (step p s 0) u ts (next_alone p s h a.0 none.0) a.1 none.1)
zeros_from p s u (suc t ∷ ts) h g none =
    let a = legal_first (is_legal p s (suc t)) (seq_from p (step p s (suc t)) ts) u g in
    let z : suc t ≡ 0 = thread_0 p s (suc t) h a.0 in absurd (omega (arith, z))

same_from : (p : Program) (s u w : State) (e f : Ending) (xs ys : List ℕ) → IsAlone p s → seq_from p s xs ≡ Some u → ending p u ≡ Some e → StartsNone p s xs → seq_from p s ys ≡ Some w → ending p w ≡ Some f → ys ≡ xs
same_from p s u w e f [] [] h gu eu none gw ew = refl
same_from p s u w e f [] (y ∷ ys) h gu eu none gw ew = no_more p s w e y ys (ap (ending p) (some_is gu) ∙ eu) gw
same_from p s u w e f (x ∷ xs) [] h gu eu none gw ew = no_more p s u f x xs (ap (ending p) (some_is gw) ∙ ew) gu
same_from p s u w e f (suc x ∷ xs) (y ∷ ys) h gu eu none gw ew =
    let a = legal_first (is_legal p s (suc x)) (seq_from p (step p s (suc x)) xs) u gu in
    let z : suc x ≡ 0 = thread_0 p s (suc x) h a.0 in absurd (omega (arith, z))
same_from p s u w e f (zero ∷ xs) (y ∷ ys) h gu eu none gw ew =
    let a = legal_first (is_legal p s 0) (seq_from p (step p s 0) xs) u gu in
    let b = legal_first (is_legal p s y) (seq_from p (step p s y) ys) w gw in
    let same : y ≡ 0 = thread_0 p s y h b.0 in
    let c : seq_from p (step p s 0) ys ≡ Some w = subst (λ t. seq_from p (step p s t) ys ≡ Some w) same b.1 in
    ap (λ t. t ∷ ys) same ∙ ap (λ l. 0 ∷ l) (same_from p (step p s 0) u w e f xs ys (next_alone p s h a.0 none.0) a.1 eu none.1 c ew)

start_alone : (p : Program) → IsAlone p (start p)
start_alone p = record { keeps = start_keeps p; one = refl }

pub all_zeros : (p : Program) (order : List ℕ) (s : State) → seq p order ≡ Some s → StartsNone p (start p) order → All (λ t. t ≡ 0) order
all_zeros p order s g none = zeros_from p (start p) s order (start_alone p) g none

pub only_order : (p : Program) (order other : List ℕ) (e f : Ending) (v w : List ℕ) (m n : ℕ) → IsRun p order e v m → StartsNone p (start p) order → IsRun p other f w n → other ≡ order
only_order p order other e f v w m n a none b = same_from p (start p) a.state b.state e f order other (start_alone p) a.legal a.ends none b.legal b.ends
