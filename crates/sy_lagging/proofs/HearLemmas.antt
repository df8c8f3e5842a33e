-- States that lag behind.
use Rattle.std.proofs.Common.{◌≡◌, ◌≢◌, ℕ, zero, suc, ◌<◌, List, [], ◌∷◌, ◌++◌, length, map, set, Bool, true, false, Option, Some, None, refl, sym, ap, ◌∙◌, subst, inl, inr, arith}
use Rattle.std.specs.Prelude.{slice_get, nat_lt, if◌then◌else◌}
use Rattle.std.proofs.lemmas.List.{length-set, length-map}
use Rattle.std.proofs.lemmas.Bool.{cases_eq}
use Rattle.std.proofs.lemmas.Option.{slice_get_within}
use Rattle.sy_work.specs.Programs.{OutcomeOf}
use Rattle.sy_work.specs.declared.asks.Ask.{Ask}
use Rattle.sy_work.specs.declared.asks.Ask.TheVariants.{Spawn}
use Rattle.sy_work.specs.declared.asks.Answer.TheVariants.{Done as Answered}
use Rattle.sy_onecopy.specs.declared.Waits.{Waits}
use Rattle.sy_onecopy.specs.declared.Waits.TheVariants.{Due, Ready as NoWait, OnEntry, OnNode, OnQueue, OnThread, Never, Finished}
use Rattle.sy_onecopy.specs.Each.{changed_at}
use Rattle.sy_onecopy.specs.State.{Board, State, Thread, new_thread}
use Rattle.sy_onecopy.specs.Settle.{await, settle}
use Rattle.sy_onecopy.specs.Step.{apply, begin_ask, is_due, has_finished, given, give_all, once_heard, hear, hear_all, threads_after, hear_answers, turn}
use Rattle.sy_settling.specs.Orderly.{IsOrderly, is_idle}
use Rattle.sy_settling.proofs.ListLemmas.{some_is, length-changed, changed-append}
use Rattle.sy_settling.proofs.SettledAskLemmas.{await-settle}
use Rattle.sy_settling.proofs.AlikeLemmas.{alike-settle}
use Rattle.sy_lagging.specs.Lagging.{state_of, give_and_hear, catch_up, after_hear, after_ask}
use Rattle.sy_settling.proofs.DeferredLemmas.{told_all, given_told, over_unfinished, over_idle, over_lasts, settle-still, settle-lasts, settle-finished, told_all-one, Asking, went, went-still, went-lasts, went-finished, went-told, same_told, hear_one, hear_upto, Chain, stays_or_over, chain_stays, chain_told, told_all-fixed, went-settle, settle-asking}

pub states : {b c : Board} {xs ys : List Thread} → b ≡ c → xs ≡ ys → state_of b xs ≡ state_of c ys
states {b = b} {c = c} {xs = xs} {ys = ys} p q = ap (λ d. state_of d xs) p ∙ ap (λ l. state_of c l) q

-- ---- who hears what

map_same : (f g : Waits → Waits) → ((x : Waits) → f x ≡ g x) → (ws : List Waits) → map f ws ≡ map g ws
map_same f g h [] = refl
map_same f g h (x ∷ ws) = ap (λ y. y ∷ map f ws) (h x) ∙ ap (λ l. g x ∷ l) (map_same f g h ws)

hears_told : (f g : Waits → Waits) → ((x : Waits) → f x ≡ g x) → f NoWait ≡ NoWait → (ws : List Waits) (xs : List Thread) (u : ℕ) (w : Waits) → slice_get ws u ≡ Some w → hear_all (map f (set ws u NoWait)) (changed_at (hear (g w)) u xs) ≡ hear_all (map g ws) xs
hears_told f g h k [] xs u w e = absurd cc
hears_told f g h k (x ∷ ws) [] zero w e = refl
hears_told f g h k (x ∷ ws) [] (suc u) w e = refl
hears_told f g h k (x ∷ ws) (y ∷ ys) zero w e =
    ap (λ v. hear v (hear (g w) y) ∷ hear_all (map f ws) ys) k
    ∙ ap (λ v. hear (g v) y ∷ hear_all (map f ws) ys) (sym (some_is e))
    ∙ ap (λ l. hear (g x) y ∷ hear_all l ys) (map_same f g h ws)
hears_told f g h k (x ∷ ws) (y ∷ ys) (suc u) w e =
    ap (λ v. hear v y ∷ hear_all (map f (set ws u NoWait)) (changed_at (hear (g w)) u ys)) (h x) ∙ ap (λ l. hear (g x) y ∷ l) (hears_told f g h k ws ys u w e)

-- a thread whose wait is over hears now or with the others
pub give_and_hear-one : (d : Board) (xs : List Thread) (u : ℕ) (w : Waits) → slice_get d.waits u ≡ Some w → once_heard (given d w) ≡ NoWait → give_and_hear (await d u NoWait) (changed_at (hear (given d w)) u xs) ≡ give_and_hear d xs
unfolding told_all give_all
give_and_hear-one d xs u w g k =
    let h = ap has_finished g ∙ over_unfinished d w k in
    states (told_all-one d u w g k) (hears_told (given (await d u NoWait)) (given d) (λ x. given_told d u x h) refl d.waits xs u w g)

-- what is over on two boards is answered alike
answer_if : (v u : Bool) (w : Waits) → once_heard w ≢ NoWait → once_heard (if v then Due Answered else w) ≡ NoWait → once_heard (if u then Due Answered else w) ≡ NoWait → (if v then Due Answered else w) ≡ (if u then Due Answered else w)
answer_if true true w n p q = refl
answer_if true false w n p q = absurd (n q)
answer_if false u w n p q = absurd (n p)

answers_alike : (d c : Board) (w : Waits) → once_heard (given d w) ≡ NoWait → once_heard (given c w) ≡ NoWait → given d w ≡ given c w
answers_alike d c NoWait p q = refl
answers_alike d c (Due a) p q = refl
answers_alike d c OnEntry p q = refl
answers_alike d c (OnNode n) p q = answer_if (is_due d (OnNode n)) (is_due c (OnNode n)) (OnNode n) (λ z. absurd cc) p q
answers_alike d c (OnQueue r n) p q = answer_if (is_due d (OnQueue r n)) (is_due c (OnQueue r n)) (OnQueue r n) (λ z. absurd cc) p q
answers_alike d c (OnThread v) p q = answer_if (is_due d (OnThread v)) (is_due c (OnThread v)) (OnThread v) (λ z. absurd cc) p q
answers_alike d c Never p q = refl
answers_alike d c (Finished v) p q = refl

pub catch_up-hear : (out : OutcomeOf) (s : State) (t : ℕ) (w : Waits) → IsOrderly s.board → slice_get s.board.waits t ≡ Some w → once_heard (given s.board w) ≡ NoWait → catch_up out (after_hear s t w) ≡ catch_up out s
catch_up-hear out s t w o g k =
    let b = s.board in
    let i = over_idle b w k in
    let c = settle out b in
    let gc = settle-still out b t w o i g in
    let kc = over_lasts b c t w o (settle-lasts out b o) (λ v f. settle-finished out b v o f) g k in
    ap (λ d. give_and_hear d (changed_at (hear (given b w)) t s.threads)) (await-settle out b t NoWait o (ap is_idle g ∙ i))
    ∙ ap (λ v. give_and_hear (await c t NoWait) (changed_at (hear v) t s.threads)) (answers_alike b c w k kc)
    ∙ give_and_hear-one c s.threads t w gc kc

-- ---- threads that an ask starts

threads_after-same : (b c : Board) (q : Ask) (xs : List Thread) → length b.waits ≡ length c.waits → threads_after b q xs ≡ threads_after c q xs
unfolding threads_after
threads_after-same b c (Spawn body captures) xs h = ap (λ n. if nat_lt (length xs) n then xs ++ new_thread body captures ∷ [] else xs) h
threads_after-same b c q xs h = refl

changed_if : (v : Bool) (f : Thread → Thread) (u : ℕ) (xs ys : List Thread) → u < length xs → (if v then changed_at f u xs ++ ys else changed_at f u xs) ≡ changed_at f u (if v then xs ++ ys else xs)
changed_if true f u xs ys lt = sym (changed-append f u xs ys lt)
changed_if false f u xs ys lt = refl

threads_after-changed : (b : Board) (q : Ask) (f : Thread → Thread) (u : ℕ) (xs : List Thread) → u < length xs → threads_after b q (changed_at f u xs) ≡ changed_at f u (threads_after b q xs)
unfolding threads_after
threads_after-changed b (Spawn body captures) f u xs lt =
    ap (λ n. if nat_lt n (length b.waits) then changed_at f u xs ++ new_thread body captures ∷ [] else changed_at f u xs) (length-changed f u xs)
    ∙ changed_if (nat_lt (length xs) (length b.waits)) f u xs (new_thread body captures ∷ []) lt
threads_after-changed b q f u xs lt = refl

changed_none : (f : Thread → Thread) → ((x : Thread) → f x ≡ x) → (u : ℕ) (xs : List Thread) → changed_at f u xs ≡ xs
changed_none f h u [] = refl
changed_none f h zero (x ∷ xs) = ap (λ y. y ∷ xs) (h x)
changed_none f h (suc u) (x ∷ xs) = ap (λ l. x ∷ l) (changed_none f h u xs)

-- ---- one thread hears before the ask or after it

abbrev pub went_by : OutcomeOf → ℕ → Ask → Board → List Thread → State
went_by out t q d xs = give_and_hear (went out t q d) (threads_after (went out t q d) q xs)

went_by-one : (out : OutcomeOf) (d : Board) (xs : List Thread) (u t : ℕ) (w : Waits) (q : Ask) → Asking d t q → length xs ≡ length d.waits → slice_get d.waits u ≡ Some w → once_heard (given d w) ≡ NoWait → went_by out t q (await d u NoWait) (changed_at (hear (given d w)) u xs) ≡ went_by out t q d xs
went_by-one out d xs u t w q a m g h = elim (cases_eq u t) [
  | inl e ↦
      let is : w ≡ NoWait = some_is (sym g ∙ ap (slice_get d.waits) e ∙ a.ready) in
      ap (λ z. went_by out t q z (changed_at (hear (given d w)) u xs)) (same_told d u NoWait (ap (slice_get d.waits) e ∙ a.ready))
      ∙ ap (went_by out t q d) (subst (λ v. changed_at (hear (given d v)) u xs ≡ xs) (sym is) (changed_none (hear NoWait) (λ x. refl) u xs))
  | inr ne ↦
      let i = over_idle d w h in
      let c = went out t q d in
      let gc = went-still out d u t w q a ne i g in
      let hc = over_lasts d c u w a.orderly (went-lasts out d t q a) (λ v f. went-finished out d t q v a f) g h in
      let f = hear (given d w) in
      let lt : u < length xs = let n = slice_get_within d.waits u w g in omega arith in
      ap (λ z. give_and_hear z (threads_after z q (changed_at f u xs))) (went-told out d u t w NoWait q a ne i g)
      ∙ ap (give_and_hear (await c u NoWait)) (threads_after-same (await c u NoWait) c q (changed_at f u xs) (length-set c.waits u NoWait) ∙ threads_after-changed c q f u xs lt)
      ∙ ap (λ v. give_and_hear (await c u NoWait) (changed_at (hear v) u (threads_after c q xs))) (answers_alike d c w h hc)
      ∙ give_and_hear-one c (threads_after c q xs) u w gc hc
]

-- ---- each thread in turn

hear_one_by : Board → List Thread → ℕ → Option Waits → List Thread
hear_one_by d xs k None = xs
hear_one_by d xs k (Some w) = changed_at (hear (given d w)) k xs

hear_upto_by : Board → List Thread → ℕ → List Thread
hear_upto_by c xs zero = xs
hear_upto_by c xs (suc k) = hear_one_by (hear_upto c k) (hear_upto_by c xs k) k (slice_get (hear_upto c k).waits k)

record Chained (out : OutcomeOf) (t : ℕ) (q : Ask) (c : Board) (cs : List Thread) (d : Board) (ds : List Thread) (k : ℕ) : Type 0 where
  chain : Chain out t q c d k
  members : length ds ≡ length d.waits
  alike : give_and_hear d ds ≡ give_and_hear c cs
  goes : went_by out t q d ds ≡ went_by out t q c cs

-- who hears nothing stays as he is
hears_if : (v : Bool) (w : Waits) → once_heard (if v then Due Answered else w) ≡ w → w ≢ NoWait → ((x : Thread) → hear w x ≡ x) → (x : Thread) → hear (if v then Due Answered else w) x ≡ x
hears_if true w h n k x = absurd (n (sym h))
hears_if false w h n k x = k x

hears_nothing : (d : Board) (w : Waits) → once_heard (given d w) ≡ w → (x : Thread) → hear (given d w) x ≡ x
hears_nothing d NoWait h x = refl
hears_nothing d (Due a) h x = absurd cc
hears_nothing d OnEntry h x = refl
hears_nothing d (OnNode n) h x = hears_if (is_due d (OnNode n)) (OnNode n) h (λ z. absurd cc) (λ y. refl) x
hears_nothing d (OnQueue r n) h x = hears_if (is_due d (OnQueue r n)) (OnQueue r n) h (λ z. absurd cc) (λ y. refl) x
hears_nothing d (OnThread v) h x = hears_if (is_due d (OnThread v)) (OnThread v) h (λ z. absurd cc) (λ y. refl) x
hears_nothing d Never h x = refl
hears_nothing d (Finished v) h x = refl

chained_one : (out : OutcomeOf) (t : ℕ) (q : Ask) (c : Board) (cs : List Thread) (d : Board) (ds : List Thread) (k : ℕ) (o : Option Waits) → slice_get d.waits k ≡ o → Chained out t q c cs d ds k → Chained out t q c cs (hear_one d k o) (hear_one_by d ds k o) (suc k)
unfolding hear_one hear_one_by
chained_one out t q c cs d ds k None g f = record {
  chain = chain_stays out t q c d k (λ w h. absurd (let z : None ≡ Some w = sym g ∙ h in cc)) f.chain;
  members = f.members;
  alike = f.alike;
  goes = f.goes;
}
chained_one out t q c cs d ds k (Some w) g f = elim (stays_or_over d w) [
  | inl e ↦
      let same : await d k (once_heard (given d w)) ≡ d = ap (await d k) e ∙ same_told d k w g in
      let heard_by : changed_at (hear (given d w)) k ds ≡ ds = changed_none (hear (given d w)) (hears_nothing d w e) k ds in
      let stays : Chained out t q c cs d ds (suc k) = record {
        chain = chain_stays out t q c d k (λ x h. subst (λ y. once_heard (given d y) ≡ y) (some_is (sym g ∙ h)) e) f.chain;
        members = f.members;
        alike = f.alike;
        goes = f.goes;
      } in
      subst (λ z. Chained out t q c cs z (changed_at (hear (given d w)) k ds) (suc k)) (sym same)
      (subst (λ l. Chained out t q c cs d l (suc k)) (sym heard_by) stays)
  | inr e ↦
      subst (λ z. Chained out t q c cs (await d k z) (changed_at (hear (given d w)) k ds) (suc k)) (sym e) (record {
        chain = chain_told out t q c d k w g e f.chain;
        members = length-changed (hear (given d w)) k ds ∙ f.members ∙ sym (length-set d.waits k NoWait);
        alike = give_and_hear-one d ds k w g e ∙ f.alike;
        goes = went_by-one out d ds k t w q f.chain.asking f.members g e ∙ f.goes;
      })
]

chained_upto : (out : OutcomeOf) (t : ℕ) (q : Ask) (c : Board) (cs : List Thread) (k : ℕ) → length cs ≡ length c.waits → Asking c t q → Chained out t q c cs (hear_upto c k) (hear_upto_by c cs k) k
unfolding hear_upto hear_upto_by
chained_upto out t q c cs zero m a = record {
  chain = record { asking = a; threads = refl; alike = refl; goes = refl; past = λ j w lt g. absurd (omega arith) };
  members = m;
  alike = refl;
  goes = refl;
}
chained_upto out t q c cs (suc k) m a = chained_one out t q c cs (hear_upto c k) (hear_upto_by c cs k) k (slice_get (hear_upto c k).waits k) refl (chained_upto out t q c cs k m a)

none_hears : (f : Waits → Waits) (ws : List Waits) (xs : List Thread) → ((j : ℕ) (w : Waits) → slice_get ws j ≡ Some w → (x : Thread) → hear (f w) x ≡ x) → hear_all (map f ws) xs ≡ xs
none_hears f [] xs h = refl
none_hears f (w ∷ ws) [] h = refl
none_hears f (w ∷ ws) (x ∷ xs) h = ap (λ y. y ∷ hear_all (map f ws) xs) (h 0 w refl x) ∙ ap (λ l. x ∷ l) (none_hears f ws xs (λ j v g. h (suc j) v g))

give_and_hear-fixed : (d : Board) (xs : List Thread) → ((j : ℕ) (w : Waits) → slice_get d.waits j ≡ Some w → once_heard (given d w) ≡ w) → give_and_hear d xs ≡ state_of d xs
unfolding told_all give_all
give_and_hear-fixed d xs h = states (told_all-fixed d h) (none_hears (given d) d.waits xs (λ j w g. hears_nothing d w (h j w g)))

-- where all have heard at once the ask comes to the same
all_told_by : (out : OutcomeOf) (t : ℕ) (q : Ask) (c : Board) (cs : List Thread) → length cs ≡ length c.waits → Asking c t q → (let s = give_and_hear c cs in went_by out t q s.board s.threads) ≡ went_by out t q c cs
all_told_by out t q c cs m a =
    let n = length c.waits in
    let d = hear_upto c n in
    let ds = hear_upto_by c cs n in
    let f = chained_upto out t q c cs n m a in
    let fixed : give_and_hear d ds ≡ state_of d ds = give_and_hear-fixed d ds (λ j w g. f.chain.past j w (let lt = slice_get_within d.waits j w g in let e = f.chain.threads in omega arith) g) in
    ap (λ (s : State). went_by out t q s.board s.threads) (sym f.alike ∙ fixed) ∙ f.goes

-- ---- the ask of a thread on a state that lags behind

alike_length : (out : OutcomeOf) (b : Board) → length (settle out b).waits ≡ length b.waits
alike_length out b = sym (alike-settle out b).threads

given_length : (d : Board) → length (give_all d).waits ≡ length d.waits
unfolding give_all
given_length d = length-map d.waits (given d)

pub catch_up-ask : (out : OutcomeOf) (s : State) (t : ℕ) (q : Ask) → Asking s.board t q → length s.threads ≡ length s.board.waits → (let c = catch_up out s in let d = turn out c.board t q in hear_answers d (threads_after d q c.threads)) ≡ catch_up out (after_ask s t q)
unfolding turn went
catch_up-ask out s t q a m =
    let b = s.board in
    let c = settle out b in
    let at = catch_up out s in
    let d = went out t q at.board in
    let e = apply (begin_ask b t) t q in
    ap (hear_answers (give_all d)) (threads_after-same (give_all d) d q at.threads (given_length d))
    ∙ all_told_by out t q c s.threads (m ∙ sym (alike_length out b)) (settle-asking out b t q a)
    ∙ ap (λ z. give_and_hear z (threads_after z q s.threads)) (went-settle out b t q a)
    ∙ ap (give_and_hear (settle out e)) (threads_after-same (settle out e) e q s.threads (alike_length out e))
