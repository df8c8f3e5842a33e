-- A pass from the front leaves no entry that could take effect.
use Rattle.std.proofs.Common.{◌≡◌, ℕ, zero, suc, ◌+◌, ◌-◌, ◌<◌, ◌≤◌, List, [], ◌∷◌, length, take, Bool, true, false, Option, Some, None, refl, sym, ap, ◌∙◌, subst, arith}
use Rattle.std.specs.Prelude.{slice_get, option_map, if◌then◌else◌, not, ◌&&◌}
use Rattle.std.proofs.lemmas.Option.{slice_get_within}
use Rattle.sy_access.specs.declared.access.Need.{Need}
use Rattle.sy_work.specs.Programs.{OutcomeOf}
use Rattle.sy_work.specs.declared.commands.Outcome.{Outcome}
use Rattle.sy_work.specs.declared.commands.Outcome.TheVariants.{Wrote, Failed}
use Rattle.sy_onecopy.specs.declared.Entry.{Entry}
use Rattle.sy_onecopy.specs.declared.Work.{Work}
use Rattle.sy_onecopy.specs.declared.Work.TheVariants.{Node, Access, End}
use Rattle.sy_onecopy.specs.declared.Stage.{Stage}
use Rattle.sy_onecopy.specs.declared.Stage.TheVariants as stage
use Rattle.sy_onecopy.specs.Each.{changed_at}
use Rattle.sy_onecopy.specs.State.{Board}
use Rattle.sy_onecopy.specs.Before.{is_free, is_held, is_pending}
use Rattle.sy_onecopy.specs.Outcome.{inputs}
use Rattle.sy_onecopy.specs.Settle.{took, effect, settle_entry, settle_one, settle_upto, settle, with_stage}
use Rattle.sy_onecopy.specs.Laws.{IsSettled}

take-changed_at : {A : Type 0} (f : A → A) (j k : ℕ) (xs : List A) → j ≤ k → take j (changed_at f k xs) ≡ take j xs
take-changed_at f zero k xs le = refl
take-changed_at f (suc j) k [] le = refl
take-changed_at f (suc j) zero (x ∷ xs) le = absurd (omega (arith, le))
take-changed_at f (suc j) (suc k) (x ∷ xs) le = ap (λ l. x ∷ l) (take-changed_at f j k xs (omega (arith, le)))

slice_get-changed_at : {A : Type 0} (f : A → A) (k : ℕ) (xs : List A) → slice_get (changed_at f k xs) k ≡ option_map f (slice_get xs k)
slice_get-changed_at f k [] = refl
slice_get-changed_at f zero (x ∷ xs) = refl
slice_get-changed_at f (suc k) (x ∷ xs) = slice_get-changed_at f k xs

slice_get-take : {A : Type 0} (k : ℕ) (xs : List A) → slice_get (take (suc k) xs) k ≡ slice_get xs k
slice_get-take k [] = refl
slice_get-take zero (x ∷ xs) = refl
slice_get-take (suc k) (x ∷ xs) = slice_get-take k xs

take-take_suc : {A : Type 0} (k : ℕ) (xs : List A) → take k (take (suc k) xs) ≡ take k xs
take-take_suc zero xs = refl
take-take_suc (suc k) [] = refl
take-take_suc (suc k) (x ∷ xs) = ap (λ l. x ∷ l) (take-take_suc k xs)

length-changed_at : {A : Type 0} (f : A → A) (k : ℕ) (xs : List A) → length (changed_at f k xs) ≡ length xs
length-changed_at f k [] = refl
length-changed_at f zero (x ∷ xs) = refl
length-changed_at f (suc k) (x ∷ xs) = ap suc (length-changed_at f k xs)

outcome_stage : Outcome → Stage
outcome_stage (Wrote log) = stage.Done
outcome_stage (Failed fault) = stage.Failed fault

stage_after : OutcomeOf → Board → Entry → Work → Stage
stage_after out b e (Node n q c) = outcome_stage (out c (inputs b.buffers e.needs))
stage_after out b e (Access t i) = stage.Granted
stage_after out b e (End t r) = stage.Done

outcome_stage-pending : (o : Outcome) → is_pending (outcome_stage o) ≡ false
unfolding outcome_stage
outcome_stage-pending (Wrote log) = refl
outcome_stage-pending (Failed fault) = refl

stage_after-pending : (out : OutcomeOf) (b : Board) (e : Entry) (w : Work) → is_pending (stage_after out b e w) ≡ false
unfolding stage_after
stage_after-pending out b e (Node n q c) = outcome_stage-pending (out c (inputs b.buffers e.needs))
stage_after-pending out b e (Access t i) = refl
stage_after-pending out b e (End t r) = refl

took-entries : (b : Board) (k : ℕ) (needs : List Need) (o : Outcome) → (took b k needs o).entries ≡ changed_at (with_stage (outcome_stage o)) k b.entries
unfolding took outcome_stage
took-entries b k needs (Wrote log) = refl
took-entries b k needs (Failed fault) = refl

effect-entries : (out : OutcomeOf) (b : Board) (k : ℕ) (e : Entry) (w : Work) → (effect out b k e w).entries ≡ changed_at (with_stage (stage_after out b e w)) k b.entries
unfolding effect stage_after
effect-entries out b k e (Node n q c) = took-entries b k e.needs (out c (inputs b.buffers e.needs))
effect-entries out b k e (Access t i) = refl
effect-entries out b k e (End t r) = refl

-- the entries change at k alone, if at all
record Moves (k : ℕ) (xs ys : List Entry) : Type 0 where
  front : (j : ℕ) → j ≤ k → take j ys ≡ take j xs
  same_length : length ys ≡ length xs

chosen-moves : (out : OutcomeOf) (b : Board) (k : ℕ) (e : Entry) (v : Bool) → Moves k b.entries (if v then effect out b k e e.work else b).entries
chosen-moves out b k e true = record {
  front = λ j le. ap (take j) (effect-entries out b k e e.work) ∙ take-changed_at (with_stage (stage_after out b e e.work)) j k b.entries le;
  same_length = ap length (effect-entries out b k e e.work) ∙ length-changed_at (with_stage (stage_after out b e e.work)) k b.entries;
}
chosen-moves out b k e false = record { front = λ j le. refl; same_length = refl }

entry-moves : (out : OutcomeOf) (b : Board) (k : ℕ) (o : Option Entry) → Moves k b.entries (settle_entry out b k o).entries
unfolding settle_entry
entry-moves out b k None = record { front = λ j le. refl; same_length = refl }
entry-moves out b k (Some e) = chosen-moves out b k e (is_free b.entries k e)

some_is : {x y : Entry} → Some x ≡ Some y → x ≡ y
some_is p = cc

-- what was chosen could not take effect again
chosen-free : (out : OutcomeOf) (b : Board) (k : ℕ) (x : Entry) (v : Bool) → is_free b.entries k x ≡ v → slice_get b.entries k ≡ Some x → (e : Entry) → slice_get (if v then effect out b k x x.work else b).entries k ≡ Some e → is_free (if v then effect out b k x x.work else b).entries k e ≡ false
unfolding is_free
chosen-free out b k x true h g e s =
    let f = with_stage (stage_after out b x x.work) in
    let i : slice_get (effect out b k x x.work).entries k ≡ Some (f x) = ap (λ l. slice_get l k) (effect-entries out b k x x.work) ∙ slice_get-changed_at f k b.entries ∙ ap (option_map f) g in
    let p : is_pending e.stage ≡ false = ap (λ y. is_pending y.stage) (some_is (sym s ∙ i)) ∙ stage_after-pending out b x x.work in
    ap (λ t. t && not (is_held (take k (effect out b k x x.work).entries) e)) p
chosen-free out b k x false h g e s = subst (λ y. is_free b.entries k y ≡ false) (some_is (sym g ∙ s)) h

entry-free : (out : OutcomeOf) (b : Board) (k : ℕ) (o : Option Entry) → slice_get b.entries k ≡ o → (e : Entry) → slice_get (settle_entry out b k o).entries k ≡ Some e → is_free (settle_entry out b k o).entries k e ≡ false
unfolding settle_entry
entry-free out b k None g e s = let z : None ≡ Some e = sym g ∙ s in cc
entry-free out b k (Some x) g e s = chosen-free out b k x (is_free b.entries k x) refl g e s

length-upto : (out : OutcomeOf) (b : Board) (n : ℕ) → length (settle_upto out b n).entries ≡ length b.entries
length-upto out b zero = refl
length-upto out b (suc n) =
    (entry-moves out (settle_upto out b n) n (slice_get (settle_upto out b n).entries n)).same_length ∙ length-upto out b n

front-upto : (out : OutcomeOf) (b : Board) (j n : ℕ) → take j (settle_upto out b (j + n)).entries ≡ take j (settle_upto out b j).entries
front-upto out b j zero = ap (λ m. take j (settle_upto out b m).entries) (let e : j + 0 ≡ j = omega arith in e)
front-upto out b j (suc n) =
    ap (λ m. take j (settle_upto out b m).entries) (let e : j + suc n ≡ suc (j + n) = omega arith in e)
    ∙ (entry-moves out (settle_upto out b (j + n)) (j + n) (slice_get (settle_upto out b (j + n)).entries (j + n))).front j (omega arith)
    ∙ front-upto out b j n

-- whether the entry at k may take effect is seen in the first k entries
is_free-front : (xs ys : List Entry) (k : ℕ) (e : Entry) → take k xs ≡ take k ys → is_free xs k e ≡ is_free ys k e
unfolding is_free
is_free-front xs ys k e p = ap (λ l. is_pending e.stage && not (is_held l e)) p

pub settled : (out : OutcomeOf) (b : Board) → IsSettled (settle out b)
settled out b k e s =
    let m = settle_upto out b (suc k) in
    let lt : k < length b.entries = subst (λ n. k < n) (length-upto out b (length b.entries)) (slice_get_within (settle out b).entries k e s) in
    let n = length b.entries - suc k in
    let at : suc k + n ≡ length b.entries = omega arith in
    let p : take (suc k) (settle out b).entries ≡ take (suc k) m.entries = ap (λ i. take (suc k) (settle_upto out b i).entries) (sym at) ∙ front-upto out b (suc k) n in
    let q : take k (settle out b).entries ≡ take k m.entries = sym (take-take_suc k (settle out b).entries) ∙ ap (take k) p ∙ take-take_suc k m.entries in
    let r : slice_get m.entries k ≡ Some e = sym (slice_get-take k m.entries) ∙ ap (λ l. slice_get l k) (sym p) ∙ slice_get-take k (settle out b).entries ∙ s in
    is_free-front (settle out b).entries m.entries k e q ∙ entry-free out (settle_upto out b k) k (slice_get (settle_upto out b k).entries k) refl e r

-- where nothing could take effect a pass changes nothing
still : (out : OutcomeOf) (b : Board) (k : ℕ) (o : Option Entry) → slice_get b.entries k ≡ o → IsSettled b → settle_entry out b k o ≡ b
unfolding settle_entry
still out b k None g h = refl
still out b k (Some e) g h = ap (λ v. if v then effect out b k e e.work else b) (h k e g)

still-upto : (out : OutcomeOf) (b : Board) (n : ℕ) → IsSettled b → settle_upto out b n ≡ b
still-upto out b zero h = refl
still-upto out b (suc n) h =
    ap (settle_one out n) (still-upto out b n h) ∙ still out b n (slice_get b.entries n) refl h

pub settled_again : (out : OutcomeOf) (b : Board) → settle out (settle out b) ≡ settle out b
settled_again out b = still-upto out (settle out b) (length (settle out b).entries) (settled out b)
