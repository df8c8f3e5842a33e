-- A group never comes to the end of its phases: each takes a turn of its items.
use Rattle.std.proofs.Common.{arith, refl, subst}
use Rattle.std.specs.Prelude.{Err, List, None, Ok, Option, Some, [], length, map, pos, replicate, slice_index_or, suc, zero, ℕ, ℤ, ⊤, ◌++◌, ◌+◌, ◌∷◌, ◌≡◌, ◌≤◌}
use Rattle.sy_num.specs.declared.Kind.{Kind}
use Rattle.sy_range.specs.declared.nd_ranges.Position.{Position}
use Rattle.sy_work.specs.Collective.{Collected, collective, inclusive, last_to_all, running, with_first}
use Rattle.sy_work.specs.Programs.{Input}
use Rattle.sy_work.specs.declared.asks.Answer.{Answer}
use Rattle.sy_work.specs.declared.asks.Ask.{Ask}
use Rattle.sy_work.specs.declared.asks.Ask.TheVariants as asks
use Rattle.sy_work.specs.declared.commands.Form.{Form}
use Rattle.sy_work.specs.declared.commands.Form.TheVariants as forms
use Rattle.sy_work.specs.declared.commands.RedOp.{RedOp}
use Rattle.sy_work.specs.declared.endings.Fault.{Fault}
use Rattle.sy_meaning.specs.declared.runs.Store.{Store}
use Rattle.sy_meaning.specs.Items.{Came, Footprint, Item, agreed, collected, contents, divergence, ended, failed, first_fault, footprint, goes_on, numbers_asked, or_agreed, or_stops, phase, written}
use Rattle.sy_meaning.specs.Kernels.{Done, Grouped, came, done_after, footprints, group_done, nothing_done, phases, store_of, with_answers}
use Rattle.sy_meaning.specs.Turns.{IsBounded, Waits}

abbrev HasFirst : {A : Type 0} → List A → Type 0
HasFirst [] = ⊥
HasFirst (x ∷ xs) = ⊤

-- ---- what a group function gives isn't empty

ok_is : (zs ys : List ℤ) → ◌≡◌ {A = Collected} (Ok zs) (Ok ys) → zs ≡ ys
ok_is zs ys e = cc

err_is : (k : ℕ) (ys : List ℤ) → ◌≡◌ {A = Collected} (Err k) (Ok ys) → ⊥
err_is k ys e = absurd cc

with_first_has : (z : ℤ) (c : Collected) (zs : List ℤ) → with_first z c ≡ Ok zs → HasFirst zs
with_first_has z (Ok ys) zs e = subst (λ us. HasFirst us) (ok_is (z ∷ ys) zs e) tt
with_first_has z (Err k) zs e = absurd (err_is k zs e)

running_has : (op : RedOp) (kind : Kind) (k : ℕ) (a : ℤ) (xs zs : List ℤ) → running op kind k a xs ≡ Ok zs → HasFirst zs
running_has op kind k a [] zs e = subst (λ us. HasFirst us) (ok_is (a ∷ []) zs e) tt
running_has op kind k a (x ∷ xs) zs e = with_first_has a _ zs e

replicate_has : (n : ℕ) (z : ℤ) → 1 ≤ n → HasFirst (replicate n z)
replicate_has zero z h = absurd (omega (arith, h))
replicate_has (suc n) z h = tt

longer : (zs : List ℤ) → HasFirst zs → 1 ≤ length zs
longer [] h = absurd h
longer (z ∷ zs) h = omega arith

last_to_all_has : (c : Collected) → ((ys : List ℤ) → c ≡ Ok ys → HasFirst ys) → (zs : List ℤ) → last_to_all c ≡ Ok zs → HasFirst zs
last_to_all_has (Ok ys) h zs e = subst (λ us. HasFirst us) (ok_is _ zs e) (replicate_has (length ys) _ (longer ys (h ys refl)))
last_to_all_has (Err k) h zs e = absurd (err_is k zs e)

collective_has : (f : Form) (op : RedOp) (kind : Kind) (x : ℤ) (xs zs : List ℤ) → collective f op kind (x ∷ xs) ≡ Ok zs → HasFirst zs
collective_has forms.Reduce op kind x xs zs e = last_to_all_has (inclusive op kind (x ∷ xs)) (λ ys d. running_has op kind 1 x xs ys d) zs e
collective_has forms.Inclusive op kind x xs zs e = running_has op kind 1 x xs zs e
collective_has forms.Exclusive op kind x xs zs e = with_first_has _ _ zs e
collective_has (forms.Broadcast n) op kind x xs zs e = subst (λ us. HasFirst us) (ok_is _ zs e) (replicate_has (length (x ∷ xs)) (slice_index_or (x ∷ xs) n (pos 0)) (omega arith))

-- ---- where a phase goes on, its first item waits

goes_on_is : (xs ys : List Answer) → goes_on xs ≡ goes_on ys → xs ≡ ys
goes_on_is xs ys e = cc

ended_is : (ys : List Answer) → ended ≡ goes_on ys → ⊥
ended_is ys e = absurd cc

failed_is : (f : Fault) (ys : List Answer) → failed f ≡ goes_on ys → ⊥
failed_is f ys e = absurd cc

contents_have : (zs : List ℤ) → HasFirst zs → HasFirst (map contents zs)
contents_have [] h = h
contents_have (z ∷ zs) h = tt

collected_has : (line : ℕ) (fs : List Footprint) (c : Collected) → ((zs : List ℤ) → c ≡ Ok zs → HasFirst zs) → (bs : List Answer) → collected line fs c ≡ goes_on bs → HasFirst bs
collected_has line fs (Ok zs) h bs e = subst (λ us. HasFirst us) (goes_on_is (map contents zs) bs e) (contents_have zs (h zs refl))
collected_has line fs (Err k) h bs e = absurd (failed_is _ bs e)

agreed_waits : (f : Footprint) (fs : List Footprint) (a : Ask) (bs : List Answer) → agreed (f ∷ fs) a ≡ goes_on bs → HasFirst bs × Waits (Some a)
agreed_waits f fs (asks.Barrier c line) bs e = (subst (λ us. HasFirst us) (goes_on_is _ bs e) tt, tt)
agreed_waits f fs (asks.Collect c line x) bs e =
    (collected_has line (f ∷ fs) (collective x.form x.op x.kind (numbers_asked (f ∷ fs))) (λ zs d. collective_has x.form x.op x.kind _ _ zs d) bs e, tt)
agreed_waits f fs a bs e = absurd (ended_is bs e)

or_agreed_waits : (f : Footprint) (fs : List Footprint) (o : Option Fault) (bs : List Answer) → or_agreed (f ∷ fs) f.stop o ≡ goes_on bs → HasFirst bs × Waits (Some f.stop)
or_agreed_waits f fs (Some x) bs e = absurd (failed_is x bs e)
or_agreed_waits f fs None bs e = agreed_waits f fs f.stop bs e

or_stops_waits : (f : Footprint) (fs : List Footprint) (o : Option Fault) (bs : List Answer) → or_stops (f ∷ fs) o ≡ goes_on bs → HasFirst bs × Waits (Some f.stop)
or_stops_waits f fs (Some x) bs e = absurd (failed_is x bs e)
or_stops_waits f fs None bs e = or_agreed_waits f fs (divergence f.stop fs) bs e

phase_waits : (f : Footprint) (fs : List Footprint) (bs : List Answer) → phase (f ∷ fs) ≡ goes_on bs → HasFirst bs × Waits (Some f.stop)
phase_waits f fs bs e = or_stops_waits f fs (first_fault [] (f ∷ fs)) bs e

-- ---- how many answers the first item was given

abbrev Given : ℕ → List (List Answer) → Type 0
Given n [] = n ≡ 0
Given n (a ∷ more) = length a ≡ n

one_longer : (a : List Answer) (b : Answer) → length (a ++ b ∷ []) ≡ length a + 1
one_longer [] b = omega arith
one_longer (x ∷ a) b = let h = one_longer a b in omega (arith, h)

given_more : (n : ℕ) (given : List (List Answer)) (bs : List Answer) → Given n given → HasFirst bs → Given (n + 1) (with_answers given bs)
given_more n given [] h k = absurd k
given_more n [] (b ∷ bs) h k = omega (arith, h)
given_more n (a ∷ more) (b ∷ bs) h k = let e = one_longer a b in omega (arith, e, h)

going : (item : Item) (turns : ℕ) → IsBounded item turns → (ps : List Position) (stores : List Store) (given : List (List Answer)) (n : ℕ) → Given n given → (bs : List Answer) → phase (footprints item ps stores given) ≡ goes_on bs → HasFirst bs × (n + 1 ≤ turns)
going item turns t [] stores given n h bs e = absurd (ended_is bs e)
going item turns t (p ∷ ps) stores [] n h bs e =
    let w = phase_waits (footprint item p stores []) (footprints item ps stores []) bs e in
    let few = t p stores [] w.1 in
    (w.0, omega (arith, few, h))
going item turns t (p ∷ ps) stores (a ∷ more) n h bs e =
    let w = phase_waits (footprint item p stores a) (footprints item ps stores more) bs e in
    let few = t p stores a w.1 in
    (w.0, omega (arith, few, h))

-- ---- with more phases than turns the result is the same

came_same : (c : Came) (d : Done) (f g : List Answer → Grouped) → ((bs : List Answer) → c ≡ goes_on bs → f bs ≡ g bs) → came c d f ≡ came c d g
came_same ended d f g h = refl
came_same (goes_on bs) d f g h = h bs refl
came_same (failed x) d f g h = refl

phases_same : (item : Item) (turns : ℕ) → IsBounded item turns → (ps : List Position) (n m k : ℕ) (stores : List Store) (now : Store) (given : List (List Answer)) (done : Done) → Given k given → k ≤ turns → turns + 1 ≤ n + k → turns + 1 ≤ m + k → phases item ps n stores now given done ≡ phases item ps m stores now given done
phases_same item turns t ps zero m k stores now given done h l a b = absurd (omega (arith, l, a))
phases_same item turns t ps (suc n) zero k stores now given done h l a b = absurd (omega (arith, l, b))
phases_same item turns t ps (suc n) (suc m) k stores now given done h l a b =
    let fs = footprints item ps (stores ++ now ∷ []) given in
    came_same (phase fs) (done_after done fs) (λ bs. phases item ps n (stores ++ now ∷ []) (written now fs) (with_answers given bs) (done_after done fs)) (λ bs. phases item ps m (stores ++ now ∷ []) (written now fs) (with_answers given bs) (done_after done fs)) (λ bs e. let g = going item turns t ps (stores ++ now ∷ []) given k h bs e in phases_same item turns t ps n m (k + 1) (stores ++ now ∷ []) (written now fs) (with_answers given bs) (done_after done fs) (given_more k given bs h g.0) g.1 (omega (arith, a)) (omega (arith, b)))

pub group_same : (item : Item) (turns n : ℕ) (ps : List Position) (inputs : List Input) → IsBounded item turns → turns + 1 ≤ n → phases item ps n [] (store_of inputs) [] nothing_done ≡ group_done item turns inputs ps
group_same item turns n ps inputs t h =
    phases_same item turns t ps n (turns + 1) 0 [] (store_of inputs) [] nothing_done refl (omega arith) (omega (arith, h)) (omega arith)
