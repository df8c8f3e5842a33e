-- Buffers stay over what they are over, and keep their count of numbers.
use Rattle.std.proofs.Common.{◌≡◌, ℕ, zero, suc, ◌-◌, ◌≤◌, ℤ, List, [], ◌∷◌, ◌++◌, length, refl, sym, ap, ◌∙◌, subst}
use Rattle.sy_access.specs.declared.access.Need.{Need}
use Rattle.sy_access.specs.declared.cells.Cell.{Cell}
use Rattle.sy_work.specs.declared.asks.Ask.{Ask}
use Rattle.sy_work.specs.declared.asks.Answer.TheVariants.{Contents}
use Rattle.sy_answers.specs.Fitting.{FitsOver}
use Rattle.sy_onecopy.specs.declared.Buffer.{Buffer}
use Rattle.sy_onecopy.specs.Each.{changed_at}
use Rattle.sy_needs.specs.Each.{each_from}
use Rattle.sy_onecopy.specs.Outcome.{values_at, inputs, input, run_of, buffer_after, buffers_after}
use Rattle.sy_needs.specs.Elements.{at_start, cell_after}
use Rattle.sy_onecopy.specs.Settle.{first_of}
use Rattle.sy_onecopy.specs.Step.{with_end, cell_put, buffer_put}
use Rattle.sy_answers.proofs.ListLemmas.{length-each_from, length-run, more_kept}
use Rattle.sy_answers.proofs.WaitLemmas.{count_at, AllStay, IsOpening}

pub all_kept : (bs : List Buffer) → AllStay bs bs
all_kept bs r x h = record { now = x; there = h; origin = refl; count = refl }

pub one_more_kept : (bs : List Buffer) (x : Buffer) → AllStay bs (bs ++ x ∷ [])
one_more_kept bs x r y h = record { now = y; there = more_kept bs x y r h; origin = refl; count = refl }

pub ended_kept : (k : ℕ) (bs : List Buffer) → AllStay bs (changed_at with_end k bs)
ended_kept k [] r y h = absurd (let z : ⊥ = cc in z)
ended_kept zero (x ∷ bs) zero y h = let e : x ≡ y = cc in record { now = with_end x; there = refl; origin = ap (λ (b : Buffer). b.origin) e; count = ap (λ (b : Buffer). length b.values) e }
ended_kept zero (x ∷ bs) (suc r) y h = record { now = y; there = h; origin = refl; count = refl }
ended_kept (suc k) (x ∷ bs) zero y h = record { now = y; there = h; origin = refl; count = refl }
ended_kept (suc k) (x ∷ bs) (suc r) y h = let s = ended_kept k bs r y h in record { now = s.now; there = s.there; origin = s.origin; count = s.count }

-- a change of each buffer that keeps what it is over, and how many numbers it has
each_kept : (f : ℕ → Buffer → Buffer) → ((k : ℕ) (x : Buffer) → (f k x).origin ≡ x.origin) → ((k : ℕ) (x : Buffer) → length (f k x).values ≡ length x.values) → (k : ℕ) (bs : List Buffer) → AllStay bs (each_from f k bs)
each_kept f o c k [] r y h = absurd (let z : ⊥ = cc in z)
each_kept f o c k (x ∷ bs) zero y h = let e : x ≡ y = cc in record { now = f k x; there = refl; origin = o k x ∙ ap (λ (b : Buffer). b.origin) e; count = c k x ∙ ap (λ (b : Buffer). length b.values) e }
each_kept f o c k (x ∷ bs) (suc r) y h = let s = each_kept f o c (suc k) bs r y h in record { now = s.now; there = s.there; origin = s.origin; count = s.count }

after_origin : (needs : List Need) (log : List (Cell × ℤ)) (k : ℕ) (x : Buffer) → (buffer_after needs log k x).origin ≡ x.origin
unfolding buffer_after
after_origin needs log k x = refl

after_count : (needs : List Need) (log : List (Cell × ℤ)) (k : ℕ) (x : Buffer) → length (buffer_after needs log k x).values ≡ length x.values
unfolding buffer_after
after_count needs log k x = length-each_from (cell_after needs log k) 0 x.values

put_origin : (n : Need) (values : List ℤ) (k : ℕ) (x : Buffer) → (buffer_put n values k x).origin ≡ x.origin
unfolding buffer_put
put_origin n values k x = refl

put_count : (n : Need) (values : List ℤ) (k : ℕ) (x : Buffer) → length (buffer_put n values k x).values ≡ length x.values
unfolding buffer_put
put_count n values k x = length-each_from (cell_put n values k) 0 x.values

pub after_kept : (needs : List Need) (log : List (Cell × ℤ)) (bs : List Buffer) → AllStay bs (buffers_after needs log bs)
unfolding buffers_after
after_kept needs log bs = each_kept (buffer_after needs log) (after_origin needs log) (after_count needs log) 0 bs

pub put_kept : (n : Need) (values : List ℤ) (bs : List Buffer) → AllStay bs (each_from (buffer_put n values) 0 bs)
put_kept n values bs = each_kept (buffer_put n values) (put_origin n values) (put_count n values) 0 bs

-- an access is given as many numbers as its run has
run_count : (bs : List Buffer) (n : Need) → n.to ≤ count_at bs n.buffer → length (first_of (inputs bs (n ∷ []))) ≡ n.to - n.from
unfolding inputs input run_of
run_count bs n h =
    length-each_from (at_start (n ∷ []) n.buffer) n.from (run_of (values_at bs n.buffer) n.from n.to)
    ∙ length-run (values_at bs n.buffer) n.from n.to h

pub opening_fits : (q : Ask) (bs : List Buffer) (needs : List Need) → IsOpening q bs needs → FitsOver bs q (Contents (first_of (inputs bs needs)))
opening_fits q bs needs o =
    let c : length (first_of (inputs bs needs)) ≡ o.need.to - o.need.from = subst (λ ns. length (first_of (inputs bs ns)) ≡ o.need.to - o.need.from) (sym o.alone) (run_count bs o.need o.within) in
    subst (λ y. FitsOver bs y (Contents (first_of (inputs bs needs)))) (sym o.ask) c
