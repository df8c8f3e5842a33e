-- The counts of entries for one entry more and for one whose stage changes.
use Rattle.std.proofs.Common.{◌≡◌, ℕ, zero, suc, ◌+◌, ◌<◌, List, [], ◌∷◌, ◌++◌, length, Bool, true, false, Option, Some, None, refl, sym, ap, ◌∙◌, arith}
use Rattle.std.specs.Prelude.{slice_get, not, ◌&&◌, ◌||◌, ◌==◌, nat_lt, if◌then◌else◌, count_by}
use Rattle.std.proofs.lemmas.Bool.Decides.{nat_tests}
use Rattle.std.proofs.lemmas.List.Sums.{sum_by_push}
use Rattle.sy_onecopy.specs.declared.Entry.{Entry}
use Rattle.sy_onecopy.specs.declared.Work.{Work}
use Rattle.sy_onecopy.specs.declared.Work.TheVariants.{Node, Access, End}
use Rattle.sy_onecopy.specs.declared.Stage.{Stage}
use Rattle.sy_onecopy.specs.Each.{changed_at}
use Rattle.sy_onecopy.specs.Before.{is_node, is_done}
use Rattle.sy_onecopy.specs.Settle.{with_stage}
use Rattle.sy_onecopy.specs.State.{Board}
use Rattle.sy_onecopy.specs.Step.{accesses, is_access_of, access_from, is_access, node_done, queue_done, is_past, is_node_on, number_of}
use Rattle.sy_onecopy.specs.Sequence.{has_open_node_on, has_open_node}
use Rattle.sy_sound.specs.Sound.{IsSound}
use Rattle.sy_sound.proofs.CountLemmas.{node_below}
use Rattle.sy_counts.specs.Counts.{one_if, is_open_on, is_open_node, open_on, open_nodes, open_below}
use Rattle.sy_counts.proofs.SumLemmas.{sum_changed, sum_kept, count_same, any_counts, all_counts, not_one, any_more, any_changed}

-- ---- what counts tell

pub on-tells : (es : List Entry) (q : ℕ) → has_open_node_on es q ≡ nat_lt 0 (open_on es q)
unfolding has_open_node_on open_on
on-tells es q = any_counts (is_open_on q) es

pub nodes-tell : (es : List Entry) → has_open_node es ≡ nat_lt 0 (open_nodes es)
unfolding has_open_node open_nodes
nodes-tell es = any_counts is_open_node es

pub below-tells : (es : List Entry) (q n : ℕ) → queue_done es q n ≡ (open_below es q n == 0)
unfolding queue_done open_below
below-tells es q n = all_counts (is_past q n) es

below_on : (a d : Bool) (m n : ℕ) → m < n → not (not (a && nat_lt m n) || d) ≡ (a && not d)
below_on true d m n lt = let t : nat_lt m n ≡ true = grind (arith, nat_tests) in ap (λ v. not (not v || d)) t
below_on false true m n lt = refl
below_on false false m n lt = refl

asked_one : (b : Board) (k q : ℕ) (e : Entry) (w : Work) → IsSound b → slice_get b.entries k ≡ Some e → e.work ≡ w → not (not (is_node_on q w && nat_lt (number_of w) b.nodes) || is_done e.stage) ≡ (is_node_on q w && not (is_done e.stage))
asked_one b k q e (Node m p c) s g h = below_on (p == q) (is_done e.stage) m b.nodes (node_below b k m p e c s g h)
asked_one b k q e (Access t i) s g h = refl
asked_one b k q e (End t r) s g h = refl

pub asked-all : (b : Board) (q : ℕ) → IsSound b → open_below b.entries q b.nodes ≡ open_on b.entries q
unfolding open_below open_on
asked-all b q s = count_same (λ e. not (is_past q b.nodes e)) (is_open_on q) b.entries (λ k e g. asked_one b k q e e.work s g refl)

-- ---- one entry more

pub on-more : (es : List Entry) (e : Entry) (q : ℕ) → open_on (es ++ e ∷ []) q ≡ open_on es q + one_if (is_open_on q e)
unfolding open_on
on-more es e q = sum_by_push (λ x. one_if (is_open_on q x)) es e

pub nodes-more : (es : List Entry) (e : Entry) → open_nodes (es ++ e ∷ []) ≡ open_nodes es + one_if (is_open_node e)
unfolding open_nodes
nodes-more es e = sum_by_push (λ x. one_if (is_open_node x)) es e

pub below-more : (es : List Entry) (e : Entry) (q n : ℕ) → open_below (es ++ e ∷ []) q n ≡ open_below es q n + (if is_past q n e then 0 else 1)
unfolding open_below
below-more es e q n = sum_by_push (λ x. one_if (not (is_past q n x))) es e ∙ ap (λ i. count_by (λ x. not (is_past q n x)) es + i) (not_one (is_past q n e))

pub done-more : (es : List Entry) (e : Entry) (n : ℕ) → node_done (es ++ e ∷ []) n ≡ (node_done es n || (is_node e.work n && is_done e.stage))
unfolding node_done
done-more es e n = any_more (λ x. is_node x.work n && is_done x.stage) es e

pub accesses-more : (es : List Entry) (e : Entry) (t : ℕ) → accesses (es ++ e ∷ []) t ≡ accesses es t + one_if (is_access_of t e.work)
unfolding accesses
accesses-more es e t = sum_by_push (λ x. one_if (is_access_of t x.work)) es e

found_step : (v : Bool) (at j : ℕ) (o p : Option ℕ) → (o ≡ Some j → p ≡ Some j) → (if v then Some at else o) ≡ Some j → (if v then Some at else p) ≡ Some j
found_step true at j o p f h = h
found_step false at j o p f h = f h

pub found-more : (at j : ℕ) (es : List Entry) (e : Entry) (t k : ℕ) → access_from at es t k ≡ Some j → access_from at (es ++ e ∷ []) t k ≡ Some j
found-more at j [] e t k h = absurd cc
found-more at j (x ∷ xs) e t k h = found_step (is_access x.work t k) at j (access_from (suc at) xs t k) (access_from (suc at) (xs ++ e ∷ []) t k) (λ g. found-more (suc at) j xs e t k g) h

added_step : (v : Bool) (at : ℕ) (o p r : Option ℕ) → (o ≡ None → p ≡ r) → (if v then Some at else o) ≡ None → (if v then Some at else p) ≡ r
added_step true at o p r f h = absurd cc
added_step false at o p r f h = f h

pub added-more : (at : ℕ) (es : List Entry) (e : Entry) (t k : ℕ) → access_from at es t k ≡ None → access_from at (es ++ e ∷ []) t k ≡ (if is_access e.work t k then Some (at + length es) else None)
added-more at [] e t k h = ap (λ n. if is_access e.work t k then Some n else None) (let z : at ≡ at + 0 = omega arith in z)
added-more at (x ∷ xs) e t k h =
    added_step (is_access x.work t k) at (access_from (suc at) xs t k) (access_from (suc at) (xs ++ e ∷ []) t k) (if is_access e.work t k then Some (at + length (x ∷ xs)) else None)
    (λ g. added-more (suc at) xs e t k g ∙ ap (λ n. if is_access e.work t k then Some n else None) (let z : suc at + length xs ≡ at + suc (length xs) = omega arith in z)) h

-- ---- one entry whose stage changes

pub on-changed : (s : Stage) (k : ℕ) (es : List Entry) (e : Entry) (q : ℕ) → slice_get es k ≡ Some e → open_on (changed_at (with_stage s) k es) q + one_if (is_open_on q e) ≡ open_on es q + one_if (is_open_on q (with_stage s e))
unfolding open_on
on-changed s k es e q g = sum_changed (λ x. one_if (is_open_on q x)) (with_stage s) k es e g

pub nodes-changed : (s : Stage) (k : ℕ) (es : List Entry) (e : Entry) → slice_get es k ≡ Some e → open_nodes (changed_at (with_stage s) k es) + one_if (is_open_node e) ≡ open_nodes es + one_if (is_open_node (with_stage s e))
unfolding open_nodes
nodes-changed s k es e g = sum_changed (λ x. one_if (is_open_node x)) (with_stage s) k es e g

pub below-changed : (s : Stage) (k : ℕ) (es : List Entry) (e : Entry) (q n : ℕ) → slice_get es k ≡ Some e → open_below (changed_at (with_stage s) k es) q n + (if is_past q n e then 0 else 1) ≡ open_below es q n + (if is_past q n (with_stage s e) then 0 else 1)
unfolding open_below
below-changed s k es e q n g =
    ap (λ i. count_by (λ x. not (is_past q n x)) (changed_at (with_stage s) k es) + i) (sym (not_one (is_past q n e)))
    ∙ sum_changed (λ x. one_if (not (is_past q n x))) (with_stage s) k es e g
    ∙ ap (λ i. count_by (λ x. not (is_past q n x)) es + i) (not_one (is_past q n (with_stage s e)))

and_off : (a b : Bool) → b ≡ false → (a && b) ≡ false
and_off true b h = h
and_off false b h = refl

pub done-changed : (s : Stage) (k : ℕ) (es : List Entry) (e : Entry) (n : ℕ) → slice_get es k ≡ Some e → is_done e.stage ≡ false → node_done (changed_at (with_stage s) k es) n ≡ (node_done es n || (is_node e.work n && is_done s))
unfolding node_done
done-changed s k es e n g h = any_changed (λ x. is_node x.work n && is_done x.stage) (with_stage s) k es e g (and_off (is_node e.work n) (is_done e.stage) h)

pub accesses-changed : (s : Stage) (k : ℕ) (es : List Entry) (t : ℕ) → accesses (changed_at (with_stage s) k es) t ≡ accesses es t
unfolding accesses
accesses-changed s k es t = sum_kept (λ x. one_if (is_access_of t x.work)) (with_stage s) (λ x. refl) k es

pub access-changed : (s : Stage) (k at : ℕ) (es : List Entry) (t i : ℕ) → access_from at (changed_at (with_stage s) k es) t i ≡ access_from at es t i
access-changed s k at [] t i = refl
access-changed s zero at (x ∷ xs) t i = refl
access-changed s (suc k) at (x ∷ xs) t i = ap (λ o. if is_access x.work t i then Some at else o) (access-changed s k (suc at) xs t i)
