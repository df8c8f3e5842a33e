-- The steps in which the elements of a root are renewed give what the command leaves.
use Rattle.std.proofs.Common.{◌≡◌, ℕ, ◌+◌, min, max, ◌<◌, ◌≤◌, ℤ, pos, Bool, true, false, List, [], ◌∷◌, length, set, replicate, refl, sym, ap, ◌∙◌, arith, IsTrue, Option, Some, None}
use Rattle.std.specs.Prelude.{if◌then◌else◌, ◌&&◌, ◌==◌, unwrap_or}
use Rattle.std.proofs.lemmas.Bool.Decides.{nat_tests}
use Rattle.sy_access.specs.declared.access.Need.{Need}
use Rattle.sy_access.specs.declared.cells.Cell.{Cell}
use Rattle.sy_access.specs.declared.cells.Cell.TheVariants as cell
use Rattle.sy_access.specs.Needs.{has_cell, writes}
use Rattle.sy_access.specs.Logs.{same_cell, logged, is_logged, differ}
use Rattle.sy_needs.specs.Each.{each_from}
use Rattle.sy_copies.specs.Commands.{cells_after, start_of, keeps}
use Rattle.sy_needs.specs.Elements.{starts_zero, is_written, at_start, cell_after}
use Rattle.sy_copies.specs.Parts.{zero_in, clear_in, clear_at, put_at, put_all_at}
use Rattle.sy_copies.proofs.ListLemmas.{each_from-agree, each_from-kept, each_from-twice, each_from-set, each_from-all, each_from-replicate}

-- a run without elements
pub zero_none : (from to : ℕ) (cells : List ℤ) → to ≤ from → cells ≡ each_from (zero_in from to) 0 cells
unfolding zero_in
zero_none from to cells h = sym (each_from-kept (zero_in from to) 0 cells (λ i v a b. grind (arith, nat_tests)))

-- one element more
pub zero_more : (from i : ℕ) (cells was : List ℤ) → from ≤ i → cells ≡ each_from (zero_in from i) 0 was → set cells i (pos 0) ≡ each_from (zero_in from (i + 1)) 0 was
unfolding zero_in
zero_more from i cells was h e =
    let f : ℕ → ℤ → ℤ = λ k v. if k == i then pos 0 else v in
    let one : set cells i (pos 0) ≡ each_from f 0 cells = each_from-set f (pos 0) 0 i cells (λ v. grind (arith, nat_tests)) (λ k v n. grind (arith, nat_tests)) in
    one ∙ ap (each_from f 0) e ∙ each_from-twice (zero_in from i) f (zero_in from (i + 1)) (λ k v. grind (arith, nat_tests)) 0 was

-- the whole run
pub zero_all : (from to i : ℕ) (cells was : List ℤ) → from ≤ i → min to (length was) ≤ i → i ≤ max from (min to (length was)) → cells ≡ each_from (zero_in from i) 0 was → cells ≡ each_from (zero_in from to) 0 was
unfolding zero_in
zero_all from to i cells was a b c e = e ∙ each_from-agree (zero_in from i) (zero_in from to) 0 was (λ k v d f. grind (arith, nat_tests))

pub clear_none : (needs : List Need) (b from to : ℕ) (cells : List ℤ) → to ≤ from → cells ≡ each_from (clear_in needs b from to) 0 cells
unfolding clear_in
clear_none needs b from to cells h = sym (each_from-kept (clear_in needs b from to) 0 cells (λ i v c d. grind (arith, nat_tests)))

-- no needs
pub clear_alone : (b from to : ℕ) (cells : List ℤ) → each_from (zero_in from to) 0 cells ≡ each_from (clear_in [] b from to) 0 cells
unfolding clear_in zero_in starts_zero
clear_alone b from to cells = each_from-agree (zero_in from to) (clear_in [] b from to) 0 cells (λ i v c d. grind (arith, nat_tests))

-- a need that keeps no element
pub clear_past : (n : Need) (ns : List Need) (b from to : ℕ) (cells : List ℤ) → keeps n b ≡ false → each_from (clear_in ns b from to) 0 cells ≡ each_from (clear_in (n ∷ ns) b from to) 0 cells
unfolding clear_in starts_zero has_cell
clear_past n ns b from to cells h = each_from-agree (clear_in ns b from to) (clear_in (n ∷ ns) b from to) 0 cells (λ i v c d. grind (arith, nat_tests))

-- a need that keeps some cuts the run in two
pub clear_cut : (n : Need) (ns : List Need) (b from to : ℕ) (cells : List ℤ) → keeps n b ≡ true → each_from (clear_in ns b (max from n.to) to) 0 (each_from (clear_in ns b from (min to n.from)) 0 cells) ≡ each_from (clear_in (n ∷ ns) b from to) 0 cells
unfolding clear_in starts_zero has_cell
clear_cut n ns b from to cells h = each_from-twice (clear_in ns b from (min to n.from)) (clear_in ns b (max from n.to) to) (clear_in (n ∷ ns) b from to) (λ i v. grind (arith, nat_tests)) 0 cells

-- a need that does not write on the root
pub clear_skip : (n : Need) (ns needs : List Need) (b : ℕ) (cells : List ℤ) → (n.buffer == b && writes n.mode) ≡ false → each_from (clear_at ns needs b) 0 cells ≡ each_from (clear_at (n ∷ ns) needs b) 0 cells
unfolding clear_at is_written has_cell
clear_skip n ns needs b cells h = each_from-agree (clear_at ns needs b) (clear_at (n ∷ ns) needs b) 0 cells (λ i v c d. grind (arith, nat_tests))

-- a need that writes on the root
pub clear_more : (n : Need) (ns needs : List Need) (b : ℕ) (cells : List ℤ) → (n.buffer == b && writes n.mode) ≡ true → each_from (clear_at ns needs b) 0 (each_from (clear_in needs b n.from n.to) 0 cells) ≡ each_from (clear_at (n ∷ ns) needs b) 0 cells
unfolding clear_at clear_in is_written has_cell
clear_more n ns needs b cells h = each_from-twice (clear_in needs b n.from n.to) (clear_at ns needs b) (clear_at (n ∷ ns) needs b) (λ i v. grind (arith, nat_tests)) 0 cells

-- no writers
pub clear_end : (needs : List Need) (b : ℕ) (cells : List ℤ) → each_from (clear_at [] needs b) 0 cells ≡ cells
unfolding clear_at is_written
clear_end needs b cells = each_from-kept (clear_at [] needs b) 0 cells (λ i v c d. refl)

-- the number of a cell that is an element of the root
pub put_one : (needs : List Need) (r j b : ℕ) (x : ℤ) (cells : List ℤ) → r ≡ b → is_written needs b j ≡ true → set cells j x ≡ each_from (put_at needs (cell.Buffer r j) x b) 0 cells
unfolding put_at same_cell
put_one needs r j b x cells e h = each_from-set (put_at needs (cell.Buffer r j) x b) x 0 j cells (λ v. grind (arith, nat_tests)) (λ i v n. grind (arith, nat_tests))

-- the number of a cell that is none within the list that a need writes
pub put_none : (needs : List Need) (r j b : ℕ) (x : ℤ) (cells : List ℤ) → (r ≡ b → j < length cells → is_written needs b j ≡ false) → cells ≡ each_from (put_at needs (cell.Buffer r j) x b) 0 cells
unfolding put_at same_cell
put_none needs r j b x cells h = sym (each_from-kept (put_at needs (cell.Buffer r j) x b) 0 cells (λ i v c d. grind (arith, nat_tests)))

-- the number of a cell of local memory
pub put_local : (needs : List Need) (r j b : ℕ) (x : ℤ) (cells : List ℤ) → cells ≡ each_from (put_at needs (cell.Local r j) x b) 0 cells
unfolding put_at same_cell
put_local needs r j b x cells = sym (each_from-kept (put_at needs (cell.Local r j) x b) 0 cells (λ i v c d. grind (arith, nat_tests)))

unlogged : (ws : List (Cell × ℤ)) (c : Cell) → is_logged ws c ≡ false → logged ws c ≡ None
unlogged [] c h = refl
unlogged (w ∷ ws) c h =
    let first : same_cell w.0 c ≡ false = grind arith in
    let rest : is_logged ws c ≡ false = grind arith in
    rw first (unlogged ws c rest)

same_is : (c d : Cell) → same_cell c d ≡ true → c ≡ d
unfolding same_cell
same_is (cell.Buffer r i) (cell.Buffer s j) h = grind (arith, nat_tests)
same_is (cell.Local r i) (cell.Local s j) h = grind (arith, nat_tests)
same_is (cell.Buffer r i) (cell.Local s j) h = cc
same_is (cell.Local r i) (cell.Buffer s j) h = cc

choose : (w s : Bool) (o : Option ℤ) (x v : ℤ) → (s ≡ true → o ≡ None) → (if w then unwrap_or o (if w && s then x else v) else (if w && s then x else v)) ≡ (if w then unwrap_or (if s then Some x else o) v else v)
choose true true o x v h = rw (h refl) refl
choose true false o x v h = refl
choose false s o x v h = refl

-- one number of the log after another
pub put_more : (needs : List Need) (w : Cell × ℤ) (ws : List (Cell × ℤ)) (b : ℕ) (cells : List ℤ) → IsTrue (differ (w ∷ ws)) → each_from (put_all_at needs ws b) 0 (each_from (put_at needs w.0 w.1 b) 0 cells) ≡ each_from (put_all_at needs (w ∷ ws) b) 0 cells
unfolding put_all_at put_at
put_more needs w ws b cells h =
    let new : is_logged ws w.0 ≡ false = grind arith in
    each_from-twice (put_at needs w.0 w.1 b) (put_all_at needs ws b) (put_all_at needs (w ∷ ws) b)
    (λ i v. choose (is_written needs b i) (same_cell w.0 (cell.Buffer b i)) (logged ws (cell.Buffer b i)) w.1 v
    (λ e. unlogged ws (cell.Buffer b i) (ap (is_logged ws) (sym (same_is w.0 (cell.Buffer b i) e)) ∙ new)))
    0 cells

pub differ_rest : (w : Cell × ℤ) (ws : List (Cell × ℤ)) → IsTrue (differ (w ∷ ws)) → IsTrue (differ ws)
differ_rest w ws h = grind arith

either : {A : Type 0} (w : Bool) (v : A) → (if w then v else v) ≡ v
either true v = refl
either false v = refl

-- an empty log
pub put_end : (needs : List Need) (b : ℕ) (cells : List ℤ) → each_from (put_all_at needs [] b) 0 cells ≡ cells
unfolding put_all_at
put_end needs b cells = each_from-kept (put_all_at needs [] b) 0 cells (λ i v c d. either (is_written needs b i) v)

after_clear : (w s : Bool) (o : Option ℤ) (v : ℤ) → (if w then unwrap_or o (if w && s then pos 0 else v) else (if w && s then pos 0 else v)) ≡ (if w then unwrap_or o (if s then pos 0 else v) else v)
after_clear true s o v = refl
after_clear false s o v = refl

-- zeros where they are due, and then the log
pub renewed_kept : (needs : List Need) (log : List (Cell × ℤ)) (b : ℕ) (cells cleared put : List ℤ) → cleared ≡ each_from (clear_at needs needs b) 0 cells → put ≡ each_from (put_all_at needs log b) 0 cleared → put ≡ cells_after needs log b (start_of false (length cells) cells)
unfolding cells_after start_of cell_after at_start clear_at put_all_at
renewed_kept needs log b cells cleared put e f =
    f ∙ ap (each_from (put_all_at needs log b) 0) e
    ∙ each_from-twice (clear_at needs needs b) (put_all_at needs log b) (cell_after needs log b)
    (λ i v. after_clear (is_written needs b i) (starts_zero needs b i) (logged log (cell.Buffer b i)) v) 0 cells

-- zeros throughout, and then the log
pub renewed_zeros : (needs : List Need) (log : List (Cell × ℤ)) (b : ℕ) (cells cleared put : List ℤ) → cleared ≡ each_from (zero_in 0 (length cells)) 0 cells → put ≡ each_from (put_all_at needs log b) 0 cleared → put ≡ cells_after needs log b (start_of true (length cells) cells)
unfolding cells_after start_of cell_after at_start zero_in put_all_at
renewed_zeros needs log b cells cleared put e f =
    let zeros : cleared ≡ replicate (length cells) (pos 0) = e ∙ each_from-all (zero_in 0 (length cells)) (pos 0) 0 cells (λ i v c d. grind (arith, nat_tests)) in
    f ∙ ap (each_from (put_all_at needs log b) 0) zeros
    ∙ each_from-replicate (put_all_at needs log b) (cell_after needs log b) (pos 0)
    (λ i. ap (λ z. if is_written needs b i then unwrap_or (logged log (cell.Buffer b i)) z else pos 0) (sym (either (starts_zero needs b i) (pos 0)))) 0 (length cells)
