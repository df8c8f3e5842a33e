-- The numbers of a run, put into a list one after another.
use Rattle.std.proofs.Common.{◌≡◌, ℕ, ◌+◌, ◌<◌, ◌≤◌, ℤ, List, [], ◌∷◌, length, drop, get_or, refl, sym, ap, ◌∙◌, arith}
use Rattle.std.proofs.lemmas.List.{at_drop_more, at_drop_all}
use Rattle.sy_access.specs.declared.access.Need.{Need}
use Rattle.sy_access.specs.declared.cells.Cell.{Cell}
use Rattle.sy_access.specs.declared.cells.Cell.TheVariants as cell
use Rattle.sy_needs.specs.Each.{each_from}
use Rattle.sy_work.specs.Moves.{writes_from}
use Rattle.sy_work.proofs.WriteLemmas.{differ-writes_from}
use Rattle.sy_copies.specs.Parts.{put_at, put_all_at}
use Rattle.sy_copies.proofs.RenewalLemmas.{put_more, put_end}

-- what is still to be put in from the k-th number on
abbrev pub run_from : List Need → ℕ → ℕ → ℕ → List ℤ → List ℤ → List ℤ
run_from needs b of e rest cells = each_from (put_all_at needs (writes_from of e rest) b) 0 cells

pub run_none : (needs : List Need) (b of from : ℕ) (values cells : List ℤ) → run_from needs b of (from + 0) (drop 0 values) cells ≡ run_from needs b of from values cells
run_none needs b of from values cells = ap (λ e. run_from needs b of e values cells) (let z : from + 0 ≡ from = omega arith in z)

pub run_more : (needs : List Need) (b of from k : ℕ) (d : ℤ) (values cells : List ℤ) → k < length values → run_from needs b of (from + (k + 1)) (drop (k + 1) values) (each_from (put_at needs (cell.Buffer of (from + k)) (get_or values k d) b) 0 cells) ≡ run_from needs b of (from + k) (drop k values) cells
run_more needs b of from k d values cells lt =
    let v = get_or values k d in
    let rest = drop (k + 1) values in
    let w : Cell × ℤ = (cell.Buffer of (from + k), v) in
    ap (λ e. run_from needs b of e rest (each_from (put_at needs w.0 w.1 b) 0 cells)) (let z : from + (k + 1) ≡ from + k + 1 = omega arith in z)
    ∙ put_more needs w (writes_from of (from + k + 1) rest) b cells (differ-writes_from of (from + k) (v ∷ rest))
    ∙ ap (λ l. run_from needs b of (from + k) l cells) (sym (at_drop_more (λ l. l) values k d lt))

pub run_end : (needs : List Need) (b of from k : ℕ) (values cells : List ℤ) → length values ≤ k → run_from needs b of (from + k) (drop k values) cells ≡ cells
run_end needs b of from k values cells le = at_drop_all (λ l. run_from needs b of (from + k) l cells) values k le ∙ put_end needs b cells
