-- What a closed host access gives back is what a command with its need leaves that wrote each element.
use Rattle.std.proofs.Common.{◌≡◌, ℕ, ◌+◌, ◌-◌, ◌<◌, ℤ, List, [], ◌∷◌, length, Bool, true, false, Some, None, refl, sym, ap, ◌∙◌, inl, inr, arith}
use Rattle.std.specs.Prelude.{slice_get, slice_index_or, unwrap_or, ◌&&◌, ◌||◌, ◌==◌, nat_le, nat_lt, if◌then◌else◌}
use Rattle.std.proofs.lemmas.Bool.{cases_Bool}
use Rattle.std.proofs.lemmas.Bool.Decides.{nat_tests}
use Rattle.std.proofs.lemmas.Option.{slice_get-get_or}
use Rattle.sy_access.specs.declared.access.Need.{Need}
use Rattle.sy_access.specs.declared.cells.Cell.TheVariants as cell
use Rattle.sy_access.specs.Needs.{has_cell, writes}
use Rattle.sy_access.specs.Logs.{logged}
use Rattle.sy_needs.specs.Each.{each_from}
use Rattle.sy_needs.specs.Elements.{is_written, at_start, cell_after}
use Rattle.sy_work.specs.Moves.{writes_from}
use Rattle.sy_work.proofs.ReadLemmas.{read_back}
use Rattle.sy_onecopy.specs.declared.Buffer.{Buffer}
use Rattle.sy_onecopy.specs.State.{Board}
use Rattle.sy_onecopy.specs.Outcome.{buffer_after, buffers_after}
use Rattle.sy_onecopy.specs.Step.{cell_put, buffer_put, put_back}
use Rattle.sy_copies.proofs.ListLemmas.{each_from-agree, each_from-kept}

within : (n : Need) (r i count : ℕ) → has_cell n r i ≡ true → n.from + count ≡ n.to → i - n.from < count
unfolding has_cell
within n r i count h e =
    let a : nat_le n.from i ≡ true = grind (arith, nat_tests) in
    let b : nat_lt i n.to ≡ true = grind (arith, nat_tests) in
    grind (arith, nat_tests)

read_cell : (n : Need) (values : List ℤ) (r i : ℕ) (v : ℤ) → has_cell n r i ≡ true → n.from + length values ≡ n.to → logged (writes_from n.buffer n.from values) (cell.Buffer r i) ≡ Some (slice_index_or values (i - n.from) v)
unfolding has_cell
read_cell n values r i v h e =
    let t : (n.buffer == r && nat_le n.from i) ≡ true = grind (arith, nat_tests) in
    read_back n.buffer n.from values r i
    ∙ ap (λ z. if z then slice_get values (i - n.from) else None) t
    ∙ slice_get-get_or values (i - n.from) v (within n r i (length values) h e)

wrote_here : (n : Need) (values : List ℤ) (r i : ℕ) (v : ℤ) (h : Bool) → has_cell n r i ≡ h → n.from + length values ≡ n.to → writes n.mode ≡ true → cell_after (n ∷ []) (writes_from n.buffer n.from values) r i v ≡ cell_put n values r i v
unfolding cell_after is_written cell_put
wrote_here n values r i v true h e w =
    let start = at_start (n ∷ []) r i v in
    let put = logged (writes_from n.buffer n.from values) (cell.Buffer r i) in
    ap (λ t. if (t && writes n.mode) || false then unwrap_or put start else v) h
    ∙ ap (λ t. if t || false then unwrap_or put start else v) w
    ∙ ap (λ o. unwrap_or o start) (read_cell n values r i v h e)
    ∙ sym (ap (λ t. if t then slice_index_or values (i - n.from) v else v) h)
wrote_here n values r i v false h e w =
    ap (λ t. if (t && writes n.mode) || false then unwrap_or (logged (writes_from n.buffer n.from values) (cell.Buffer r i)) (at_start (n ∷ []) r i v) else v) h
    ∙ sym (ap (λ t. if t then slice_index_or values (i - n.from) v else v) h)

and_off : (a w : Bool) → w ≡ false → ((a && w) || false) ≡ false
and_off true w h = ap (λ t. t || false) h
and_off false w h = refl

wrote_none : (n : Need) (values : List ℤ) (r i : ℕ) (v : ℤ) → writes n.mode ≡ false → cell_after (n ∷ []) (writes_from n.buffer n.from values) r i v ≡ v
unfolding cell_after is_written
wrote_none n values r i v w =
    ap (λ t. if t then unwrap_or (logged (writes_from n.buffer n.from values) (cell.Buffer r i)) (at_start (n ∷ []) r i v) else v) (and_off (has_cell n r i) (writes n.mode) w)

with_values : Buffer → List ℤ → Buffer
with_values x l = record x { values = l }

buffer_same : (n : Need) (values : List ℤ) (r : ℕ) (x : Buffer) → n.from + length values ≡ n.to → writes n.mode ≡ true → buffer_put n values r x ≡ buffer_after (n ∷ []) (writes_from n.buffer n.from values) r x
unfolding buffer_put buffer_after with_values
buffer_same n values r x e w = ap (with_values x) (each_from-agree (cell_put n values r) (cell_after (n ∷ []) (writes_from n.buffer n.from values) r) 0 x.values (λ i v a b. sym (wrote_here n values r i v (has_cell n r i) refl e w)))

buffer_kept : (n : Need) (values : List ℤ) (r : ℕ) (x : Buffer) → writes n.mode ≡ false → buffer_after (n ∷ []) (writes_from n.buffer n.from values) r x ≡ x
unfolding buffer_after with_values
buffer_kept n values r x w = ap (with_values x) (each_from-kept (cell_after (n ∷ []) (writes_from n.buffer n.from values) r) 0 x.values (λ i v a b. wrote_none n values r i v w))

pub put_back_is : (b : Board) (n : Need) (values : List ℤ) → n.from + length values ≡ n.to → (put_back b n values).buffers ≡ buffers_after (n ∷ []) (writes_from n.buffer n.from values) b.buffers
unfolding put_back buffers_after
put_back_is b n values e = elim (cases_Bool (writes n.mode)) [
  | inl w ↦
      ap (λ (t : Bool). let c : Board = if t then record b { buffers = each_from (buffer_put n values) 0 b.buffers } else b in c.buffers) w
      ∙ each_from-agree (buffer_put n values) (buffer_after (n ∷ []) (writes_from n.buffer n.from values)) 0 b.buffers (λ r x a c. buffer_same n values r x e w)
  | inr w ↦
      ap (λ (t : Bool). let c : Board = if t then record b { buffers = each_from (buffer_put n values) 0 b.buffers } else b in c.buffers) w
      ∙ sym (each_from-kept (buffer_after (n ∷ []) (writes_from n.buffer n.from values)) 0 b.buffers (λ r x a c. buffer_kept n values r x w))
]
