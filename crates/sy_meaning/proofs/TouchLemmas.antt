-- What a group writes to buffers is among its touches.
use Rattle.std.proofs.Common.{refl}
use Rattle.std.specs.Prelude.{Bool, List, Ok, [], false, filter_map, flat_map, if◌then◌else◌, map, suc, true, zero, ℕ, ℤ, ◌&&◌, ◌++◌, ◌+◌, ◌||◌, ◌∷◌, ◌≡◌}
use Rattle.sy_access.specs.Logs.{is_logged, logged, same_cell}
use Rattle.sy_access.specs.declared.cells.Cell.{Cell}
use Rattle.sy_range.specs.declared.nd_ranges.Position.{Position}
use Rattle.sy_work.specs.Programs.{Input}
use Rattle.sy_work.specs.declared.asks.Answer.{Answer}
use Rattle.sy_meaning.specs.declared.runs.Step.{Step}
use Rattle.sy_meaning.specs.declared.runs.Step.TheVariants as steps
use Rattle.sy_meaning.specs.declared.runs.Store.{Store}
use Rattle.sy_meaning.specs.Statements.{given}
use Rattle.sy_meaning.specs.Next.{item, next}
use Rattle.sy_meaning.specs.Items.{Came, Footprint, Item, cell_of, ended, failed, goes_on, is_write, phase, write_of, writes_in, written}
use Rattle.sy_meaning.specs.Kernels.{Done, Grouped, Touched, all_touches, buffer_steps, came, done_after, footprints, group_done, is_buffer_cell, nothing_done, phases, store_of, touches_added, with_answers}
use Rattle.sy_meaning.proofs.ItemOrderLemmas.{writes_cell}
use Rattle.sy_meaning.proofs.LogLemmas.{not_same}
use Rattle.std.proofs.Common.{sym, ap, ◌∙◌, subst}
use Rattle.std.proofs.lemmas.Bool.{or_left, or_right, and_right}
use Rattle.std.proofs.lemmas.List.Folds.{list_any-append}

abbrev pub touched_steps : List Touched → List Step
touched_steps ts = flat_map (λ t. t.1) ts

-- each cell of a buffer that was written was touched by a write
abbrev pub Covered : Done → Type 0
Covered d = (c : Cell) → is_buffer_cell c ≡ true → is_logged d.writes c ≡ true → writes_cell (all_touches d) c ≡ true

pub writes_append : (a b : List Step) (c : Cell) → writes_cell (a ++ b) c ≡ (writes_cell a c || writes_cell b c)
writes_append a b c = list_any-append (λ s. is_write s && same_cell (cell_of s) c) a b

keep_step : (b : Bool) (s : Step) (ss : List Step) (c : Cell) (x : Bool) → (b ≡ false → (is_write s && same_cell (cell_of s) c) ≡ false) → writes_cell ss c ≡ x → writes_cell (if b then s ∷ ss else ss) c ≡ ((is_write s && same_cell (cell_of s) c) || x)
keep_step true s ss c x gone same = ap (λ y. (is_write s && same_cell (cell_of s) c) || y) same
keep_step false s ss c x gone same = same ∙ sym (ap (λ y. y || x) (gone refl))

pub buffer_steps_write : (ss : List Step) (c : Cell) → is_buffer_cell c ≡ true → writes_cell (buffer_steps ss) c ≡ writes_cell ss c
buffer_steps_write [] c h = refl
buffer_steps_write (s ∷ ss) c h =
    keep_step (is_buffer_cell (cell_of s)) s (buffer_steps ss) c (writes_cell ss c) (λ e. and_right (is_write s) (same_cell (cell_of s) c) (not_same (cell_of s) c true e h)) (buffer_steps_write ss c h)

-- the steps of all items
abbrev pub steps_in : List Footprint → List Step
steps_in fs = flat_map (λ f. f.steps) fs

pub logged_steps : (ss : List Step) (c : Cell) → is_logged (filter_map write_of ss) c ≡ writes_cell ss c
logged_steps [] c = refl
logged_steps (steps.Read d line ∷ ss) c = logged_steps ss c
logged_steps (steps.Wrote d z line ∷ ss) c = ap (λ x. same_cell d c || x) (logged_steps ss c)

pub first_touches : (fs : List Footprint) (c : Cell) → is_buffer_cell c ≡ true → writes_cell (touched_steps (map (λ f. (f.position, buffer_steps f.steps)) fs)) c ≡ writes_cell (steps_in fs) c
first_touches [] c h = refl
first_touches (f ∷ fs) c h =
    let rest = touched_steps (map (λ (g : Footprint). (g.position, buffer_steps g.steps)) fs) in
    writes_append (buffer_steps f.steps) rest c ∙ (ap (λ x. x || writes_cell rest c) (buffer_steps_write f.steps c h) ∙ (ap (λ x. writes_cell f.steps c || x) (first_touches fs c h) ∙ sym (writes_append f.steps (steps_in fs) c)))

or_pairs : (a b c d : Bool) → ((a || b) || (c || d)) ≡ ((a || c) || (b || d))
or_pairs true b c d = refl
or_pairs false true true d = refl
or_pairs false true false d = refl
or_pairs false false c d = refl

or_nothing : (x : Bool) → x ≡ (x || false)
or_nothing true = refl
or_nothing false = refl

pub more_touches : (ts : List Touched) (fs : List Footprint) (c : Cell) → is_buffer_cell c ≡ true → writes_cell (touched_steps (touches_added ts fs)) c ≡ (writes_cell (touched_steps ts) c || writes_cell (steps_in fs) c)
more_touches [] fs c h = first_touches fs c h
more_touches (t ∷ ts) [] c h = or_nothing (writes_cell (touched_steps (t ∷ ts)) c)
more_touches (t ∷ ts) (f ∷ fs) c h =
    let rest = touched_steps (touches_added ts fs) in
    writes_append (t.1 ++ buffer_steps f.steps) rest c ∙ (ap (λ x. x || writes_cell rest c) (writes_append t.1 (buffer_steps f.steps) c ∙ ap (λ x. writes_cell t.1 c || x) (buffer_steps_write f.steps c h)) ∙ (ap (λ x. (writes_cell t.1 c || writes_cell f.steps c) || x) (more_touches ts fs c h) ∙ (or_pairs (writes_cell t.1 c) (writes_cell f.steps c) (writes_cell (touched_steps ts) c) (writes_cell (steps_in fs) c) ∙ (ap (λ x. x || (writes_cell f.steps c || writes_cell (steps_in fs) c)) (sym (writes_append t.1 (touched_steps ts) c)) ∙ ap (λ x. writes_cell (touched_steps (t ∷ ts)) c || x) (sym (writes_append f.steps (steps_in fs) c))))))

or_first : (x y z : Bool) → (x || (y || z)) ≡ ((x || y) || z)
or_first true y z = refl
or_first false y z = refl

pub logged_more : (a b : List (Cell × ℤ)) (c : Cell) → is_logged (a ++ b) c ≡ (is_logged a c || is_logged b c)
logged_more [] b c = refl
logged_more (w ∷ a) b c = ap (λ x. same_cell w.0 c || x) (logged_more a b c) ∙ or_first (same_cell w.0 c) (is_logged a c) (is_logged b c)

either_way : (a b x y : Bool) → (a ≡ true → x ≡ true) → b ≡ y → (a || b) ≡ true → (x || y) ≡ true
either_way true b x y p q h = or_left x y (p refl)
either_way false b x y p q h = or_right x y (sym q ∙ h)

pub covered_after : (d : Done) (fs : List Footprint) → Covered d → Covered (done_after d fs)
covered_after d fs covered c h logged =
    more_touches d.touches fs c h ∙ either_way (is_logged d.writes c) (is_logged (writes_in fs) c) (writes_cell (all_touches d) c) (writes_cell (steps_in fs) c) (covered c h) (logged_steps (steps_in fs) c) (sym (logged_more d.writes (writes_in fs) c) ∙ logged)

pub ok_is : (d e : Done) → ◌≡◌ {A = Grouped} (Ok d) (Ok e) → d ≡ e
ok_is d e h = cc

pub came_covered : (x : Came) (done : Done) (go : List Answer → Grouped) (d : Done) → Covered done → ((bs : List Answer) → go bs ≡ Ok d → Covered d) → came x done go ≡ Ok d → Covered d
came_covered ended done go d covered next h = let P = λ (z : Done). Covered z in subst P (ok_is done d h) covered
came_covered (goes_on bs) done go d covered next h = next bs h
came_covered (failed f) done go d covered next h = absurd cc

pub phases_covered : (item : Item) (ps : List Position) (n : ℕ) (stores : List Store) (now : Store) (given : List (List Answer)) (done d : Done) → Covered done → phases item ps n stores now given done ≡ Ok d → Covered d
phases_covered item ps zero stores now given done d covered h = let P = λ (z : Done). Covered z in subst P (ok_is done d h) covered
phases_covered item ps (suc n) stores now given done d covered h =
    let fs = footprints item ps (stores ++ now ∷ []) given in
    came_covered (phase fs) (done_after done fs) (λ bs. phases item ps n (stores ++ now ∷ []) (written now fs) (with_answers given bs) (done_after done fs)) d (covered_after done fs covered) (λ bs e. phases_covered item ps n (stores ++ now ∷ []) (written now fs) (with_answers given bs) (done_after done fs) d (covered_after done fs covered) e) h

nothing_covered : Covered nothing_done
nothing_covered c h logged = absurd cc

pub group_covered : (item : Item) (turns : ℕ) (inputs : List Input) (ps : List Position) (d : Done) → group_done item turns inputs ps ≡ Ok d → Covered d
group_covered item turns inputs ps d h = phases_covered item ps (turns + 1) [] (store_of inputs) [] nothing_done d nothing_covered h
