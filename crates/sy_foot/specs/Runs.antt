-- Runs of elements, one after another: which element has which number.
use Rattle.std.specs.Prelude.{◌≡◌, ℕ, Bool, true, false, if◌then◌else◌, nat_eq, nat_lt, nat_le, ◌&&◌, ◌+◌, ◌-◌, ◌++◌, List, [], ◌∷◌, ◌<◌, Option, Some, None, slice_get}
use Rattle.std.specs.List.{list_any}
use Rattle.sy_access.specs.declared.access.Need.{Need}
use Rattle.sy_foot.specs.declared.runs.Run.{Run}

abbrev pub length_of : Run → ℕ
length_of x = x.to - x.from

abbrev pub total : List Run → ℕ
total [] = 0
total (x ∷ xs) = length_of x + total xs

-- the run has the element i of the list
abbrev pub has_element : Run → ℕ → ℕ → Bool
has_element x list i = nat_eq x.list list && (nat_le x.from i && nat_lt i x.to)

abbrev pub is_in : List Run → ℕ → ℕ → Bool
is_in xs list i = list_any (λ x. has_element x list i) xs

-- no element is in two runs
abbrev pub AreApart : List Run → Type 0
AreApart xs = (j k list i : ℕ) (x y : Run) → j < k → slice_get xs j ≡ Some x → slice_get xs k ≡ Some y → has_element x list i ≡ true → has_element y list i ≡ false

abbrev pub overlap : Run → Run → Bool
overlap x y = nat_eq x.list y.list && (nat_lt x.from y.to && nat_lt y.from x.to)

abbrev pub least : ℕ → ℕ → ℕ
least a b = if nat_lt a b then a else b

abbrev pub greatest : ℕ → ℕ → ℕ
greatest a b = if nat_lt a b then b else a

abbrev pub united : Run → Run → Run
united x y = record { list = x.list; from = least x.from y.from; to = greatest x.to y.to }

-- the runs with one more, which takes in all those that it overlaps
abbrev pub inserted : Run → List Run → List Run
inserted x [] = x ∷ []
inserted x (y ∷ ys) = if overlap x y then inserted (united x y) ys else y ∷ inserted x ys

-- what one run more does to the run that is inserted, and to those that stand before it
abbrev pub grown_by : Run → Run → Run
grown_by x y = if overlap x y then united x y else x

abbrev pub kept_beside : Run → Run → List Run → List Run
kept_beside x y out = if overlap x y then out else out ++ y ∷ []

-- the runs of needs: those that overlap share one
abbrev pub run_of : Need → Run
run_of n = record { list = n.buffer; from = n.from; to = n.to }

abbrev pub runs_with : List Run → List Need → List Run
runs_with xs [] = xs
runs_with xs (n ∷ ns) = runs_with (inserted (run_of n) xs) ns

-- the runs of local lists of these lengths, from slot k on
abbrev pub local_runs : ℕ → List ℕ → List Run
local_runs k [] = []
local_runs k (n ∷ ns) = record { list = k; from = 0; to = n } ∷ local_runs (k + 1) ns

-- the number of an element, where the first one has the number base
abbrev pub number_in : ℕ → List Run → ℕ → ℕ → Option ℕ
number_in base [] list i = None
number_in base (x ∷ xs) list i =
    if has_element x list i then Some (base + (i - x.from)) else number_in (base + length_of x) xs list i

-- the list and the element of a number, where the first one has the number 0
abbrev pub element_at : List Run → ℕ → Option (ℕ × ℕ)
element_at [] n = None
element_at (x ∷ xs) n = if nat_lt n (length_of x) then Some (x.list, x.from + n) else element_at xs (n - length_of x)
