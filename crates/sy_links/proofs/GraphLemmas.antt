-- The graph goes with the entries.
use Rattle.std.proofs.Common.{◌≡◌, ◌≢◌, ℕ, zero, suc, ◌+◌, ◌<◌, ◌≤◌, List, [], ◌∷◌, ◌++◌, length, set, Bool, true, false, Option, Some, None, ◌⊎◌, refl, sym, ap, ◌∙◌, subst, inl, inr, arith}
use Rattle.std.specs.Prelude.{slice_get, slice_set, slice_index_or, option_map, All, ◌||◌, ◌==◌}
use Rattle.std.specs.List.{list_any}
use Rattle.std.proofs.lemmas.Bool.{cases_eq}
use Rattle.std.proofs.lemmas.Bool.Decides.{nat_tests}
use Rattle.std.proofs.lemmas.List.{length-append, length-set}
use Rattle.std.proofs.lemmas.List.Elements.{All-head, All-tail}
use Rattle.std.proofs.lemmas.Option.{slice_get_within, slice_get_cases, get_or_from_slice_get}
use Rattle.sy_work.specs.declared.commands.Command.{Command}
use Rattle.sy_graph.specs.declared.node.Node.{Node}
use Rattle.sy_onecopy.specs.declared.Entry.{Entry}
use Rattle.sy_onecopy.specs.declared.Work.{Work}
use Rattle.sy_onecopy.specs.declared.Work.TheVariants as work
use Rattle.sy_onecopy.specs.declared.Stage.{Stage}
use Rattle.sy_onecopy.specs.Each.{changed_at}
use Rattle.sy_onecopy.specs.Before.{is_done, is_node, is_named}
use Rattle.sy_onecopy.specs.Settle.{with_stage}
use Rattle.sy_settling.proofs.ListLemmas.{some_is, get-changed, get-changed_other, length-changed, get-append, get-set, get-set_other}
use Rattle.sy_links.specs.Links.{IsNode, IsGraph, AreIndexes, indexes_of}

-- ---- an entry comes to a stage

was : (s : Stage) (k j : ℕ) (entries : List Entry) (e y : Entry) → slice_get entries k ≡ Some e → slice_get (changed_at (with_stage s) k entries) j ≡ Some y → ((j ≢ k) × (slice_get entries j ≡ Some y)) ⊎ ((j ≡ k) × (y ≡ with_stage s e))
was s k j entries e y at g = elim (cases_eq j k) [
  | inl q ↦ inr (q, some_is (sym g ∙ ap (slice_get (changed_at (with_stage s) k entries)) q ∙ get-changed (with_stage s) k entries ∙ ap (option_map (with_stage s)) at))
  | inr ne ↦ inl (ne, sym (get-changed_other (with_stage s) k j entries ne) ∙ g)
]

-- an entry's node stays its node while another comes to a stage
node_stays : (s : Stage) (k i : ℕ) (entries : List Entry) (e y : Entry) (n : Node) → slice_get entries k ≡ Some e → is_done e.stage ≡ false → IsNode entries i y n → IsNode (changed_at (with_stage s) k entries) i y n
node_stays s k i entries e y n at undone b = record {
  needs = b.needs;
  place = b.place;
  in_order = b.in_order;
  after = λ j x lt g d. elim (was s k j entries e x at g) [
    | inl w ↦ b.after j x lt w.1 d
    | inr w ↦ b.after j e lt (ap (slice_get entries) w.0 ∙ at) undone ∙ ap (λ (z : Entry). is_named z.work y.after) (sym w.1)
  ];
}

own_node : (s : Stage) (entries : List Entry) (i : ℕ) (e : Entry) (n : Node) → IsNode entries i e n → IsNode entries i (with_stage s e) n
own_node s entries i e n b = record { needs = b.needs; place = b.place; in_order = b.in_order; after = b.after }

not_done : {A : Type 0} (b : Bool) → b ≡ true → b ≡ false → A
not_done b p q = absurd (let z : true ≡ false = sym p ∙ q in cc)

pub graph-done : (s : Stage) (k : ℕ) (entries : List Entry) (nodes : List (Option Node)) (e : Entry) → IsGraph entries nodes → slice_get entries k ≡ Some e → is_done e.stage ≡ false → is_done s ≡ true → IsGraph (changed_at (with_stage s) k entries) (slice_set nodes k None)
graph-done s k entries nodes e g at undone done = record {
  count = length-set nodes k None ∙ g.count ∙ sym (length-changed (with_stage s) k entries);
  done = λ j y h d. elim (was s k j entries e y at h) [
    | inl w ↦ get-set_other nodes k j None w.0 ∙ g.done j y w.1 d
    | inr w ↦ ap (slice_get (set nodes k None)) w.0 ∙ get-set nodes k None (let lt = slice_get_within entries k e at in let c = g.count in omega (arith, lt, c))
  ];
  node = λ j y h d. elim (was s k j entries e y at h) [
    | inl w ↦
        let m = g.node j y w.1 d in
        (m.0, get-set_other nodes k j None w.0 ∙ m.1, node_stays s k j entries e y m.0 at undone m.2)
    | inr w ↦ not_done (is_done s) done (ap (λ (z : Entry). is_done z.stage) (sym w.1) ∙ d)
  ];
}

pub graph-granted : (s : Stage) (k : ℕ) (entries : List Entry) (nodes : List (Option Node)) (e : Entry) → IsGraph entries nodes → slice_get entries k ≡ Some e → is_done e.stage ≡ false → is_done s ≡ false → IsGraph (changed_at (with_stage s) k entries) nodes
graph-granted s k entries nodes e g at undone still = record {
  count = g.count ∙ sym (length-changed (with_stage s) k entries);
  done = λ j y h d. elim (was s k j entries e y at h) [
    | inl w ↦ g.done j y w.1 d
    | inr w ↦ not_done (is_done s) (ap (λ (z : Entry). is_done z.stage) (sym w.1) ∙ d) still
  ];
  node = λ j y h d. elim (was s k j entries e y at h) [
    | inl w ↦ (let m = g.node j y w.1 d in (m.0, m.1, node_stays s k j entries e y m.0 at undone m.2))
    | inr w ↦
        let m = g.node k e at undone in
        (m.0, ap (slice_get nodes) w.0 ∙ m.1, subst (λ i. IsNode (changed_at (with_stage s) k entries) i y m.0) (sym w.0) (subst (λ z. IsNode (changed_at (with_stage s) k entries) k z m.0) (sym w.1) (own_node s (changed_at (with_stage s) k entries) k e m.0 (node_stays s k k entries e e m.0 at undone m.2))))
  ];
}

-- ---- an entry is added

more : {A : Type 0} (xs : List A) (x y : A) (k : ℕ) → slice_get (xs ++ x ∷ []) k ≡ Some y → (slice_get xs k ≡ Some y) ⊎ ((k ≡ length xs) × (x ≡ y))
more [] x y zero g = inr (refl, some_is g)
more [] x y (suc k) g = absurd cc
more (z ∷ xs) x y zero g = inl g
more (z ∷ xs) x y (suc k) g = elim (more xs x y k g) [
  | inl w ↦ inl w
  | inr w ↦ inr (ap suc w.0, w.1)
]

last : {A : Type 0} (xs : List A) (x : A) → slice_get (xs ++ x ∷ []) (length xs) ≡ Some x
last [] x = refl
last (y ∷ ys) x = last ys x

node_grows : (entries : List Entry) (i : ℕ) (e y : Entry) (n : Node) → i ≤ length entries → IsNode entries i y n → IsNode (entries ++ e ∷ []) i y n
node_grows entries i e y n le b = record {
  needs = b.needs;
  place = b.place;
  in_order = b.in_order;
  after = λ j x lt g d. b.after j x lt (sym (get-append entries (e ∷ []) j (omega (arith, lt, le))) ∙ g) d;
}

pub graph-added : (entries : List Entry) (nodes : List (Option Node)) (e : Entry) (n : Node) → IsGraph entries nodes → is_done e.stage ≡ false → IsNode entries (length entries) e n → IsGraph (entries ++ e ∷ []) (nodes ++ Some n ∷ [])
graph-added entries nodes e n g undone b = record {
  count = length-append nodes (Some n ∷ []) ∙ ap (λ i. i + 1) g.count ∙ sym (length-append entries (e ∷ []));
  done = λ j y h d. elim (more entries e y j h) [
    | inl w ↦ get-append nodes (Some n ∷ []) j (let lt = slice_get_within entries j y w in let c = g.count in omega (arith, lt, c)) ∙ g.done j y w d
    | inr w ↦ not_done (is_done e.stage) (ap (λ (z : Entry). is_done z.stage) w.1 ∙ d) undone
  ];
  node = λ j y h d. elim (more entries e y j h) [
    | inl w ↦
        let m = g.node j y w d in
        let lt = slice_get_within entries j y w in
        (m.0, get-append nodes (Some n ∷ []) j (let c = g.count in omega (arith, lt, c)) ∙ m.1, node_grows entries j e y m.0 (omega (arith, lt)) m.2)
    | inr w ↦ (
      n,
      ap (slice_get (nodes ++ Some n ∷ [])) (w.0 ∙ sym g.count) ∙ last nodes (Some n),
      subst (λ i. IsNode (entries ++ e ∷ []) i y n) (sym w.0) (subst (λ z. IsNode (entries ++ e ∷ []) (length entries) z n) w.1 (node_grows entries (length entries) e e n (omega arith) b)),
    )
  ];
}

-- ---- the numbers of nodes

eq_true : (a b : ℕ) → (a == b) ≡ true → a ≡ b
eq_true a b h = grind (arith, nat_tests)

eq_same : (a b : ℕ) → a ≡ b → (a == b) ≡ true
eq_same a b h = grind (arith, nat_tests)

is_false : (b : Bool) → (b ≡ true → false ≡ true) → b ≡ false
is_false true h = sym (h refl)
is_false false h = refl

names_node : (w : Work) (n : ℕ) → is_node w n ≡ true → (q : ℕ) × (c : Command) × (w ≡ work.Node n q c)
names_node (work.Node m q c) n h = (q, c, ap (λ i. work.Node i q c) (eq_true m n h))
names_node (work.Access t k) n h = absurd cc
names_node (work.End t r) n h = absurd cc

bools : (a b : Bool) → (a ≡ true → b ≡ true) → (b ≡ true → a ≡ true) → a ≡ b
bools true b f g = sym (f refl)
bools false true f g = g refl
bools false false f g = refl

-- a node's number is named where its place is
one_named : (entries : List Entry) (numbers : List ℕ) (j : ℕ) (x : Entry) (n : ℕ) → AreIndexes entries numbers → slice_get entries j ≡ Some x → n < length numbers → (slice_index_or numbers n 0 == j) ≡ is_node x.work n
one_named entries numbers j x n a g lt = elim (slice_get_cases numbers n).1 [
  | inl c ↦
      let at : slice_index_or numbers n 0 ≡ c.0 = get_or_from_slice_get numbers n c.0 0 c.2 in
      bools (slice_index_or numbers n 0 == j) (is_node x.work n)
      (λ h.
      (let is : c.0 ≡ j = sym at ∙ eq_true (slice_index_or numbers n 0) j h in
      let b = a.back n c.0 c.2 in
      let same : b.0 ≡ x = some_is (sym b.1 ∙ ap (slice_get entries) is ∙ g) in
      ap (λ (z : Entry). is_node z.work n) (sym same) ∙ b.2))
      (λ h.
      (let w = names_node x.work n h in
      let here = a.here j x n w.0 w.1 g w.2 in
      eq_same (slice_index_or numbers n 0) j (get_or_from_slice_get numbers n j 0 here)))
  | inr c ↦ absurd (let le = c.0 in omega (arith, lt, le))
]

-- the graph names what the entry names
pub named_is : (entries : List Entry) (numbers after : List ℕ) (j : ℕ) (x : Entry) → AreIndexes entries numbers → slice_get entries j ≡ Some x → All (λ n. n < length numbers) after → list_any (λ m. m == j) (indexes_of numbers after) ≡ is_named x.work after
unfolding is_named
named_is entries numbers [] j x a g h = refl
named_is entries numbers (n ∷ ns) j x a g h =
    ap (λ v. v || list_any (λ m. m == j) (indexes_of numbers ns)) (one_named entries numbers j x n a g (All-head (λ n. n < length numbers) n ns h))
    ∙ ap (λ v. is_node x.work n || v) (named_is entries numbers ns j x a g (All-tail (λ n. n < length numbers) n ns h))
