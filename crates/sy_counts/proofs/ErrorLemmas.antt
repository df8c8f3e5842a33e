-- The error of the least failed node, as entries are added and fail.
use Rattle.std.proofs.Common.{◌≡◌, ℕ, zero, suc, ◌+◌, ◌<◌, ◌≤◌, List, [], ◌∷◌, ◌++◌, Bool, true, false, Option, Some, None, refl, sym, ap, ◌∙◌, subst, arith}
use Rattle.std.specs.Prelude.{slice_get, ◌==◌, nat_lt, if◌then◌else◌}
use Rattle.std.specs.List.{range_with_len, cons_option}
use Rattle.std.proofs.lemmas.Bool.Decides.{nat_tests}
use Rattle.sy_work.specs.declared.commands.Command.{Command}
use Rattle.sy_work.specs.declared.endings.Fault.{Fault}
use Rattle.sy_work.specs.declared.endings.KernelError.{KernelError}
use Rattle.sy_onecopy.specs.declared.Entry.{Entry}
use Rattle.sy_onecopy.specs.declared.Work.{Work}
use Rattle.sy_onecopy.specs.declared.Work.TheVariants.{Node, Access, End}
use Rattle.sy_onecopy.specs.declared.Stage.{Stage}
use Rattle.sy_onecopy.specs.declared.Stage.TheVariants.{Pending, Granted, Done, Failed}
use Rattle.sy_onecopy.specs.Each.{changed_at}
use Rattle.sy_onecopy.specs.Before.{is_done}
use Rattle.sy_onecopy.specs.Settle.{with_stage}
use Rattle.sy_onecopy.specs.Step.{or_later, error_in, error_on}
use Rattle.sy_onecopy.specs.Sequence.{error_of, first_error}
use Rattle.sy_settling.proofs.ListLemmas.{some_is}
use Rattle.sy_sound.specs.Sound.{node_number, node_numbers}
use Rattle.sy_counts.specs.Counts.{lesser_error}

-- the first error that an entry has
first_by : (Entry → Option KernelError) → List Entry → Option KernelError
first_by f [] = None
first_by f (e ∷ es) = or_later (f e) (first_by f es)

of_queue : ℕ → Entry → Option KernelError
of_queue q e = error_in q e.work e.stage

of_any : Entry → Option KernelError
of_any e = error_of e.work e.stage

queue-first : (q : ℕ) (es : List Entry) → error_on q es ≡ first_by (of_queue q) es
unfolding first_by of_queue
queue-first q [] = refl
queue-first q (e ∷ es) = ap (or_later (error_in q e.work e.stage)) (queue-first q es)

any-first : (es : List Entry) → first_error es ≡ first_by of_any es
unfolding first_by of_any
any-first [] = refl
any-first (e ∷ es) = ap (or_later (error_of e.work e.stage)) (any-first es)

-- ---- one entry more

later_none : (o : Option KernelError) → or_later o None ≡ o
later_none None = refl
later_none (Some x) = refl

later_assoc : (a b c : Option KernelError) → or_later a (or_later b c) ≡ or_later (or_later a b) c
later_assoc None b c = refl
later_assoc (Some x) b c = refl

pub queue-more : (es : List Entry) (e : Entry) (q : ℕ) → error_on q (es ++ e ∷ []) ≡ or_later (error_on q es) (error_in q e.work e.stage)
queue-more [] e q = later_none (error_in q e.work e.stage)
queue-more (x ∷ es) e q = ap (or_later (error_in q x.work x.stage)) (queue-more es e q) ∙ later_assoc (error_in q x.work x.stage) (error_on q es) (error_in q e.work e.stage)

pub any-more : (es : List Entry) (e : Entry) → first_error (es ++ e ∷ []) ≡ or_later (first_error es) (error_of e.work e.stage)
any-more [] e = later_none (error_of e.work e.stage)
any-more (x ∷ es) e = ap (or_later (error_of x.work x.stage)) (any-more es e) ∙ later_assoc (error_of x.work x.stage) (first_error es) (error_of e.work e.stage)

-- ---- a stage that is no failure

same_first : (f : Entry → Option KernelError) (g : Entry → Entry) (k : ℕ) (es : List Entry) (e : Entry) → slice_get es k ≡ Some e → f (g e) ≡ f e → first_by f (changed_at g k es) ≡ first_by f es
unfolding first_by
same_first f g k [] e h w = absurd cc
same_first f g zero (y ∷ ys) e h w = ap (λ o. or_later o (first_by f ys)) (subst (λ z. f (g z) ≡ f z) (sym (some_is h)) w)
same_first f g (suc k) (y ∷ ys) e h w = ap (or_later (f y)) (same_first f g k ys e h w)

pub queue-same : (s : Stage) (k q : ℕ) (es : List Entry) (e : Entry) → slice_get es k ≡ Some e → error_in q e.work e.stage ≡ None → error_in q e.work s ≡ None → error_on q (changed_at (with_stage s) k es) ≡ error_on q es
unfolding of_queue
queue-same s k q es e g a b = queue-first q (changed_at (with_stage s) k es) ∙ same_first (of_queue q) (with_stage s) k es e g (b ∙ sym a) ∙ sym (queue-first q es)

pub any-same : (s : Stage) (k : ℕ) (es : List Entry) (e : Entry) → slice_get es k ≡ Some e → error_of e.work e.stage ≡ None → error_of e.work s ≡ None → first_error (changed_at (with_stage s) k es) ≡ first_error es
unfolding of_any
any-same s k es e g a b = any-first (changed_at (with_stage s) k es) ∙ same_first of_any (with_stage s) k es e g (b ∙ sym a) ∙ sym (any-first es)

-- ---- the numbers of nodes rise

-- the numbers behind the first entry, which come after its own
record Behind (a : ℕ) (o : Option ℕ) (xs : List ℕ) : Type 0 where
  from : ℕ
  count : ℕ
  numbers : xs ≡ range_with_len from count
  low : a ≤ from
  own : (i : ℕ) → o ≡ Some i → (i ≡ a) × (suc a ≤ from)

heads : {x y : ℕ} {xs ys : List ℕ} → x ∷ xs ≡ y ∷ ys → x ≡ y
heads h = cc

tails : {x y : ℕ} {xs ys : List ℕ} → x ∷ xs ≡ y ∷ ys → xs ≡ ys
tails h = cc

behind : (a n : ℕ) (o : Option ℕ) (xs : List ℕ) → cons_option o xs ≡ range_with_len a n → Behind a o xs
behind a n None xs h = record { from = a; count = n; numbers = h; low = omega arith; own = λ i e. absurd cc }
behind a zero (Some m) xs h = absurd cc
behind a (suc n) (Some m) xs h = record {
  from = a + 1;
  count = n;
  numbers = tails h;
  low = omega arith;
  own = λ i e. (sym (some_is e) ∙ heads h, (let z : suc a ≤ a + 1 = omega arith in z));
}

behind_first : (a n : ℕ) (x : Entry) (xs : List Entry) → node_numbers (x ∷ xs) ≡ range_with_len a n → Behind a (node_number x.work) (node_numbers xs)
unfolding node_numbers
behind_first a n x xs h = behind a n (node_number x.work) (node_numbers xs) h

-- an error of an entry is of its node
abbrev Numbered : (Entry → Option KernelError) → Type 0
Numbered f = (x : Entry) (z : KernelError) → f x ≡ Some z → node_number x.work ≡ Some z.node

later_of : (a : ℕ) (o r : Option KernelError) (z : KernelError) → ((y : KernelError) → o ≡ Some y → a ≤ y.node) → ((y : KernelError) → r ≡ Some y → a ≤ y.node) → or_later o r ≡ Some z → a ≤ z.node
later_of a None r z f g h = g z h
later_of a (Some y) r z f g h = f z h

first_late : (f : Entry → Option KernelError) (a n : ℕ) (es : List Entry) (z : KernelError) → Numbered f → node_numbers es ≡ range_with_len a n → first_by f es ≡ Some z → a ≤ z.node
unfolding first_by
first_late f a n [] z nf h e = absurd cc
first_late f a n (x ∷ xs) z nf h e =
    let b = behind_first a n x xs h in
    later_of a (f x) (first_by f xs) z
    (λ y g. (let o = b.own y.node (nf x y g) in let i = o.0 in omega (arith, i)))
    (λ y g. (let l = first_late f b.from b.count xs y nf b.numbers g in let low = b.low in omega (arith, l, low)))
    e

number_late : (a n k m : ℕ) (es : List Entry) (e : Entry) → node_numbers es ≡ range_with_len a n → slice_get es k ≡ Some e → node_number e.work ≡ Some m → a ≤ m
number_late a n k m [] e h g w = absurd cc
number_late a n zero m (x ∷ xs) e h g w =
    let b = behind_first a n x xs h in
    let o = b.own m (ap (λ (y : Entry). node_number y.work) (some_is g) ∙ w) in
    let i = o.0 in omega (arith, i)
number_late a n (suc k) m (x ∷ xs) e h g w =
    let b = behind_first a n x xs h in
    let l = number_late b.from b.count k m xs e b.numbers g w in
    let low = b.low in
    omega (arith, l, low)

-- ---- an entry fails

lesser_first : (new : KernelError) (r : Option KernelError) → ((z : KernelError) → r ≡ Some z → new.node < z.node) → Some new ≡ lesser_error r (Some new)
lesser_first new None h = refl
lesser_first new (Some z) h =
    let lt = h z refl in
    let t : nat_lt new.node z.node ≡ true = grind (arith, nat_tests) in
    sym (ap (λ v. if v then Some new else Some z) t)

lesser_later : (new : KernelError) (o r s : Option KernelError) → ((z : KernelError) → o ≡ Some z → z.node < new.node) → s ≡ lesser_error r (Some new) → or_later o s ≡ lesser_error (or_later o r) (Some new)
lesser_later new None r s f h = h
lesser_later new (Some z) r s f h =
    let lt = f z refl in
    let t : nat_lt new.node z.node ≡ false = grind (arith, nat_tests) in
    sym (ap (λ v. if v then Some new else Some z) t)

first_fails : (f : Entry → Option KernelError) (g : Entry → Entry) (a n k : ℕ) (es : List Entry) (e : Entry) (new : KernelError) → Numbered f → node_numbers es ≡ range_with_len a n → slice_get es k ≡ Some e → f e ≡ None → f (g e) ≡ Some new → node_number e.work ≡ Some new.node → first_by f (changed_at g k es) ≡ lesser_error (first_by f es) (Some new)
unfolding first_by
first_fails f g a n k [] e new nf h at none fails number = absurd cc
first_fails f g a n zero (y ∷ ys) e new nf h at none fails number =
    let is : y ≡ e = some_is at in
    let b = behind_first a n y ys h in
    let own = b.own new.node (ap (λ (x : Entry). node_number x.work) is ∙ number) in
    ap (λ o. or_later o (first_by f ys)) (ap (λ x. f (g x)) is ∙ fails)
    ∙ lesser_first new (first_by f ys) (λ z w. (let l = first_late f b.from b.count ys z nf b.numbers w in let i = own.0 in let s = own.1 in omega (arith, l, i, s)))
    ∙ ap (λ o. lesser_error (or_later o (first_by f ys)) (Some new)) (sym (ap f is ∙ none))
first_fails f g a n (suc k) (y ∷ ys) e new nf h at none fails number =
    let b = behind_first a n y ys h in
    let late = number_late b.from b.count k new.node ys e b.numbers at number in
    lesser_later new (f y) (first_by f ys) (first_by f (changed_at g k ys))
    (λ z w. (let own = b.own z.node (nf y z w) in let i = own.0 in let s = own.1 in omega (arith, late, i, s)))
    (first_fails f g b.from b.count k ys e new nf b.numbers at none fails number)

if_some : {A : Type 0} (v : Bool) (x y : A) → (if v then Some x else None) ≡ Some y → x ≡ y
if_some true x y h = some_is h
if_some false x y h = absurd cc

queue_numbered : (q : ℕ) (w : Work) (s : Stage) (z : KernelError) → error_in q w s ≡ Some z → node_number w ≡ Some z.node
queue_numbered q (Node n p c) (Failed f) z h = ap (λ (y : KernelError). Some y.node) (if_some (p == q) (record { node = n; fault = f }) z h)
queue_numbered q (Node n p c) Pending z h = absurd cc
queue_numbered q (Node n p c) Granted z h = absurd cc
queue_numbered q (Node n p c) Done z h = absurd cc
queue_numbered q (Access t k) s z h = absurd cc
queue_numbered q (End t r) s z h = absurd cc

any_numbered : (w : Work) (s : Stage) (z : KernelError) → error_of w s ≡ Some z → node_number w ≡ Some z.node
any_numbered (Node n p c) (Failed f) z h = ap (λ (y : KernelError). Some y.node) (some_is h)
any_numbered (Node n p c) Pending z h = absurd cc
any_numbered (Node n p c) Granted z h = absurd cc
any_numbered (Node n p c) Done z h = absurd cc
any_numbered (Access t k) s z h = absurd cc
any_numbered (End t r) s z h = absurd cc

queue_undone : (q : ℕ) (w : Work) (s : Stage) → is_done s ≡ false → error_in q w s ≡ None
queue_undone q (Node n p c) Pending h = refl
queue_undone q (Node n p c) Granted h = refl
queue_undone q (Node n p c) Done h = absurd cc
queue_undone q (Node n p c) (Failed f) h = absurd cc
queue_undone q (Access t k) s h = refl
queue_undone q (End t r) s h = refl

any_undone : (w : Work) (s : Stage) → is_done s ≡ false → error_of w s ≡ None
any_undone (Node n p c) Pending h = refl
any_undone (Node n p c) Granted h = refl
any_undone (Node n p c) Done h = absurd cc
any_undone (Node n p c) (Failed f) h = absurd cc
any_undone (Access t k) s h = refl
any_undone (End t r) s h = refl

same_queue : (q : ℕ) (x : KernelError) → (if q == q then Some x else None) ≡ Some x
same_queue q x = let h : (q == q) ≡ true = grind (arith, nat_tests) in ap (λ v. if v then Some x else None) h

pub queue-fails : (k m q n : ℕ) (es : List Entry) (e : Entry) (c : Command) (f : Fault) → node_numbers es ≡ range_with_len 0 n → slice_get es k ≡ Some e → e.work ≡ Node m q c → is_done e.stage ≡ false → error_on q (changed_at (with_stage (Failed f)) k es) ≡ lesser_error (error_on q es) (Some (record { node = m; fault = f }))
unfolding of_queue
queue-fails k m q n es e c f numbers at work undone =
    let new : KernelError = record { node = m; fault = f } in
    queue-first q (changed_at (with_stage (Failed f)) k es)
    ∙ first_fails (of_queue q) (with_stage (Failed f)) 0 n k es e new (λ x z h. queue_numbered q x.work x.stage z h) numbers at (queue_undone q e.work e.stage undone)
    (ap (λ w. error_in q w (Failed f)) work ∙ same_queue q new) (ap node_number work)
    ∙ ap (λ o. lesser_error o (Some new)) (sym (queue-first q es))

pub any-fails : (k m q n : ℕ) (es : List Entry) (e : Entry) (c : Command) (f : Fault) → node_numbers es ≡ range_with_len 0 n → slice_get es k ≡ Some e → e.work ≡ Node m q c → is_done e.stage ≡ false → first_error (changed_at (with_stage (Failed f)) k es) ≡ lesser_error (first_error es) (Some (record { node = m; fault = f }))
unfolding of_any
any-fails k m q n es e c f numbers at work undone =
    let new : KernelError = record { node = m; fault = f } in
    any-first (changed_at (with_stage (Failed f)) k es)
    ∙ first_fails of_any (with_stage (Failed f)) 0 n k es e new (λ x z h. any_numbered x.work x.stage z h) numbers at (any_undone e.work e.stage undone)
    (ap (λ w. error_of w (Failed f)) work) (ap node_number work)
    ∙ ap (λ o. lesser_error o (Some new)) (sym (any-first es))
