-- What holds of the entries and the buffers all through a sequence of steps.
use Rattle.std.proofs.Common.{◌≡◌, ℕ, zero, suc, ◌+◌, ◌<◌, ◌≤◌, ℤ, List, [], ◌∷◌, ◌++◌, length, drop, Bool, true, false, inl, inr, Option, Some, refl, sym, ap, ◌∙◌, subst, arith}
use Rattle.std.specs.Prelude.{slice_get, ◌||◌, ◌==◌, if◌then◌else◌}
use Rattle.std.proofs.lemmas.Option.{same_Some, slice_get_within}
use Rattle.std.proofs.lemmas.List.{append-nil, map-append}
use Rattle.std.proofs.lemmas.Bool.Decides.{nat_tests}
use Rattle.sy_access.specs.declared.access.Need.{Need}
use Rattle.sy_work.specs.Programs.{OutcomeOf}
use Rattle.sy_onecopy.specs.declared.Buffer.{Buffer}
use Rattle.sy_onecopy.specs.declared.Entry.{Entry}
use Rattle.sy_onecopy.specs.declared.Work.{Work}
use Rattle.sy_onecopy.specs.declared.Work.TheVariants.{Node, Access, End}
use Rattle.sy_onecopy.specs.declared.Stage.{Stage}
use Rattle.sy_onecopy.specs.declared.Stage.TheVariants.{Pending, Granted, Done, Failed}
use Rattle.sy_onecopy.specs.Each.{changed_at}
use Rattle.sy_onecopy.specs.Before.{before, meet, is_done, is_pending, is_named}
use Rattle.sy_needs.specs.Order.{both_on}
use Rattle.sy_onecopy.specs.Outcome.{values_at}
use Rattle.sy_onecopy.specs.Settle.{with_stage}
use Rattle.sy_inorder.specs.Sequential.{after_work, numbers_of, execute, is_over}
use Rattle.sy_inorder.specs.Ledger.{Ledger, closed_with, execute_done}
use Rattle.sy_inorder.proofs.BoolLemmas.{or_left}
use Rattle.sy_inorder.proofs.ListLemmas.{last_or, changed_or, length_more}
use Rattle.sy_inorder.proofs.ListLemmas.WasAt.{kept, changed}
use Rattle.sy_inorder.proofs.AskLemmas.{AreNamed, Fits, IsSound, Change, all_of}
use Rattle.sy_inorder.proofs.AskLemmas.Change.{quiet, wider, added, shut}
use Rattle.sy_inorder.proofs.ExecutionLemmas.{tale, Ordered, one_more, still_open, now_done, same_rows, same_after, length_after, row_after, wider_rows, wider_execute}

-- no entry has left the pending ones while one before it was not done
abbrev pub NoneOvertakes : List Entry → Type 0
NoneOvertakes es = (i j : ℕ) (x y : Entry) → i < j → slice_get es i ≡ Some x → slice_get es j ≡ Some y → is_done x.stage ≡ false → is_pending y.stage ≡ false → before x y ≡ false

pub record Holds (out : OutcomeOf) (l : Ledger) (es : List Entry) (bs : List Buffer) : Type 0 where
  pub numbers : numbers_of bs ≡ numbers_of (execute_done out l es)
  pub count : length l.made ≡ length bs
  pub none_overtakes : NoneOvertakes es
  pub sound : (k : ℕ) (e : Entry) → slice_get es k ≡ Some e → IsSound bs e.needs e.work e.after e.in_order

-- ---- what stays sound

record Extends (bs cs : List Buffer) : Type 0 where
  longer : length bs ≤ length cs
  rows : (r : ℕ) → r < length bs → length (values_at cs r) ≡ length (values_at bs r)

named_more : (m n : ℕ) (needs : List Need) → m ≤ n → AreNamed m needs → AreNamed n needs
unfolding AreNamed
named_more m n [] l h = tt
named_more m n (x ∷ xs) l h = (let k = h.0 in omega (arith, k, l), named_more m n xs l h.1)

whole_named : (n r m : ℕ) (needs : List Need) → needs ≡ all_of r m ∷ [] → AreNamed n needs → r < n
unfolding AreNamed
whole_named n r m needs e h = let p = subst (AreNamed n) e h in p.0

fits_more : (bs cs : List Buffer) (w : Work) (needs : List Need) → Extends bs cs → AreNamed (length bs) needs → Fits bs w needs → Fits cs w needs
unfolding Fits
fits_more bs cs (Node n q c) needs x named h = tt
fits_more bs cs (Access t i) needs x named h = tt
fits_more bs cs (End t r) needs x named h = h ∙ ap (λ n. all_of r n ∷ []) (sym (x.rows r (whole_named (length bs) r (length (values_at bs r)) needs h named)))

sound_more : (bs cs : List Buffer) (needs : List Need) (w : Work) (after : List ℕ) (in_order : Option ℕ) → Extends bs cs → IsSound bs needs w after in_order → IsSound cs needs w after in_order
sound_more bs cs needs w after in_order x h = record {
  named = named_more (length bs) (length cs) needs x.longer h.named;
  fits = fits_more bs cs w needs x h.named h.fits;
  alone = h.alone;
}

length_map : (bs : List Buffer) → length (numbers_of bs) ≡ length bs
length_map [] = refl
length_map (x ∷ bs) = ap suc (length_map bs)

pub same_length : (bs cs : List Buffer) → numbers_of cs ≡ numbers_of bs → length cs ≡ length bs
same_length bs cs h = sym (length_map cs) ∙ ap length h ∙ length_map bs

same_extends : (bs cs : List Buffer) → numbers_of cs ≡ numbers_of bs → Extends bs cs
same_extends bs cs h = record {
  longer = let e = same_length bs cs h in omega (arith, e);
  rows = λ r l. ap length (same_rows cs bs h r);
}

wider_extends : (bs : List Buffer) (x : Buffer) → Extends bs (bs ++ x ∷ [])
wider_extends bs x = record {
  longer = let e = length_more bs x in omega (arith, e);
  rows = λ r l. ap length (wider_rows bs x r l);
}

after_extends : (out : OutcomeOf) (given : List ℤ) (needs : List Need) (w : Work) (bs : List Buffer) → Extends bs (after_work out given needs w bs)
after_extends out given needs w bs = record {
  longer = let e = length_after out given needs w bs in omega (arith, e);
  rows = λ r l. row_after out given needs w bs r;
}

-- ---- the steps of the invariant

pub done_not_pending : (s : Stage) → is_done s ≡ true → is_pending s ≡ false
done_not_pending Pending h = let z : false ≡ true = h in absurd cc
done_not_pending Granted h = refl
done_not_pending Done h = refl
done_not_pending (Failed f) h = refl

pub ordered : (es : List Entry) → NoneOvertakes es → Ordered es
unfolding before
ordered es h i j x y lt a b c d =
    or_left (meet x y) (is_named x.work y.after || both_on x.in_order y.in_order) (h i j x y lt a b c (done_not_pending y.stage d))

quiet_holds : (out : OutcomeOf) (l : Ledger) (es : List Entry) (bs cs : List Buffer) → numbers_of cs ≡ numbers_of bs → Holds out l es bs → Holds out l es cs
quiet_holds out l es bs cs same h = record {
  numbers = same ∙ h.numbers;
  count = h.count ∙ sym (same_length bs cs same);
  none_overtakes = h.none_overtakes;
  sound = λ k e g. sound_more bs cs e.needs e.work e.after e.in_order (same_extends bs cs same) (h.sound k e g);
}

abbrev pub with_made : Ledger → List Buffer → Ledger
with_made l made = record l { made = made }

wider_holds : (out : OutcomeOf) (l : Ledger) (es : List Entry) (bs : List Buffer) (x : Buffer) → Holds out l es bs → Holds out (with_made l (l.made ++ x ∷ [])) es (bs ++ x ∷ [])
wider_holds out l es bs x h = record {
  numbers =
      map-append (λ (y : Buffer). y.values) bs (x ∷ [])
      ∙ ap (λ n. n ++ x.values ∷ []) h.numbers
      ∙ sym (map-append (λ (y : Buffer). y.values) (execute_done out l es) (x ∷ []))
      ∙ ap numbers_of (sym (wider_execute (tale out (closed_with l.closings) is_over) 0 es l.made x (λ j e g. subst (λ n. AreNamed n e.needs) (sym h.count) (h.sound j e g).named)));
  count = length_more l.made x ∙ ap suc h.count ∙ sym (length_more bs x);
  none_overtakes = h.none_overtakes;
  sound = λ k e g. sound_more bs (bs ++ x ∷ []) e.needs e.work e.after e.in_order (wider_extends bs x) (h.sound k e g);
}

not_over : (e : Entry) → is_pending e.stage ≡ true → (s : Stage) → e.stage ≡ s → is_done s ≡ false
not_over e h Pending p = refl
not_over e h Granted p = refl
not_over e h Done p = let z : false ≡ true = ap is_pending (sym p) ∙ h in absurd cc
not_over e h (Failed f) p = let z : false ≡ true = ap is_pending (sym p) ∙ h in absurd cc

pub pending_open : (e : Entry) → is_pending e.stage ≡ true → is_done e.stage ≡ false
pending_open e h = not_over e h e.stage refl

added_overtakes : (es : List Entry) (e : Entry) → is_pending e.stage ≡ true → NoneOvertakes es → NoneOvertakes (es ++ e ∷ [])
added_overtakes es e p h i j x y lt a b c d = elim (last_or es e j y b) [
  | inr last ↦ let z : true ≡ false = sym p ∙ ap (λ k. is_pending k.stage) last.1 ∙ d in absurd cc
  | inl old ↦ elim (last_or es e i x a) [
    | inl older ↦ h i j x y lt older old c d
    | inr last ↦ let n = slice_get_within es j y old in absurd (omega (arith, lt, n, last.0))
  ]
]

added_holds : (out : OutcomeOf) (l : Ledger) (es : List Entry) (bs : List Buffer) (e : Entry) → is_pending e.stage ≡ true → IsSound bs e.needs e.work e.after e.in_order → Holds out l es bs → Holds out l (es ++ e ∷ []) bs
added_holds out l es bs e p s h = record {
  numbers =
      h.numbers
      ∙ ap numbers_of (sym (one_more (tale out (closed_with l.closings) is_over) 0 es e l.made
      ∙ ap (λ v. if v then after_work out (closed_with l.closings (0 + length es)) e.needs e.work (execute_done out l es) else execute_done out l es) (pending_open e p)));
  count = h.count;
  none_overtakes = added_overtakes es e p h.none_overtakes;
  sound = λ k x g. elim (last_or es e k x g) [
    | inl old ↦ h.sound k x old
    | inr last ↦ subst (λ (z : Entry). IsSound bs z.needs z.work z.after z.in_order) last.1 s
  ];
}

before_same : (s : Stage) (x y : Entry) → before x (with_stage s y) ≡ before x y
unfolding before meet
before_same s x y = refl

before_same_by : (s : Stage) (x y : Entry) → before (with_stage s x) y ≡ before x y
unfolding before meet
before_same_by s x y = refl

-- nothing before place k that is not done is before e
abbrev pub NothingBefore : List Entry → ℕ → Entry → Type 0
NothingBefore es k e = (i : ℕ) (x : Entry) → i < k → slice_get es i ≡ Some x → is_done x.stage ≡ false → before x e ≡ false

changed_overtakes : (es : List Entry) (k : ℕ) (e : Entry) (s : Stage) → slice_get es k ≡ Some e → is_done e.stage ≡ false → NothingBefore es k e → NoneOvertakes es → NoneOvertakes (changed_at (with_stage s) k es)
changed_overtakes es k e s at live free h i j x y lt a b c d = elim (changed_or (with_stage s) k es i x a) [
  | kept oa na ↦ elim (changed_or (with_stage s) k es j y b) [
    | kept ob nb ↦ h i j x y lt oa ob c d
    | changed z jk gk fz ↦
        let z_is : z ≡ e = same_Some z e (sym gk ∙ at) in
        ap (before x) (sym fz) ∙ before_same s x z ∙ ap (before x) z_is ∙ free i x (omega (arith, lt, jk)) oa c
  ]
  | changed z ik gk fz ↦ elim (changed_or (with_stage s) k es j y b) [
    | kept ob nb ↦
        let z_is : z ≡ e = same_Some z e (sym gk ∙ at) in
        ap (λ w. before w y) (sym fz) ∙ before_same_by s z y ∙ ap (λ w. before w y) z_is ∙ h k j e y (omega (arith, lt, ik)) at ob live d
    | changed w jk gj fw ↦ absurd (omega (arith, lt, ik, jk))
  ]
]

changed_sound : (es : List Entry) (bs cs : List Buffer) (k : ℕ) (s : Stage) → Extends bs cs → ((j : ℕ) (x : Entry) → slice_get es j ≡ Some x → IsSound bs x.needs x.work x.after x.in_order) → (j : ℕ) (x : Entry) → slice_get (changed_at (with_stage s) k es) j ≡ Some x → IsSound cs x.needs x.work x.after x.in_order
changed_sound es bs cs k s w h j x g = elim (changed_or (with_stage s) k es j x g) [
  | kept old n ↦ sound_more bs cs x.needs x.work x.after x.in_order w (h j x old)
  | changed z jk gk fz ↦ subst (λ (y : Entry). IsSound cs y.needs y.work y.after y.in_order) fz (sound_more bs cs z.needs z.work z.after z.in_order w (h k z gk))
]

pub granted_holds : (out : OutcomeOf) (l : Ledger) (es : List Entry) (bs : List Buffer) (k : ℕ) (e : Entry) → slice_get es k ≡ Some e → is_done e.stage ≡ false → NothingBefore es k e → Holds out l es bs → Holds out l (changed_at (with_stage Granted) k es) bs
granted_holds out l es bs k e at live free h = record {
  numbers = h.numbers ∙ ap numbers_of (sym (still_open out (closed_with l.closings) 0 k es e Granted l.made at live refl));
  count = h.count;
  none_overtakes = changed_overtakes es k e Granted at live free h.none_overtakes;
  sound = changed_sound es bs bs k Granted (same_extends bs bs refl) h.sound;
}

pub done_holds : (out : OutcomeOf) (l m : Ledger) (es : List Entry) (bs cs : List Buffer) (k : ℕ) (e : Entry) (s : Stage) → slice_get es k ≡ Some e → is_done e.stage ≡ false → NothingBefore es k e → is_done s ≡ true → m.made ≡ l.made → ((j : ℕ) → (j ≡ k → ⊥) → closed_with m.closings j ≡ closed_with l.closings j) → cs ≡ after_work out (closed_with m.closings k) e.needs e.work bs → Holds out l es bs → Holds out m (changed_at (with_stage s) k es) cs
done_holds out l m es bs cs k e s at live free over made same p h = record {
  numbers =
      let given = closed_with m.closings in
      let place : 0 + k ≡ k = omega arith in
      ap numbers_of p
      ∙ same_after out (given k) e.needs e.work bs (execute_done out l es) h.numbers
      ∙ ap (λ j. numbers_of (after_work out (given j) e.needs e.work (execute_done out l es))) (sym place)
      ∙ ap numbers_of (sym (now_done out (closed_with l.closings) given 0 k es e s l.made at live over (λ j n. same j (λ q. n (q ∙ sym place))) (λ j y lt g d. ordered es h.none_overtakes k j e y lt at g live d)))
      ∙ ap (λ b. numbers_of (execute (tale out given is_over) 0 (changed_at (with_stage s) k es) b)) (sym made);
  count = ap length made ∙ h.count ∙ sym (ap length p ∙ length_after out (closed_with m.closings k) e.needs e.work bs);
  none_overtakes = changed_overtakes es k e s at live free h.none_overtakes;
  sound = changed_sound es bs cs k s (subst (Extends bs) (sym p) (after_extends out (closed_with m.closings k) e.needs e.work bs)) h.sound;
}

-- ---- an ask

abbrev pub with_parts : List Buffer → List (ℕ × List ℤ) → Ledger
with_parts made closings = record { made = made; closings = closings }

moved : (out : OutcomeOf) (l m : Ledger) (es fs : List Entry) (bs cs : List Buffer) → l ≡ m → es ≡ fs → bs ≡ cs → Holds out l es bs → Holds out m fs cs
moved out l m es fs bs cs p q r h = subst (λ x. Holds out x fs cs) p (subst (λ x. Holds out l x cs) q (subst (λ x. Holds out l es x) r h))

pub drop_all : {A : Type 0} (xs : List A) (n : ℕ) → length xs ≡ n → drop n xs ≡ []
drop_all [] zero h = refl
drop_all [] (suc n) h = refl
drop_all (x ∷ xs) zero h = absurd (omega (arith, h))
drop_all (x ∷ xs) (suc n) h = drop_all xs n (omega (arith, h))

pub drop_front : {A : Type 0} (xs : List A) (x : A) → drop (length xs) (xs ++ x ∷ []) ≡ x ∷ []
drop_front [] x = refl
drop_front (y ∷ xs) x = drop_front xs x

pub same_place : (k : ℕ) → (k == k) ≡ true
same_place k = grind (arith, nat_tests)

pub other_place : (k j : ℕ) → (j ≡ k → ⊥) → (k == j) ≡ false
other_place k j n = by_test (k == j) refl
  where
    by_test : (v : Bool) → (k == j) ≡ v → (k == j) ≡ false
    by_test false e = e
    by_test true e = let q : j ≡ k = grind (arith, nat_tests, e) in absurd (n q)

-- the ledger after a change
abbrev pub after_change : Ledger → List Buffer → List Buffer → List (ℕ × List ℤ) → Ledger
after_change l bs cs closes = record { made = l.made ++ drop (length bs) cs; closings = closes ++ l.closings }

pub nothing_noted : (l : Ledger) (bs cs : List Buffer) (closes : List (ℕ × List ℤ)) → length cs ≡ length bs → closes ≡ [] → l ≡ after_change l bs cs closes
nothing_noted l bs cs closes h r =
    sym (ap (λ d. with_parts (l.made ++ d) (closes ++ l.closings)) (drop_all cs (length bs) h)
    ∙ ap (λ d. with_parts d (closes ++ l.closings)) (append-nil l.made)
    ∙ ap (λ c. with_parts l.made (c ++ l.closings)) r)

pub wider_noted : (l : Ledger) (bs cs : List Buffer) (closes : List (ℕ × List ℤ)) (x : Buffer) → cs ≡ bs ++ x ∷ [] → closes ≡ [] → with_made l (l.made ++ x ∷ []) ≡ after_change l bs cs closes
wider_noted l bs cs closes x q r =
    ap (λ d. with_parts (l.made ++ d) l.closings) (sym (ap (drop (length bs)) q ∙ drop_front bs x)) ∙ ap (λ c. with_parts (l.made ++ drop (length bs) cs) (c ++ l.closings)) (sym r)

pub change_holds : (out : OutcomeOf) (l : Ledger) (es fs : List Entry) (bs cs : List Buffer) (closes : List (ℕ × List ℤ)) → Change es fs bs cs closes → Holds out l es bs → Holds out (after_change l bs cs closes) fs cs
change_holds out l es fs bs cs closes (quiet p q r) h =
    moved out l (after_change l bs cs closes) es fs cs cs (nothing_noted l bs cs closes (same_length bs cs q) r) (sym p) refl (quiet_holds out l es bs cs q h)
change_holds out l es fs bs cs closes (wider x p q r) h =
    moved out (with_made l (l.made ++ x ∷ [])) (after_change l bs cs closes) es fs (bs ++ x ∷ []) cs (wider_noted l bs cs closes x q r) (sym p) (sym q) (wider_holds out l es bs x h)
change_holds out l es fs bs cs closes (added e t s p q r) h =
    let now = quiet_holds out l es bs cs q h in
    moved out l (after_change l bs cs closes) (es ++ e ∷ []) fs cs cs (nothing_noted l bs cs closes (same_length bs cs q) r) (sym p) refl
    (added_holds out l es cs e (ap is_pending t) (sound_more bs cs e.needs e.work e.after e.in_order (same_extends bs cs q) s) now)
change_holds out l es fs bs cs closes (shut k e values at t w p q r) h =
    let m = with_parts l.made ((k, values) ∷ l.closings) in
    let new : m ≡ after_change l bs cs closes =
    ap (λ d. with_parts d ((k, values) ∷ l.closings)) (sym (ap (λ d. l.made ++ d) (drop_all cs (length bs) (ap length (q out) ∙ length_after out values e.needs e.work bs)) ∙ append-nil l.made))
    ∙ ap (λ c. with_parts (l.made ++ drop (length bs) cs) (c ++ l.closings)) (sym r) in
    let put_here : values ≡ closed_with m.closings k = ap (λ v. if v then values else closed_with l.closings k) (sym (same_place k)) in
    moved out m (after_change l bs cs closes) (changed_at (with_stage Done) k es) fs cs cs new (sym p) refl
    (done_holds out l m es bs cs k e Done at (ap is_done t) (λ i x lt g d. h.none_overtakes i k x e lt g at d (ap is_pending t)) refl refl
    (λ j n. ap (λ v. if v then values else closed_with l.closings j) (other_place k j n))
    (q out ∙ ap (λ v. after_work out v e.needs e.work bs) put_here) h)
