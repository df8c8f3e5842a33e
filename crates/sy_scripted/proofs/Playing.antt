-- What a host that stands at a place of its script asks next, and whether an answer is as wanted there.
use Rattle.std.proofs.Common.{◌≡◌, ℕ, zero, suc, ◌≤◌, ℤ, min, Bool, true, false, List, [], ◌∷◌, ◌++◌, length, None, refl, sym, ap, ◌∙◌, inl, inr, arith, length-append, ◌+◌}
use Rattle.std.specs.Prelude.{◌||◌, not, nat_lt, if◌then◌else◌, slice_get}
use Rattle.std.proofs.lemmas.Bool.{cases_lt}
use Rattle.std.proofs.lemmas.Bool.Decides.{nat_tests}
use Rattle.sy_work.specs.Programs.{NextAsk}
use Rattle.sy_work.specs.declared.asks.Ask.{Ask}
use Rattle.sy_work.specs.declared.asks.Answer.{Answer}
use Rattle.sy_scripted.specs.declared.scripts.Line.{Line}
use Rattle.sy_scripted.specs.Answers.{suits}
use Rattle.sy_scripted.specs.Scripts.{script_of, ask_of, suits_line, suits_at, differ, next_at, place_after, Plays}

get_past : (script : List Line) (k : ℕ) → length script ≤ k → slice_get script k ≡ None
get_past [] k past = refl
get_past (x ∷ xs) zero past = absurd (omega (arith, past))
get_past (x ∷ xs) (suc k) past = get_past xs k (omega (arith, past))

-- past the end of the script every place is empty
get_min : (script : List Line) (k : ℕ) → slice_get script (min k (length script)) ≡ slice_get script k
get_min script k =
    elim (cases_lt k (length script)) [
      | inl within ↦ let same : min k (length script) ≡ k = omega arith in ap (slice_get script) same
      | inr past ↦ let end : min k (length script) ≡ length script = omega arith in
          ap (slice_get script) end ∙ (get_past script (length script) (omega arith) ∙ sym (get_past script k past))
    ]

next_past : (script : List Line) (v : Bool) (k : ℕ) → next_at script v (min k (length script)) ≡ next_at script v k
next_past script true k = refl
next_past script false k = ap ask_of (get_min script k)

pub asks_on : (next : NextAsk) (scripts : List (List Line)) (its_body body : ℕ) (captures : List ℤ) (answers : List Answer) (at : ℕ) (differs : Bool) (ask : Ask) →
    Plays next scripts × (its_body ≡ body) × (at ≡ min (length answers) (length (script_of scripts body))) × (differs ≡ differ answers (script_of scripts body)) →
    ask ≡ next_at (script_of scripts its_body) differs at → ask ≡ next body captures answers
asks_on next scripts its_body body captures answers at differs ask stands here =
    here ∙ ap (λ b. next_at (script_of scripts b) differs at) stands.1 ∙ ap (next_at (script_of scripts body) differs) stands.2
    ∙ next_past (script_of scripts body) differs (length answers) ∙ ap (λ v. next_at (script_of scripts body) v (length answers)) stands.3 ∙ sym (stands.0 body captures answers)

or_false : (v : Bool) → (v || false) ≡ v
or_false true = refl
or_false false = refl

or_or : (u v w x : Bool) → v ≡ (w || x) → (u || v) ≡ ((u || w) || x)
or_or true v w x e = refl
or_or false v w x e = e

-- whether they differ with one more answer
differ_more : (answers : List Answer) (script : List Line) (a : Answer) → differ (answers ++ a ∷ []) script ≡ (differ answers script || not (suits_at script (length answers) a))
differ_more [] [] a = refl
differ_more [] (line ∷ script) a = or_false (not (suits line.wants a))
differ_more (b ∷ answers) [] a = refl
differ_more (b ∷ answers) (line ∷ script) a = or_or (not (suits line.wants b)) (differ (answers ++ a ∷ []) script) _ _ (differ_more answers script a)

pub differs_after : (scripts : List (List Line)) (body at : ℕ) (differs suit : Bool) (answers : List Answer) (a : Answer) →
    at ≡ min (length answers) (length (script_of scripts body)) → differs ≡ differ answers (script_of scripts body) → suit ≡ suits_at (script_of scripts body) at a →
    (differs || not suit) ≡ differ (answers ++ a ∷ []) (script_of scripts body)
differs_after scripts body at differs suit answers a e d s =
    let here : suit ≡ suits_at (script_of scripts body) (length answers) a =
    s ∙ ap (λ k. suits_at (script_of scripts body) k a) e ∙ ap (λ o. suits_line o a) (get_min (script_of scripts body) (length answers)) in
    ap (λ v. v || not suit) d ∙ ap (λ v. differ answers (script_of scripts body) || not v) here ∙ sym (differ_more answers (script_of scripts body) a)

one_longer : (answers : List Answer) (a : Answer) → length (answers ++ a ∷ []) ≡ length answers + 1
one_longer answers a = simp length-append

min_after : (k n : ℕ) → place_after (min k n) n ≡ min (k + 1) n
min_after k n =
    elim (cases_lt k n) [
      | inl within ↦ let here : min k n ≡ k = omega arith in
          let less : nat_lt k n ≡ true = grind (arith, nat_tests) in
          let next : k + 1 ≡ min (k + 1) n = omega arith in
          ap (λ m. if nat_lt m n then m + 1 else m) here ∙ ap (λ v. if v then k + 1 else k) less ∙ next
      | inr past ↦ let here : min k n ≡ n = omega arith in
          let not_less : nat_lt n n ≡ false = grind (arith, nat_tests) in
          let next : n ≡ min (k + 1) n = omega arith in
          ap (λ m. if nat_lt m n then m + 1 else m) here ∙ ap (λ v. if v then n + 1 else n) not_less ∙ next
    ]

pub at_after : (at n : ℕ) (answers : List Answer) (a : Answer) → at ≡ min (length answers) n → place_after at n ≡ min (length (answers ++ a ∷ [])) n
at_after at n answers a e = ap (λ m. place_after m n) e ∙ min_after (length answers) n ∙ ap (λ m. min m n) (sym (one_longer answers a))
