-- A main that prints sums asks what its program says.
use Rattle.std.proofs.Common.{◌≡◌, ℕ, zero, suc, ℤ, pos, ◌+◌, ◌-◌, ◌<◌, ◌≤◌, Bool, true, false, List, [], ◌∷◌, ◌++◌, length, get_or, drop, Option, Some, None, refl, sym, ap, ◌∙◌, subst, arith, length-append}
use Rattle.std.proofs.Math.Seq.{drop-nil}
use Rattle.std.proofs.lemmas.Bool.Decides.{nat_tests}
use Rattle.std.proofs.lemmas.List.{drop-drop, drop_all, drop_more}
use Rattle.std.proofs.lemmas.List.Elements.{filter_map-append}
use Rattle.std.specs.Prelude.{nat_lt, slice_get, filter_map, flat_map}
use Rattle.sy_tree.specs.declared.tree.Stmt.{Stmt}
use Rattle.sy_work.specs.Answers.{Fits}
use Rattle.sy_work.specs.Programs.{NextAsk}
use Rattle.sy_work.specs.declared.asks.Answer.{Answer}
use Rattle.sy_work.specs.declared.asks.Ask.{Ask}
use Rattle.sy_work.specs.declared.asks.Ask.TheVariants.{Finish, Spawn}
use Rattle.sy_sums.specs.declared.asked.Asked.{Asked}
use Rattle.sy_sums.specs.declared.asked.Asked.TheVariants as asked
use Rattle.sy_sums.specs.declared.sums.Given.{Given}
use Rattle.sy_sums.specs.declared.sums.Given.TheVariants as given
use Rattle.sy_sums.specs.declared.sums.Operand.{Operand}
use Rattle.sy_sums.specs.Hosts.{StandsFor, IsLast, ahead, asked_of, open_ask, taken, unanswered}
use Rattle.sy_sums.specs.Sums.{ask_of_sum, ask_here, operand_of, printed_by, program_of}

-- ---- what is ahead

-- at the start all of them are
pub all_ahead : (statements : List Stmt) → ahead 0 statements ≡ filter_map operand_of (flat_map printed_by statements)
all_ahead [] = refl
all_ahead (x ∷ more) = sym (filter_map-append operand_of (printed_by x) (flat_map printed_by more))

module _ (ss : List Stmt) (i : ℕ) (x : Stmt) (done : ℕ) (within : i < length ss) (is : x ≡ get_or ss i x) where
  -- this statement is the first that is left
  split : drop i ss ≡ x ∷ drop (i + 1) ss
  split = drop_more ss i x within ∙ ap (λ y. y ∷ drop (i + 1) ss) (sym is)

  -- the next sum of the first print is the next of all
  pub found_here : (after : ℕ) (o : Operand) →
      taken (Some o) (filter_map operand_of (drop after (printed_by x))) ≡ filter_map operand_of (drop done (printed_by x)) →
      taken (Some o) (ahead after (drop i ss)) ≡ ahead done (drop i ss)
  found_here after o h =
      subst (λ l. taken (Some o) (ahead after l) ≡ ahead done l) (sym split)
      (ap (λ ops. ops ++ filter_map operand_of (flat_map printed_by (drop (i + 1) ss))) h)

  -- where the first print has none, it is the next of the statements after it
  pub none_here : [] ≡ filter_map operand_of (drop done (printed_by x)) → ahead 0 (drop (i + 1) ss) ≡ ahead done (drop i ss)
  none_here h =
      subst (λ l. ahead 0 (drop (i + 1) ss) ≡ ahead done l) (sym split)
      (all_ahead (drop (i + 1) ss) ∙ ap (λ ops. ops ++ filter_map operand_of (flat_map printed_by (drop (i + 1) ss))) h)

pub none_taken : (o : Option Operand) (rest others : List Operand) → o ≡ None → taken o rest ≡ others → [] ≡ others
none_taken None rest others e h = h
none_taken (Some o) rest others e h = absurd cc

-- behind the last statement there is none
pub none_left : (ss : List Stmt) (i done : ℕ) → length ss ≤ i → [] ≡ ahead done (drop i ss)
none_left ss i done past = ap (ahead done) (sym (drop_all i ss past))

-- ---- the ask

-- a turn is left where fewer were taken
turn_left : (k turns left : ℕ) → left ≡ turns - k → nat_lt 0 left ≡ nat_lt k turns
turn_left k turns left e = grind (arith, nat_tests)

-- the next sum after k of them is the one at k
front_is : (ops : List Operand) (k : ℕ) (o : Option Operand) (rest : List Operand) → taken o rest ≡ drop k ops → o ≡ slice_get ops k
front_is [] k None rest h = refl
front_is [] k (Some o) rest h = let none : o ∷ rest ≡ [] = h ∙ drop-nil k in absurd cc
front_is (x ∷ ops) zero None rest h = absurd cc
front_is (x ∷ ops) zero (Some o) rest h = cc
front_is (x ∷ ops) (suc k) o rest h = front_is ops k o rest h

-- no ask is open where none is noted
not_asked : (left : ℕ) (a : Option Asked) → open_ask left a ≡ None → a ≡ None
not_asked left None h = refl
not_asked left (Some q) h = absurd cc

asked_last : (o : Option Operand) → IsLast (Some (asked_of o))
asked_last None = refl
asked_last (Some o) = tt

asked_unanswered : (o : Option Operand) (ops : List Operand) → unanswered (Some (asked_of o)) ops ≡ taken o ops
asked_unanswered None ops = refl
asked_unanswered (Some o) ops = refl

asked_open : (left : ℕ) (o : Option Operand) → open_ask left (Some (asked_of o)) ≡ Some (ask_here (nat_lt 0 left) o)
asked_open left None = refl
asked_open left (Some o) = refl

pub is_open : (left : ℕ) (o : Option Operand) (a : Asked) (ask : Ask) → a ≡ asked_of o → ask ≡ ask_here (nat_lt 0 left) o → open_ask left (Some a) ≡ Some ask
is_open left o a ask e f = ap (λ q. open_ask left (Some q)) e ∙ asked_open left o ∙ ap (λ q. Some q) (sym f)

module _ (next : NextAsk) (k left : ℕ) (was : Option Asked) (others rest : List Operand) (o : Option Operand)
    (stands : StandsFor next k left was others) (answered : open_ask left was ≡ None) (found : taken o rest ≡ others) where
  here : taken o rest ≡ drop k stands.ops
  here = found ∙ ap (λ a. unanswered a others) (sym (not_asked left was answered)) ∙ stands.here

  pub asked_stands : (a : Asked) → a ≡ asked_of o → StandsFor next k left (Some a) rest
  asked_stands a e = subst (λ q. StandsFor next k left (Some q) rest) (sym e) (record {
    turns = stands.turns;
    ops = stands.ops;
    plays = stands.plays;
    counted = stands.counted;
    last = asked_last o;
    here = asked_unanswered o rest ∙ here;
  })

  next_is : o ≡ slice_get stands.ops k
  next_is = front_is stands.ops k o rest here

pub asks_on : (next : NextAsk) (left : ℕ) (was : Option Asked) (others rest : List Operand) (body : ℕ) (captures : List ℤ) (answers : List Answer) (o : Option Operand) (ask : Ask) →
    StandsFor next (length answers) left was others → open_ask left was ≡ None → taken o rest ≡ others → ask ≡ ask_here (nat_lt 0 left) o → ask ≡ next body captures answers
asks_on next left was others rest body captures answers o ask stands answered found asked =
    asked ∙ ap (λ v. ask_here v o) (turn_left (length answers) stands.turns left stands.counted)
    ∙ ap (ask_here (nat_lt (length answers) stands.turns)) (next_is next (length answers) left was others rest o stands answered found) ∙ sym (stands.plays body captures answers)

-- ---- the answer

one_longer : (answers : List Answer) (a : Answer) → length (answers ++ a ∷ []) ≡ length answers + 1
one_longer answers a = simp length-append

turns_after : (turns left after k : ℕ) → left ≡ turns - k → after ≡ left - 1 → after ≡ turns - (k + 1)
turns_after turns left after k e f = omega arith

one_less : (ops rest : List Operand) (k : ℕ) (o : Operand) → o ∷ rest ≡ drop k ops → rest ≡ drop (k + 1) ops
one_less ops rest k o h = ap (drop 1) h ∙ drop-drop 1 k ops

-- an ask that may be answered is that of a sum
rest_after : (ops rest : List Operand) (k left : ℕ) (was : Option Asked) (ask : Ask) (a : Answer) →
    open_ask left was ≡ Some ask → Fits ask a → IsLast was → unanswered was rest ≡ drop k ops → rest ≡ drop (k + 1) ops
rest_after ops rest k left None ask a is fits last h = absurd cc
rest_after ops rest k left (Some (asked.Sum o)) ask a is fits last h = one_less ops rest k o h
rest_after ops rest k left (Some (asked.Other q)) ask a is fits last h =
    let same : ask ≡ Finish (pos 0) = cc in
    absurd (subst (λ q. Fits q a) same fits)

pub stands_after : (next : NextAsk) (left after : ℕ) (rest : List Operand) (was : Option Asked) (answers : List Answer) (a : Answer) →
    StandsFor next (length answers) left was rest → ((ask : Ask) × (open_ask left was ≡ Some ask) × Fits ask a) → after ≡ left - 1 →
    StandsFor next (length (answers ++ a ∷ [])) after None rest
stands_after next left after rest was answers a stands fits e =
    subst (λ k. StandsFor next k after None rest) (sym (one_longer answers a)) (record {
      turns = stands.turns;
      ops = stands.ops;
      plays = stands.plays;
      counted = turns_after stands.turns left after (length answers) stands.counted e;
      last = tt;
      here = rest_after stands.ops rest (length answers) left was fits.0 a fits.1 fits.2 stands.last stands.here;
    })

-- ---- threads

no_spawn : {X : Type 0} (v : Bool) (body : ℕ) (captures : List ℤ) (line : ℕ) (g : Given) → ◌≡◌ {A = Option Ask} (Some (ask_of_sum v line g)) (Some (Spawn body captures)) → X
no_spawn v body captures line (given.Overflow at) h = absurd cc
no_spawn true body captures line (given.Number z) h = absurd cc
no_spawn false body captures line (given.Number z) h = absurd cc

-- no ask of such a main starts one
pub starts_none : {X : Type 0} (left body : ℕ) (captures : List ℤ) (was : Option Asked) → IsLast was → open_ask left was ≡ Some (Spawn body captures) → X
starts_none left body captures None last h = absurd cc
starts_none left body captures (Some (asked.Sum o)) last h = no_spawn (nat_lt 0 left) body captures o.line o.given h
starts_none left body captures (Some (asked.Other q)) last h =
    let clash : ◌≡◌ {A = Ask} (Finish (pos 0)) (Spawn body captures) = cc in absurd cc

-- ---- the start

pub begins : (turns : ℕ) (ops : List Operand) → StandsFor (program_of turns ops).next 0 turns None ops
begins turns ops = record { turns = turns; ops = ops; plays = λ body captures answers. refl; counted = omega arith; last = tt; here = refl }

pub begins_ahead : (next : NextAsk) (turns : ℕ) (ops others : List Operand) → StandsFor next 0 turns None ops → others ≡ ops → StandsFor next 0 turns None others
begins_ahead next turns ops others stands e = subst (StandsFor next 0 turns None) (sym e) stands
