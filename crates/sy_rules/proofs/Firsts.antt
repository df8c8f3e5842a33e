-- The first of several broken rules.
use Rattle.std.proofs.Common.{◌≡◌, refl, ℕ, ◌+◌, ◌*◌, ◌<◌, ◌≤◌, ◌⊎◌, inl, inr, Bool, true, false, nat_lt, List, [], ◌∷◌, Option, Some, None, ap, sym, subst, arith, if◌then◌else◌}
use Rattle.sy_note.specs.declared.Code.{Code}
use Rattle.sy_note.specs.declared.Code.TheVariants as code
use Rattle.sy_note.specs.declared.Diagnostic.{Diagnostic}
use Rattle.sy_rules.specs.Faults.{table_place, rank, sooner, first_broken}
use Rattle.sy_rules.specs.Firsts.{Among, IsFirst, NotBehind}

-- the lesser of two, the former where they are alike
pick : Diagnostic → Diagnostic → Diagnostic
pick a b = if nat_lt (rank b) (rank a) then b else a

pick_left : (f : Diagnostic → ℕ) (a b : Diagnostic) → f (if nat_lt (f b) (f a) then b else a) ≤ f a
pick_left f a b = grind arith

pick_right : (f : Diagnostic → ℕ) (a b : Diagnostic) → f (if nat_lt (f b) (f a) then b else a) ≤ f b
pick_right f a b = grind arith

some_same : (a b : Diagnostic) → ◌≡◌ {A = Option Diagnostic} (Some a) (Some b) → a ≡ b
some_same a b e = cc

one_of : (c : Bool) (a b d : Diagnostic) → (if c then b else a) ≡ d → (d ≡ a) ⊎ (◌≡◌ {A = Option Diagnostic} (Some b) (Some d))
one_of true a b d e = inr (ap Some e)
one_of false a b d e = inl (sym e)

none_among : (ds : List Diagnostic) (b : Diagnostic) → ds ≡ [] → Among ds b → ⊥
none_among [] b e m = m
none_among (d ∷ ds) b e m = cc

least_step : (i j k : ℕ) → i ≤ j → j ≤ k → i ≤ k
least_step i j k a b = omega arith

pick_one : (c : Bool) (a b : Diagnostic) → ((if c then b else a) ≡ a) ⊎ ((if c then b else a) ≡ b)
pick_one true a b = inr refl
pick_one false a b = inl refl

-- d is the lesser of two, so it isn't greater than either
sooner_left : (a : Diagnostic) (w : Option Diagnostic) (d : Diagnostic) → sooner (Some a) w ≡ Some d → rank d ≤ rank a
unfolding pick
sooner_left a None d e = grind arith
sooner_left a (Some b) d e = subst (λ x. rank x ≤ rank a) (some_same (pick a b) d e) (pick_left rank a b)

sooner_right : (a b d : Diagnostic) → sooner (Some a) (Some b) ≡ Some d → rank d ≤ rank b
unfolding pick
sooner_right a b d e = subst (λ x. rank x ≤ rank b) (some_same (pick a b) d e) (pick_right rank a b)

-- it is one of the two
sooner_one : (a : Diagnostic) (w : Option Diagnostic) (d : Diagnostic) → sooner (Some a) w ≡ Some d → (d ≡ a) ⊎ (w ≡ Some d)
unfolding pick
sooner_one a None d e = inl (sym (some_same a d e))
sooner_one a (Some b) d e = one_of (nat_lt (rank b) (rank a)) a b d (some_same (pick a b) d e)

sooner_some : (a : Diagnostic) (w : Option Diagnostic) → sooner (Some a) w ≡ None → ⊥
sooner_some a None e = cc
sooner_some a (Some b) e = cc

pub nothing_first : (ds : List Diagnostic) → first_broken ds ≡ None → ds ≡ []
nothing_first [] e = refl
nothing_first (d ∷ ds) e = absurd (sooner_some d (first_broken ds) e)

pub first_among : (ds : List Diagnostic) (d : Diagnostic) → first_broken ds ≡ Some d → Among ds d
first_among [] d e = cc
first_among (a ∷ ds) d e = elim (sooner_one a (first_broken ds) d e) [ inl s ↦ inl s | inr s ↦ inr (first_among ds d s) ]

-- nothing that is there is told sooner
least_or_none : (a : Diagnostic) (ds : List Diagnostic) (w : Option Diagnostic) → first_broken ds ≡ w → (d : Diagnostic) → sooner (Some a) w ≡ Some d
    → ((c : Diagnostic) → w ≡ Some c → (b : Diagnostic) → Among ds b → rank c ≤ rank b) → (b : Diagnostic) → Among ds b → rank d ≤ rank b
least_or_none a ds None s d e h b m = absurd (none_among ds b (nothing_first ds s) m)
least_or_none a ds (Some c) s d e h b m = least_step (rank d) (rank c) (rank b) (sooner_right a c d e) (h c refl b m)

pub first_least : (ds : List Diagnostic) (d : Diagnostic) → first_broken ds ≡ Some d → (b : Diagnostic) → Among ds b → rank d ≤ rank b
first_least [] d e b m = absurd m
first_least (a ∷ ds) d e b (inl s) = subst (λ x. rank d ≤ rank x) (sym s) (sooner_left a (first_broken ds) d e)
first_least (a ∷ ds) d e b (inr m) = least_or_none a ds (first_broken ds) refl d e (first_least ds) b m

pub first_is : (ds : List Diagnostic) (d : Diagnostic) → first_broken ds ≡ Some d → IsFirst ds d
first_is ds d e = record { among = first_among ds d e; least = first_least ds d e }

-- a row is one of less than 32
row_bound : (c : Code) → table_place c < 32
row_bound code.Lexical = omega arith
row_bound code.Grammar = omega arith
row_bound code.NoMain = omega arith
row_bound code.UnknownName = omega arith
row_bound code.Redeclared = omega arith
row_bound code.BadLiteral = omega arith
row_bound code.BadConstant = omega arith
row_bound code.BadDimension = omega arith
row_bound code.BadDeclaration = omega arith
row_bound code.WrongArguments = omega arith
row_bound code.UnknownMember = omega arith
row_bound code.WrongOperand = omega arith
row_bound code.BadElement = omega arith
row_bound code.NotAssignable = omega arith
row_bound code.ModeBroken = omega arith
row_bound code.NotInKernel = omega arith
row_bound code.NotInGroup = omega arith
row_bound code.NotInHost = omega arith
row_bound code.BadLambda = omega arith
row_bound code.KernelCapture = omega arith
row_bound code.ThreadCapture = omega arith
row_bound code.BadReturn = omega arith
row_bound code.LoopWord = omega arith
row_bound code.BadCall = omega arith
row_bound code.NotBuilt = omega arith

order_line : (k c t l d u : ℕ) → c < 4294967296 → d < 4294967296 → t < 32 → u < 32
    → (k * 4294967296 + c) * 32 + t ≤ (l * 4294967296 + d) * 32 + u → k ≤ l
order_line k c t l d u a b e f h = omega arith

order_column : (k c t l d u : ℕ) → t < 32 → u < 32 → k ≡ l
    → (k * 4294967296 + c) * 32 + t ≤ (l * 4294967296 + d) * 32 + u → c ≤ d
order_column k c t l d u e f s h = omega arith

order_row : (k c t l d u : ℕ) → k ≡ l → c ≡ d
    → (k * 4294967296 + c) * 32 + t ≤ (l * 4294967296 + d) * 32 + u → t ≤ u
order_row k c t l d u s v h = omega arith

-- the rank goes by the place, and at one place by the row
pub rank_order : (d e : Diagnostic) → d.spot.column < 4294967296 → e.spot.column < 4294967296 → rank d ≤ rank e → NotBehind d e
rank_order d e a b h = record {
  line = order_line d.spot.line d.spot.column (table_place d.code) e.spot.line e.spot.column (table_place e.code) a b (row_bound d.code) (row_bound e.code) h;
  column = λ s. order_column d.spot.line d.spot.column (table_place d.code) e.spot.line e.spot.column (table_place e.code) (row_bound d.code) (row_bound e.code) s h;
  row = λ s v. order_row d.spot.line d.spot.column (table_place d.code) e.spot.line e.spot.column (table_place e.code) s v h;
}
