-- Why a command may not be published.
use Rattle.std.proofs.Common.{◌≡◌, ℕ, zero, suc, ◌<◌, Bool, true, false, List, [], ◌∷◌, length, get_or, Option, Some, None, refl, sym, ◌∙◌, arith, eq-eqb}
use Rattle.std.specs.Prelude.{◌||◌}
use Rattle.sy_access.specs.declared.access.Need.{Need}
use Rattle.sy_access.specs.Needs.{writes}
use Rattle.sy_copies.specs.declared.buffer.Buffer.{Buffer}
use Rattle.sy_needs.specs.Versions.{renews}
use Rattle.sy_copies.specs.Current.{buffer_at, len_of, len_at, room_of, has_room}
use Rattle.sy_copies.specs.Calls.{MayRenew}

gone : (x : Option Buffer) (p : ℕ) → len_of x ≡ None → room_of x p ≡ false
gone None p h = refl
gone (Some x) p h = absurd cc

-- a root that is not there has no room
pub not_there : (c : List (Option Buffer)) (p b : ℕ) (needs : List Need) → len_at c b ≡ None → MayRenew c p needs b → ⊥
unfolding len_at has_room
not_there c p b needs h m =
    let z : true ≡ false = sym m.room ∙ gone (buffer_at c b) p h in cc

or_true : (a : Bool) → (a || true) ≡ true
or_true true = refl
or_true false = refl

-- the root of a need that writes is one that the command writes
pub writer_renews : (needs : List Need) (k : ℕ) (d : Need) → k < length needs → writes (get_or needs k d).mode ≡ true → renews needs (get_or needs k d).buffer ≡ true
unfolding renews
writer_renews [] k d lt w = absurd (omega (arith, lt))
writer_renews (x ∷ xs) zero d lt w = rw (eq-eqb x.buffer x.buffer refl, w) refl
writer_renews (x ∷ xs) (suc k) d lt w = rw (writer_renews xs k d (omega (arith, lt)) w) (or_true _)
