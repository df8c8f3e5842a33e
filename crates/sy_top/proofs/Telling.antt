-- Two texts told one after the other.
use Rattle.std.proofs.Common.{◌≡◌, ℕ, ◌+◌, ◌<◌, true, false, List, [], ◌++◌, length, take, Option, Some, None, sym, ap, ◌∙◌, subst, arith, append-nil, length-append}
use Rattle.std.proofs.Math.Seq.{take-append-add}
use Rattle.std.proofs.lemmas.List.{take-append-le}
use Rattle.std.proofs.KnownBytes.{Appends-trans, Keeps-trans}
use Rattle.std.specs.Io.KnownBytes.{Appends, Keeps}
use Rattle.sy_io.specs.Faults.{Rose}
use Rattle.sy_top.specs.declared.runs.Note.{Note}
use Rattle.sy_top.specs.declared.runs.Note.TheVariants.{Nothing, Written, Failed}
use Rattle.sy_top.specs.Headline.{stream, Tells}
use Rattle.sy_top.specs.Judged.{is_failed, joined}

keeps_appends : (old new : Option (List ℕ)) → Keeps old new → Appends old new []
keeps_appends None new h = tt
keeps_appends (Some x) None h = absurd h
keeps_appends (Some x) (Some y) h = h ∙ sym (append-nil x)

module _ (old mid new : Option (List ℕ)) (a b c : ℕ) (x y : List ℕ) where
  more_bytes : 0 < length x → 0 < length (x ++ y)
  more_bytes h = let n : length (x ++ y) ≡ length x + length y = length-append x y in omega (arith, h, n)

  more_after : 0 < length y → 0 < length (x ++ y)
  more_after h = let n : length (x ++ y) ≡ length x + length y = length-append x y in omega (arith, h, n)

  nothing_then : x ≡ [] → Keeps old mid → b ≡ a → (l : Note) → Tells (stream mid new b c) y l → Tells (stream old new a c) (x ++ y) l
  nothing_then e k s Nothing h = (ap (λ z. z ++ y) e ∙ h.0, Keeps-trans old mid new k h.1, h.2 ∙ s)
  nothing_then e k s Written h = (more_after h.0, subst (λ z. Appends old new (z ++ y)) (sym e) (Appends-trans old mid new [] y (keeps_appends old mid k) h.1), h.2 ∙ s)
  nothing_then e k s Failed h = (
    (h.0.0, let n : length (x ++ y) ≡ length x + length y = length-append x y in omega (arith, h.0.1, n), subst (λ z. Appends old new (take h.0.0 (z ++ y))) (sym e) (Appends-trans old mid new [] _ (keeps_appends old mid k) h.0.2)),
    subst (λ z. Rose z c) s h.1,
  )

  written_then : 0 < length x → Appends old mid x → b ≡ a → (l : Note) → Tells (stream mid new b c) y l → Tells (stream old new a c) (x ++ y) (joined Written l)
  written_then p k s Nothing h = (more_bytes p, subst (λ z. Appends old new (x ++ z)) (sym h.0) (Appends-trans old mid new x [] k (keeps_appends mid new h.1)), h.2 ∙ s)
  written_then p k s Written h = (more_bytes p, Appends-trans old mid new x y k h.1, h.2 ∙ s)
  written_then p k s Failed h = (
    (length x + h.0.0, let n : length (x ++ y) ≡ length x + length y = length-append x y in omega (arith, h.0.1, n), subst (Appends old new) (sym (take-append-add x y h.0.0)) (Appends-trans old mid new x _ k h.0.2)),
    subst (λ z. Rose z c) s h.1,
  )

  pub both : (k l : Note) → is_failed k ≡ false → Tells (stream old mid a b) x k → Tells (stream mid new b c) y l → Tells (stream old new a c) (x ++ y) (joined k l)
  both Nothing l e first second = nothing_then first.0 first.1 first.2 l second
  both Written l e first second = written_then first.0 first.1 first.2 l second
  both Failed l e first second = absurd cc

  pub broken : (k : Note) → is_failed k ≡ true → Tells (stream old mid a b) x k → Tells (stream old mid a b) (x ++ y) k
  broken Nothing e first = absurd cc
  broken Written e first = absurd cc
  broken Failed e first = (
    (first.0.0, let n : length (x ++ y) ≡ length x + length y = length-append x y in omega (arith, first.0.1, n), subst (Appends old mid) (sym (take-append-le first.0.0 x y (omega (arith, first.0.1)))) first.0.2),
    first.1,
  )
