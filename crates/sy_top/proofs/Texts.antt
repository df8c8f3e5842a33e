-- One piece of a text after another.
use Rattle.std.proofs.Common.{◌≡◌, ℕ, List, ◌++◌, ap, ◌∙◌, append_assoc}
use Rattle.std.specs.Prelude.{Result, Ok, Err, OnOk}

pub two : (old mid new a b : List ℕ) → mid ≡ old ++ a → new ≡ mid ++ b → new ≡ old ++ (a ++ b)
two old mid new a b e h = h ∙ ap (λ l. l ++ b) e ∙ append_assoc old a b

pub put_two : {T E : Type 0} (r : Result T E) (new old mid a b : List ℕ) → mid ≡ old ++ a → OnOk r (new ≡ mid ++ b) → OnOk r (new ≡ old ++ (a ++ b))
put_two (Ok x) new old mid a b e h = h ∙ ap (λ l. l ++ b) e ∙ append_assoc old a b
put_two (Err x) new old mid a b e h = h
