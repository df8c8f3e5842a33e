-- What a step says of its reader, where its answer is known.
use Rattle.std.proofs.Common.{◌≡◌, List, Option, Some, None, Result, Ok, Err, sym, ◌∙◌, subst}
use Rattle.std.specs.Result.{IsErrAnd}
use Rattle.std.proofs.lemmas.Result.{err_from_is_err_and}
use Rattle.std.specs.Prelude.{◌≢◌}
use Rattle.sy_lex.specs.declared.Token.{Token}
use Rattle.sy_cursor.specs.declared.cursor.Stop.{Stop}
use Rattle.sy_cursor.specs.declared.cursor.Stop.TheVariants.{Memory}
use Rattle.sy_cursor.specs.Reads.{Reads}

pub reads_ok : {A : Type 0} {answer : Option (A × List Token)} {new : List Token} {r : Result A Stop} {a : A} → Reads answer r new → r ≡ Ok a → answer ≡ Some (a, new)
reads_ok {A} {answer} {new} {r} {a} reads is = subst (λ q. Reads answer q new) is reads

pub reads_err : {A : Type 0} {answer : Option (A × List Token)} (new : List Token) {r : Result A Stop} {e : Stop} → Reads answer r new → r ≡ Err e → e ≢ Memory → answer ≡ None
reads_err {A} {answer} new {r} {e} reads is = subst (λ q. Reads answer q new) is reads

-- the exit of a `?`
pub err_exit : {A : Type 0} (answer : Option (A × List Token)) (r : Result A Stop) (new : List Token) (e : Stop) →
    IsErrAnd r (λ y. y ≡ e) → (e ≢ Memory → answer ≡ None) → Reads answer r new
err_exit {A} answer r new e is none =
    let p = err_from_is_err_and {T = A} {E = Stop} {Q = λ y. y ≡ e} r is in
    subst (λ q. Reads answer q new) (sym p.1) (λ ne. none (λ m. ne (p.2 ∙ m)))
