-- What a refusal says of the tokens.
use Rattle.std.proofs.Common.{◌≡◌, Err, subst}
use Rattle.std.specs.Prelude.{◌≢◌}
use Rattle.std.specs.Result.{IsErrOf}
use Rattle.sy_note.specs.declared.Code.TheVariants as code
use Rattle.sy_note.specs.declared.Diagnostic.{Diagnostic}
use Rattle.sy_note.specs.declared.FrontStop.{FrontStop}
use Rattle.sy_note.specs.declared.FrontStop.TheVariants.{Refused}
use Rattle.sy_cursor.specs.declared.cursor.Stop.{Stop}
use Rattle.sy_cursor.specs.declared.cursor.Stop.TheVariants.{Grammar, Memory}

pub refused_by : {A P : Type 0} (r : Diagnostic) → r.code ≡ code.Grammar → P → (d : Diagnostic) → IsErrOf {T = A} {E = FrontStop} (Err (Refused r)) (Refused d) → (d.code ≡ code.Grammar) × P
refused_by r grammar p d is = let same : r ≡ d = cc in (subst (λ e. e.code ≡ code.Grammar) same grammar, p)

pub not_memory : (e : Stop) → e ≡ Grammar → e ≢ Memory
not_memory e is m = absurd cc
