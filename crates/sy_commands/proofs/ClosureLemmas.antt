-- What is made of a closure is made of each lambda that has its number, its line and its captures.
use Rattle.std.proofs.Common.{◌≡◌, refl, ℕ, List, Option, map, ap, ◌∙◌}
use Rattle.sy_commands.specs.Closures.{IsClosureOf, lambda_of}
use Rattle.sy_commands.specs.declared.closures.Closure.{Closure}
use Rattle.sy_meaning.specs.Expressions.{Lambda}
use Rattle.sy_meaning.specs.Lambdas.{captured, captures_of, commanded, given_at, kernel, parallel_for, plain_error, range_error, ranged, single_task}
use Rattle.sy_meaning.specs.Making.{Given, type_at, value_at}
use Rattle.sy_meaning.specs.Outcomes.{each}
use Rattle.sy_meaning.specs.Words.{Object, naturals}
use Rattle.sy_meaning.specs.declared.runs.Run.{Run}
use Rattle.sy_meaning.specs.declared.runs.World.{World}
use Rattle.sy_typed.specs.declared.things.Thing.{Thing}
use Rattle.sy_typed.specs.declared.things.Thing.TheVariants as thing
use Rattle.sy_typed.specs.declared.tree.TypedCapture.{TypedCapture}
use Rattle.sy_work.specs.declared.asks.Errc.{Errc}
use Rattle.sy_work.specs.declared.commands.Kernel.{Kernel}

pub same_captures : (l : Lambda) (c : Closure) (r : Run) → IsClosureOf l c → captures_of (lambda_of c) r ≡ captures_of l r
same_captures l c r is =
    ap (λ (n : ℕ). each (map (captured n) c.captures.now) r) is.line
    ∙ ap (λ (cs : List TypedCapture). each (map (captured l.spot.line) cs) r) is.captures

pub same_task : (l : Lambda) (c : Closure) (limit line : ℕ) (os : List Object) (w : World) → IsClosureOf l c → single_task limit line (lambda_of c) os w ≡ single_task limit line l os w
same_task l c limit line os w is =
    let of : ℕ → List TypedCapture → Lambda = λ n cs. record l { number = n; captures = cs } in
    let parts : single_task limit line (lambda_of c) os w ≡ single_task limit line (of c.number c.captures.now) os w = refl in
    parts
    ∙ ap (λ (n : ℕ). single_task limit line (of n c.captures.now) os w) is.number
    ∙ ap (λ (cs : List TypedCapture). single_task limit line (of l.number cs) os w) is.captures

same_error : (t : Thing) (o : Object) (l m : Lambda) (w : World) → l.captures ≡ m.captures → range_error t o l w ≡ range_error t o m w
same_error (thing.NdRange d) o l m w e = refl
same_error t o l m w e = ap (λ (cs : List TypedCapture). plain_error (naturals 0 o) (record m { captures = cs }) w) e

pub same_kernel : (l : Lambda) (c : Closure) (limit line : ℕ) (xs : List Given) (os : List Object) (w : World) → IsClosureOf l c → parallel_for limit line (lambda_of c) xs os w ≡ parallel_for limit line l xs os w
same_kernel l c limit line xs os w is =
    let made : ℕ → Kernel = λ n. record (kernel limit l os w) { code = n } in
    ap (λ (e : Option Errc). commanded line e (ranged line (given_at 0 xs) (given_at 1 xs) (made c.number)) w) (same_error (type_at 0 xs) (value_at 0 xs) (lambda_of c) l w is.captures)
    ∙ ap (λ (n : ℕ). commanded line (range_error (type_at 0 xs) (value_at 0 xs) l w) (ranged line (given_at 0 xs) (given_at 1 xs) (made n)) w) is.number
