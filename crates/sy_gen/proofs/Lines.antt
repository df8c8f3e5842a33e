-- How long the groups' lines are.
use Rattle.std.proofs.Common.{◌≡◌, ℕ, ◌+◌, ◌*◌, ◌<◌, ◌≤◌, ◌++◌, ◌∙◌, List, length, sym, ap, arith, length-append, append_assoc, add-one}
use Rattle.std.proofs.lemmas.Fmt.{length-decimal-le}
use Rattle.sy_gen.specs.declared.Function.{Function}
use Rattle.sy_gen.specs.declared.Function.TheVariants.{Add, Mul, Flip}
use Rattle.sy_gen.specs.declared.Group.{Group}
use Rattle.sy_gen.specs.Draws.{draw}
use Rattle.sy_gen.specs.Groups.{name_of, line_of, group_after}
use Rattle.sy_gen.specs.Text.{opening, lines_of}
use Rattle.sy_gen.proofs.Drawn.{draw-add, group_after-draw}

pub length-name_of : (function : Function) → length (name_of function) ≤ 4
length-name_of Add = omega arith
length-name_of Mul = omega arith
length-name_of Flip = omega arith

pub length-line_of : (group : Group) → group.queue < 10 → group.target < 10 → group.other < 10 → group.number < 100 → length (line_of group) ≤ 25
length-line_of group queue target other number =
    simp length-append (omega (arith, length-name_of group.function, length-decimal-le 1 group.queue (omega arith) queue (omega arith), length-decimal-le 1 group.target (omega arith) target (omega arith), length-decimal-le 1 group.other (omega arith) other (omega arith), length-decimal-le 2 group.number (omega arith) number (omega arith)))

pub length-group_after : (seed n : ℕ) → length (line_of (group_after seed n)) ≤ 25
length-group_after seed n = length-line_of (group_after seed n) (omega arith) (omega arith) (omega arith) (omega arith)

-- how far the writing of a source has come
pub record HasWritten (seed n : ℕ) (text : List ℕ) (last size : ℕ) : Type 0 where
  pub text_is : text ≡ opening ++ lines_of seed n
  pub last_is : last ≡ draw seed (5 * n)
  pub short : size ≤ 1546 + 25 * n

-- one group more
pub written_more : (seed n : ℕ) (text : List ℕ) (last size : ℕ) (more : List ℕ) (size' : ℕ) → HasWritten seed n text last size → more ≡ text ++ line_of (group_after last 0) → size' ≡ size + length (line_of (group_after last 0))
    → HasWritten seed (n + 1) more (draw last 5) size'
written_more seed n text last size more size' h e k =
    let same : group_after last 0 ≡ group_after seed (5 * n) = ap (λ x. group_after x 0) h.last_is ∙ group_after-draw seed (5 * n) in
    let next : 5 * n + 5 ≡ 5 * (n + 1) = omega arith in
    record {
      text_is = e ∙ ap (λ t. t ++ line_of (group_after last 0)) h.text_is ∙ append_assoc opening (lines_of seed n) (line_of (group_after last 0))
          ∙ ap (λ g. opening ++ (lines_of seed n ++ line_of g)) same ∙ ap (λ m. opening ++ lines_of seed m) (sym (add-one n));
      last_is = ap (λ x. draw x 5) h.last_is ∙ draw-add seed (5 * n) 5 ∙ ap (draw seed) next;
      short = omega (arith, length-group_after last 0, h.short, k);
    }
