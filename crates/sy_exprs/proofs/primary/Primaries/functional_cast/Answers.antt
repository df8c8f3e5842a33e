use Rattle.std.specs.Prelude.{◌≡◌, ◌≢◌, Some, None, refl}
use Rattle.std.proofs.Common.{sym, rules, arith}
use Rattle.std.proofs.lemmas.Grind.{common_steps}
use Rattle.sy_cursor.specs.declared.cursor.Stop.TheVariants.{Memory}
use Rattle.sy_reading.specs.Exprs.{functional_cast, parenthesis}
use Rattle.sy_reading.specs.Parts.{one_word}
use Rattle.sy_reading.specs.Reading.{read_expr, read_stmt}
use Rattle.sy_exprs.proofs.primary.Primaries.functional_cast.Given.{Over}
use Rattle.sy_exprs.proofs.primary.Primaries.functional_cast.Goals as goal
use Rattle.sy_exprs.proofs.primary.Primaries.functional_cast.Goals.{After-from_residual-in_err-inner}

none-inner : (g : Over) (c : After-from_residual-in_err-inner g) → c.in_err-inner.field-0.0 ≢ Memory → functional_cast (read_expr c.args.self.now.below.depth) (read_stmt c.args.self.now.below.depth) c.args.tokens.now.rest.now ≡ None
unfolding functional_cast
none-inner g c other =
    let names : one_word c.args.tokens.now.rest.now ≡ Some (c.in_ok-target.target, c.one_word.new.tokens.rest.now) = c.in_ok-target.ensures in
    let refused : parenthesis (read_expr c.args.self.now.below.depth) (read_stmt c.args.self.now.below.depth) c.one_word.new.tokens.rest.now ≡ None = c.in_err-inner.ensures other in
    rw (names, refused) refl

pub returns-in_err-inner : goal.returns-in_err-inner
returns-in_err-inner g c = let none = none-inner g c in first_of (search rules, grind (arith, common_steps))

pub returns : goal.returns
unfolding functional_cast
returns g c =
    let names : one_word c.args.tokens.now.rest.now ≡ Some (c.in_ok-target.target, c.one_word.new.tokens.rest.now) = c.in_ok-target.ensures in
    let holds : parenthesis (read_expr c.args.self.now.below.depth) (read_stmt c.args.self.now.below.depth) c.one_word.new.tokens.rest.now ≡ Some (((c.in_ok-inner.inner, c.in_ok-inner.height), c.in_ok-inner.close), c.parenthesis.new.tokens.rest.now) = c.in_ok-inner.ensures in
    let box : c.in_ok-new.field-0 ≡ c.in_ok-inner.inner = c.in_ok-new.ensures in
    rw (names, holds, sym box) c.expr_node.ensures
