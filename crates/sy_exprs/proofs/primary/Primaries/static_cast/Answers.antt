use Rattle.std.specs.Prelude.{◌≡◌, ◌≢◌, Some, None, refl, codes}
use Rattle.std.proofs.Common.{sym, rules, arith}
use Rattle.std.proofs.lemmas.Grind.{common_steps}
use Rattle.sy_cursor.specs.declared.cursor.Stop.TheVariants.{Memory}
use Rattle.sy_lex.specs.declared.Row.TheVariants as row
use Rattle.sy_reading.specs.Exprs.{parenthesis, static_cast}
use Rattle.sy_reading.specs.Input.{expect}
use Rattle.sy_reading.specs.Parts.{integral}
use Rattle.sy_reading.specs.Reading.{read_expr, read_stmt}
use Rattle.sy_exprs.proofs.primary.Primaries.static_cast.Given.{Over}
use Rattle.sy_exprs.proofs.primary.Primaries.static_cast.Goals as goal
use Rattle.sy_exprs.proofs.primary.Primaries.static_cast.Goals.{After-from_residual-in_err-inner}

none-inner : (g : Over) (c : After-from_residual-in_err-inner g) → c.in_err-inner.field-0.0 ≢ Memory → static_cast (read_expr c.args.self.now.below.depth) (read_stmt c.args.self.now.below.depth) c.args.tokens.now.rest.now ≡ None
unfolding static_cast
none-inner g c other =
    let begins : expect row.Reserved (codes "static_cast") c.args.tokens.now.rest.now ≡ Some (c.in_ok-spot.spot, c.expect.new.self.rest.now) = c.in_ok-spot.ensures in
    let opens : expect row.Mark (codes "<") c.expect.new.self.rest.now ≡ Some (c.in_ok-expect.field-0, c.expect-2.new.self.rest.now) = c.in_ok-expect.ensures in
    let names : integral c.expect-2.new.self.rest.now ≡ Some (c.in_ok-target.target, c.integral.new.tokens.rest.now) = c.in_ok-target.ensures in
    let closes : expect row.Mark (codes ">") c.integral.new.tokens.rest.now ≡ Some (c.in_ok-expect-2.field-0, c.expect-3.new.self.rest.now) = c.in_ok-expect-2.ensures in
    let refused : parenthesis (read_expr c.args.self.now.below.depth) (read_stmt c.args.self.now.below.depth) c.expect-3.new.self.rest.now ≡ None = c.in_err-inner.ensures other in
    rw (begins, opens, names, closes, refused) refl

pub returns-in_err-inner : goal.returns-in_err-inner
returns-in_err-inner g c = let none = none-inner g c in first_of (search rules, grind (arith, common_steps))

pub returns : goal.returns
unfolding static_cast
returns g c =
    let begins : expect row.Reserved (codes "static_cast") c.args.tokens.now.rest.now ≡ Some (c.in_ok-spot.spot, c.expect.new.self.rest.now) = c.in_ok-spot.ensures in
    let opens : expect row.Mark (codes "<") c.expect.new.self.rest.now ≡ Some (c.in_ok-expect.field-0, c.expect-2.new.self.rest.now) = c.in_ok-expect.ensures in
    let names : integral c.expect-2.new.self.rest.now ≡ Some (c.in_ok-target.target, c.integral.new.tokens.rest.now) = c.in_ok-target.ensures in
    let closes : expect row.Mark (codes ">") c.integral.new.tokens.rest.now ≡ Some (c.in_ok-expect-2.field-0, c.expect-3.new.self.rest.now) = c.in_ok-expect-2.ensures in
    let holds : parenthesis (read_expr c.args.self.now.below.depth) (read_stmt c.args.self.now.below.depth) c.expect-3.new.self.rest.now ≡ Some (((c.in_ok-inner.inner, c.in_ok-inner.height), c.in_ok-inner.close), c.parenthesis.new.tokens.rest.now) = c.in_ok-inner.ensures in
    let box : c.in_ok-new.field-0 ≡ c.in_ok-inner.inner = c.in_ok-new.ensures in
    rw (begins, opens, names, closes, holds, sym box) c.expr_node.ensures
