use Rattle.std.proofs.Common.{subst, sym}
use Rattle.sy_cursor.specs.Reads.{Reads}
use Rattle.sy_reading.specs.Reading.{read_expr, read_stmt}
use Rattle.sy_exprs.proofs.PropertyLemmas.{identity_parts}
use Rattle.sy_exprs.proofs.primary.Primaries.initialize_to_identity.Goals as goal

pub returns : goal.returns
returns g c =
    subst (λ o. Reads o c.expr_node.result c.empty_brackets.new.tokens.rest.now)
    (sym (identity_parts (read_expr c.args.self.now.below.depth) (read_stmt c.args.self.now.below.depth) c.args.name c.args.tokens.now.rest.now
    c.expect.new.self.rest.now c.expect-2.new.self.rest.now c.expect-3.new.self.rest.now c.empty_brackets.new.tokens.rest.now
    c.in_ok-expect.field-0 c.in_ok-expect-2.field-0 c.in_ok-expect-3.field-0 (c.in_ok-brackets.brackets, c.in_ok-brackets.close)
    c.in_ok-expect.ensures c.in_ok-expect-2.ensures c.in_ok-expect-3.ensures c.in_ok-brackets.ensures))
    c.expr_node.ensures
