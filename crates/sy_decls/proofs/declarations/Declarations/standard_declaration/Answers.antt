use Rattle.std.proofs.Common.{subst, sym}
use Rattle.sy_cursor.specs.Reads.{Reads}
use Rattle.sy_reading.specs.Reading.{read_expr, read_stmt}
use Rattle.sy_decls.proofs.StandardNameLemmas.{standard_parts}
use Rattle.sy_decls.proofs.declarations.Declarations.standard_declaration.Goals as goal

pub returns : goal.returns
returns g c =
    subst (λ o. Reads o c.standard_by.result c.standard_by.new.tokens.rest.now)
    (sym (standard_parts (read_expr c.args.self.now.below.depth) (read_stmt c.args.self.now.below.depth) c.args.tokens.now.rest.now c.expect_name.new.self.rest.now
    c.in_ok-namespace.namespace c.in_ok-namespace.name c.qualified_name.result c.items.result.now c.in_ok-namespace.ensures c.qualified_name.ensures c.items.ensures))
    c.standard_by.ensures
