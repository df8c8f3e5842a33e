use Rattle.std.proofs.Common.{◌≡◌, ◌-◌, length, drop, sym, ap, ◌∙◌, arith}
use Rattle.sy_tree.specs.Units.{IsExpression}
use Rattle.sy_pexpr.proofs.RefusalLemmas.{refused_by, not_memory}
use Rattle.sy_pexpr.proofs.RunLaws.{past_runs, found_from, none_from, unended_from, only_run}
use Rattle.sy_pexpr.proofs.expr.Goals as goal
use Rattle.sy_pexpr.proofs.expr.Goals.{After-saturating_sub}

is_run : (c : After-saturating_sub) → IsExpression c.args.toks.now c.args.at c.in-Ok.tree c.saturating_sub.result
is_run c =
    let rest : c.new-tokens.result.rest.now ≡ drop c.args.at c.args.toks.now = c.new-tokens.ensures ∙ c.split_at.ensures.back in
    let end : c.saturating_sub.result ≡ length c.args.toks.now - length c.read_expr.new.tokens.rest.now = c.saturating_sub.ensures ∙ ap (λ k. length c.args.toks.now - k) c.count_left.ensures in
    found_from c.args.toks.now c.args.at c.new-tokens.result.rest.now rest (c.in-Ok.tree, c.in-Ok._height) c.read_expr.new.tokens.rest.now c.saturating_sub.result (omega arith)
    c.in-Ok.ensures (sym c.ends.ensures ∙ c.if-ends.true) end

pub returns-then-at-toks-clause-refused : goal.returns-then-at-toks-clause-refused
returns-then-at-toks-clause-refused c = refused_by c.refusal.result c.refusal.ensures (past_runs c.args.toks.now c.args.at (omega arith))

pub returns-then-ends-clause-found : goal.returns-then-ends-clause-found
returns-then-ends-clause-found c = is_run c

pub returns-then-ends-clause-only : goal.returns-then-ends-clause-only
returns-then-ends-clause-only c = only_run c.args.toks.now c.args.at c.in-Ok.tree c.saturating_sub.result (is_run c)

pub returns-else-ends-clause-refused : goal.returns-else-ends-clause-refused
returns-else-ends-clause-refused c =
    let rest : c.new-tokens.result.rest.now ≡ drop c.args.at c.args.toks.now = c.new-tokens.ensures ∙ c.split_at.ensures.back in
    refused_by c.refusal-else-ends.result c.refusal-else-ends.ensures
    (unended_from c.args.toks.now c.args.at c.new-tokens.result.rest.now rest (c.in-Ok.tree, c.in-Ok._height) c.read_expr.new.tokens.rest.now c.in-Ok.ensures (sym c.ends.ensures ∙ c.if-ends.false))

pub returns-in-Err-Grammar-clause-refused : goal.returns-in-Err-Grammar-clause-refused
returns-in-Err-Grammar-clause-refused c =
    let rest : c.new-tokens.result.rest.now ≡ drop c.args.at c.args.toks.now = c.new-tokens.ensures ∙ c.split_at.ensures.back in
    refused_by c.refusal-in-Err-Grammar.result c.refusal-in-Err-Grammar.ensures
    (none_from c.args.toks.now c.args.at c.new-tokens.result.rest.now rest (c.in-Err-Grammar.ensures (not_memory c.in-Err-Grammar.field-0 c.in-Err-Grammar.field-0-is)))
