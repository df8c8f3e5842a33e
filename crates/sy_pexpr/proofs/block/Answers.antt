use Rattle.std.proofs.Common.{◌≡◌, ◌-◌, length, drop, ap, ◌∙◌, arith}
use Rattle.sy_tree.specs.Units.{IsBlock}
use Rattle.sy_pexpr.proofs.RefusalLemmas.{refused_by, not_memory}
use Rattle.sy_pexpr.proofs.RunLaws.{past_blocks, block_from, no_block_from, only_block}
use Rattle.sy_pexpr.proofs.block.Goals as goal
use Rattle.sy_pexpr.proofs.block.Goals.{After-saturating_sub}

is_block : (c : After-saturating_sub) → IsBlock c.args.toks.now c.args.at c.in-Ok.tree c.saturating_sub.result
is_block c =
    let rest : c.new-tokens.result.rest.now ≡ drop c.args.at c.args.toks.now = c.new-tokens.ensures ∙ c.split_at.ensures.back in
    let end : c.saturating_sub.result ≡ length c.args.toks.now - length c.read_block.new.tokens.rest.now = c.saturating_sub.ensures ∙ ap (λ k. length c.args.toks.now - k) c.count_left.ensures in
    block_from c.args.toks.now c.args.at c.new-tokens.result.rest.now rest (c.in-Ok.tree, c.in-Ok._height) c.read_block.new.tokens.rest.now c.saturating_sub.result (omega arith) c.in-Ok.ensures end

pub returns-then-at-toks-clause-refused : goal.returns-then-at-toks-clause-refused
returns-then-at-toks-clause-refused c = refused_by c.refusal.result c.refusal.ensures (past_blocks c.args.toks.now c.args.at (omega arith))

pub returns-in-Ok-clause-found : goal.returns-in-Ok-clause-found
returns-in-Ok-clause-found c = is_block c

pub returns-in-Ok-clause-only : goal.returns-in-Ok-clause-only
returns-in-Ok-clause-only c = only_block c.args.toks.now c.args.at c.in-Ok.tree c.saturating_sub.result (is_block c)

pub returns-in-Err-Grammar-clause-refused : goal.returns-in-Err-Grammar-clause-refused
returns-in-Err-Grammar-clause-refused c =
    let rest : c.new-tokens.result.rest.now ≡ drop c.args.at c.args.toks.now = c.new-tokens.ensures ∙ c.split_at.ensures.back in
    refused_by c.refusal-in-Err-Grammar.result c.refusal-in-Err-Grammar.ensures
    (no_block_from c.args.toks.now c.args.at c.new-tokens.result.rest.now rest (c.in-Err-Grammar.ensures (not_memory c.in-Err-Grammar.field-0 c.in-Err-Grammar.field-0-is)))
