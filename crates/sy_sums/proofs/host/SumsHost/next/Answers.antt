use Rattle.std.proofs.Common.{◌≡◌, List, length, drop, ap, ◌∙◌, subst}
use Rattle.sy_tree.specs.declared.tree.Stmt.{Stmt}
use Rattle.sy_sums.specs.Hosts.{ahead, taken}
use Rattle.sy_sums.proofs.Hosts.{asks_on, asked_stands, is_open}
use Rattle.sy_sums.proofs.host.SumsHost.next.Goals as goal

pub returns-clause-open : goal.returns-clause-open
returns-clause-open c = is_open _ _ _ _ c.kept.ensures c.in_ok-ask.ensures

pub returns-clause-asks : goal.returns-clause-asks
returns-clause-asks c = λ n at captures answers stands.
    asks_on n _ _ _ _ at captures answers _ _ stands c.requires.answered
    (c.next_operand-found.ensures ∙ ap (λ ss. ahead c.args.self.now.done (drop c.args.self.now.at ss)) c.statements_of.ensures)
    c.in_ok-ask.ensures

pub returns-clause-kept : goal.returns-clause-kept
returns-clause-kept c = λ n at captures answers stands.
    asked_stands n (length answers) _ _ _ _ _ stands c.requires.answered
    (subst (λ (ss : List Stmt). taken c.next_operand-found.result.operand (ahead c.next_operand-found.result.done (drop c.next_operand-found.result.at ss)) ≡ ahead c.args.self.now.done (drop c.args.self.now.at ss)) c.statements_of.ensures c.next_operand-found.ensures)
    _ c.kept.ensures
