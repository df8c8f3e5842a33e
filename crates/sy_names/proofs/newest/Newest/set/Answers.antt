use Rattle.std.proofs.Common.{ap, ◌∙◌}
use Rattle.std.specs.Map.{lookup}
use Rattle.std.specs.Option.{option_flatten}
use Rattle.std.specs.Str.{bytes_eq}
use Rattle.sy_names.proofs.IndexLemmas.{lookup-insert_entry, option_flatten-cond}
use Rattle.sy_names.proofs.newest.Newest.set.Goals as goal

pub returns-clause-has : goal.returns-clause-has
returns-clause-has c = λ x.
    ap (λ es. option_flatten (lookup (λ q. bytes_eq x q.items) es)) c.in_ok-had.ensures.entries
    ∙ ap option_flatten (lookup-insert_entry (λ q. q.items) x c.args.name c.args.number c.args.self.now.numbers.entries)
    ∙ option_flatten-cond (bytes_eq c.args.name.items x) c.args.number (lookup (λ q. bytes_eq x q.items) c.args.self.now.numbers.entries)
