use Rattle.std.proofs.Common.{List, slice_get, sym, ap, ◌∙◌}
use Rattle.std.specs.Option.{option_map}
use Rattle.sy_rules.specs.Names.{look_up}
use Rattle.sy_names.specs.declared.declarations.Declaration.{Declaration}
use Rattle.sy_names.proofs.IndexLemmas.{found, named_at}
use Rattle.sy_names.proofs.declarations.Declarations.find.Goals as goal

pub returns-in-Some : goal.returns-in-Some
returns-in-Some c =
    let ds = c.self.inside.oldest_first.items in
    let x = c.args.name.now in
    c.named_at.ensures
    ∙ ap (λ (l : List Declaration). option_map (λ d. d.named) (slice_get l c.in-Some.number)) c.deref.ensures.value
    ∙ ap (named_at ds) c.in-Some.ensures
    ∙ sym (found c.self.inside.newest ds x c.self.invariant)
    ∙ ap (λ es. look_up es x) c.self.view_is

pub returns-in-None : goal.returns-in-None
returns-in-None c =
    let ds = c.self.inside.oldest_first.items in
    let x = c.args.name.now in
    ap (named_at ds) c.in-None.ensures
    ∙ sym (found c.self.inside.newest ds x c.self.invariant)
    ∙ ap (λ es. look_up es x) c.self.view_is
