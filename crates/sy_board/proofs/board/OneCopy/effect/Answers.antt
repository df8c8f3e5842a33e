use Rattle.std.proofs.Common.{◌≡◌, ◌∙◌, ap, refl, rules, length, Some, get_or}
use Rattle.std.specs.Prelude.{slice_get}
use Rattle.std.proofs.lemmas.Option.{slice_get_read}
use Rattle.sy_work.specs.declared.asks.Answer.TheVariants.{Contents}
use Rattle.sy_onecopy.specs.declared.Stage.TheVariants.{Granted, Done}
use Rattle.sy_onecopy.specs.State.{Board}
use Rattle.sy_onecopy.specs.Outcome.{inputs, values_at}
use Rattle.sy_onecopy.specs.Settle.{reply, to_stage, first_of}
use Rattle.sy_board.proofs.EffectLemmas.{fit_here, effect_node, effect_access, effect_end}
use Rattle.sy_board.proofs.board.OneCopy.effect.Goals as goal

pub run-requires-clause-fit : goal.run-requires-clause-fit
run-requires-clause-fit g c =
    let b = c.args.self.now in
    let x = c.index-e.result.now in
    let v : c.self.inside.entries.items ≡ b.entries = search rules in
    let here : slice_get b.entries c.args.k ≡ Some x = slice_get_read b.entries (length b.entries) c.args.k x refl c.requires.here (c.index-e.ensures ∙ ap (λ l. get_or l c.args.k x) v) in
    let vb : c.as_slice.result.now ≡ b.buffers = search rules in
    let eg : c.in_ok-given-in-Node.given ≡ inputs b.buffers x.needs = c.in_ok-given-in-Node.ensures ∙ ap (λ l. inputs l c.items.result.now) vb ∙ ap (inputs b.buffers) c.items.ensures in
    fit_here b c.args.k _ _ x _ _ c.requires.sound here c.in-Node.is eg

pub returns-in_ok-take-in-Node : goal.returns-in_ok-take-in-Node
returns-in_ok-take-in-Node g c =
    let b = c.args.self.now in
    let x = c.index-e.result.now in
    let v : c.self.inside.entries.items ≡ b.entries = search rules in
    let here : slice_get b.entries c.args.k ≡ Some x = slice_get_read b.entries (length b.entries) c.args.k x refl c.requires.here (c.index-e.ensures ∙ ap (λ l. get_or l c.args.k x) v) in
    let vb : c.as_slice.result.now ≡ b.buffers = search rules in
    let eg : c.in_ok-given-in-Node.given ≡ inputs b.buffers x.needs = c.in_ok-given-in-Node.ensures ∙ ap (λ l. inputs l c.items.result.now) vb ∙ ap (inputs b.buffers) c.items.ensures in
    effect_node (g.R.Runner.outcome c.args.runner.now) b c.take.new.self c.args.k _ _ x _ _ _ _ here c.in-Node.is eg c.in_ok-outcome-in-Node.ensures (c.items-in-Node.ensures ∙ c.in_ok-needs-in-Node.ensures) c.in_ok-take-in-Node.ensures

pub returns-in_ok-values-in-Access : goal.returns-in_ok-values-in-Access
returns-in_ok-values-in-Access g c =
    let b = c.args.self.now in
    let x = c.index-e.result.now in
    let v : c.self.inside.entries.items ≡ b.entries = search rules in
    let here : slice_get b.entries c.args.k ≡ Some x = slice_get_read b.entries (length b.entries) c.args.k x refl c.requires.here (c.index-e.ensures ∙ ap (λ l. get_or l c.args.k x) v) in
    let vb : c.as_slice-in-Access.result.now ≡ b.buffers = search rules in
    let eg : c.in_ok-given-in-Access.given ≡ inputs b.buffers x.needs = c.in_ok-given-in-Access.ensures ∙ ap (λ l. inputs l c.items-in-Access.result.now) vb ∙ ap (inputs b.buffers) c.items-in-Access.ensures in
    let ed : c.reply.new.self ≡ reply (to_stage b c.args.k Granted) c.in-Access.t (Contents (first_of c.in_ok-given-in-Access.given)) =
    c.reply.ensures ∙ ap (λ (d : Board). reply d c.in-Access.t (Contents c.in_ok-values-in-Access.values)) c.to_stage.ensures
    ∙ ap (λ l. reply (to_stage b c.args.k Granted) c.in-Access.t (Contents l)) c.in_ok-values-in-Access.ensures in
    effect_access (g.R.Runner.outcome c.args.runner.now) b c.reply.new.self c.args.k c.in-Access.t _ x _ here c.in-Access.is eg ed

pub returns-in_ok-values-in-End : goal.returns-in_ok-values-in-End
returns-in_ok-values-in-End g c =
    let b = c.args.self.now in
    let x = c.index-e.result.now in
    let v : c.self.inside.entries.items ≡ b.entries = search rules in
    let here : slice_get b.entries c.args.k ≡ Some x = slice_get_read b.entries (length b.entries) c.args.k x refl c.requires.here (c.index-e.ensures ∙ ap (λ l. get_or l c.args.k x) v) in
    let vb : c.as_slice-in-End.result.now ≡ b.buffers = search rules in
    let ev : c.of.result ≡ values_at b.buffers c.in-End.r =
    c.of.ensures ∙ c.in_ok-values-in-End.ensures.items ∙ c.values_at.ensures ∙ ap (λ l. values_at l c.in-End.r) vb in
    let ed : c.reply-in-End.new.self ≡ reply (to_stage b c.args.k Done) c.in-End.t (Contents (values_at b.buffers c.in-End.r)) =
    c.reply-in-End.ensures ∙ ap (λ (d : Board). reply d c.in-End.t (Contents c.of.result)) c.to_stage-in-End.ensures
    ∙ ap (λ l. reply (to_stage b c.args.k Done) c.in-End.t (Contents l)) ev in
    effect_end (g.R.Runner.outcome c.args.runner.now) b c.reply-in-End.new.self c.args.k c.in-End.t c.in-End.r x here c.in-End.is ed
