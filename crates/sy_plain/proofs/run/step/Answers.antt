use Rattle.std.proofs.Common.{◌∙◌, ap, sym, subst}
use Rattle.sy_onecopy.specs.State.{Board}
use Rattle.sy_sound.specs.Known.{AllKnown}
use Rattle.sy_sound.proofs.KnownLemmas.{known_turn}
use Rattle.sy_plain.proofs.StepLemmas.{noted, parent, sound, time, known, between_of, turned, hosts_count, asks_count, can, held, turn_counts}
use Rattle.sy_plain.proofs.run.step.Goals as goal

pub take_ask-ask-requires : goal.take_ask-ask-requires
take_ask-ask-requires g c =
    let k = c.requires.can in
    (_, noted g.H.Host.pending g.H.Host.stands k.program k.order k.state c.args.t c.args.board.now c.args.hosts.now.items c.args.asks.now.items k.reached k.legal k.holds)

pub add_child-requires : goal.add_child-requires
add_child-requires g c =
    let k = c.requires.can in
    parent g.H.Host.pending g.H.Host.stands k.program k.order k.state c.args.t c.args.board.now c.args.hosts.now.items c.args.asks.now.items k.reached k.legal k.holds c.take_ask-ask.result c.take_ask-ask.ensures.taken

pub turn-requires-clause-sound : goal.turn-requires-clause-sound
turn-requires-clause-sound g c =
    let k = c.requires.can in
    sound g.H.Host.pending g.H.Host.stands k.program k.order k.state c.args.t c.args.board.now c.args.hosts.now.items c.args.asks.now.items k.reached k.legal k.holds

pub turn-requires-clause-time : goal.turn-requires-clause-time
turn-requires-clause-time g c =
    let k = c.requires.can in
    time g.H.Host.pending g.H.Host.stands k.program k.order k.state c.args.t c.args.board.now c.args.hosts.now.items c.args.asks.now.items k.reached k.legal k.holds

pub turn-requires-clause-ask : goal.turn-requires-clause-ask
turn-requires-clause-ask g c =
    let k = c.requires.can in
    known g.H.Host.pending g.H.Host.stands k.program k.order k.state c.args.t c.args.board.now c.args.hosts.now.items c.args.asks.now.items k.reached k.legal k.holds (g.R.Runner.knows c.args.runner.now) c.take_ask-ask.result k.known c.take_ask-ask.ensures.taken

pub hear_all-requires-clause-hosts : goal.hear_all-requires-clause-hosts
hear_all-requires-clause-hosts g c =
    let k = c.requires.can in
    let hosts = c.args.hosts.now.items in
    let asks = c.args.asks.now.items in
    let q = c.take_ask-ask.result in
    let isk = known g.H.Host.pending g.H.Host.stands k.program k.order k.state c.args.t c.args.board.now c.args.hosts.now.items c.args.asks.now.items k.reached k.legal k.holds (g.R.Runner.knows c.args.runner.now) q k.known c.take_ask-ask.ensures.taken in
    let m = parent g.H.Host.pending g.H.Host.stands k.program k.order k.state c.args.t c.args.board.now hosts asks k.reached k.legal k.holds q c.take_ask-ask.ensures.taken in
    let mids = between_of g.H.Host.pending g.H.Host.stands k.program k.order k.state c.args.t c.args.board.now hosts asks k.reached k.legal k.holds q m.0 c.add_child.new.hosts.items c.take_ask-ask.new.asks.items c.add_child.new.asks.items c.threads.result c.take_ask-ask.ensures.rest c.threads.ensures c.take_ask-ask.ensures.taken m.1 (c.in_ok-add_child.ensures m.0 m.1) in
    let ed = turned g.H.Host.pending g.H.Host.stands k.program k.order k.state c.args.t c.args.board.now hosts asks k.reached k.legal k.holds (g.R.Runner.knows c.args.runner.now) (g.R.Runner.outcome c.args.runner.now) q c.turn.new.self k.outcome c.requires.known isk c.take_ask-ask.ensures.taken c.in_ok-turn.ensures in
    hosts_count g.H.Host.pending g.H.Host.stands k.program k.order k.state c.args.t c.args.board.now hosts asks k.reached k.legal k.holds c.add_child.new.hosts.items c.add_child.new.asks.items c.turn.new.self mids ed

pub hear_all-requires-clause-asks : goal.hear_all-requires-clause-asks
hear_all-requires-clause-asks g c =
    let k = c.requires.can in
    let hosts = c.args.hosts.now.items in
    let asks = c.args.asks.now.items in
    let q = c.take_ask-ask.result in
    let isk = known g.H.Host.pending g.H.Host.stands k.program k.order k.state c.args.t c.args.board.now c.args.hosts.now.items c.args.asks.now.items k.reached k.legal k.holds (g.R.Runner.knows c.args.runner.now) q k.known c.take_ask-ask.ensures.taken in
    let m = parent g.H.Host.pending g.H.Host.stands k.program k.order k.state c.args.t c.args.board.now hosts asks k.reached k.legal k.holds q c.take_ask-ask.ensures.taken in
    let mids = between_of g.H.Host.pending g.H.Host.stands k.program k.order k.state c.args.t c.args.board.now hosts asks k.reached k.legal k.holds q m.0 c.add_child.new.hosts.items c.take_ask-ask.new.asks.items c.add_child.new.asks.items c.threads.result c.take_ask-ask.ensures.rest c.threads.ensures c.take_ask-ask.ensures.taken m.1 (c.in_ok-add_child.ensures m.0 m.1) in
    let ed = turned g.H.Host.pending g.H.Host.stands k.program k.order k.state c.args.t c.args.board.now hosts asks k.reached k.legal k.holds (g.R.Runner.knows c.args.runner.now) (g.R.Runner.outcome c.args.runner.now) q c.turn.new.self k.outcome c.requires.known isk c.take_ask-ask.ensures.taken c.in_ok-turn.ensures in
    asks_count g.H.Host.pending g.H.Host.stands k.program k.order k.state c.args.t c.args.board.now hosts asks k.reached k.legal k.holds c.add_child.new.hosts.items c.add_child.new.asks.items c.turn.new.self mids ed

pub hear_all-requires-clause-fit : goal.hear_all-requires-clause-fit
hear_all-requires-clause-fit g c =
    let k = c.requires.can in
    let hosts = c.args.hosts.now.items in
    let asks = c.args.asks.now.items in
    let q = c.take_ask-ask.result in
    let isk = known g.H.Host.pending g.H.Host.stands k.program k.order k.state c.args.t c.args.board.now c.args.hosts.now.items c.args.asks.now.items k.reached k.legal k.holds (g.R.Runner.knows c.args.runner.now) q k.known c.take_ask-ask.ensures.taken in
    let m = parent g.H.Host.pending g.H.Host.stands k.program k.order k.state c.args.t c.args.board.now hosts asks k.reached k.legal k.holds q c.take_ask-ask.ensures.taken in
    let mids = between_of g.H.Host.pending g.H.Host.stands k.program k.order k.state c.args.t c.args.board.now hosts asks k.reached k.legal k.holds q m.0 c.add_child.new.hosts.items c.take_ask-ask.new.asks.items c.add_child.new.asks.items c.threads.result c.take_ask-ask.ensures.rest c.threads.ensures c.take_ask-ask.ensures.taken m.1 (c.in_ok-add_child.ensures m.0 m.1) in
    let ed = turned g.H.Host.pending g.H.Host.stands k.program k.order k.state c.args.t c.args.board.now hosts asks k.reached k.legal k.holds (g.R.Runner.knows c.args.runner.now) (g.R.Runner.outcome c.args.runner.now) q c.turn.new.self k.outcome c.requires.known isk c.take_ask-ask.ensures.taken c.in_ok-turn.ensures in
    can g.H.Host.pending g.H.Host.stands k.program k.order k.state c.args.t c.args.board.now hosts asks k.reached k.legal k.holds c.add_child.new.hosts.items c.add_child.new.asks.items c.turn.new.self mids ed

pub returns-clause-known : goal.returns-clause-known
returns-clause-known g c =
    let k = c.requires.can in
    let K = g.R.Runner.knows c.args.runner.now in
    let q = c.take_ask-ask.result in
    let isk = known g.H.Host.pending g.H.Host.stands k.program k.order k.state c.args.t c.args.board.now c.args.hosts.now.items c.args.asks.now.items k.reached k.legal k.holds K q k.known c.take_ask-ask.ensures.taken in
    let P : Board → Type 0 = λ b. AllKnown K b.entries in
    subst P (sym c.in_ok-hear_all.ensures.board) (subst P (sym c.in_ok-turn.ensures) (known_turn K (g.R.Runner.outcome c.args.runner.now) c.args.board.now c.args.t q isk c.requires.known))

pub returns-clause-counted : goal.returns-clause-counted
returns-clause-counted g c =
    ap (λ (b : Board). b.steps) c.in_ok-hear_all.ensures.board ∙ ap (λ (b : Board). b.steps) c.in_ok-turn.ensures
    ∙ turn_counts (g.R.Runner.outcome c.args.runner.now) c.args.board.now c.args.t c.take_ask-ask.result

pub returns-clause-holds : goal.returns-clause-holds
returns-clause-holds g c = λ p order s eo reached legal hold.
    let hosts = c.args.hosts.now.items in
    let asks = c.args.asks.now.items in
    let q = c.take_ask-ask.result in
    let k = c.requires.can in
    let isk = known g.H.Host.pending g.H.Host.stands k.program k.order k.state c.args.t c.args.board.now c.args.hosts.now.items c.args.asks.now.items k.reached k.legal k.holds (g.R.Runner.knows c.args.runner.now) q k.known c.take_ask-ask.ensures.taken in
    let m = parent g.H.Host.pending g.H.Host.stands p order s c.args.t c.args.board.now hosts asks reached legal hold q c.take_ask-ask.ensures.taken in
    let mids = between_of g.H.Host.pending g.H.Host.stands p order s c.args.t c.args.board.now hosts asks reached legal hold q m.0 c.add_child.new.hosts.items c.take_ask-ask.new.asks.items c.add_child.new.asks.items c.threads.result c.take_ask-ask.ensures.rest c.threads.ensures c.take_ask-ask.ensures.taken m.1 (c.in_ok-add_child.ensures m.0 m.1) in
    let ed = turned g.H.Host.pending g.H.Host.stands p order s c.args.t c.args.board.now hosts asks reached legal hold (g.R.Runner.knows c.args.runner.now) (g.R.Runner.outcome c.args.runner.now) q c.turn.new.self eo c.requires.known isk c.take_ask-ask.ensures.taken c.in_ok-turn.ensures in
    held g.H.Host.pending g.H.Host.stands p order s c.args.t c.args.board.now hosts asks reached legal hold c.add_child.new.hosts.items c.add_child.new.asks.items c.turn.new.self mids ed c.hear_all.new.board c.hear_all.new.hosts.items c.hear_all.new.asks.items c.in_ok-hear_all.ensures.board c.in_ok-hear_all.ensures.hosts c.in_ok-hear_all.ensures.asks c.in_ok-hear_all.ensures.told
