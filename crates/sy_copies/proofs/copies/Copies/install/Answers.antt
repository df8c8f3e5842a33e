use Rattle.std.proofs.Common.{◌≡◌, ◌<◌, ℕ, List, Option, Some, length, set, IsTrue, sym, ◌∙◌, subst, arith}
use Rattle.std.proofs.lemmas.Result.{on_ok_weaker}
use Rattle.sy_copies.specs.declared.buffer.Buffer.{Buffer}
use Rattle.sy_copies.specs.Current.{len_at, has_room, buffer_at, room_of, Sound, Agree}
use Rattle.sy_copies.specs.Calls.{Installs}
use Rattle.sy_copies.proofs.CallLemmas.{with_length, installs, kept_set, read_there}
use Rattle.sy_copies.proofs.AgreementLemmas.{agree_installs, either_way, ok_unless}
use Rattle.sy_copies.proofs.copies.Copies.install.Goals as goal

pub index_mut-requires : goal.index_mut-requires
index_mut-requires c =
    let there = with_length c.args.self.now c.args.buffer (length c.args.values) c.requires in
    let within : c.args.buffer < length c.self.inside.buffers.items = subst (λ (l : List (Option Buffer)). c.args.buffer < length l) (sym c.self.view_is) there.1 in
    omega arith

pub invariant_of-self : goal.invariant_of-self
invariant_of-self c =
    let old : List (Option Buffer) = c.self.inside.buffers.items in
    let k : ℕ = c.args.buffer in
    let was : Option Buffer = c.index_mut.result.now in
    let is : Option Buffer = c.install_in.new.entry in
    let sized : len_at old k ≡ Some (length c.args.values) = subst (λ (l : List (Option Buffer)). len_at l k ≡ Some (length c.args.values)) (sym c.self.view_is) c.requires in
    either_way c.install_in.result c.install_in.ensures.ok c.install_in.ensures.err
    (λ e. (installs old c.args.place k c.args.values was is sized c.index_mut.ensures.value e c.self.invariant).1)
    (λ e. subst Sound (sym (kept_set old k was is c.index_mut.ensures.value e)) c.self.invariant)

pub returns-clause-installed : goal.returns-clause-installed
returns-clause-installed c =
    let old : List (Option Buffer) = c.self.inside.buffers.items in
    let k : ℕ = c.args.buffer in
    let was : Option Buffer = c.index_mut.result.now in
    let is : Option Buffer = c.install_in.new.entry in
    let sized : len_at old k ≡ Some (length c.args.values) = subst (λ (l : List (Option Buffer)). len_at l k ≡ Some (length c.args.values)) (sym c.self.view_is) c.requires in
    on_ok_weaker c.install_in.result
    (λ e. subst (λ (l : List (Option Buffer)). Installs l (set old k is) c.args.place k c.args.values) c.self.view_is (installs old c.args.place k c.args.values was is sized c.index_mut.ensures.value e c.self.invariant).0)
    c.install_in.ensures.ok

pub returns-clause-room : goal.returns-clause-room
unfolding has_room
returns-clause-room c = λ room.
    let old : List (Option Buffer) = c.self.inside.buffers.items in
    let k : ℕ = c.args.buffer in
    let there = with_length c.args.self.now k (length c.args.values) c.requires in
    let within : k < length old = subst (λ (l : List (Option Buffer)). k < length l) (sym c.self.view_is) there.1 in
    let was : c.index_mut.result.now ≡ buffer_at old k = read_there old k c.index_mut.result.now within c.index_mut.ensures.value in
    let taken : IsTrue (room_of (buffer_at old k) c.args.place) = subst (λ (l : List (Option Buffer)). IsTrue (room_of (buffer_at l k) c.args.place)) (sym c.self.view_is) room in
    ok_unless c.install_in.result c.install_in.ensures.room (subst (λ (o : Option Buffer). IsTrue (room_of o c.args.place)) (sym was) taken)

pub returns-clause-agree : goal.returns-clause-agree
returns-clause-agree c = λ agree same.
    let old : List (Option Buffer) = c.self.inside.buffers.items in
    let k : ℕ = c.args.buffer in
    let was : Option Buffer = c.index_mut.result.now in
    let is : Option Buffer = c.install_in.new.entry in
    let sized : len_at old k ≡ Some (length c.args.values) = subst (λ (l : List (Option Buffer)). len_at l k ≡ Some (length c.args.values)) (sym c.self.view_is) c.requires in
    let G : Type 0 = Agree (set old k is) in
    either_way c.install_in.result {G = G} c.install_in.ensures.ok c.install_in.ensures.err
    (λ e. agree_installs c.args.self.now (set old k is) c.args.place k c.args.values
    (subst (λ (l : List (Option Buffer)). Installs l (set old k is) c.args.place k c.args.values) c.self.view_is (installs old c.args.place k c.args.values was is sized c.index_mut.ensures.value e c.self.invariant).0) agree same)
    (λ e. subst Agree (sym (kept_set old k was is c.index_mut.ensures.value e ∙ c.self.view_is)) agree)
