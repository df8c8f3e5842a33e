-- The numbers of a sound board fit their types.
use Rattle.std.proofs.Common.{◌≡◌, ℕ, ◌*◌, ◌<◌, ◌≤◌, ◌^◌, List, length, arith}
use Rattle.std.proofs.Math.Nat.{mul-le-mul_right}
use Rattle.sy_onecopy.specs.declared.Buffer.{Buffer}
use Rattle.sy_onecopy.specs.declared.Entry.{Entry}
use Rattle.sy_onecopy.specs.State.{Board}
use Rattle.sy_onecopy.specs.Copies.{copies}
use Rattle.sy_onecopy.specs.Step.{begin_ask}
use Rattle.sy_sound.specs.Sound.{IsSound}
use Rattle.sy_sound.proofs.CountLemmas.{copies_few, nodes_few}
use Rattle.sy_sound.proofs.SoundLemmas.{begin_ask-sound}
use Rattle.sy_entries.specs.Sizes.{AreNumbered}
use Rattle.sy_board.specs.Sizes.{HasRoom}

pub numbered : (b : Board) → IsSound b → AreNumbered b.buffers
numbered b s = record { few = omega (arith, s.counts.buffers, s.counts.steps); small = s.small }

pub room : (b : Board) → IsSound b → HasRoom b
room b s = record {
  buffers = numbered b s;
  more_buffers = omega (arith, s.counts.buffers, s.counts.steps);
  queues = omega (arith, s.counts.queues, s.counts.steps);
  entries = omega (arith, s.counts.entries, s.counts.steps);
  nodes = omega (arith, nodes_few b s, s.counts.entries, s.counts.steps);
  places = omega (arith, s.counts.places);
}

pub begun_room : (b c : Board) (t : ℕ) → IsSound b → b.steps < 2 ^ 24 → c ≡ begin_ask b t → HasRoom c
begun_room b c t s lt e = rw e (room (begin_ask b t) (begin_ask-sound b t s lt))

product_fits : (m n k : ℕ) → k ≤ m * n → m ≤ 16777216 → n ≤ 16777216 → k < 2 ^ 64
product_fits m n k le a b =
    let p : m * n ≤ 16777216 * n = mul-le-mul_right n a in
    omega (arith, le, p, b)

-- the count of copies fits
pub copies_fit : (b : Board) (es : List Entry) (bs : List Buffer) → IsSound b → es ≡ b.entries → bs ≡ b.buffers → copies es bs < 2 ^ 64
copies_fit b es bs s ee eb =
    rw (ee, eb) (product_fits (length b.buffers) (length b.entries) (copies b.entries b.buffers) (copies_few b.entries b.buffers) (omega (arith, s.counts.buffers, s.counts.steps)) (omega (arith, s.counts.entries, s.counts.steps)))
