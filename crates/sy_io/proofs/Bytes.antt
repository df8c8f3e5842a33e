-- What is consumed and appended piece by piece.
use Rattle.std.proofs.Common.{◌≡◌, ℕ, ◌+◌, ◌<◌, ◌-◌, ◌≤◌, List, [], ◌++◌, Option, length, take, drop, refl, sym, ap, ◌∙◌, arith, append_assoc, Result, Ok, Err, OnErr, length-append, length-drop, min}
use Rattle.std.specs.Io.KnownBytes.{Appends, Consumes, Keeps}
use Rattle.std.proofs.KnownBytes.{Appends-kept}
use Rattle.std.proofs.lemmas.List.{nil_from_length, take_at, drop-drop, take-append-drop, length-take-le}
use Rattle.std.proofs.Math.Seq.{take-length}
use Rattle.sy_io.specs.Known.{AppendsFront}

-- how far the reading of a whole source has come
pub record HasRead (old new : Option (List ℕ)) (before now : ℕ) (all : List ℕ) (limit : ℕ) : Type 0 where
  pub consumed : Consumes old new all
  pub kept : now ≡ before
  pub within : length all ≤ limit

-- how far the writing of all bytes has come
pub record HasSent (old new : Option (List ℕ)) (before now : ℕ) (bytes rest : List ℕ) : Type 0 where
  pub sent : List ℕ
  pub joined : sent ++ rest ≡ bytes
  pub appended : Appends old new sent
  pub kept : now ≡ before

-- what a read copied to the front of a buffer is the front of what was left
pub given_front : (items copied into : List ℕ) (at n : ℕ) → at ≤ length items → copied ≡ take n (take (length items - at) (drop at items)) → n ≤ length items - at
    → drop at items ≡ take n (copied ++ drop n into) ++ drop (at + n) items
given_front items copied into at n h e fits =
    let shown : length items - at ≡ length (drop at items) = sym (length-drop at items) in
    let whole : take (length items - at) (drop at items) ≡ drop at items = ap (λ k. take k (drop at items)) shown ∙ take-length (drop at items) in
    let front : copied ≡ take n (drop at items) = e ∙ ap (take n) whole in
    let long : length copied ≡ n = ap length front ∙ length-take-le n (drop at items) (omega arith) in
    rw (take_at copied (drop n into) n long, front, ← drop-drop n at items, take-append-drop n (drop at items))

-- a read that gives as much as it can gives nothing only at the end
pub none_at_end : (items copied into : List ℕ) (at piece n : ℕ) → 0 < piece → n ≡ min (min piece (length into)) (length items - at) → length copied ≡ n
    → n ≡ 0 → 0 < length (copied ++ drop n into) → drop (at + n) items ≡ []
none_at_end items copied into at piece n some e c none room =
    nil_from_length (drop (at + n) items) (omega (arith, length-drop (at + n) items, length-drop n into, length-append copied (drop n into)))

-- a write that failed while bytes were left
pub front_sent : {old mid : Option (List ℕ)} (new : Option (List ℕ)) {before now : ℕ} {bytes rest : List ℕ} → HasSent old mid before now bytes rest → Keeps mid new → 0 < length rest → AppendsFront old new bytes
front_sent {old} {mid} new {before} {now} {bytes} {rest} h unchanged some = (
  length h.sent,
  omega (arith, ap length h.joined, length-append h.sent rest),
  rw (← h.joined, take_at h.sent rest (length h.sent) refl) (Appends-kept old mid new h.sent h.appended unchanged),
)

-- one write more
pub sent_more : (sent rest bytes : List ℕ) (n : ℕ) → sent ++ rest ≡ bytes → (sent ++ take n rest) ++ take (length rest - n) (drop n rest) ≡ bytes
sent_more sent rest bytes n e =
    let whole : take (length rest - n) (drop n rest) ≡ drop n rest = ap (λ k. take k (drop n rest)) (sym (length-drop n rest)) ∙ take-length (drop n rest) in
    rw (whole, append_assoc, take-append-drop n rest) e

-- what holds at an error whatever it is
pub on_err : {T E P : Type 0} (r : Result T E) → P → OnErr r P
on_err (Ok x) p = tt
on_err (Err e) p = p
