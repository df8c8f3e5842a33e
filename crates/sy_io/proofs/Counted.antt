-- Faults in memory are counted.
use Rattle.std.proofs.Common.{◌≡◌, ◌≤◌, Err, ap, arith}
use Rattle.sy_io.specs.Calls.{Calls, called, faulted}
use Rattle.sy_io.specs.Faults.{one_more, HasCause}

-- a call that fails and counts a fault
pub fault_counted : {T E : Type 0} (old begun new : Calls) (e : E) → begun ≡ called old → new ≡ faulted begun → begun.faults ≤ new.faults → HasCause {T = T} old.faults new.faults (Err e)
fault_counted old begun new e p q later =
    let unchanged : begun.faults ≡ old.faults = ap (λ (c : Calls). c.faults) p in
    let raised : new.faults ≡ one_more begun.faults = ap (λ (c : Calls). c.faults) q in
    record { later = omega arith; kept = tt; failed = omega arith }
