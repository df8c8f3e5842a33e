use Rattle.sy_num.proofs.Theorems.{bits_and, bits_or, bits_xor, bits_not}
use Rattle.sy_num.proofs.laws.bits_are_taken_singly.Goals as goal

pub returns-clause-and : goal.returns-clause-and
returns-clause-and c = bits_and

pub returns-clause-or : goal.returns-clause-or
returns-clause-or c = bits_or

pub returns-clause-xor : goal.returns-clause-xor
returns-clause-xor c = bits_xor

pub returns-clause-not : goal.returns-clause-not
returns-clause-not c = bits_not
