use Rattle.std.proofs.Common.{take}
use Rattle.mo_types.specs.Header.{IsEach, IsMethod}
use Rattle.mo_types.specs.Spelling.{shortest}
use Rattle.candid_write.specs.Appends.{Appends, IsRefIn}
use Rattle.candid_write.proofs.header.put_each_method.Given as goal

abbrev pub invariant-loop-method : goal.invariant-loop-method
invariant-loop-method l = Appends (IsEach (IsMethod shortest (IsRefIn l.table)) (take l.method-index l.methods)) l.initial.out l.out
