use Rattle.std.proofs.Common.{take}
use Rattle.mo_types.specs.Header.{IsEach}
use Rattle.candid_write.specs.Appends.{Appends, IsRefIn}
use Rattle.candid_write.proofs.header.put_each_ref.Given as goal

abbrev pub invariant-loop-number : goal.invariant-loop-number
invariant-loop-number l = Appends (IsEach (IsRefIn l.table) (take l.number-index l.numbers)) l.initial.out l.out
