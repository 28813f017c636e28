use Rattle.std.proofs.Common.{map, take}
use Rattle.mo_types.specs.Header.{IsEach, IsEntry}
use Rattle.mo_types.specs.Spelling.{shortest}
use Rattle.candid_types.specs.Shapes.{shape_at}
use Rattle.candid_write.specs.Appends.{Appends, IsRefIn}
use Rattle.candid_write.proofs.header.put_each_type.Given as goal

abbrev pub invariant-loop-number : goal.invariant-loop-number
invariant-loop-number l = Appends (IsEach (IsEntry shortest (IsRefIn l.table)) (map (shape_at l.table.shapes) (take l.number-index l.table.order.items))) l.initial.out l.out
