use Rattle.std.proofs.Common.{take}
use Rattle.mo_types.specs.Header.{IsEach, IsField}
use Rattle.mo_types.specs.Spelling.{shortest}
use Rattle.candid_write.specs.Appends.{Appends, IsRefIn}
use Rattle.candid_write.proofs.header.put_each_field.Given as goal

abbrev pub invariant-loop-field : goal.invariant-loop-field
invariant-loop-field l = Appends (IsEach (IsField shortest (IsRefIn l.table)) (take l.field-index l.fields)) l.initial.out l.out
