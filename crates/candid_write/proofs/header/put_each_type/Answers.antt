use Rattle.std.proofs.Common.{subst, get_or, arith}
use Rattle.mo_types.specs.Spelling.{shortest}
use Rattle.mo_types.specs.Header.{IsEntry}
use Rattle.candid_types.specs.Shapes.{shape_at}
use Rattle.candid_write.specs.Appends.{Appends, IsRefIn}
use Rattle.candid_write.proofs.Adds.{mapped_more}
use Rattle.candid_write.proofs.header.put_each_type.Goals as goal

pub loop-number-preserved : goal.loop-number-preserved
loop-number-preserved c = mapped_more (shape_at c.args.table.now.shapes) (λ w b. IsEntry shortest (IsRefIn c.args.table.now) w b) c.args.table.now.order.items c.loop-number.number-index 0 c.args.out.now c.loop-number.out c.put_type.new.out (omega arith) c.loop-number.invariant
    (subst (λ l. Appends (λ b. IsEntry shortest (IsRefIn c.args.table.now) (shape_at c.args.table.now.shapes (get_or l c.loop-number.number-index 0)) b) c.loop-number.out c.put_type.new.out) c.deref-number-items.ensures.value c.in_ok-put_type.ensures)
