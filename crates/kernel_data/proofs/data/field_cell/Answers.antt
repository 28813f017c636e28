use Rattle.std.proofs.Common.{ap}
use Rattle.mo_types.specs.declared.node.TypeId.{TypeId}
use Rattle.kernel_nodes.specs.Made.{cell_at}
use Rattle.kernel_nodes.proofs.Rolling.{if_same}
use Rattle.kernel_data.specs.Fields.{cell_number_of}
use Rattle.kernel_data.proofs.data.field_cell.Goals as goal

pub returns : goal.returns
returns c =
    if_same c.new_cell.result (cell_at c.in_ok-of_type.of_type c.args.value) (cell_at (cell_number_of c.args.types.now c.args.note.kind c.args.field.now) c.args.value) (ap (λ (u : TypeId). cell_at u c.args.value) c.in_ok-of_type.ensures) c.new_cell.ensures
