use Rattle.std.proofs.Common.{refl}
use Rattle.kernel_nodes.specs.Made.{cell_at}
use Rattle.kernel_data.specs.Fields.{cell_number_of, field_of}
use Rattle.kernel_data.proofs.Several.{field_false, field_true}
use Rattle.kernel_nodes.proofs.Rolling.{if_same}
use Rattle.kernel_data.proofs.data.field_value.Goals as goal

pub returns-then-field-clause-made : goal.returns-then-field-clause-made
returns-then-field-clause-made g c =
    if_same c.field_cell.result (cell_at (cell_number_of c.args.layer.now.types.now c.args.note.kind c.args.field.now) c.in_ok-part.part) (field_of c.args.layer.now.types.now c.args.frames.now c.args.note.kind c.args.field.now)
    (field_true c.args.layer.now.types.now c.args.frames.now c.args.note.kind c.args.field.now (cell_number_of c.args.layer.now.types.now c.args.note.kind c.args.field.now) c.in_ok-part.part c.if-field.true refl c.in_ok-part.ensures.made) c.field_cell.ensures

pub returns-else-field-clause-made : goal.returns-else-field-clause-made
returns-else-field-clause-made g c = field_false c.args.layer.now.types.now c.args.frames.now c.args.note.kind c.args.field.now c.in_ok-part.part c.if-field.false c.in_ok-part.ensures.made
