use Rattle.kernel_types.specs.Numbers.{number_of}
use Rattle.kernel_data.specs.Fields.{cell_number_of}
use Rattle.kernel_data.proofs.Several.{number_found, own_found}
use Rattle.kernel_nodes.proofs.Rolling.{if_same}
use Rattle.kernel_data.proofs.data.cell_number.Goals as goal

pub returns-in-Some : goal.returns-in-Some
returns-in-Some c = number_found c.args.types.now c.args.note.kind c.args.field.now c.in_ok-found.found c.as_slice.result.now c.in-Some.of_type c.as_slice.ensures c.in_ok-found.ensures c.in-Some.is

pub returns-in-None : goal.returns-in-None
returns-in-None c =
    if_same c.number.result (number_of c.args.types.now c.args.field.now.value.note.kind) (cell_number_of c.args.types.now c.args.note.kind c.args.field.now)
    (own_found c.args.types.now c.args.note.kind c.args.field.now c.in_ok-found.found c.as_slice.result.now c.as_slice.ensures c.in_ok-found.ensures c.in-None.is) c.number.ensures
