use Rattle.candid_write.proofs.Whole.{first_is, whole_header}
use Rattle.candid_write.proofs.message.type_table.Goals as goal

pub put_type_table-requires : goal.put_type_table-requires
put_type_table-requires c = first_is c.args.types.now c.in_ok-shapes.shapes c.in_ok-shapes.ensures

pub returns : goal.returns
returns c = whole_header c.args.types.now c.in_ok-shapes.shapes c.args.ids.now c.in_ok-arguments.arguments.items c.as_slice.result.now _ c.put_type_table.new.out c.in_ok-shapes.ensures c.in_ok-arguments.ensures c.as_slice.ensures.value c.new-out.ensures c.in_ok-put_type_table.ensures.header
