use Rattle.candid_write.proofs.Closing.{all_placed}
use Rattle.candid_write.proofs.Whole.{by_number}
use Rattle.candid_write.proofs.message.put_type_table.Goals as goal

pub returns-clause-header : goal.returns-clause-header
returns-clause-header c = by_number c.args.shapes c.in_ok-table.table c.args.arguments.now c.args.out.now c.put_header.new.out c.in_ok-table.ensures c.in_ok-put_header.ensures

pub put_header-requires-clause-complete : goal.put_header-requires-clause-complete
put_header-requires-clause-complete c = (all_placed c.in_ok-table.table c.args.shapes c.args.arguments.now c.in_ok-table.ensures).1

pub put_header-requires-clause-placed : goal.put_header-requires-clause-placed
put_header-requires-clause-placed c = (all_placed c.in_ok-table.table c.args.shapes c.args.arguments.now c.in_ok-table.ensures).0
