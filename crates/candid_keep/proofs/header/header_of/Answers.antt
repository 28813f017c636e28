use Rattle.candid_keep.proofs.Heads.{table_so}
use Rattle.candid_keep.proofs.header.header_of.Goals as goal

pub returns-clause-table : goal.returns-clause-table
returns-clause-table c = table_so c.args.types.now c.in_ok-shapes.shapes c.in_ok-shapes.ensures c.in_ok-table.table c.in_ok-table.ensures
