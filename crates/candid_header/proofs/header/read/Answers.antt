use Rattle.std.proofs.Common.{arith}
use Rattle.candid_header.proofs.Entries.{few_entries}
use Rattle.candid_header.proofs.header.read.Goals as goal

pub overflow_cast-len : goal.overflow_cast-len
overflow_cast-len c =
    let few = few_entries c.in_ok-rest.rest.now (c.in_ok-table.table, c.in_ok-table.rest.now) c.in_ok-table.ensures in
    omega (arith, few, c.len.ensures)
