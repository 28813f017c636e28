use Rattle.wasm_write.proofs.Least.{then_appends, second_has}
use Rattle.wasm_write.proofs.parts_spelled.ImportKindSpellItself.put.Goals as goal

pub put-requires : goal.put-requires
put-requires c = second_has _ _ (rw c.in-Table.is at c.requires)

pub put_limits-requires : goal.put_limits-requires
put_limits-requires c = second_has _ _ (rw c.in-Memory.is at c.requires)

pub put-requires-in-Global : goal.put-requires-in-Global
put-requires-in-Global c = second_has _ _ (rw c.in-Global.is at c.requires)

pub returns-in_ok-put-in-Table : goal.returns-in_ok-put-in-Table
returns-in_ok-put-in-Table c = rw c.in-Table.is (then_appends _ _ _ _ _ c.in_ok-put_exactly-in-Table.ensures c.in_ok-put-in-Table.ensures)

pub returns-in_ok-put_limits-in-Memory : goal.returns-in_ok-put_limits-in-Memory
returns-in_ok-put_limits-in-Memory c = rw c.in-Memory.is (then_appends _ _ _ _ _ c.in_ok-put_exactly-in-Memory.ensures c.in_ok-put_limits-in-Memory.ensures)

pub returns-in_ok-put-in-Global : goal.returns-in_ok-put-in-Global
returns-in_ok-put-in-Global c = rw c.in-Global.is (then_appends _ _ _ _ _ c.in_ok-put_exactly-in-Global.ensures c.in_ok-put-in-Global.ensures)
