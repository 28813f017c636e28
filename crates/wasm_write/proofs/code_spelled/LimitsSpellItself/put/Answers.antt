use Rattle.wasm_write.proofs.Least.{then_appends}
use Rattle.wasm_write.proofs.code_spelled.LimitsSpellItself.put.Goals as goal

pub returns-in_ok-put_u32-in-None : goal.returns-in_ok-put_u32-in-None
returns-in_ok-put_u32-in-None c = rw c.in-None.is (then_appends _ _ _ _ _ c.in_ok-put_exactly-in-None.ensures c.in_ok-put_u32-in-None.ensures)

pub returns-in_ok-put_u32-in-Some-2 : goal.returns-in_ok-put_u32-in-Some-2
returns-in_ok-put_u32-in-Some-2 c = rw c.in-Some.is (then_appends _ _ _ _ _ c.in_ok-put_exactly-in-Some.ensures (then_appends _ _ _ _ _ c.in_ok-put_u32-in-Some.ensures c.in_ok-put_u32-in-Some-2.ensures))
