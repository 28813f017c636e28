use Rattle.wasm_write.proofs.Least.{then_appends}
use Rattle.wasm_write.proofs.parts_spelled.GlobalSpellItself.put.Goals as goal

pub returns : goal.returns
returns c = then_appends _ _ _ _ _ c.in_ok-put.ensures c.in_ok-put_expression.ensures
