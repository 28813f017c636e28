use Rattle.wasm_write.proofs.Least.{then_appends}
use Rattle.wasm_write.proofs.code_spelled.FunctionTypeSpellItself.put.Goals as goal

pub returns : goal.returns
returns c = then_appends _ _ _ _ _ c.in_ok-put_exactly.ensures (then_appends _ _ _ _ _ c.in_ok-put_vector.ensures c.in_ok-put_vector-2.ensures)
