use Rattle.wasm_write.proofs.Least.{then_appends}
use Rattle.wasm_write.proofs.code_spelled.GlobalTypeSpellItself.put.Goals as goal

pub returns : goal.returns
returns c = then_appends _ _ _ _ _ c.in_ok-put.ensures (rw c.code_of.ensures at c.in_ok-put_exactly.ensures)
