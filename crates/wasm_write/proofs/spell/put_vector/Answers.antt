use Rattle.wasm_write.proofs.Least.{then_appends}
use Rattle.wasm_write.proofs.spell.put_vector.Goals as goal

pub returns : goal.returns
returns g c = then_appends _ _ _ _ _ (rw c.len.ensures at c.in_ok-put_u32.ensures) c.in_ok-put_each.ensures
