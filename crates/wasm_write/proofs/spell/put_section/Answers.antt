use Rattle.wasm_write.proofs.Least.{then_appends}
use Rattle.wasm_write.proofs.spell.put_section.Goals as goal

pub returns : goal.returns
returns c = then_appends _ _ _ _ _ c.in_ok-put_exactly.ensures c.in_ok-put_sized.ensures
