use Rattle.std.proofs.lemmas.Result.{on_ok_weaker}
use Rattle.std.proofs.Common.{arith}
use Rattle.wasm_write.proofs.Least.{u32_appends}
use Rattle.wasm_write.proofs.spell.put_u32.Goals as goal

pub returns : goal.returns
returns c = on_ok_weaker c.leb_write.result (u32_appends _ _ _ (omega arith)) c.leb_write.ensures.ok
