use Rattle.std.proofs.lemmas.Result.{on_ok_weaker}
use Rattle.wasm_write.proofs.Least.{name_has, name_appends}
use Rattle.wasm_write.proofs.parts_spelled.put_name.Goals as goal

pub put_bytes-requires : goal.put_bytes-requires
put_bytes-requires c = name_has _ c.requires

pub returns : goal.returns
returns c = on_ok_weaker c.put_bytes.result (name_appends _ _ _ c.requires) c.put_bytes.ensures
