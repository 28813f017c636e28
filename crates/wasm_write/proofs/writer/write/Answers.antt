use Rattle.wasm_tree.specs.Binary.{Written}
use Rattle.wasm_write.proofs.Least.{whole_least}
use Rattle.wasm_write.proofs.writer.write.Goals as goal

pub returns : goal.returns
returns c = whole_least (Written c.args.tree.now) _ _ c.new-out.ensures c.in_ok-put_module.ensures
