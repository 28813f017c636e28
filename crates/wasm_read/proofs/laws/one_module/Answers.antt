use Rattle.wasm_read.proofs.Whole.{one_module}
use Rattle.wasm_read.proofs.laws.one_module.Goals as goal

pub returns : goal.returns
returns c = one_module
