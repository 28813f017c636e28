use Rattle.wasm_emit.proofs.Compile.{emitted_keep}
use Rattle.wasm_emit.proofs.laws.emitted_modules_keep.Goals as goal

pub returns : goal.returns
returns c = emitted_keep
