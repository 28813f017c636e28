use Rattle.wasm_emit.specs.Emit.{host_imports}
use Rattle.wasm_emit.proofs.interface.host_imports.Goals as goal

pub returns : goal.returns
unfolding host_imports
returns c = c.imports_of.ensures
