use Rattle.wasm_valid.proofs.Causes.{only_memory}
use Rattle.wasm_valid.proofs.validation.validate.Goals as goal

pub returns-in-Err-clause-only : goal.returns-in-Err-clause-only
returns-in-Err-clause-only c = only_memory c.args.tree c.in-Err.fault c.in-Err.ensures
