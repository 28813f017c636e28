use Rattle.wasm_read.proofs.Whole.{answer_found, answer_only}
use Rattle.wasm_read.proofs.reading.read.Goals as goal

pub returns-clause-found : goal.returns-clause-found
returns-clause-found c = answer_found c.args.bytes.now c.read_exactly.result c.read_exactly.ensures

pub returns-clause-only : goal.returns-clause-only
returns-clause-only c = answer_only c.args.bytes.now c.read_exactly.result c.read_exactly.ensures
