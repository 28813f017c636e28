use Rattle.wasm_read.proofs.Whole.{found, only}
use Rattle.wasm_read.proofs.laws.read_where_written.Goals as goal

pub returns-clause-found : goal.returns-clause-found
returns-clause-found c = λ m bytes e. found bytes m e

pub returns-clause-only : goal.returns-clause-only
returns-clause-only c = λ m bytes le h. only m bytes le h
