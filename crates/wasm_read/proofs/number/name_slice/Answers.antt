use Rattle.wasm_read.proofs.Names.{name_ok, name_err}
use Rattle.wasm_read.proofs.number.name_slice.Goals as goal

pub returns-in-Ok : goal.returns-in-Ok
returns-in-Ok c = name_ok c.args.bytes.now c.in_ok-slice.slice.now c.in_ok-slice.rest.now c.in_ok-slice.ensures c.in-Ok.ensures.cases.1

pub returns-in-Err : goal.returns-in-Err
returns-in-Err c = name_err c.args.bytes.now c.in_ok-slice.slice.now c.in_ok-slice.rest.now c.in_ok-slice.ensures c.in-Err.ensures.cases.0
