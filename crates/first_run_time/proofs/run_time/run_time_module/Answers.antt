use Rattle.first_run_time.proofs.Begun.{module_is, module_spelled}
use Rattle.first_run_time.proofs.run_time.run_time_module.Goals as goal

pub returns-clause-is : goal.returns-clause-is
returns-clause-is c = module_is c.in_ok-low.low c.in_ok-low.ensures.is c.to_wasm.result c.to_wasm.ensures

pub returns-clause-spelled : goal.returns-clause-spelled
returns-clause-spelled c = module_spelled c.in_ok-low.low c.in_ok-low.ensures.is c.to_wasm.result c.to_wasm.ensures
