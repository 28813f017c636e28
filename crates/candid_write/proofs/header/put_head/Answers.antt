use Rattle.candid_write.proofs.Closing.{fields_placed, tags_placed, methods_placed, parameters_placed, results_placed}
use Rattle.candid_write.proofs.header.put_head.Goals as goal

pub put_fields-requires-clause-placed : goal.put_fields-requires-clause-placed
put_fields-requires-clause-placed c = fields_placed c.args.table.now c.args.head.now c.requires.closed c.in-Record.fields c.as_slice.result.now c.in-Record.is c.as_slice.ensures

pub put_fields-requires-in-Variant-clause-placed : goal.put_fields-requires-in-Variant-clause-placed
put_fields-requires-in-Variant-clause-placed c = tags_placed c.args.table.now c.args.head.now c.requires.closed c.in-Variant.tags c.as_slice-in-Variant.result.now c.in-Variant.is c.as_slice-in-Variant.ensures

pub put_function-requires-clause-parameters : goal.put_function-requires-clause-parameters
put_function-requires-clause-parameters c = parameters_placed c.args.table.now c.args.head.now c.requires.closed c.in-Func.parameters c.in-Func.results c.in-Func.annotations c.as_slice-in-Func.result.now c.in-Func.is c.as_slice-in-Func.ensures

pub put_function-requires-clause-results : goal.put_function-requires-clause-results
put_function-requires-clause-results c = results_placed c.args.table.now c.args.head.now c.requires.closed c.in-Func.parameters c.in-Func.results c.in-Func.annotations c.as_slice-in-Func-2.result.now c.in-Func.is c.as_slice-in-Func-2.ensures

pub put_methods-requires-clause-placed : goal.put_methods-requires-clause-placed
put_methods-requires-clause-placed c = methods_placed c.args.table.now c.args.head.now c.requires.closed c.in-Service.methods c.as_slice-in-Service.result.now c.in-Service.is c.as_slice-in-Service.ensures
