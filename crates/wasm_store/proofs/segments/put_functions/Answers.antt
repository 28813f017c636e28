use Rattle.std.proofs.Common.{arith}
use Rattle.std.proofs.lemmas.Bool.Decides.{nat_tests}
use Rattle.wasm_store.proofs.Filling.{filled_none, filled_more, filled_all}
use Rattle.wasm_store.proofs.segments.put_functions.Goals as goal

pub loop-k-init : goal.loop-k-init
loop-k-init c = filled_none c.args.table.now c.args.functions.now c.args.place

pub loop-k-preserved : goal.loop-k-preserved
loop-k-preserved c = filled_more c.args.table.now c.loop-k.table c.args.functions.now c.args.place c.loop-k.k c.loop-k.invariant c.loop-k-test.true (grind (arith, nat_tests))

pub returns : goal.returns
returns c = filled_all c.args.table.now c.loop-k.table c.args.functions.now c.args.place c.loop-k.k c.loop-k.invariant c.loop-k-test.false (omega arith) (grind (arith, nat_tests))
