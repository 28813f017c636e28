use Rattle.wasm_store.proofs.Filling.{Filled}
use Rattle.wasm_store.proofs.segments.put_functions.Given as goal

abbrev pub invariant-loop-k : goal.invariant-loop-k
invariant-loop-k l = Filled l.fn.table l.table l.functions l.place l.k
