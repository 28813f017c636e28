use Rattle.std.proofs.Common.{◌≡◌, None}
use Rattle.wasm_tree.specs.Load.{blank}
use Rattle.wasm_store.proofs.store.put_blanks.Given as goal

abbrev pub invariant-loop : goal.invariant-loop
invariant-loop l = l.table ≡ blank l.counter None
