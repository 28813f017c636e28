use Rattle.std.proofs.Common.{◌≡◌}
use Rattle.std.specs.Prelude.{reverse}
use Rattle.wasm_valid.specs.Verdict.{Verdict}
use Rattle.wasm_valid.specs.Operands.{Stack, pop_all}
use Rattle.wasm_valid.proofs.body.pop_params.Given as goal

abbrev pub invariant-loop-kind : goal.invariant-loop-kind
invariant-loop-kind l = (next : Stack → Verdict) → pop_all (reverse l.fn.params) l.fn.operands next ≡ pop_all (reverse l.kind-iterator.iter.rest.now) l.operands next
