use Rattle.wasm_valid.proofs.SameKinds.{lengths_differ}
use Rattle.wasm_valid.proofs.host.same_kinds.Goals as goal

pub returns-then-kinds-others : goal.returns-then-kinds-others
returns-then-kinds-others c = lengths_differ c.args.kinds.now c.args.others.now c.if-kinds-others.true
