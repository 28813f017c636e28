use Rattle.signatures.specs.Naming.{no_more}
use Rattle.signatures.proofs.Steps.{shared_first}
use Rattle.signatures.proofs.binding.bind_shared.Goals as goal

pub returns : goal.returns
returns c =
    shared_first c.args.name.now c.args.query c.args.parameters c.args.of c.new-nothing.result c.method_sort.result c.new-nothing.ensures c.method_sort.ensures c.in_ok-kind.kind c.args.types.now c.shared.new.types c.in_ok-kind.ensures c.bind.new.types c.args.sharing.now c.args.names.now c.bind.new.names no_more c.bind.result c.bind.ensures
