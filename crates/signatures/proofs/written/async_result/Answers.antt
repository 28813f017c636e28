use Rattle.std.proofs.Common.{ap}
use Rattle.abstract_types.specs.TypeView.{annotation, type_node}
use Rattle.type_scopes.specs.Scopes.{seen}
use Rattle.signatures.proofs.Annotations.{future_read, no_future, no_result}
use Rattle.signatures.proofs.written.async_result.Goals as goal

pub returns-in-Some-awaited-clause-judged : goal.returns-in-Some-awaited-clause-judged
returns-in-Some-awaited-clause-judged c = future_read (seen c.args.scope.now) c.args.at (annotation c.args.of.now) (type_node c.in-Some.written) (type_node c.in-Some-awaited.promised.now) c.args.types.now c.reads.new.types c.reads.new.sharing c.reads.result
    (ap annotation c.in-Some.is) c.in-Some-awaited.ensures c.reads.ensures.judged

pub returns-in-None-awaited-clause-judged : goal.returns-in-None-awaited-clause-judged
returns-in-None-awaited-clause-judged c = no_future (seen c.args.scope.now) c.args.at (annotation c.args.of.now) (type_node c.in-Some.written) c.args.types.now (ap annotation c.in-Some.is) c.in-None-awaited.ensures

pub returns-in-None-clause-judged : goal.returns-in-None-clause-judged
returns-in-None-clause-judged c = no_result (seen c.args.scope.now) c.args.at (annotation c.args.of.now) c.args.types.now (ap annotation c.in-None.is)
