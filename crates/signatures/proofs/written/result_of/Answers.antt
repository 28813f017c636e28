use Rattle.std.proofs.Common.{ap}
use Rattle.abstract_types.specs.TypeView.{annotation, type_node}
use Rattle.type_scopes.specs.Scopes.{seen}
use Rattle.signatures.proofs.Annotations.{no_result_read, result_read}
use Rattle.signatures.proofs.written.result_of.Goals as goal

pub returns-in-Some-clause-judged : goal.returns-in-Some-clause-judged
returns-in-Some-clause-judged c =
    result_read (seen c.args.scope.now) (annotation c.args.of.now) (type_node c.in-Some.written) c.args.types.now c.reads.new.types c.reads.new.sharing c.reads.result (ap annotation c.in-Some.is) c.reads.ensures.judged

pub returns-in_ok-unit-in-None-clause-judged : goal.returns-in_ok-unit-in-None-clause-judged
returns-in_ok-unit-in-None-clause-judged c =
    no_result_read (seen c.args.scope.now) (annotation c.args.of.now) c.args.types.now c.unit.new.types c.args.sharing.now c.in_ok-unit-in-None.field-0 (ap annotation c.in-None.is) c.requires c.in_ok-unit-in-None.ensures
