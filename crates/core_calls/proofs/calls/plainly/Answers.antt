use Rattle.std.proofs.Common.{length, map}
use Rattle.core_ir.specs.View.{goal as goal_of}
use Rattle.typed_tree.specs.View.{exps, expression}
use Rattle.elaboration.specs.Elaboration.{elaborate_operands}
use Rattle.core_calls.proofs.Operating.{plain_made}
use Rattle.core_calls.proofs.calls.plainly.Goals as goal

pub returns-clause-made : goal.returns-clause-made
returns-clause-made g c =
    plain_made (goal_of c.args.what) (elaborate_operands c.args.scope.now (length c.args.groups.now) (exps (map expression c.args.typed.now))) c.args.groups.now c.operands.new.groups c.in_ok-operands.operands.items c.in_ok-made.made
    c.in_ok-operands.ensures.made c.in_ok-made.ensures

pub returns-clause-scope : goal.returns-clause-scope
returns-clause-scope g c = c.in_ok-operands.ensures.scope
