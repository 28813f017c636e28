use Rattle.abstract_tree.specs.TreeView.{plain}
use Rattle.judging.specs.Views.{kind_reached, typed_in}
use Rattle.judging.proofs.Chains.{no_memory}
use Rattle.judging.proofs.Steps.{ready_on, sound_on}
use Rattle.function_rules.proofs.Ended.{unit_first}
use Rattle.function_rules.proofs.functions.gives.Goals as goal

pub function_on-requires-clause-ready : goal.function_on-requires-clause-ready
function_on-requires-clause-ready g c =
    ready_on c.args.checker.now (record c.args.checker.now { types = c.unit.new.types }) c.args.scopes.now c.args.scopes.now c.args.layer.now.site c.requires.ready
    (sound_on c.args.checker.now c.args.scopes.now c.unit.new.types c.requires.ready.sound c.in_ok-unit.ensures.same.kept c.in_ok-unit.ensures.same.goes) c.in_ok-unit.ensures.same.goes

pub returns-in_err-unit : goal.returns-in_err-unit
returns-in_err-unit g c = no_memory typed_in kind_reached _ c.args.scopes.now _ c.args.checker.now _ c.from_residual.result c.from_residual.ensures

pub returns : goal.returns
returns g c =
    unit_first c.args.layer.now.site c.args.signature.now (plain c.args.body.now) c.args.scopes.now c.function_on.new.scopes c.args.checker.now c.function_on.new.checker c.unit.new.types c.in_ok-unit.unit c.function_on.result c.in_ok-unit.ensures c.function_on.ensures
