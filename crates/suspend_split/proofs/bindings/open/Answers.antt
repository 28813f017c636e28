use Rattle.suspend_split.proofs.OpenedNames.{opens_value, opens_functions}
use Rattle.suspend_split.proofs.bindings.open.Goals as goal

pub returns-in_ok-scope-in-Value : goal.returns-in_ok-scope-in-Value
returns-in_ok-scope-in-Value c =
    opens_value c.args.outermost.now c.args.sizes.now c.args.binding.now c.in-Value.value c.args.at _ c.in_ok-operand-in-Value.operand c.args.scopes.now c.add.new.self c.in-Value.is c.in_ok-operand-in-Value.ensures
    c.in_ok-scope-in-Value.ensures.added c.in_ok-scope-in-Value.ensures.number c.in_ok-free-in-Value.ensures c.requires

pub returns-in_ok-scope-in-Functions : goal.returns-in_ok-scope-in-Functions
returns-in_ok-scope-in-Functions c =
    opens_functions c.args.outermost.now c.args.sizes.now c.args.binding.now c.in-Functions.group c.args.at _ c.size_of_group-count.result c.args.scopes.now c.open_functions.new.scopes c.in-Functions.is c.size_of_group-count.ensures
    c.in_ok-scope-in-Functions.ensures c.in_ok-free-in-Functions.ensures
