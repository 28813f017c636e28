use Rattle.judging.specs.Views.{kind_reached, typed_in}
use Rattle.judging.proofs.Chains.{no_memory}
use Rattle.operator_rules.proofs.Comparisons.{raised, raised_is}
use Rattle.operator_rules.proofs.comparing.compared.Goals as goal

pub returns-in_err-left : goal.returns-in_err-left
returns-in_err-left c = λ s q. no_memory typed_in kind_reached _ s s c.args.checker.now c.args.checker.now c.from_residual.result c.from_residual.ensures

pub returns-in_err-right : goal.returns-in_err-right
returns-in_err-right c = λ s q. no_memory typed_in kind_reached _ s s c.args.checker.now c.args.checker.now c.from_residual-in_err-right.result c.from_residual-in_err-right.ensures

pub returns : goal.returns
returns c = λ s q.
    c.has_boolean.ensures s q (raised c.args.operator c.args.pair.kind c.args.pair.left c.args.pair.right)
    (raised_is c.args.operator c.args.pair.kind c.args.pair.left c.args.pair.right c.in_ok-left.left c.in_ok-right.right c.in_ok-left.ensures c.in_ok-right.ensures)
