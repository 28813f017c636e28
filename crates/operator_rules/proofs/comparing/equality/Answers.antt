use Rattle.abstract_tree.specs.TreeView.{plain}
use Rattle.judging.proofs.Steps.{ready_on}
use Rattle.operator_rules.proofs.Comparisons.{is_comparable, none_equal, not_comparable}
use Rattle.operator_rules.proofs.comparing.equality.Goals as goal

pub returns-in_err-pair : goal.returns-in_err-pair
returns-in_err-pair g c = none_equal c.args.layer.now.site c.args.operator (plain c.args.a.now) (plain c.args.b.now) c.args.scopes.now c.operands.new.scopes c.args.checker.now c.operands.new.checker c.in_err-pair.field-0.0 c.from_residual.result c.from_residual.ensures c.in_err-pair.ensures.answer

pub needs_comparable-requires-clause-kind : goal.needs_comparable-requires-clause-kind
needs_comparable-requires-clause-kind g c = c.in_ok-pair.ensures.answer.outcome.holds

pub returns-in_err-needs_comparable : goal.returns-in_err-needs_comparable
returns-in_err-needs_comparable g c =
    not_comparable c.args.layer.now.site c.args.operator (plain c.args.a.now) (plain c.args.b.now) c.args.scopes.now c.operands.new.scopes c.args.checker.now c.operands.new.checker c.in_ok-pair.pair c.in_ok-pair.ensures.answer c.needs_comparable.new.checker c.in_err-needs_comparable.field-0.0 c.from_residual-in_err-needs_comparable.result
    c.from_residual-in_err-needs_comparable.ensures (c.in_err-needs_comparable.ensures c.operands.new.scopes c.in_ok-pair.ensures.ready.sound)

pub compared-requires : goal.compared-requires
compared-requires g c =
    let h = c.in_ok-needs_comparable.ensures c.operands.new.scopes c.in_ok-pair.ensures.ready.sound in
    let r = ready_on c.operands.new.checker c.needs_comparable.new.checker c.operands.new.scopes c.operands.new.scopes c.args.layer.now.site c.in_ok-pair.ensures.ready h.outcome.sound h.outcome.goes in
    r.wanting

pub returns : goal.returns
returns g c =
    let h = c.in_ok-needs_comparable.ensures c.operands.new.scopes c.in_ok-pair.ensures.ready.sound in
    is_comparable c.args.layer.now.site c.args.operator (plain c.args.a.now) (plain c.args.b.now) c.args.scopes.now c.operands.new.scopes c.args.checker.now c.operands.new.checker c.in_ok-pair.pair c.in_ok-pair.ensures.answer c.needs_comparable.new.checker c.compared.new.checker c.compared.result h
    (c.compared.ensures c.operands.new.scopes h.outcome.sound)
