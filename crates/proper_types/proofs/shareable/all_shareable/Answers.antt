use Rattle.std.proofs.lemmas.List.{take_more}
use Rattle.std.proofs.Common.{◌∙◌, [], ◌∷◌, ◌++◌, Ok, ap, sym, take}
use Rattle.definition_rules.proofs.Adding.{take_all}
use Rattle.abstract_types.specs.declared.types.TypeNode.{TypeNode}
use Rattle.type_scopes.specs.Scopes.{seen}
use Rattle.proper_types.proofs.Sending.{first_not_sent, first_sent, one_sent}
use Rattle.proper_types.proofs.Turns.{all_at, next_at, stops_at}
use Rattle.proper_types.proofs.shareable.all_shareable.Goals as goal

pub returns-in_err-needs_shareable : goal.returns-in_err-needs_shareable
returns-in_err-needs_shareable c =
    first_not_sent (seen c.args.scope.now) c.args.at c.args.promised.now c.args.parameters.now c.args.types.now c.needs_shareable.new.types c.needs_shareable.new.sharing c.needs_shareable.new.sharing c.in_err-needs_shareable.field-0.0
    c.from_residual.result c.from_residual.ensures c.in_err-needs_shareable.ensures

pub returns-in_err-needs_shareable-2 : goal.returns-in_err-needs_shareable-2
returns-in_err-needs_shareable-2 c =
    first_sent (seen c.args.scope.now) c.args.at c.args.promised.now c.args.parameters.now c.args.types.now c.needs_shareable.new.types c.needs_shareable-in-loop-parameter.new.types c.needs_shareable.new.sharing c.needs_shareable-in-loop-parameter.new.sharing
    c.from_residual-in_err-needs_shareable-2.result c.in_ok-needs_shareable.ensures
    (stops_at (one_sent (seen c.args.scope.now) c.args.at) c.needs_shareable.new.types c.loop-parameter.types c.needs_shareable-in-loop-parameter.new.types c.loop-parameter.sharing c.needs_shareable-in-loop-parameter.new.sharing c.args.parameters.now
    c.loop-parameter.parameter-index c.parameter-item.result c.in_err-needs_shareable-2.field-0.0 c.from_residual-in_err-needs_shareable-2.result c.from_residual-in_err-needs_shareable-2.ensures
    (take_more c.args.parameters.now c.loop-parameter.parameter-index c.parameter-item.result c.loop-parameter-test.true ∙ ap (λ (n : TypeNode). take c.loop-parameter.parameter-index c.args.parameters.now ++ n ∷ []) (sym c.parameter-item.is))
    c.loop-parameter.invariant c.in_err-needs_shareable-2.ensures)

pub loop-parameter-preserved : goal.loop-parameter-preserved
loop-parameter-preserved c =
    next_at (one_sent (seen c.args.scope.now) c.args.at) c.needs_shareable.new.types c.loop-parameter.types c.needs_shareable-in-loop-parameter.new.types c.loop-parameter.sharing c.needs_shareable-in-loop-parameter.new.sharing c.args.parameters.now
    c.loop-parameter.parameter-index c.parameter-item.result
    (take_more c.args.parameters.now c.loop-parameter.parameter-index c.parameter-item.result c.loop-parameter-test.true ∙ ap (λ (n : TypeNode). take c.loop-parameter.parameter-index c.args.parameters.now ++ n ∷ []) (sym c.parameter-item.is))
    c.loop-parameter.invariant c.in_ok-needs_shareable-2.ensures

pub returns : goal.returns
returns c =
    first_sent (seen c.args.scope.now) c.args.at c.args.promised.now c.args.parameters.now c.args.types.now c.needs_shareable.new.types c.loop-parameter.types c.needs_shareable.new.sharing c.loop-parameter.sharing (Ok tt) c.in_ok-needs_shareable.ensures
    (all_at (one_sent (seen c.args.scope.now) c.args.at) c.needs_shareable.new.types c.loop-parameter.types c.loop-parameter.sharing c.args.parameters.now c.loop-parameter.parameter-index
    (take_all c.args.parameters.now c.loop-parameter.parameter-index c.loop-parameter-test.false) c.loop-parameter.invariant)
