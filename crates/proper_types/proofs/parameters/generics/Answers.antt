use Rattle.std.proofs.lemmas.List.{take_more}
use Rattle.std.proofs.Common.{◌∙◌, [], ◌∷◌, ◌++◌, Ok, ap, sym, take}
use Rattle.definition_rules.proofs.Adding.{take_all}
use Rattle.abstract_types.specs.declared.types.TypeParameter.{TypeParameter}
use Rattle.type_scopes.specs.Scopes.{seen}
use Rattle.proper_types.proofs.Readings.{all_generics, one_generic}
use Rattle.proper_types.proofs.Turns.{all_at, next_at, stops_at}
use Rattle.proper_types.proofs.parameters.generics.Goals as goal

pub returns-in_err-parameter_stands : goal.returns-in_err-parameter_stands
returns-in_err-parameter_stands c =
    all_generics (seen c.args.scope.now) c.args.parameters.now c.args.types.now c.parameter_stands.new.types c.parameter_stands.new.sharing c.from_residual.result
    (stops_at (one_generic (seen c.args.scope.now)) c.args.types.now c.loop-one.types c.parameter_stands.new.types c.loop-one.sharing c.parameter_stands.new.sharing c.args.parameters.now c.loop-one.one-index c.one-item.result
    c.in_err-parameter_stands.field-0.0 c.from_residual.result c.from_residual.ensures
    (take_more c.args.parameters.now c.loop-one.one-index c.one-item.result c.loop-one-test.true ∙ ap (λ (n : TypeParameter). take c.loop-one.one-index c.args.parameters.now ++ n ∷ []) (sym c.one-item.is))
    c.loop-one.invariant c.in_err-parameter_stands.ensures)

pub loop-one-preserved : goal.loop-one-preserved
loop-one-preserved c =
    next_at (one_generic (seen c.args.scope.now)) c.args.types.now c.loop-one.types c.parameter_stands.new.types c.loop-one.sharing c.parameter_stands.new.sharing c.args.parameters.now c.loop-one.one-index c.one-item.result
    (take_more c.args.parameters.now c.loop-one.one-index c.one-item.result c.loop-one-test.true ∙ ap (λ (n : TypeParameter). take c.loop-one.one-index c.args.parameters.now ++ n ∷ []) (sym c.one-item.is))
    c.loop-one.invariant c.in_ok-parameter_stands.ensures

pub returns : goal.returns
returns c =
    all_generics (seen c.args.scope.now) c.args.parameters.now c.args.types.now c.loop-one.types c.loop-one.sharing (Ok tt)
    (all_at (one_generic (seen c.args.scope.now)) c.args.types.now c.loop-one.types c.loop-one.sharing c.args.parameters.now c.loop-one.one-index (take_all c.args.parameters.now c.loop-one.one-index c.loop-one-test.false) c.loop-one.invariant)
