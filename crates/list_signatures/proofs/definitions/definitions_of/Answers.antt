use Rattle.std.proofs.Common.{◌∙◌, Err, Ok, ap, refl}
use Rattle.definition_rules.proofs.Adding.{take_all}
use Rattle.type_scopes.specs.Scopes.{seen}
use Rattle.proper_types.proofs.Turns.{all_at, next_at, no_turn, stops_at}
use Rattle.typed_patterns.proofs.Several.{item_more}
use Rattle.list_signatures.proofs.Defined.{all_defined, one, one_there}
use Rattle.list_signatures.proofs.definitions.definitions_of.Goals as goal

pub loop-one-init : goal.loop-one-init
loop-one-init c = record { scope = refl; judged = no_turn (one (seen c.args.scope.now)) c.args.types.now c.args.sharing.now c.requires }

pub loop-one-preserved : goal.loop-one-preserved
loop-one-preserved c = record {
  scope = c.in_ok-definition.ensures.scope ∙ c.loop-one.invariant.scope;
  judged = next_at (one (seen c.args.scope.now)) c.args.types.now c.loop-one.types c.definition.new.types c.loop-one.sharing c.definition.new.sharing c.args.list.now c.loop-one.one-index c.one-item.result
      (item_more c.args.list.now c.loop-one.one-index c.one-item.result c.loop-one-test.true c.one-item.is) c.loop-one.invariant.judged
      (one_there (seen c.args.scope.now) (seen c.loop-one.scope) c.one-item.result c.get.result.now c.loop-one.types c.definition.new.types c.definition.new.sharing (Ok tt) (ap seen c.loop-one.invariant.scope) c.get.ensures c.in_ok-definition.ensures.judged);
}

pub returns-in_err-definition-clause-judged : goal.returns-in_err-definition-clause-judged
returns-in_err-definition-clause-judged c =
    all_defined (seen c.args.scope.now) c.args.list.now c.args.types.now c.definition.new.types c.definition.new.sharing c.from_residual.result
    (stops_at (one (seen c.args.scope.now)) c.args.types.now c.loop-one.types c.definition.new.types c.loop-one.sharing c.definition.new.sharing c.args.list.now c.loop-one.one-index c.one-item.result c.in_err-definition.field-0.0 c.from_residual.result c.from_residual.ensures
    (item_more c.args.list.now c.loop-one.one-index c.one-item.result c.loop-one-test.true c.one-item.is) c.loop-one.invariant.judged
    (one_there (seen c.args.scope.now) (seen c.loop-one.scope) c.one-item.result c.get.result.now c.loop-one.types c.definition.new.types c.definition.new.sharing (Err c.in_err-definition.field-0.0) (ap seen c.loop-one.invariant.scope) c.get.ensures c.in_err-definition.ensures.judged))

pub returns-clause-judged : goal.returns-clause-judged
returns-clause-judged c =
    all_defined (seen c.args.scope.now) c.args.list.now c.args.types.now c.loop-one.types c.loop-one.sharing (Ok tt)
    (all_at (one (seen c.args.scope.now)) c.args.types.now c.loop-one.types c.loop-one.sharing c.args.list.now c.loop-one.one-index (take_all c.args.list.now c.loop-one.one-index c.loop-one-test.false) c.loop-one.invariant.judged)

pub returns-clause-scope : goal.returns-clause-scope
returns-clause-scope c = c.loop-one.invariant.scope
