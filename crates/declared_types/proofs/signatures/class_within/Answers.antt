use Rattle.typing_rules.specs.DeclaredTypes.{class_type}
use Rattle.type_scopes.specs.Scopes.{seen}
use Rattle.abstract_types.specs.TypeView.{named}
use Rattle.declared_types.proofs.Signed.{signed, still_within}
use Rattle.declared_types.proofs.signatures.class_within.Goals as goal

pub function-requires-clause-parameters : goal.function-requires-clause-parameters
function-requires-clause-parameters c = still_within c.args.types.now c.parameter_terms.new.types c.class_type.new.types _ _ c.in_ok-parameters.parameters c.in_ok-of.of c.in_ok-parameters.ensures c.in_ok-of.ensures

pub returns-in-Ok : goal.returns-in-Ok
returns-in-Ok c = signed (seen c.args.scope.now) c.args.signature.now c.as_slice.result.now c.as_slice.ensures c.args.types.now c.parameter_terms.new.types c.class_type.new.types c.function.new.types
    (class_type (seen c.args.scope.now) (named c.args.name.now)) c.in_ok-parameters.parameters c.in_ok-of.of c.in-Ok.id c.in_ok-parameters.ensures c.in_ok-of.ensures c.in-Ok.ensures
