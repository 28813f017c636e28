use Rattle.std.proofs.Common.{List, Ok, Err, subst}
use Rattle.type_terms.specs.declared.form.TermId.{TermId}
use Rattle.typing_rules.specs.AbstractSyntax as p
use Rattle.abstract_types.specs.PatternView.{plain_signature}
use Rattle.abstract_types.specs.TypeView.{named}
use Rattle.type_scopes.specs.Scopes.{seen}
use Rattle.proper_types.specs.Passing.{Judges, Passed}
use Rattle.proper_types.specs.Rules.{as_term, as_terms, done}
use Rattle.typed_patterns.proofs.Joining.{handed_on}
use Rattle.signatures.specs.Naming.{no_more, signature_of}
use Rattle.signatures.specs.Rules.{all_shareable}
use Rattle.signatures.proofs.Signed.{parameters_there, within_later, method_named, method_not_sent, method_parameters_not, method_result_not, method_there}
use Rattle.signatures.proofs.naming.method_signature.Goals as goal

pub returns-in_err-parameters : goal.returns-in_err-parameters
returns-in_err-parameters c context body =
    handed_on (signature_of (seen c.args.scope.now) (p.Method c.args.query context (named c.args.name.now) (plain_signature c.args.signature.now) body)) c.args.types.now c.parameter_types.new.types c.parameter_types.new.sharing c.args.names.now c.args.names.now no_more c.in_err-parameters.field-0.0 c.from_residual.result c.from_residual.ensures
    (method_there (seen c.args.scope.now) (named c.args.name.now) (plain_signature c.args.signature.now) c.args.query context body c.args.types.now c.parameter_types.new.types c.parameter_types.new.sharing c.args.names.now c.args.names.now no_more (Err c.in_err-parameters.field-0.0)
    (method_parameters_not (seen c.args.scope.now) (named c.args.name.now) (plain_signature c.args.signature.now) c.args.query c.args.types.now c.parameter_types.new.types c.parameter_types.new.sharing c.parameter_types.new.sharing c.args.names.now c.args.names.now as_terms no_more c.in_err-parameters.field-0.0 (parameters_there (seen c.args.scope.now) c.as_slice.result.now c.args.signature.now.parameters c.args.types.now c.parameter_types.new.types c.parameter_types.new.sharing (Err c.in_err-parameters.field-0.0) c.as_slice.ensures c.in_err-parameters.ensures.judged)))

pub returns-in_err-of : goal.returns-in_err-of
returns-in_err-of c context body =
    handed_on (signature_of (seen c.args.scope.now) (p.Method c.args.query context (named c.args.name.now) (plain_signature c.args.signature.now) body)) c.args.types.now c.async_result.new.types c.async_result.new.sharing c.args.names.now c.args.names.now no_more c.in_err-of.field-0.0 c.from_residual-in_err-of.result c.from_residual-in_err-of.ensures
    (method_there (seen c.args.scope.now) (named c.args.name.now) (plain_signature c.args.signature.now) c.args.query context body c.args.types.now c.async_result.new.types c.async_result.new.sharing c.args.names.now c.args.names.now no_more (Err c.in_err-of.field-0.0)
    (method_result_not (seen c.args.scope.now) (named c.args.name.now) (plain_signature c.args.signature.now) c.args.query c.args.types.now c.parameter_types.new.types c.parameter_types.new.sharing c.in_ok-parameters.parameters (parameters_there (seen c.args.scope.now) c.as_slice.result.now c.args.signature.now.parameters c.args.types.now c.parameter_types.new.types c.parameter_types.new.sharing (Ok c.in_ok-parameters.parameters) c.as_slice.ensures c.in_ok-parameters.ensures.judged) c.async_result.new.types c.async_result.new.sharing c.async_result.new.sharing c.args.names.now c.args.names.now as_term no_more c.in_err-of.field-0.0 c.in_err-of.ensures.judged))

pub returns-in_err-all_shareable : goal.returns-in_err-all_shareable
returns-in_err-all_shareable c context body =
    handed_on (signature_of (seen c.args.scope.now) (p.Method c.args.query context (named c.args.name.now) (plain_signature c.args.signature.now) body)) c.args.types.now c.async_result.new.types c.all_shareable.new.sharing c.args.names.now c.args.names.now no_more c.in_err-all_shareable.field-0.0 c.from_residual-in_err-all_shareable.result c.from_residual-in_err-all_shareable.ensures
    (method_there (seen c.args.scope.now) (named c.args.name.now) (plain_signature c.args.signature.now) c.args.query context body c.args.types.now c.async_result.new.types c.all_shareable.new.sharing c.args.names.now c.args.names.now no_more (Err c.in_err-all_shareable.field-0.0)
    (method_not_sent (seen c.args.scope.now) (named c.args.name.now) (plain_signature c.args.signature.now) c.args.query c.args.types.now c.parameter_types.new.types c.parameter_types.new.sharing c.in_ok-parameters.parameters (parameters_there (seen c.args.scope.now) c.as_slice.result.now c.args.signature.now.parameters c.args.types.now c.parameter_types.new.types c.parameter_types.new.sharing (Ok c.in_ok-parameters.parameters) c.as_slice.ensures c.in_ok-parameters.ensures.judged) c.async_result.new.types c.async_result.new.sharing c.in_ok-of.of c.in_ok-of.ensures.judged c.async_result.new.types c.all_shareable.new.sharing c.all_shareable.new.sharing c.args.names.now c.args.names.now done no_more c.in_err-all_shareable.field-0.0 (subst (λ (ids : List TermId). Judges (all_shareable c.args.name.now.at ids c.in_ok-of.of) c.async_result.new.types c.async_result.new.types c.all_shareable.new.sharing done (Err c.in_err-all_shareable.field-0.0)) c.as_slice-2.ensures c.in_err-all_shareable.ensures)))

pub bind_shared-requires-clause-parameters : goal.bind_shared-requires-clause-parameters
bind_shared-requires-clause-parameters c = within_later c.parameter_types.new.types c.async_result.new.types c.in_ok-parameters.parameters c.in_ok-parameters.ensures.judged.ready.kept c.in_ok-of.ensures.judged.goes c.in_ok-parameters.ensures.reached

pub returns : goal.returns
returns c context body =
    method_there (seen c.args.scope.now) (named c.args.name.now) (plain_signature c.args.signature.now) c.args.query context body c.args.types.now c.bind_shared.new.types c.all_shareable.new.sharing c.args.names.now c.bind_shared.new.names no_more c.bind_shared.result
    (method_named (seen c.args.scope.now) (named c.args.name.now) (plain_signature c.args.signature.now) c.args.query c.args.types.now c.parameter_types.new.types c.parameter_types.new.sharing c.in_ok-parameters.parameters (parameters_there (seen c.args.scope.now) c.as_slice.result.now c.args.signature.now.parameters c.args.types.now c.parameter_types.new.types c.parameter_types.new.sharing (Ok c.in_ok-parameters.parameters) c.as_slice.ensures c.in_ok-parameters.ensures.judged) c.async_result.new.types c.async_result.new.sharing c.in_ok-of.of c.in_ok-of.ensures.judged c.async_result.new.types c.bind_shared.new.types c.all_shareable.new.sharing c.all_shareable.new.sharing c.args.names.now c.bind_shared.new.names no_more c.bind_shared.result (subst (λ (ids : List TermId). Passed (all_shareable c.args.name.now.at ids c.in_ok-of.of c.async_result.new.types.listed) c.async_result.new.types c.async_result.new.types c.all_shareable.new.sharing (done tt)) c.as_slice-2.ensures c.in_ok-all_shareable.ensures) c.bind_shared.ensures)
