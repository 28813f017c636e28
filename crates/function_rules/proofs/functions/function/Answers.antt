use Rattle.std.proofs.Common.{List, subst}
use Rattle.type_terms.specs.declared.form.TermId.{TermId}
use Rattle.abstract_tree.specs.TreeView.{plain}
use Rattle.judging.specs.Views.{kind_reached, typed_in}
use Rattle.judging.proofs.Chains.{no_memory}
use Rattle.judging.proofs.TypedParts.{Comes}
use Rattle.function_rules.proofs.Found.{of_within}
use Rattle.function_rules.proofs.Ended.{fitting, function_unwanted, function_wanted}
use Rattle.function_rules.proofs.functions.function.Goals as goal

pub returns-in_err-parameters : goal.returns-in_err-parameters
returns-in_err-parameters g c = no_memory typed_in kind_reached _ c.args.scopes.now _ c.args.checker.now _ c.from_residual.result c.from_residual.ensures

pub fits-requires-clause-within : goal.fits-requires-clause-within
fits-requires-clause-within g c = of_within c.args.checker.now.types c.in_ok-parameters.field-0 c.in-Some.field-0-0 (c.in-Some.parameters, c.in-Some.of) c.in-Some.is c.requires.ready.sound.known.kept c.in_ok-parameters.ensures.of

pub returns-in-Some : goal.returns-in-Some
returns-in-Some g c =
    function_wanted c.args.layer.now.site c.args.signature.now (plain c.args.body.now) c.args.scopes.now c.fits.new.scopes c.args.checker.now c.fits.new.checker c.fits.result c.in_ok-parameters.field-0 c.in_ok-parameters.ensures.is c.in-Some.field-0-0 (c.in-Some.parameters, c.in-Some.of) c.in-Some.is
    (subst (λ (ids : List TermId). Comes (fitting c.args.layer.now.site c.args.signature.now (plain c.args.body.now) ids c.in-Some.of) c.args.scopes.now c.args.checker.now c.fits.new.scopes c.fits.new.checker c.fits.result)
    c.as_slice.ensures.value c.fits.ensures)

pub returns-in-None : goal.returns-in-None
returns-in-None g c =
    function_unwanted c.args.layer.now.site c.args.signature.now (plain c.args.body.now) c.args.scopes.now c.gives.new.scopes c.args.checker.now c.gives.new.checker c.gives.result c.in_ok-parameters.field-0 c.in_ok-parameters.ensures.is c.in-None.is c.gives.ensures
