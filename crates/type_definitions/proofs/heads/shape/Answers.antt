use Rattle.std.proofs.Common.{◌∙◌}
use Rattle.type_definitions.proofs.PutIn.{if_ok}
use Rattle.type_definitions.proofs.Shapes.{plain_made, shared_made, parameter_made, shared_within}
use Rattle.type_definitions.proofs.heads.shape.Goals as goal

pub results-requires-clause-within : goal.results-requires-clause-within
results-requires-clause-within c = shared_within c.args.terms.now c.args.id c.args.form.now c.in-Shared.sort c.in-Shared.parameters c.in-Shared.part c.requires.within c.requires.below c.in-Shared.is

pub returns-in_ok-results-in-Shared : goal.returns-in_ok-results-in-Shared
returns-in_ok-results-in-Shared c =
    shared_made c.args.definitions.now c.args.terms.now c.args.id c.args.form.now c.requires.within c.requires.there c.requires.below c.results.new.terms c.in-Shared.sort c.in-Shared.parameters c.in_ok-parameters-in-Shared.parameters
    c.in_ok-results-in-Shared.results c.in-Shared.part c.in-Shared.is (c.in_ok-parameters-in-Shared.ensures ∙ c.as_slice.ensures) c.in_ok-results-in-Shared.ensures

pub returns-in_ok-bound-in-Parameter : goal.returns-in_ok-bound-in-Parameter
returns-in_ok-bound-in-Parameter c =
    parameter_made c.args.definitions.now c.args.terms.now c.args.id c.args.form.now c.requires.within c.requires.there c.requires.below c.bound.new.terms c.in-Parameter.at c.in_ok-bound-in-Parameter.bound c.in-Parameter.is c.in_ok-bound-in-Parameter.ensures

pub returns-in_default : goal.returns-in_default
returns-in_default c = if_ok c.plain.result _ _ c.plain.ensures
    (λ n e. plain_made c.args.definitions.now c.args.terms.now c.args.id c.args.form.now c.requires.within c.requires.there c.requires.below n (λ s ps r. c.in_default.not-Shared s ps r) (λ k. c.in_default.not-Parameter k) e)
