use Rattle.std.proofs.Common.{◌∙◌, List, ℕ, ◌++◌, ap}
use Rattle.value_scopes.specs.Values.{noted}
use Rattle.met_types.specs.States.{State}
use Rattle.desugaring.specs.Frames.{with_names}
use Rattle.kernel_scopes.specs.Bound.{parameters_of}
use Rattle.kernel_scopes.proofs.scopes.enter_parameters.Goals as goal

pub returns-clause-pushed : goal.returns-clause-pushed
returns-clause-pushed c = λ (s : State).
    c.in_ok-push_names.ensures
    ∙ ap (λ (l : List (List ℕ)). with_names l c.args.frames.now) (c.as_slice.ensures ∙ (c.in_ok-parameter_names.ensures (noted s.forms) ∙ ap (λ (l : List (List ℕ)). l ++ parameters_of s c.args.parameters.now) c.new-names.ensures))
