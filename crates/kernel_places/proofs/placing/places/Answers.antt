use Rattle.std.proofs.Common.{ap, map, ◌∙◌, sym}
use Rattle.judged_parts.specs.Parts.{See}
use Rattle.kernel_places.specs.Reaching.{function_place}
use Rattle.kernel_places.specs.Similar.{declared_list}
use Rattle.kernel_places.proofs.Copied.{same_ok}
use Rattle.kernel_places.proofs.Placed.{all_alike}
use Rattle.kernel_places.proofs.placing.places.Goals as goal

pub returns : goal.returns
returns c = λ (see : See).
    same_ok c.places_of_steps.result _ _ c.places_of_steps.ensures
    (sym (ap (λ z. map (function_place z) z) c.as_slice.ensures ∙ all_alike c.in_ok-steps.steps (declared_list see c.args.declarations.now) (c.in_ok-steps.ensures see)))
