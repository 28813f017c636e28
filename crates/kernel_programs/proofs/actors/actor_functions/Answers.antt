use Rattle.std.proofs.Common.{◌∙◌, ap₂}
use Rattle.desugaring.specs.Programs.{system_of}
use Rattle.kernel_types.specs.Numbers.{definitions, number}
use Rattle.kernel_parts.specs.Views.{list_in}
use Rattle.kernel_programs.proofs.actors.actor_functions.Goals as goal

pub returns-clause-after : goal.returns-clause-after
returns-clause-after g c =
    c.in_ok-after_upgrade.ensures.made
    ∙ ap₂ (λ f x. system_of (definitions c.args.layer.now.types.now) (number c.args.layer.now.types.now) f x (list_in c.args.layer.now.types.now c.args.fields.now))
    (c.in_ok-before_upgrade.ensures.same ∙ c.in_ok-methods.ensures.same) c.as_slice-2.ensures
