use Rattle.std.proofs.Common.{◌∙◌}
use Rattle.type_definitions.proofs.Unfolded.{use_is}
use Rattle.type_definitions.proofs.unfolding.use_in.Goals as goal

pub returns-in_ok-copy_parts-in-Use : goal.returns-in_ok-copy_parts-in-Use
returns-in_ok-copy_parts-in-Use c =
    use_is c.args.terms.now c.args.id c.form.result.now c.in-Use.at c.in-Use.arguments c.in_ok-copy_parts-in-Use.field-0 c.form.ensures.there c.in-Use.is
    (c.in_ok-copy_parts-in-Use.ensures ∙ c.as_slice.ensures) c.form.ensures.below c.requires
