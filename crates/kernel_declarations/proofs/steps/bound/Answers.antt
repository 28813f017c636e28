use Rattle.std.proofs.Common.{◌∙◌, ap, sym}
use Rattle.mo_types.specs.declared.node.TypeId.{TypeId}
use Rattle.typed_tree.specs.declared.pattern.PatternForm.{PatternForm}
use Rattle.typed_tree.specs.declared.pattern.PatternForm.TheVariants as v
use Rattle.kernel_types.specs.Numbers.{number_of}
use Rattle.kernel_patterns.specs.Written.{on}
use Rattle.kernel_declarations.proofs.steps.bound.Goals as goal

pub returns : goal.returns
returns c =
    ap (λ (z : PatternForm). on c.in_ok-of_type.of_type z) c.in_ok-form.ensures
    ∙ (ap (λ (u : TypeId). on u v.Bind) c.in_ok-of_type.ensures ∙ ap (λ (z : PatternForm). on (number_of c.args.types.now c.args.kind) z) (sym v.rolls-Bind))
