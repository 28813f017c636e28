use Rattle.std.proofs.Common.{sym, ap, ◌∙◌}
use Rattle.mo_types.specs.declared.node.Node.{Node}
use Rattle.mo_types.specs.declared.node.TypeId.{TypeId}
use Rattle.kept_forms.specs.Parts.{is_unit}
use Rattle.kept_parts.proofs.FormSteps.{unit_so}
use Rattle.kept_parts.proofs.waiting.is_unit.Goals as goal

pub returns-in-Tuple : goal.returns-in-Tuple
returns-in-Tuple c = c.is_empty.ensures ∙ unit_so c.in-Tuple.parts ∙ ap (λ (n : Node TypeId). is_unit n) (sym c.in-Tuple.is)
