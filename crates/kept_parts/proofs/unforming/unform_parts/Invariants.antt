use Rattle.std.proofs.Common.{◌≡◌, ◌∷◌, [], drop}
use Rattle.mo_types.specs.Graph.{head_at}
use Rattle.kept_forms.specs.Parts.{unformed, waiting, Next}
use Rattle.kept_parts.specs.Steps.{rest_of}
use Rattle.kept_parts.proofs.unforming.unform_parts.Given as goal

abbrev pub invariant-loop-part : goal.invariant-loop-part
invariant-loop-part l = rest_of (head_at l.types) l.state (drop l.part-index l.parts) ≡ unformed (head_at l.types) Next (waiting (l.fn.of_type ∷ [])) l.parts
