use Rattle.std.proofs.Common.{◌≡◌, ◌++◌, ◌∷◌, [], drop, reverse}
use Rattle.mo_types.specs.Graph.{head_at}
use Rattle.kept_forms.specs.Parts.{formed, waiting}
use Rattle.kept_parts.proofs.forming.form_parts.Given as goal

abbrev pub invariant-loop-part : goal.invariant-loop-part
invariant-loop-part l = l.found.items ++ formed (head_at l.types) (reverse l.waiting.items) (drop l.part-index l.parts) ≡ formed (head_at l.types) (waiting (l.fn.of_type ∷ [])) l.parts
