use Rattle.type_terms.specs.declared.form.TermId.{TermId}
use Rattle.typing_rules.specs.Terms.{Term}
use Rattle.object_parts.proofs.WrittenFields.{AreThere}
use Rattle.object_parts.proofs.fields.are_there.Given as goal

abbrev pub invariant-loop-field : goal.invariant-loop-field
invariant-loop-field l = (at : TermId → Term) → AreThere l.written at l.wanted l.field-index
