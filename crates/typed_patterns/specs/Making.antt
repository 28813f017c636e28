-- Patterns with their types, as they are in a table.
use Rattle.std.specs.Prelude.{◌≡◌, List}
use Rattle.type_terms.specs.declared.form.Form.{Form}
use Rattle.typing_rules.specs.AbstractSyntax.{Pattern}
use Rattle.typing_rules.specs.AbstractSyntax as p
use Rattle.typing_rules.specs.TypedTrees.{Note}
use Rattle.abstract_types.specs.declared.patterns.Pattern as value
use Rattle.abstract_types.specs.declared.patterns.PatternForm as value_form
use Rattle.abstract_types.specs.PatternView.{pattern, pattern_form}
use Rattle.value_scopes.specs.declared.note.Note as value_note
use Rattle.value_scopes.specs.Values.{noted}

abbrev pub pattern_in : value.Pattern value_note.Note → List Form → Pattern Note
pattern_in made later = pattern (noted later) made

abbrev pub form_in : value_form.PatternForm value_note.Note → List Form → p.PatternForm Note
form_in made later = pattern_form (noted later) made

-- the pattern has this note and this form
abbrev pub IsMade : value_note.Note → (List Form → p.PatternForm Note) → value.Pattern value_note.Note → Type 0
IsMade n f made = (later : List Form) → pattern_in made later ≡ p.pattern (noted later n) (f later)
