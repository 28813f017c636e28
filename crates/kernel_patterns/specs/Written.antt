-- What patterns are written out to, with the types as they are in the table and in the graph.
use Rattle.std.specs.Prelude.{ℕ, List, cond, map}
use Rattle.mo_types.specs.declared.node.Node.{Node}
use Rattle.mo_types.specs.declared.node.TypeId.{TypeId}
use Rattle.mo_types.specs.Heads.{is_blob}
use Rattle.typed_tree.specs.declared.literal.Literal.{Literal}
use Rattle.typed_tree.specs.declared.literal.Literal.TheVariants as literal
use Rattle.typed_tree.specs.declared.pattern.TypedPattern.{TypedPattern, roll-TypedPattern}
use Rattle.typed_tree.specs.declared.pattern.PatternForm.{PatternForm}
use Rattle.typed_tree.specs.declared.pattern.PatternForm.TheVariants as form
use Rattle.typed_tree.specs.declared.pattern.PatternField.{PatternField, roll-PatternField}
use Rattle.typing_rules.specs.AbstractSyntax as p
use Rattle.typing_rules.specs.Terms.{Term, unit}
use Rattle.typing_rules.specs.TypedTrees as trees
use Rattle.type_terms.specs.declared.form.Form.{Form}
use Rattle.abstract_types.specs.declared.patterns.Pattern.{Pattern}
use Rattle.abstract_types.specs.declared.patterns.PatternField as judged
use Rattle.abstract_types.specs.PatternView as view
use Rattle.value_scopes.specs.declared.note.Note.{Note}
use Rattle.value_scopes.specs.Values.{noted}
use Rattle.met_types.specs.States.{State}
use Rattle.desugaring.specs.Patterns.{pattern, patterns}
use Rattle.kernel_types.specs.Numbers.{definitions, number}

-- patterns with their types, as they are in a table
abbrev pub pattern_in : Pattern Note → List Form → p.Pattern trees.Note
pattern_in q forms = view.pattern (noted forms) q

abbrev pub patterns_in : List (Pattern Note) → List Form → p.Patterns trees.Note
patterns_in qs forms = view.listed (map (λ q. pattern_in q forms) qs)

-- a text at a type of this head
abbrev pub text_value : List ℕ → Node Term → Literal
text_value x y = cond (is_blob y) (literal.Blob x) (literal.Text x)

-- the pattern of a form on a type
abbrev pub on : TypeId → PatternForm → TypedPattern
on u f = roll-TypedPattern (record { of_type = u; form = f })

-- `#a`
abbrev pub empty_tag : State → List ℕ → PatternForm
empty_tag s x = form.Tagged x (on (number s unit) (form.Constant literal.Unit))

abbrev pub pattern_of : State → Pattern Note → TypedPattern
pattern_of s q = pattern (definitions s) (number s) (pattern_in q s.forms)

abbrev pub patterns_of : State → List (Pattern Note) → List TypedPattern
patterns_of s qs = patterns (definitions s) (number s) (patterns_in qs s.forms)

-- `x = p`
abbrev pub field_of : State → judged.PatternField Note → PatternField
field_of s f = roll-PatternField (record { label = f.name.bytes; pattern = pattern_of s f.pattern })
