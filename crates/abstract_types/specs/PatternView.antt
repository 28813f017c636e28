-- The abstract syntax of patterns that values of this crate stand for, where this is how notes are seen.
use Rattle.std.specs.Prelude.{ℕ, List, [], ◌∷◌, map}
use Rattle.abstract_types.specs.declared.patterns.Pattern as value
use Rattle.abstract_types.specs.declared.patterns.Pattern.{fold-Pattern}
use Rattle.abstract_types.specs.declared.patterns.PatternForm.{PatternForm, fold-PatternForm}
use Rattle.abstract_types.specs.declared.patterns.PatternField.{PatternField, fold-PatternField}
use Rattle.abstract_types.specs.declared.patterns.Signature as value_signature
use Rattle.abstract_types.specs.declared.patterns.PatternForm.TheOpen as Q
use Rattle.typing_rules.specs.AbstractSyntax.{Pattern, PatternFields, Signature}
use Rattle.typing_rules.specs.AbstractSyntax as p
use Rattle.typing_rules.specs.Spans.{literal_of}
use Rattle.abstract_types.specs.TypeView.{named, type_node, annotation, parameter}

-- a field before others
abbrev pub FieldView : Type 0 → Type 0
FieldView M = PatternFields M → PatternFields M

abbrev pub listed : {M : Type 0} → List (Pattern M) → p.Patterns M
listed [] = p.Nil
listed (q ∷ rest) = p.Cons q (listed rest)

abbrev pub fields : {M : Type 0} → List (FieldView M) → PatternFields M
fields [] = p.NoFields
fields (f ∷ rest) = f (fields rest)

module _ {N M : Type 0} (see : N → M) where
  abbrev pub form_step : Q.PatternForm-F N (p.PatternForm M) (Pattern M) (FieldView M) → p.PatternForm M
  form_step (Q.Annotated q a) = p.Annotated q (type_node a)
  form_step (Q.Alternative q r) = p.Alternative q r
  form_step (Q.Optional q) = p.Optional q
  form_step (Q.Tag x) = p.Tag x
  form_step (Q.Tagged x q) = p.Tagged x q
  form_step (Q.Variable x) = p.Variable x
  form_step Q.Wildcard = p.Wildcard
  form_step (Q.Constant minus l) = p.Constant minus (literal_of l)
  form_step (Q.Tuple items) = p.Tuple (listed items)
  form_step (Q.Object xs) = p.Object (fields xs)

  abbrev pub pattern_step : Q.Pattern-F N (p.PatternForm M) (Pattern M) (FieldView M) → Pattern M
  pattern_step x = p.pattern (see x.note) x.form

  abbrev pub field_step : Q.PatternField-F N (p.PatternForm M) (Pattern M) (FieldView M) → FieldView M
  field_step x rest = p.Field (named x.name) x.pattern rest

  unfoldable pub pattern : value.Pattern N → Pattern M
  pattern = fold-Pattern N (p.PatternForm M) (Pattern M) (FieldView M) form_step pattern_step field_step

  unfoldable pub pattern_form : PatternForm N → p.PatternForm M
  pattern_form = fold-PatternForm N (p.PatternForm M) (Pattern M) (FieldView M) form_step pattern_step field_step

  unfoldable pub pattern_field : PatternField N → FieldView M
  pattern_field = fold-PatternField N (p.PatternForm M) (Pattern M) (FieldView M) form_step pattern_step field_step

  abbrev pub signature : value_signature.Signature N → Signature M
  signature g = record { generics = map parameter g.generics; parameters = listed (map pattern g.parameters); result = annotation g.result }

-- what is judged: the note is the number of the first token
abbrev pub plain : value.Pattern ℕ → Pattern ℕ
plain = pattern (λ n. n)

abbrev pub plain_form : PatternForm ℕ → p.PatternForm ℕ
plain_form = pattern_form (λ n. n)

abbrev pub plain_field : PatternField ℕ → FieldView ℕ
plain_field = pattern_field (λ n. n)

abbrev pub plain_signature : value_signature.Signature ℕ → Signature ℕ
plain_signature = signature (λ n. n)
