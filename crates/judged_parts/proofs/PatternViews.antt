-- How each form of pattern is seen, whatever its notes are.
use Rattle.std.proofs.Common.{◌≡◌, ℕ, Bool, List, ap, ◌∙◌, sym, map}
use Rattle.mo_syntax.specs.declared.literal.Literal.{Literal}
use Rattle.abstract_types.specs.declared.types.TypeNode.{TypeNode}
use Rattle.abstract_types.specs.declared.patterns.Pattern.{Pattern, fold_out-Pattern}
use Rattle.abstract_types.specs.declared.patterns.PatternForm.{PatternForm, fold-roll-PatternForm}
use Rattle.abstract_types.specs.declared.patterns.PatternForm.TheVariants as e
use Rattle.abstract_types.specs.declared.patterns.PatternField.{PatternField, fold_out-PatternField}
use Rattle.abstract_types.specs.declared.patterns.PatternForm.TheOpen as F
use Rattle.typing_rules.specs.AbstractSyntax as p
use Rattle.typing_rules.specs.Spans.{literal_of}
use Rattle.abstract_types.specs.TypeView.{named, type_node}
use Rattle.abstract_types.specs.PatternView.{FieldView, listed, fields, pattern, pattern_form, pattern_field, form_step, pattern_step, field_step}

module _ {N M : Type 0} (see : N → M) where
  pub pattern_is : (q : Pattern N) (f : PatternForm N) → q.form ≡ f → pattern see q ≡ p.pattern (see q.note) (pattern_form see f)
  unfolding pattern pattern_form pattern_field
  pattern_is q f h = fold_out-Pattern N (p.PatternForm M) (p.Pattern M) (FieldView M) (form_step see) (pattern_step see) (field_step see) q ∙ ap (λ (g : PatternForm N). p.pattern (see q.note) (pattern_form see g)) h

  pub field_is : (f : PatternField N) → pattern_field see f ≡ (λ rest. p.Field (named f.name) (pattern see f.pattern) rest)
  unfolding pattern pattern_form pattern_field
  field_is f = fold_out-PatternField N (p.PatternForm M) (p.Pattern M) (FieldView M) (form_step see) (pattern_step see) (field_step see) f

  pub seen_Annotated : (q : Pattern N) (a : TypeNode) → pattern_form see (e.Annotated q a) ≡ p.Annotated (pattern see q) (type_node a)
  unfolding pattern pattern_form pattern_field
  seen_Annotated q a = ap (pattern_form see) (sym (e.rolls-Annotated q a)) ∙ fold-roll-PatternForm N (p.PatternForm M) (p.Pattern M) (FieldView M) (form_step see) (pattern_step see) (field_step see) (F.Annotated q a)

  pub seen_Alternative : (q r : Pattern N) → pattern_form see (e.Alternative q r) ≡ p.Alternative (pattern see q) (pattern see r)
  unfolding pattern pattern_form pattern_field
  seen_Alternative q r = ap (pattern_form see) (sym (e.rolls-Alternative q r)) ∙ fold-roll-PatternForm N (p.PatternForm M) (p.Pattern M) (FieldView M) (form_step see) (pattern_step see) (field_step see) (F.Alternative q r)

  pub seen_Optional : (q : Pattern N) → pattern_form see (e.Optional q) ≡ p.Optional (pattern see q)
  unfolding pattern pattern_form pattern_field
  seen_Optional q = ap (pattern_form see) (sym (e.rolls-Optional q)) ∙ fold-roll-PatternForm N (p.PatternForm M) (p.Pattern M) (FieldView M) (form_step see) (pattern_step see) (field_step see) (F.Optional q)

  pub seen_Tag : (x : List ℕ) → pattern_form see (e.Tag x) ≡ p.Tag x
  unfolding pattern pattern_form pattern_field
  seen_Tag x = ap (pattern_form see) (sym (e.rolls-Tag x)) ∙ fold-roll-PatternForm N (p.PatternForm M) (p.Pattern M) (FieldView M) (form_step see) (pattern_step see) (field_step see) (F.Tag x)

  pub seen_Tagged : (x : List ℕ) (q : Pattern N) → pattern_form see (e.Tagged x q) ≡ p.Tagged x (pattern see q)
  unfolding pattern pattern_form pattern_field
  seen_Tagged x q = ap (pattern_form see) (sym (e.rolls-Tagged x q)) ∙ fold-roll-PatternForm N (p.PatternForm M) (p.Pattern M) (FieldView M) (form_step see) (pattern_step see) (field_step see) (F.Tagged x q)

  pub seen_Variable : (x : List ℕ) → pattern_form see (e.Variable x) ≡ p.Variable x
  unfolding pattern pattern_form pattern_field
  seen_Variable x = ap (pattern_form see) (sym (e.rolls-Variable x)) ∙ fold-roll-PatternForm N (p.PatternForm M) (p.Pattern M) (FieldView M) (form_step see) (pattern_step see) (field_step see) (F.Variable x)

  pub seen_Constant : (minus : Bool) (l : Literal) → pattern_form see (e.Constant minus l) ≡ p.Constant minus (literal_of l)
  unfolding pattern pattern_form pattern_field
  seen_Constant minus l = ap (pattern_form see) (sym (e.rolls-Constant minus l)) ∙ fold-roll-PatternForm N (p.PatternForm M) (p.Pattern M) (FieldView M) (form_step see) (pattern_step see) (field_step see) (F.Constant minus l)

  pub seen_Tuple : (items : List (Pattern N)) → pattern_form see (e.Tuple items) ≡ p.Tuple (listed (map (pattern see) items))
  unfolding pattern pattern_form pattern_field
  seen_Tuple items = ap (pattern_form see) (sym (e.rolls-Tuple items)) ∙ fold-roll-PatternForm N (p.PatternForm M) (p.Pattern M) (FieldView M) (form_step see) (pattern_step see) (field_step see) (F.Tuple items)

  pub seen_Object : (xs : List (PatternField N)) → pattern_form see (e.Object xs) ≡ p.Object (fields (map (pattern_field see) xs))
  unfolding pattern pattern_form pattern_field
  seen_Object xs = ap (pattern_form see) (sym (e.rolls-Object xs)) ∙ fold-roll-PatternForm N (p.PatternForm M) (p.Pattern M) (FieldView M) (form_step see) (pattern_step see) (field_step see) (F.Object xs)

  pub seen_Wildcard : pattern_form see e.Wildcard ≡ p.Wildcard
  unfolding pattern pattern_form pattern_field
  seen_Wildcard = ap (pattern_form see) (sym e.rolls-Wildcard) ∙ fold-roll-PatternForm N (p.PatternForm M) (p.Pattern M) (FieldView M) (form_step see) (pattern_step see) (field_step see) F.Wildcard
