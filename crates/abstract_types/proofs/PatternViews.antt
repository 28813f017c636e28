-- How each form of pattern is seen.
use Rattle.std.proofs.Common.{◌≡◌, ℕ, Bool, List, [], ◌∷◌, ap, ◌∙◌, sym, map, refl}
use Rattle.mo_syntax.specs.declared.literal.Literal.{Literal}
use Rattle.abstract_types.specs.declared.names.PlacedName.{PlacedName}
use Rattle.abstract_types.specs.declared.types.TypeNode.{TypeNode}
use Rattle.abstract_types.specs.declared.patterns.Pattern.{Pattern, fold_out-Pattern}
use Rattle.abstract_types.specs.declared.patterns.PatternForm.{fold-roll-PatternForm}
use Rattle.abstract_types.specs.declared.patterns.PatternForm.TheVariants as e
use Rattle.abstract_types.specs.declared.patterns.PatternField.{PatternField, roll-PatternField, fold-roll-PatternField}
use Rattle.abstract_types.specs.declared.patterns.PatternForm.TheOpen as F
use Rattle.typing_rules.specs.AbstractSyntax as p
use Rattle.typing_rules.specs.Spans.{literal_of}
use Rattle.typing_rules.specs.AbstractPatterns.{patterns, pattern_fields}
use Rattle.abstract_types.specs.TypeView.{named, type_node}
use Rattle.abstract_types.specs.PatternView.{FieldView, listed, fields, pattern, pattern_form, pattern_field, plain, plain_form, plain_field, form_step, pattern_step, field_step}

pub listed_is : (qs : List (p.Pattern ℕ)) → listed qs ≡ patterns qs
listed_is [] = refl
listed_is (q ∷ qs) = ap (λ rest. p.Cons q rest) (listed_is qs)

pub fields_are : (fs : List (FieldView ℕ)) → fields fs ≡ pattern_fields fs
fields_are [] = refl
fields_are (f ∷ fs) = ap f (fields_are fs)

-- how notes are seen
abbrev same : ℕ → ℕ
same n = n

pub seen_Annotated : (q : Pattern ℕ) (a : TypeNode) → plain_form (e.Annotated q a) ≡ p.Annotated (plain q) (type_node a)
unfolding pattern pattern_form pattern_field
seen_Annotated q a = ap plain_form (sym (e.rolls-Annotated q a)) ∙ fold-roll-PatternForm ℕ (p.PatternForm ℕ) (p.Pattern ℕ) (FieldView ℕ) (form_step same) (pattern_step same) (field_step same) (F.Annotated q a)

pub seen_Alternative : (q : Pattern ℕ) (r : Pattern ℕ) → plain_form (e.Alternative q r) ≡ p.Alternative (plain q) (plain r)
unfolding pattern pattern_form pattern_field
seen_Alternative q r = ap plain_form (sym (e.rolls-Alternative q r)) ∙ fold-roll-PatternForm ℕ (p.PatternForm ℕ) (p.Pattern ℕ) (FieldView ℕ) (form_step same) (pattern_step same) (field_step same) (F.Alternative q r)

pub seen_Optional : (q : Pattern ℕ) → plain_form (e.Optional q) ≡ p.Optional (plain q)
unfolding pattern pattern_form pattern_field
seen_Optional q = ap plain_form (sym (e.rolls-Optional q)) ∙ fold-roll-PatternForm ℕ (p.PatternForm ℕ) (p.Pattern ℕ) (FieldView ℕ) (form_step same) (pattern_step same) (field_step same) (F.Optional q)

pub seen_Tag : (x : List ℕ) → plain_form (e.Tag x) ≡ p.Tag x
unfolding pattern pattern_form pattern_field
seen_Tag x = ap plain_form (sym (e.rolls-Tag x)) ∙ fold-roll-PatternForm ℕ (p.PatternForm ℕ) (p.Pattern ℕ) (FieldView ℕ) (form_step same) (pattern_step same) (field_step same) (F.Tag x)

pub seen_Tagged : (x : List ℕ) (q : Pattern ℕ) → plain_form (e.Tagged x q) ≡ p.Tagged x (plain q)
unfolding pattern pattern_form pattern_field
seen_Tagged x q = ap plain_form (sym (e.rolls-Tagged x q)) ∙ fold-roll-PatternForm ℕ (p.PatternForm ℕ) (p.Pattern ℕ) (FieldView ℕ) (form_step same) (pattern_step same) (field_step same) (F.Tagged x q)

pub seen_Variable : (x : List ℕ) → plain_form (e.Variable x) ≡ p.Variable x
unfolding pattern pattern_form pattern_field
seen_Variable x = ap plain_form (sym (e.rolls-Variable x)) ∙ fold-roll-PatternForm ℕ (p.PatternForm ℕ) (p.Pattern ℕ) (FieldView ℕ) (form_step same) (pattern_step same) (field_step same) (F.Variable x)

pub seen_Wildcard : plain_form (e.Wildcard) ≡ p.Wildcard
unfolding pattern pattern_form pattern_field
seen_Wildcard = ap plain_form (sym (e.rolls-Wildcard)) ∙ fold-roll-PatternForm ℕ (p.PatternForm ℕ) (p.Pattern ℕ) (FieldView ℕ) (form_step same) (pattern_step same) (field_step same) F.Wildcard

pub seen_Constant : (minus : Bool) (l : Literal) → plain_form (e.Constant minus l) ≡ p.Constant minus (literal_of l)
unfolding pattern pattern_form pattern_field
seen_Constant minus l = ap plain_form (sym (e.rolls-Constant minus l)) ∙ fold-roll-PatternForm ℕ (p.PatternForm ℕ) (p.Pattern ℕ) (FieldView ℕ) (form_step same) (pattern_step same) (field_step same) (F.Constant minus l)

pub seen_Tuple : (items : List (Pattern ℕ)) → plain_form (e.Tuple items) ≡ p.Tuple (patterns (map plain items))
unfolding pattern pattern_form pattern_field
seen_Tuple items = ap plain_form (sym (e.rolls-Tuple items)) ∙ fold-roll-PatternForm ℕ (p.PatternForm ℕ) (p.Pattern ℕ) (FieldView ℕ) (form_step same) (pattern_step same) (field_step same) (F.Tuple items) ∙ ap p.Tuple (listed_is (map plain items))

pub seen_Object : (xs : List (PatternField ℕ)) → plain_form (e.Object xs) ≡ p.Object (pattern_fields (map plain_field xs))
unfolding pattern pattern_form pattern_field
seen_Object xs = ap plain_form (sym (e.rolls-Object xs)) ∙ fold-roll-PatternForm ℕ (p.PatternForm ℕ) (p.Pattern ℕ) (FieldView ℕ) (form_step same) (pattern_step same) (field_step same) (F.Object xs) ∙ ap p.Object (fields_are (map plain_field xs))

pub seen_field : (x : PlacedName) (q : Pattern ℕ) → plain_field (roll-PatternField ℕ (record { name = x; pattern = q })) ≡ (λ rest. p.Field (named x) (plain q) rest)
unfolding pattern pattern_form pattern_field
seen_field x q = fold-roll-PatternField ℕ (p.PatternForm ℕ) (p.Pattern ℕ) (FieldView ℕ) (form_step same) (pattern_step same) (field_step same) (record { name = x; pattern = q })

pub pattern_is : (q : Pattern ℕ) → plain q ≡ p.pattern q.note (plain_form q.form)
unfolding pattern pattern_form pattern_field
pattern_is q = fold_out-Pattern ℕ (p.PatternForm ℕ) (p.Pattern ℕ) (FieldView ℕ) (form_step same) (pattern_step same) (field_step same) q
