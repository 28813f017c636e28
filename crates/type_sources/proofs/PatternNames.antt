-- What is found in each kind of pattern.
use Rattle.std.proofs.Common.{◌≡◌, Bool, List, Option, Some, None, ap, ◌∙◌, sym, map, option_map}
use Rattle.mo_syntax.specs.declared.name.Name.{Name}
use Rattle.mo_syntax.specs.declared.types.TypeExpression.{TypeExpression}
use Rattle.mo_syntax.specs.declared.literal.Literal.{Literal}
use Rattle.mo_syntax.specs.declared.patterns.Pattern.{Pattern, fold-roll-Pattern}
use Rattle.mo_syntax.specs.declared.patterns.Pattern.TheVariants as e
use Rattle.mo_syntax.specs.declared.patterns.PatternField.{PatternField, roll-PatternField, fold-roll-PatternField}
use Rattle.mo_syntax.specs.declared.patterns.Pattern.TheOpen as F
use Rattle.mo_pattern_names.specs.PatternNames.{Binder, in_pattern, in_pattern_field, pattern_step, pattern_field_step}

pub found_Annotated : (x0 : Pattern) (x1 : TypeExpression) → in_pattern (e.Annotated x0 x1) ≡ pattern_step (F.Annotated (in_pattern x0) x1)
unfolding in_pattern in_pattern_field
found_Annotated x0 x1 = ap in_pattern (sym (e.rolls-Annotated x0 x1)) ∙ fold-roll-Pattern Binder Binder pattern_step pattern_field_step (F.Annotated x0 x1)

pub found_Alternative : (x0 : Pattern) (x1 : Pattern) → in_pattern (e.Alternative x0 x1) ≡ pattern_step (F.Alternative (in_pattern x0) (in_pattern x1))
unfolding in_pattern in_pattern_field
found_Alternative x0 x1 = ap in_pattern (sym (e.rolls-Alternative x0 x1)) ∙ fold-roll-Pattern Binder Binder pattern_step pattern_field_step (F.Alternative x0 x1)

pub found_Optional : (x0 : Pattern) → in_pattern (e.Optional x0) ≡ pattern_step (F.Optional (in_pattern x0))
unfolding in_pattern in_pattern_field
found_Optional x0 = ap in_pattern (sym (e.rolls-Optional x0)) ∙ fold-roll-Pattern Binder Binder pattern_step pattern_field_step (F.Optional x0)

pub found_Tagged : (x0 : Name) (x1 : Option Pattern) → in_pattern (e.Tagged x0 x1) ≡ pattern_step (F.Tagged x0 (option_map in_pattern x1))
unfolding in_pattern in_pattern_field
found_Tagged x0 None = ap in_pattern (sym (e.rolls-Tagged x0 None)) ∙ fold-roll-Pattern Binder Binder pattern_step pattern_field_step (F.Tagged x0 None)
found_Tagged x0 (Some x1) = ap in_pattern (sym (e.rolls-Tagged x0 (Some x1))) ∙ fold-roll-Pattern Binder Binder pattern_step pattern_field_step (F.Tagged x0 (Some x1))

pub found_Variable : (x0 : Name) → in_pattern (e.Variable x0) ≡ pattern_step (F.Variable x0)
unfolding in_pattern in_pattern_field
found_Variable x0 = ap in_pattern (sym (e.rolls-Variable x0)) ∙ fold-roll-Pattern Binder Binder pattern_step pattern_field_step (F.Variable x0)

pub found_Wildcard : in_pattern e.Wildcard ≡ pattern_step F.Wildcard
unfolding in_pattern in_pattern_field
found_Wildcard = ap in_pattern (sym (e.rolls-Wildcard)) ∙ fold-roll-Pattern Binder Binder pattern_step pattern_field_step F.Wildcard

pub found_Constant : (x0 : Bool) (x1 : Literal) → in_pattern (e.Constant x0 x1) ≡ pattern_step (F.Constant x0 x1)
unfolding in_pattern in_pattern_field
found_Constant x0 x1 = ap in_pattern (sym (e.rolls-Constant x0 x1)) ∙ fold-roll-Pattern Binder Binder pattern_step pattern_field_step (F.Constant x0 x1)

pub found_Parenthesized : (x0 : List Pattern) → in_pattern (e.Parenthesized x0) ≡ pattern_step (F.Parenthesized (map in_pattern x0))
unfolding in_pattern in_pattern_field
found_Parenthesized x0 = ap in_pattern (sym (e.rolls-Parenthesized x0)) ∙ fold-roll-Pattern Binder Binder pattern_step pattern_field_step (F.Parenthesized x0)

pub found_Object : (x0 : List PatternField) (x1 : Bool) → in_pattern (e.Object x0 x1) ≡ pattern_step (F.Object (map in_pattern_field x0) x1)
unfolding in_pattern in_pattern_field
found_Object x0 x1 = ap in_pattern (sym (e.rolls-Object x0 x1)) ∙ fold-roll-Pattern Binder Binder pattern_step pattern_field_step (F.Object x0 x1)

pub found_PatternField : (name : Name) (pattern : Option Pattern) → in_pattern_field (roll-PatternField (record { name = name; pattern = pattern })) ≡ pattern_field_step (record { name = name; pattern = (option_map in_pattern pattern) })
unfolding in_pattern in_pattern_field
found_PatternField name None = fold-roll-PatternField Binder Binder pattern_step pattern_field_step (record { name = name; pattern = None })
found_PatternField name (Some pattern) = fold-roll-PatternField Binder Binder pattern_step pattern_field_step (record { name = name; pattern = (Some pattern) })
