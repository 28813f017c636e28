use Rattle.std.proofs.Common.{◌∙◌, sym}
use Rattle.typed_patterns.proofs.Views.{seen_Annotated, seen_Alternative, seen_Optional, seen_Tag, seen_Tagged, seen_Variable, seen_Wildcard, seen_Constant, seen_Tuple, seen_Object}
use Rattle.annotated_names.proofs.Annotated.{variable_is}
use Rattle.annotated_names.proofs.walk.is_variable.Goals as goal

pub returns-in-Variable : goal.returns-in-Variable
returns-in-Variable c = variable_is c.args.pattern.now _ _ (sym c.get.ensures ∙ c.in-Variable.is) (seen_Variable (λ n. n) c.in-Variable.field-0)

pub returns-in-Annotated : goal.returns-in-Annotated
returns-in-Annotated c = variable_is c.args.pattern.now _ _ (sym c.get.ensures ∙ c.in-Annotated.is) (seen_Annotated (λ n. n) c.in-Annotated.field-0 c.in-Annotated.field-1)

pub returns-in-Alternative : goal.returns-in-Alternative
returns-in-Alternative c = variable_is c.args.pattern.now _ _ (sym c.get.ensures ∙ c.in-Alternative.is) (seen_Alternative (λ n. n) c.in-Alternative.field-0 c.in-Alternative.field-1)

pub returns-in-Optional : goal.returns-in-Optional
returns-in-Optional c = variable_is c.args.pattern.now _ _ (sym c.get.ensures ∙ c.in-Optional.is) (seen_Optional (λ n. n) c.in-Optional.field-0)

pub returns-in-Tag : goal.returns-in-Tag
returns-in-Tag c = variable_is c.args.pattern.now _ _ (sym c.get.ensures ∙ c.in-Tag.is) (seen_Tag (λ n. n) c.in-Tag.field-0)

pub returns-in-Tagged : goal.returns-in-Tagged
returns-in-Tagged c = variable_is c.args.pattern.now _ _ (sym c.get.ensures ∙ c.in-Tagged.is) (seen_Tagged (λ n. n) c.in-Tagged.field-0 c.in-Tagged.field-1)

pub returns-in-Wildcard : goal.returns-in-Wildcard
returns-in-Wildcard c = variable_is c.args.pattern.now _ _ (sym c.get.ensures ∙ c.in-Wildcard.is) (seen_Wildcard (λ n. n))

pub returns-in-Constant : goal.returns-in-Constant
returns-in-Constant c = variable_is c.args.pattern.now _ _ (sym c.get.ensures ∙ c.in-Constant.is) (seen_Constant (λ n. n) c.in-Constant.field-0 c.in-Constant.field-1)

pub returns-in-Tuple : goal.returns-in-Tuple
returns-in-Tuple c = variable_is c.args.pattern.now _ _ (sym c.get.ensures ∙ c.in-Tuple.is) (seen_Tuple (λ n. n) c.in-Tuple.field-0)

pub returns-in-Object : goal.returns-in-Object
returns-in-Object c = variable_is c.args.pattern.now _ _ (sym c.get.ensures ∙ c.in-Object.is) (seen_Object (λ n. n) c.in-Object.field-0)
