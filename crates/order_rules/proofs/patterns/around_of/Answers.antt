use Rattle.std.proofs.Common.{◌∙◌, sym}
use Rattle.typing_rules.specs.AsyncPlaces.{around_of}
use Rattle.abstract_types.proofs.PatternViews.{seen_Annotated, seen_Alternative, seen_Optional, seen_Tag, seen_Tagged, seen_Variable, seen_Wildcard, seen_Constant, seen_Tuple, seen_Object}
use Rattle.declared_types.proofs.Signed.{by_form}
use Rattle.order_rules.proofs.patterns.around_of.Goals as goal

pub returns-in-Variable : goal.returns-in-Variable
returns-in-Variable c = sym (by_form c.args.q.now around_of _ _ (sym c.get.ensures ∙ c.in-Variable.is) (seen_Variable _))

pub returns-in-Annotated : goal.returns-in-Annotated
returns-in-Annotated c = sym (by_form c.args.q.now around_of _ _ (sym c.get.ensures ∙ c.in-Annotated.is) (seen_Annotated _ _))

pub returns-in-Alternative : goal.returns-in-Alternative
returns-in-Alternative c = sym (by_form c.args.q.now around_of _ _ (sym c.get.ensures ∙ c.in-Alternative.is) (seen_Alternative _ _))

pub returns-in-Optional : goal.returns-in-Optional
returns-in-Optional c = sym (by_form c.args.q.now around_of _ _ (sym c.get.ensures ∙ c.in-Optional.is) (seen_Optional _))

pub returns-in-Tag : goal.returns-in-Tag
returns-in-Tag c = sym (by_form c.args.q.now around_of _ _ (sym c.get.ensures ∙ c.in-Tag.is) (seen_Tag _))

pub returns-in-Tagged : goal.returns-in-Tagged
returns-in-Tagged c = sym (by_form c.args.q.now around_of _ _ (sym c.get.ensures ∙ c.in-Tagged.is) (seen_Tagged _ _))

pub returns-in-Wildcard : goal.returns-in-Wildcard
returns-in-Wildcard c = sym (by_form c.args.q.now around_of _ _ (sym c.get.ensures ∙ c.in-Wildcard.is) seen_Wildcard)

pub returns-in-Constant : goal.returns-in-Constant
returns-in-Constant c = sym (by_form c.args.q.now around_of _ _ (sym c.get.ensures ∙ c.in-Constant.is) (seen_Constant _ _))

pub returns-in-Tuple : goal.returns-in-Tuple
returns-in-Tuple c = sym (by_form c.args.q.now around_of _ _ (sym c.get.ensures ∙ c.in-Tuple.is) (seen_Tuple _))

pub returns-in-Object : goal.returns-in-Object
returns-in-Object c = sym (by_form c.args.q.now around_of _ _ (sym c.get.ensures ∙ c.in-Object.is) (seen_Object _))
