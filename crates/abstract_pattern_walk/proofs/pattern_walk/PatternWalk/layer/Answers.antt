use Rattle.std.proofs.Common.{◌∙◌, ap}
use Rattle.typing_rules.specs.AbstractPatterns.{in_pattern}
use Rattle.typing_rules.proofs.PatternSpans as S
use Rattle.abstract_pattern_walk.proofs.PatternMaking.{layer_made, annotated_made, alternative_made, optional_made, variable_made, wildcard_made, constant_made}
use Rattle.abstract_pattern_walk.proofs.pattern_walk.PatternWalk.layer.Goals as goal

pub returns-in_ok-annotation-in-Annotated : goal.returns-in_ok-annotation-in-Annotated
returns-in_ok-annotation-in-Annotated g c = annotated_made c.args.q.now _ _ c.args.at _ _ _ _ c.finish.result c.in-Annotated.is c.in_ok-pattern-in-Annotated.ensures (rw c.get.ensures at c.in_ok-annotation-in-Annotated.ensures) c.finish.ensures

pub returns-in_ok-right-in-Alternative : goal.returns-in_ok-right-in-Alternative
returns-in_ok-right-in-Alternative g c = alternative_made c.args.q.now _ _ c.args.at _ _ _ _ c.finish-in-Alternative.result c.in-Alternative.is c.in_ok-left-in-Alternative.ensures c.in_ok-right-in-Alternative.ensures c.finish-in-Alternative.ensures

pub returns-in_ok-of-in-Optional : goal.returns-in_ok-of-in-Optional
returns-in_ok-of-in-Optional g c = optional_made c.args.q.now _ c.args.at _ _ c.finish-in-Optional.result c.in-Optional.is c.in_ok-of-in-Optional.ensures c.finish-in-Optional.ensures

pub returns-in_ok-name-in-Variable : goal.returns-in_ok-name-in-Variable
returns-in_ok-name-in-Variable g c = variable_made c.args.q.now _ _ c.args.at c.finish-in-Variable.result c.in-Variable.is (c.in_ok-name-in-Variable.ensures ∙ c.as_slice.ensures) c.finish-in-Variable.ensures

pub returns-in-Wildcard : goal.returns-in-Wildcard
returns-in-Wildcard g c = wildcard_made c.args.q.now c.args.at c.finish-in-Wildcard.result c.in-Wildcard.is c.finish-in-Wildcard.ensures

pub returns-in_ok-literal-in-Constant : goal.returns-in_ok-literal-in-Constant
returns-in_ok-literal-in-Constant g c = constant_made c.args.q.now _ _ _ c.args.at _ c.finish-in-Constant.result c.in-Constant.is c.in_ok-literal-in-Constant.ensures c.count_if.ensures.count c.finish-in-Constant.ensures

pub returns-in-Parenthesized : goal.returns-in-Parenthesized
returns-in-Parenthesized g c = layer_made c.args.q.now _ c.args.at c.parenthesized.result (ap in_pattern c.in-Parenthesized.is ∙ S.seen_Parenthesized _) (rw c.as_slice-in-Parenthesized.ensures at c.parenthesized.ensures)

pub returns-in-Object : goal.returns-in-Object
returns-in-Object g c = layer_made c.args.q.now _ c.args.at c.object.result (ap in_pattern c.in-Object.is ∙ S.seen_Object _ _) c.object.ensures

pub returns-in-Tagged : goal.returns-in-Tagged
returns-in-Tagged g c = layer_made c.args.q.now _ c.args.at c.tagged.result (ap in_pattern c.in-Tagged.is ∙ S.seen_Tagged _ _) c.tagged.ensures
