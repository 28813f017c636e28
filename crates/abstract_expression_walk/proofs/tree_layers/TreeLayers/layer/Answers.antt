use Rattle.std.proofs.Common.{◌∙◌, ap}
use Rattle.typing_rules.specs.AbstractExpressions.{in_expression}
use Rattle.typing_rules.proofs.ExpressionSpans as S
use Rattle.abstract_expression_walk.proofs.LayerMaking.{layer_made}
use Rattle.abstract_expression_walk.proofs.tree_layers.TreeLayers.layer.Goals as goal

pub returns-in-Assign : goal.returns-in-Assign
returns-in-Assign g c = layer_made c.args.a.now _ c.args.at c.two.result (ap in_expression c.in-Assign.is ∙ S.seen_Assign _ _ _) c.two.ensures

pub returns-in-Annotated : goal.returns-in-Annotated
returns-in-Annotated g c = layer_made c.args.a.now _ c.args.at c.annotated.result (ap in_expression c.in-Annotated.is ∙ S.seen_Annotated _ _) c.annotated.ensures

pub returns-in-Binary : goal.returns-in-Binary
returns-in-Binary g c = layer_made c.args.a.now _ c.args.at c.two-in-Binary.result (ap in_expression c.in-Binary.is ∙ S.seen_Binary _ _ _) c.two-in-Binary.ensures

pub returns-in-If : goal.returns-in-If
returns-in-If g c = layer_made c.args.a.now _ c.args.at c.conditional.result (ap in_expression c.in-If.is ∙ S.seen_If _ _ _) c.conditional.ensures

pub returns-in-Switch : goal.returns-in-Switch
returns-in-Switch g c = layer_made c.args.a.now _ c.args.at c.switch.result (ap in_expression c.in-Switch.is ∙ S.seen_Switch _ _ _) c.switch.ensures

pub returns-in-While : goal.returns-in-While
returns-in-While g c = layer_made c.args.a.now _ c.args.at c.two-in-While.result (ap in_expression c.in-While.is ∙ S.seen_While _ _) c.two-in-While.ensures

pub returns-in-Loop : goal.returns-in-Loop
returns-in-Loop g c = layer_made c.args.a.now _ c.args.at c.looped.result (ap in_expression c.in-Loop.is ∙ S.seen_Loop _ _) c.looped.ensures

pub returns-in-For : goal.returns-in-For
returns-in-For g c = layer_made c.args.a.now _ c.args.at c.for_loop.result (ap in_expression c.in-For.is ∙ S.seen_For _ _ _) c.for_loop.ensures

pub returns-in-Label : goal.returns-in-Label
returns-in-Label g c = layer_made c.args.a.now _ c.args.at c.label.result (ap in_expression c.in-Label.is ∙ S.seen_Label _ _ _) c.label.ensures

pub returns-in-Break : goal.returns-in-Break
returns-in-Break g c = layer_made c.args.a.now _ c.args.at c.may.result (ap in_expression c.in-Break.is ∙ S.seen_Break _ _) c.may.ensures

pub returns-in-Continue : goal.returns-in-Continue
returns-in-Continue g c = layer_made c.args.a.now _ c.args.at c.leaf.result (ap in_expression c.in-Continue.is ∙ S.seen_Continue _) c.leaf.ensures

pub returns-in-Return : goal.returns-in-Return
returns-in-Return g c = layer_made c.args.a.now _ c.args.at c.may-in-Return.result (ap in_expression c.in-Return.is ∙ S.seen_Return _) c.may-in-Return.ensures

pub returns-in-Do : goal.returns-in-Do
returns-in-Do g c = layer_made c.args.a.now _ c.args.at c.behind.result (ap in_expression c.in-Do.is ∙ S.seen_Do _) c.behind.ensures

pub returns-in-DoOptional : goal.returns-in-DoOptional
returns-in-DoOptional g c = layer_made c.args.a.now _ c.args.at c.behind-in-DoOptional.result (ap in_expression c.in-DoOptional.is ∙ S.seen_DoOptional _) c.behind-in-DoOptional.ensures

pub returns-in-Await : goal.returns-in-Await
returns-in-Await g c = layer_made c.args.a.now _ c.args.at c.behind-in-Await.result (ap in_expression c.in-Await.is ∙ S.seen_Await _) c.behind-in-Await.ensures

pub returns-in-Throw : goal.returns-in-Throw
returns-in-Throw g c = layer_made c.args.a.now _ c.args.at c.behind-in-Throw.result (ap in_expression c.in-Throw.is ∙ S.seen_Throw _) c.behind-in-Throw.ensures

pub returns-in-Try : goal.returns-in-Try
returns-in-Try g c = layer_made c.args.a.now _ c.args.at c.try_catch.result (ap in_expression c.in-Try.is ∙ S.seen_Try _ _ _) c.try_catch.ensures

pub returns-in-Assert : goal.returns-in-Assert
returns-in-Assert g c = layer_made c.args.a.now _ c.args.at c.behind-in-Assert.result (ap in_expression c.in-Assert.is ∙ S.seen_Assert _) c.behind-in-Assert.ensures

pub returns-in-Ignore : goal.returns-in-Ignore
returns-in-Ignore g c = layer_made c.args.a.now _ c.args.at c.behind-in-Ignore.result (ap in_expression c.in-Ignore.is ∙ S.seen_Ignore _) c.behind-in-Ignore.ensures

pub returns-in-Debug : goal.returns-in-Debug
returns-in-Debug g c = layer_made c.args.a.now _ c.args.at c.behind-in-Debug.result (ap in_expression c.in-Debug.is ∙ S.seen_Debug _) c.behind-in-Debug.ensures

pub returns-in-Function : goal.returns-in-Function
returns-in-Function g c = layer_made c.args.a.now _ c.args.at c.function.result (ap in_expression c.in-Function.is ∙ S.seen_Function _ _ _ _) c.function.ensures

pub returns-in-ObjectBlock : goal.returns-in-ObjectBlock
returns-in-ObjectBlock g c = layer_made c.args.a.now _ c.args.at c.object_block.result (ap in_expression c.in-ObjectBlock.is ∙ S.seen_ObjectBlock _ _) c.object_block.ensures

pub returns-in-Optional : goal.returns-in-Optional
returns-in-Optional g c = layer_made c.args.a.now _ c.args.at c.behind-in-Optional.result (ap in_expression c.in-Optional.is ∙ S.seen_Optional _) c.behind-in-Optional.ensures

pub returns-in-Negative : goal.returns-in-Negative
returns-in-Negative g c = layer_made c.args.a.now _ c.args.at c.behind-in-Negative.result (ap in_expression c.in-Negative.is ∙ S.seen_Negative _) c.behind-in-Negative.ensures

pub returns-in-Not : goal.returns-in-Not
returns-in-Not g c = layer_made c.args.a.now _ c.args.at c.behind-in-Not.result (ap in_expression c.in-Not.is ∙ S.seen_Not _) c.behind-in-Not.ensures

pub returns-in-Tagged : goal.returns-in-Tagged
returns-in-Tagged g c = layer_made c.args.a.now _ c.args.at c.may-in-Tagged.result (ap in_expression c.in-Tagged.is ∙ S.seen_Tagged _ _) c.may-in-Tagged.ensures

pub returns-in-Member : goal.returns-in-Member
returns-in-Member g c = layer_made c.args.a.now _ c.args.at c.ahead.result (ap in_expression c.in-Member.is ∙ S.seen_Member _ _) c.ahead.ensures

pub returns-in-Projection : goal.returns-in-Projection
returns-in-Projection g c = layer_made c.args.a.now _ c.args.at c.ahead-in-Projection.result (ap in_expression c.in-Projection.is ∙ S.seen_Projection _ _) c.ahead-in-Projection.ensures

pub returns-in-Index : goal.returns-in-Index
returns-in-Index g c = layer_made c.args.a.now _ c.args.at c.two-in-Index.result (ap in_expression c.in-Index.is ∙ S.seen_Index _ _) c.two-in-Index.ensures

pub returns-in-Call : goal.returns-in-Call
returns-in-Call g c = layer_made c.args.a.now _ c.args.at c.call.result (ap in_expression c.in-Call.is ∙ S.seen_Call _ _ _) c.call.ensures

pub returns-in-Bang : goal.returns-in-Bang
returns-in-Bang g c = layer_made c.args.a.now _ c.args.at c.ahead-in-Bang.result (ap in_expression c.in-Bang.is ∙ S.seen_Bang _) c.ahead-in-Bang.ensures

pub returns-in-Constant : goal.returns-in-Constant
returns-in-Constant g c = layer_made c.args.a.now _ c.args.at c.leaf-in-Constant.result (ap in_expression c.in-Constant.is ∙ S.seen_Constant _) c.leaf-in-Constant.ensures

pub returns-in-Variable : goal.returns-in-Variable
returns-in-Variable g c = layer_made c.args.a.now _ c.args.at c.leaf-in-Variable.result (ap in_expression c.in-Variable.is ∙ S.seen_Variable _) c.leaf-in-Variable.ensures

pub returns-in-Parenthesized : goal.returns-in-Parenthesized
returns-in-Parenthesized g c = layer_made c.args.a.now _ c.args.at c.parenthesized.result (ap in_expression c.in-Parenthesized.is ∙ S.seen_Parenthesized _) (rw c.as_slice.ensures at c.parenthesized.ensures)

pub returns-in-Array : goal.returns-in-Array
returns-in-Array g c = layer_made c.args.a.now _ c.args.at c.array.result (ap in_expression c.in-Array.is ∙ S.seen_Array _ _) c.array.ensures

pub returns-in-Object : goal.returns-in-Object
returns-in-Object g c = layer_made c.args.a.now _ c.args.at c.object.result (ap in_expression c.in-Object.is ∙ S.seen_Object _ _) c.object.ensures

pub returns-in-ActorReference : goal.returns-in-ActorReference
returns-in-ActorReference g c = layer_made c.args.a.now _ c.args.at c.actor_reference.result (ap in_expression c.in-ActorReference.is ∙ S.seen_ActorReference _ _) c.actor_reference.ensures

pub returns-in-Block : goal.returns-in-Block
returns-in-Block g c = layer_made c.args.a.now _ c.args.at c.block.result (ap in_expression c.in-Block.is ∙ S.seen_Block _ _) c.block.ensures
