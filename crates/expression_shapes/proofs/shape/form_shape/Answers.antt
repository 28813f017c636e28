use Rattle.std.proofs.Common.{◌∙◌, ap, sym}
use Rattle.abstract_tree.proofs.TreeViews as V
use Rattle.abstract_tree.specs.TreeView.{plain}
use Rattle.expression_shapes.proofs.GivenViews.{seen_BuiltIn, seen_Subsumed}
use Rattle.expression_shapes.specs.Shapes.{ActorReference, Member, Name, shape_of_form}
use Rattle.expression_shapes.proofs.shape.form_shape.Goals as goal

pub returns-in-Constant : goal.returns-in-Constant
returns-in-Constant c = rw c.in-Constant.is (sym (ap shape_of_form (V.seen_Constant _)))

pub returns-in-Name : goal.returns-in-Name
returns-in-Name c = rw c.in-Name.is (ap Name c.as_slice.ensures ∙ sym (ap shape_of_form (V.seen_Name _)))

pub returns-in-Tuple : goal.returns-in-Tuple
returns-in-Tuple c = rw c.in-Tuple.is (sym (ap shape_of_form (V.seen_Tuple _)))

pub returns-in-Optional : goal.returns-in-Optional
returns-in-Optional c = rw c.in-Optional.is (sym (ap shape_of_form (V.seen_Optional _)))

pub returns-in-Tag : goal.returns-in-Tag
returns-in-Tag c = rw c.in-Tag.is (sym (ap shape_of_form (V.seen_Tag _)))

pub returns-in-Tagged : goal.returns-in-Tagged
returns-in-Tagged c = rw c.in-Tagged.is (sym (ap shape_of_form (V.seen_Tagged _ _)))

pub returns-in-Array : goal.returns-in-Array
returns-in-Array c = rw c.in-Array.is (sym (ap shape_of_form (V.seen_Array _ _)))

pub returns-in-Object : goal.returns-in-Object
returns-in-Object c = rw c.in-Object.is (sym (ap shape_of_form (V.seen_Object _)))

pub returns-in-Member : goal.returns-in-Member
returns-in-Member c = rw c.in-Member.is (ap (Member (plain c.in-Member.of)) c.as_slice-in-Member.ensures ∙ sym (ap shape_of_form (V.seen_Member _ _)))

pub returns-in-Projection : goal.returns-in-Projection
returns-in-Projection c = rw c.in-Projection.is (sym (ap shape_of_form (V.seen_Projection _ _)))

pub returns-in-Index : goal.returns-in-Index
returns-in-Index c = rw c.in-Index.is (sym (ap shape_of_form (V.seen_Index _ _)))

pub returns-in-Annotated : goal.returns-in-Annotated
returns-in-Annotated c = rw c.in-Annotated.is (sym (ap shape_of_form (V.seen_Annotated _ _)))

pub returns-in-Negative : goal.returns-in-Negative
returns-in-Negative c = rw c.in-Negative.is (sym (ap shape_of_form (V.seen_Negative _)))

pub returns-in-Binary : goal.returns-in-Binary
returns-in-Binary c = rw c.in-Binary.is (sym (ap shape_of_form (V.seen_Binary _ _ _)))

pub returns-in-Not : goal.returns-in-Not
returns-in-Not c = rw c.in-Not.is (sym (ap shape_of_form (V.seen_Not _)))

pub returns-in-Assign : goal.returns-in-Assign
returns-in-Assign c = rw c.in-Assign.is (sym (ap shape_of_form (V.seen_Assign _ _)))

pub returns-in-AssignBy : goal.returns-in-AssignBy
returns-in-AssignBy c = rw c.in-AssignBy.is (sym (ap shape_of_form (V.seen_AssignBy _ _ _)))

pub returns-in-Call : goal.returns-in-Call
returns-in-Call c = rw c.in-Call.is (sym (ap shape_of_form (V.seen_Call _ _ _)))

pub returns-in-When : goal.returns-in-When
returns-in-When c = rw c.in-When.is (sym (ap shape_of_form (V.seen_When _ _)))

pub returns-in-If : goal.returns-in-If
returns-in-If c = rw c.in-If.is (sym (ap shape_of_form (V.seen_If _ _ _)))

pub returns-in-Switch : goal.returns-in-Switch
returns-in-Switch c = rw c.in-Switch.is (sym (ap shape_of_form (V.seen_Switch _ _)))

pub returns-in-Try : goal.returns-in-Try
returns-in-Try c = rw c.in-Try.is (sym (ap shape_of_form (V.seen_Try _ _ _)))

pub returns-in-While : goal.returns-in-While
returns-in-While c = rw c.in-While.is (sym (ap shape_of_form (V.seen_While _ _)))

pub returns-in-Loop : goal.returns-in-Loop
returns-in-Loop c = rw c.in-Loop.is (sym (ap shape_of_form (V.seen_Loop _)))

pub returns-in-LoopWhile : goal.returns-in-LoopWhile
returns-in-LoopWhile c = rw c.in-LoopWhile.is (sym (ap shape_of_form (V.seen_LoopWhile _ _)))

pub returns-in-For : goal.returns-in-For
returns-in-For c = rw c.in-For.is (sym (ap shape_of_form (V.seen_For _ _ _)))

pub returns-in-Label : goal.returns-in-Label
returns-in-Label c = rw c.in-Label.is (sym (ap shape_of_form (V.seen_Label _ _ _)))

pub returns-in-Break : goal.returns-in-Break
returns-in-Break c = rw c.in-Break.is (sym (ap shape_of_form (V.seen_Break _)))

pub returns-in-BreakWith : goal.returns-in-BreakWith
returns-in-BreakWith c = rw c.in-BreakWith.is (sym (ap shape_of_form (V.seen_BreakWith _ _)))

pub returns-in-Continue : goal.returns-in-Continue
returns-in-Continue c = rw c.in-Continue.is (sym (ap shape_of_form (V.seen_Continue _)))

pub returns-in-Return : goal.returns-in-Return
returns-in-Return c = rw c.in-Return.is (sym (ap shape_of_form V.seen_Return))

pub returns-in-ReturnWith : goal.returns-in-ReturnWith
returns-in-ReturnWith c = rw c.in-ReturnWith.is (sym (ap shape_of_form (V.seen_ReturnWith _)))

pub returns-in-Throw : goal.returns-in-Throw
returns-in-Throw c = rw c.in-Throw.is (sym (ap shape_of_form (V.seen_Throw _)))

pub returns-in-Do : goal.returns-in-Do
returns-in-Do c = rw c.in-Do.is (sym (ap shape_of_form (V.seen_Do _)))

pub returns-in-DoOption : goal.returns-in-DoOption
returns-in-DoOption c = rw c.in-DoOption.is (sym (ap shape_of_form (V.seen_DoOption _)))

pub returns-in-Bang : goal.returns-in-Bang
returns-in-Bang c = rw c.in-Bang.is (sym (ap shape_of_form (V.seen_Bang _)))

pub returns-in-Block : goal.returns-in-Block
returns-in-Block c = rw c.in-Block.is (sym (ap shape_of_form (V.seen_Block _)))

pub returns-in-Function : goal.returns-in-Function
returns-in-Function c = rw c.in-Function.is (sym (ap shape_of_form (V.seen_Function _ _)))

pub returns-in-ObjectBlock : goal.returns-in-ObjectBlock
returns-in-ObjectBlock c = rw c.in-ObjectBlock.is (sym (ap shape_of_form (V.seen_ObjectBlock _)))

pub returns-in-Assert : goal.returns-in-Assert
returns-in-Assert c = rw c.in-Assert.is (sym (ap shape_of_form (V.seen_Assert _)))

pub returns-in-Ignore : goal.returns-in-Ignore
returns-in-Ignore c = rw c.in-Ignore.is (sym (ap shape_of_form (V.seen_Ignore _)))

pub returns-in-Debug : goal.returns-in-Debug
returns-in-Debug c = rw c.in-Debug.is (sym (ap shape_of_form (V.seen_Debug _)))

pub returns-in-ActorReference : goal.returns-in-ActorReference
returns-in-ActorReference c = rw c.in-ActorReference.is (ap ActorReference c.as_slice-in-ActorReference.ensures ∙ sym (ap shape_of_form (V.seen_ActorReference _)))

pub returns-in-Await : goal.returns-in-Await
returns-in-Await c = rw c.in-Await.is (sym (ap shape_of_form (V.seen_Await _)))

pub returns-in-BuiltIn : goal.returns-in-BuiltIn
returns-in-BuiltIn c = rw c.in-BuiltIn.is (sym (ap shape_of_form (seen_BuiltIn _)))

pub returns-in-Subsumed : goal.returns-in-Subsumed
returns-in-Subsumed c = rw c.in-Subsumed.is (sym (ap shape_of_form (seen_Subsumed _)))
