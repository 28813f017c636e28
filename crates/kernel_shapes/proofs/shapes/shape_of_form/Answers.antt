use Rattle.std.proofs.Common.{◌∙◌, ℕ, List, ap, sym}
use Rattle.abstract_tree.specs.TreeView.{expression, expression_form}
use Rattle.judged_parts.specs.Parts.{See}
use Rattle.judged_parts.proofs.TreeViews as V
use Rattle.kernel_shapes.specs.Shapes.{Member, Name, shape_of}
use Rattle.kernel_shapes.proofs.shapes.shape_of_form.Goals as goal

pub returns-in-Constant : goal.returns-in-Constant
returns-in-Constant c = λ (see : See). c.numeral.ensures see ∙ sym (ap shape_of (ap (expression_form see) c.in-Constant.is ∙ V.seen_Constant see _))

pub returns-in-Name : goal.returns-in-Name
returns-in-Name c = λ (see : See). ap Name c.as_slice.ensures ∙ sym (ap shape_of (ap (expression_form see) c.in-Name.is ∙ V.seen_Name see _))

pub returns-in-Tuple : goal.returns-in-Tuple
returns-in-Tuple c = λ (see : See). sym (ap shape_of (ap (expression_form see) c.in-Tuple.is ∙ V.seen_Tuple see _))

pub returns-in-Optional : goal.returns-in-Optional
returns-in-Optional c = λ (see : See). sym (ap shape_of (ap (expression_form see) c.in-Optional.is ∙ V.seen_Optional see _))

pub returns-in-Tag : goal.returns-in-Tag
returns-in-Tag c = λ (see : See). sym (ap shape_of (ap (expression_form see) c.in-Tag.is ∙ V.seen_Tag see _))

pub returns-in-Tagged : goal.returns-in-Tagged
returns-in-Tagged c = λ (see : See). sym (ap shape_of (ap (expression_form see) c.in-Tagged.is ∙ V.seen_Tagged see _ _))

pub returns-in-Array : goal.returns-in-Array
returns-in-Array c = λ (see : See). sym (ap shape_of (ap (expression_form see) c.in-Array.is ∙ V.seen_Array see _ _))

pub returns-in-Object : goal.returns-in-Object
returns-in-Object c = λ (see : See). sym (ap shape_of (ap (expression_form see) c.in-Object.is ∙ V.seen_Object see _))

pub returns-in-Member : goal.returns-in-Member
returns-in-Member c = λ (see : See). ap (λ (x : List ℕ). Member (expression see c.in-Member.a) x) c.as_slice-in-Member.ensures ∙ sym (ap shape_of (ap (expression_form see) c.in-Member.is ∙ V.seen_Member see _ _))

pub returns-in-Projection : goal.returns-in-Projection
returns-in-Projection c = λ (see : See). sym (ap shape_of (ap (expression_form see) c.in-Projection.is ∙ V.seen_Projection see _ _))

pub returns-in-Index : goal.returns-in-Index
returns-in-Index c = λ (see : See). sym (ap shape_of (ap (expression_form see) c.in-Index.is ∙ V.seen_Index see _ _))

pub returns-in-Annotated : goal.returns-in-Annotated
returns-in-Annotated c = λ (see : See). sym (ap shape_of (ap (expression_form see) c.in-Annotated.is ∙ V.seen_Annotated see _ _))

pub returns-in-Negative : goal.returns-in-Negative
returns-in-Negative c = λ (see : See). sym (ap shape_of (ap (expression_form see) c.in-Negative.is ∙ V.seen_Negative see _))

pub returns-in-Binary : goal.returns-in-Binary
returns-in-Binary c = λ (see : See). sym (ap shape_of (ap (expression_form see) c.in-Binary.is ∙ V.seen_Binary see _ _ _))

pub returns-in-Not : goal.returns-in-Not
returns-in-Not c = λ (see : See). sym (ap shape_of (ap (expression_form see) c.in-Not.is ∙ V.seen_Not see _))

pub returns-in-Assign : goal.returns-in-Assign
returns-in-Assign c = λ (see : See). sym (ap shape_of (ap (expression_form see) c.in-Assign.is ∙ V.seen_Assign see _ _))

pub returns-in-AssignBy : goal.returns-in-AssignBy
returns-in-AssignBy c = λ (see : See). sym (ap shape_of (ap (expression_form see) c.in-AssignBy.is ∙ V.seen_AssignBy see _ _ _))

pub returns-in-Call : goal.returns-in-Call
returns-in-Call c = λ (see : See). sym (ap shape_of (ap (expression_form see) c.in-Call.is ∙ V.seen_Call see _ _ _))

pub returns-in-When : goal.returns-in-When
returns-in-When c = λ (see : See). sym (ap shape_of (ap (expression_form see) c.in-When.is ∙ V.seen_When see _ _))

pub returns-in-If : goal.returns-in-If
returns-in-If c = λ (see : See). sym (ap shape_of (ap (expression_form see) c.in-If.is ∙ V.seen_If see _ _ _))

pub returns-in-Switch : goal.returns-in-Switch
returns-in-Switch c = λ (see : See). sym (ap shape_of (ap (expression_form see) c.in-Switch.is ∙ V.seen_Switch see _ _))

pub returns-in-Try : goal.returns-in-Try
returns-in-Try c = λ (see : See). sym (ap shape_of (ap (expression_form see) c.in-Try.is ∙ V.seen_Try see _ _ _))

pub returns-in-While : goal.returns-in-While
returns-in-While c = λ (see : See). sym (ap shape_of (ap (expression_form see) c.in-While.is ∙ V.seen_While see _ _))

pub returns-in-Loop : goal.returns-in-Loop
returns-in-Loop c = λ (see : See). sym (ap shape_of (ap (expression_form see) c.in-Loop.is ∙ V.seen_Loop see _))

pub returns-in-LoopWhile : goal.returns-in-LoopWhile
returns-in-LoopWhile c = λ (see : See). sym (ap shape_of (ap (expression_form see) c.in-LoopWhile.is ∙ V.seen_LoopWhile see _ _))

pub returns-in-For : goal.returns-in-For
returns-in-For c = λ (see : See). sym (ap shape_of (ap (expression_form see) c.in-For.is ∙ V.seen_For see _ _ _))

pub returns-in-Label : goal.returns-in-Label
returns-in-Label c = λ (see : See). sym (ap shape_of (ap (expression_form see) c.in-Label.is ∙ V.seen_Label see _ _ _))

pub returns-in-Break : goal.returns-in-Break
returns-in-Break c = λ (see : See). sym (ap shape_of (ap (expression_form see) c.in-Break.is ∙ V.seen_Break see _))

pub returns-in-BreakWith : goal.returns-in-BreakWith
returns-in-BreakWith c = λ (see : See). sym (ap shape_of (ap (expression_form see) c.in-BreakWith.is ∙ V.seen_BreakWith see _ _))

pub returns-in-Continue : goal.returns-in-Continue
returns-in-Continue c = λ (see : See). sym (ap shape_of (ap (expression_form see) c.in-Continue.is ∙ V.seen_Continue see _))

pub returns-in-Return : goal.returns-in-Return
returns-in-Return c = λ (see : See). sym (ap shape_of (ap (expression_form see) c.in-Return.is ∙ V.seen_Return see))

pub returns-in-ReturnWith : goal.returns-in-ReturnWith
returns-in-ReturnWith c = λ (see : See). sym (ap shape_of (ap (expression_form see) c.in-ReturnWith.is ∙ V.seen_ReturnWith see _))

pub returns-in-Throw : goal.returns-in-Throw
returns-in-Throw c = λ (see : See). sym (ap shape_of (ap (expression_form see) c.in-Throw.is ∙ V.seen_Throw see _))

pub returns-in-Do : goal.returns-in-Do
returns-in-Do c = λ (see : See). sym (ap shape_of (ap (expression_form see) c.in-Do.is ∙ V.seen_Do see _))

pub returns-in-DoOption : goal.returns-in-DoOption
returns-in-DoOption c = λ (see : See). sym (ap shape_of (ap (expression_form see) c.in-DoOption.is ∙ V.seen_DoOption see _))

pub returns-in-Bang : goal.returns-in-Bang
returns-in-Bang c = λ (see : See). sym (ap shape_of (ap (expression_form see) c.in-Bang.is ∙ V.seen_Bang see _))

pub returns-in-Block : goal.returns-in-Block
returns-in-Block c = λ (see : See). sym (ap shape_of (ap (expression_form see) c.in-Block.is ∙ V.seen_Block see _))

pub returns-in-Function : goal.returns-in-Function
returns-in-Function c = λ (see : See). sym (ap shape_of (ap (expression_form see) c.in-Function.is ∙ V.seen_Function see _ _))

pub returns-in-ObjectBlock : goal.returns-in-ObjectBlock
returns-in-ObjectBlock c = λ (see : See). sym (ap shape_of (ap (expression_form see) c.in-ObjectBlock.is ∙ V.seen_ObjectBlock see _))

pub returns-in-Assert : goal.returns-in-Assert
returns-in-Assert c = λ (see : See). sym (ap shape_of (ap (expression_form see) c.in-Assert.is ∙ V.seen_Assert see _))

pub returns-in-Ignore : goal.returns-in-Ignore
returns-in-Ignore c = λ (see : See). sym (ap shape_of (ap (expression_form see) c.in-Ignore.is ∙ V.seen_Ignore see _))

pub returns-in-Debug : goal.returns-in-Debug
returns-in-Debug c = λ (see : See). sym (ap shape_of (ap (expression_form see) c.in-Debug.is ∙ V.seen_Debug see _))

pub returns-in-ActorReference : goal.returns-in-ActorReference
returns-in-ActorReference c = λ (see : See). sym (ap shape_of (ap (expression_form see) c.in-ActorReference.is ∙ V.seen_ActorReference see _))

pub returns-in-Await : goal.returns-in-Await
returns-in-Await c = λ (see : See). sym (ap shape_of (ap (expression_form see) c.in-Await.is ∙ V.seen_Await see _))

pub returns-in-BuiltIn : goal.returns-in-BuiltIn
returns-in-BuiltIn c = λ (see : See). sym (ap shape_of (ap (expression_form see) c.in-BuiltIn.is ∙ V.seen_BuiltIn see _))

pub returns-in-Subsumed : goal.returns-in-Subsumed
returns-in-Subsumed c = λ (see : See). sym (ap shape_of (ap (expression_form see) c.in-Subsumed.is ∙ V.seen_Subsumed see _))
