use Rattle.std.proofs.Common.{◌∙◌, ap, map, option_map, sym}
use Rattle.abstract_types.specs.TypeView.{type_node}
use Rattle.abstract_tree.specs.TreeView.{case, cases, declaration, declarations, expression, fields, listed, object_field}
use Rattle.judged_parts.specs.Parts.{See, Each, Fields, Call, Switch, Declared, Name, parts_of}
use Rattle.judged_parts.proofs.TreeViews as V
use Rattle.judged_parts.proofs.parts.parts_of_form.Goals as goal

pub returns-in-Constant : goal.returns-in-Constant
returns-in-Constant c = λ (see : See). rw c.in-Constant.is (sym (ap parts_of (V.seen_Constant see _)))

pub returns-in-Name : goal.returns-in-Name
returns-in-Name c = λ (see : See). rw c.in-Name.is (ap Name c.as_slice.ensures ∙ sym (ap parts_of (V.seen_Name see _)))

pub returns-in-Tuple : goal.returns-in-Tuple
returns-in-Tuple c = λ (see : See). rw c.in-Tuple.is (ap (λ xs. Each (listed (map (expression see) xs))) c.as_slice-in-Tuple.ensures ∙ sym (ap parts_of (V.seen_Tuple see _)))

pub returns-in-Optional : goal.returns-in-Optional
returns-in-Optional c = λ (see : See). rw c.in-Optional.is (sym (ap parts_of (V.seen_Optional see _)))

pub returns-in-Tag : goal.returns-in-Tag
returns-in-Tag c = λ (see : See). rw c.in-Tag.is (sym (ap parts_of (V.seen_Tag see _)))

pub returns-in-Tagged : goal.returns-in-Tagged
returns-in-Tagged c = λ (see : See). rw c.in-Tagged.is (sym (ap parts_of (V.seen_Tagged see _ _)))

pub returns-in-Array : goal.returns-in-Array
returns-in-Array c = λ (see : See). rw c.in-Array.is (ap (λ xs. Each (listed (map (expression see) xs))) c.as_slice-in-Array.ensures ∙ sym (ap parts_of (V.seen_Array see _ _)))

pub returns-in-Object : goal.returns-in-Object
returns-in-Object c = λ (see : See). rw c.in-Object.is (ap (λ xs. Fields (fields (map (object_field see) xs))) c.as_slice-in-Object.ensures ∙ sym (ap parts_of (V.seen_Object see _)))

pub returns-in-Member : goal.returns-in-Member
returns-in-Member c = λ (see : See). rw c.in-Member.is (sym (ap parts_of (V.seen_Member see _ _)))

pub returns-in-Projection : goal.returns-in-Projection
returns-in-Projection c = λ (see : See). rw c.in-Projection.is (sym (ap parts_of (V.seen_Projection see _ _)))

pub returns-in-Index : goal.returns-in-Index
returns-in-Index c = λ (see : See). rw c.in-Index.is (sym (ap parts_of (V.seen_Index see _ _)))

pub returns-in-Annotated : goal.returns-in-Annotated
returns-in-Annotated c = λ (see : See). rw c.in-Annotated.is (sym (ap parts_of (V.seen_Annotated see _ _)))

pub returns-in-Negative : goal.returns-in-Negative
returns-in-Negative c = λ (see : See). rw c.in-Negative.is (sym (ap parts_of (V.seen_Negative see _)))

pub returns-in-Binary : goal.returns-in-Binary
returns-in-Binary c = λ (see : See). rw c.in-Binary.is (sym (ap parts_of (V.seen_Binary see _ _ _)))

pub returns-in-Not : goal.returns-in-Not
returns-in-Not c = λ (see : See). rw c.in-Not.is (sym (ap parts_of (V.seen_Not see _)))

pub returns-in-Assign : goal.returns-in-Assign
returns-in-Assign c = λ (see : See). rw c.in-Assign.is (sym (ap parts_of (V.seen_Assign see _ _)))

pub returns-in-AssignBy : goal.returns-in-AssignBy
returns-in-AssignBy c = λ (see : See). rw c.in-AssignBy.is (sym (ap parts_of (V.seen_AssignBy see _ _ _)))

pub returns-in-Call : goal.returns-in-Call
returns-in-Call c = λ (see : See). rw c.in-Call.is (ap (λ xs. Call (expression see c.in-Call.a) (option_map (map type_node) c.in-Call.types) (listed (map (expression see) xs))) c.as_slice-in-Call.ensures ∙ sym (ap parts_of (V.seen_Call see _ _ _)))

pub returns-in-When : goal.returns-in-When
returns-in-When c = λ (see : See). rw c.in-When.is (sym (ap parts_of (V.seen_When see _ _)))

pub returns-in-If : goal.returns-in-If
returns-in-If c = λ (see : See). rw c.in-If.is (sym (ap parts_of (V.seen_If see _ _ _)))

pub returns-in-Switch : goal.returns-in-Switch
returns-in-Switch c = λ (see : See). rw c.in-Switch.is (ap (λ xs. Switch (expression see c.in-Switch.a) (cases (map (case see) xs))) c.as_slice-in-Switch.ensures ∙ sym (ap parts_of (V.seen_Switch see _ _)))

pub returns-in-Try : goal.returns-in-Try
returns-in-Try c = λ (see : See). rw c.in-Try.is (sym (ap parts_of (V.seen_Try see _ _ _)))

pub returns-in-While : goal.returns-in-While
returns-in-While c = λ (see : See). rw c.in-While.is (sym (ap parts_of (V.seen_While see _ _)))

pub returns-in-Loop : goal.returns-in-Loop
returns-in-Loop c = λ (see : See). rw c.in-Loop.is (sym (ap parts_of (V.seen_Loop see _)))

pub returns-in-LoopWhile : goal.returns-in-LoopWhile
returns-in-LoopWhile c = λ (see : See). rw c.in-LoopWhile.is (sym (ap parts_of (V.seen_LoopWhile see _ _)))

pub returns-in-For : goal.returns-in-For
returns-in-For c = λ (see : See). rw c.in-For.is (sym (ap parts_of (V.seen_For see _ _ _)))

pub returns-in-Label : goal.returns-in-Label
returns-in-Label c = λ (see : See). rw c.in-Label.is (sym (ap parts_of (V.seen_Label see _ _ _)))

pub returns-in-Break : goal.returns-in-Break
returns-in-Break c = λ (see : See). rw c.in-Break.is (sym (ap parts_of (V.seen_Break see _)))

pub returns-in-BreakWith : goal.returns-in-BreakWith
returns-in-BreakWith c = λ (see : See). rw c.in-BreakWith.is (sym (ap parts_of (V.seen_BreakWith see _ _)))

pub returns-in-Continue : goal.returns-in-Continue
returns-in-Continue c = λ (see : See). rw c.in-Continue.is (sym (ap parts_of (V.seen_Continue see _)))

pub returns-in-Return : goal.returns-in-Return
returns-in-Return c = λ (see : See). rw c.in-Return.is (sym (ap parts_of (V.seen_Return see)))

pub returns-in-ReturnWith : goal.returns-in-ReturnWith
returns-in-ReturnWith c = λ (see : See). rw c.in-ReturnWith.is (sym (ap parts_of (V.seen_ReturnWith see _)))

pub returns-in-Throw : goal.returns-in-Throw
returns-in-Throw c = λ (see : See). rw c.in-Throw.is (sym (ap parts_of (V.seen_Throw see _)))

pub returns-in-Do : goal.returns-in-Do
returns-in-Do c = λ (see : See). rw c.in-Do.is (sym (ap parts_of (V.seen_Do see _)))

pub returns-in-DoOption : goal.returns-in-DoOption
returns-in-DoOption c = λ (see : See). rw c.in-DoOption.is (sym (ap parts_of (V.seen_DoOption see _)))

pub returns-in-Bang : goal.returns-in-Bang
returns-in-Bang c = λ (see : See). rw c.in-Bang.is (sym (ap parts_of (V.seen_Bang see _)))

pub returns-in-Block : goal.returns-in-Block
returns-in-Block c = λ (see : See). rw c.in-Block.is (ap (λ xs. Declared (declarations (map (declaration see) xs))) c.as_slice-in-Block.ensures ∙ sym (ap parts_of (V.seen_Block see _)))

pub returns-in-Function : goal.returns-in-Function
returns-in-Function c = λ (see : See). rw c.in-Function.is (sym (ap parts_of (V.seen_Function see _ _)))

pub returns-in-ObjectBlock : goal.returns-in-ObjectBlock
returns-in-ObjectBlock c = λ (see : See). rw c.in-ObjectBlock.is (ap (λ xs. Declared (declarations (map (declaration see) xs))) c.as_slice-in-ObjectBlock.ensures ∙ sym (ap parts_of (V.seen_ObjectBlock see _)))

pub returns-in-Assert : goal.returns-in-Assert
returns-in-Assert c = λ (see : See). rw c.in-Assert.is (sym (ap parts_of (V.seen_Assert see _)))

pub returns-in-Ignore : goal.returns-in-Ignore
returns-in-Ignore c = λ (see : See). rw c.in-Ignore.is (sym (ap parts_of (V.seen_Ignore see _)))

pub returns-in-Debug : goal.returns-in-Debug
returns-in-Debug c = λ (see : See). rw c.in-Debug.is (sym (ap parts_of (V.seen_Debug see _)))

pub returns-in-ActorReference : goal.returns-in-ActorReference
returns-in-ActorReference c = λ (see : See). rw c.in-ActorReference.is (sym (ap parts_of (V.seen_ActorReference see _)))

pub returns-in-Await : goal.returns-in-Await
returns-in-Await c = λ (see : See). rw c.in-Await.is (sym (ap parts_of (V.seen_Await see _)))

pub returns-in-BuiltIn : goal.returns-in-BuiltIn
returns-in-BuiltIn c = λ (see : See). rw c.in-BuiltIn.is (sym (ap parts_of (V.seen_BuiltIn see _)))

pub returns-in-Subsumed : goal.returns-in-Subsumed
returns-in-Subsumed c = λ (see : See). rw c.in-Subsumed.is (sym (ap parts_of (V.seen_Subsumed see _)))
