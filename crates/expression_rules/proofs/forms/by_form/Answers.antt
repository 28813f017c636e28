use Rattle.std.proofs.Common.{◌∙◌, ℕ, ap, map, option_map, sym}
use Rattle.typing_rules.specs.AbstractSyntax as p
use Rattle.typing_rules.specs.AbstractSyntax.{Bytes}
use Rattle.abstract_types.specs.TypeView.{annotation, type_node}
use Rattle.abstract_tree.specs.TreeView.{cases, fields, listed, plain, plain_case, plain_field, plain_form}
use Rattle.judging.proofs.Forms as F
use Rattle.list_judging.specs.Lists.{seen_list}
use Rattle.expression_rules.proofs.ByForm.{of_form}
use Rattle.expression_rules.proofs.forms.by_form.Goals as goal

-- how notes are seen
abbrev same : ℕ → ℕ
same n = n

pub returns-in-Constant : goal.returns-in-Constant
returns-in-Constant g c =
    of_form c.args.lists.now.layer.site (plain_form c.args.form.now) _ c.args.scopes.now c.args.scopes.now c.args.checker.now c.constant.new.checker c.constant.result
    (ap plain_form c.in-Constant.is ∙ F.seen_Constant same _) (c.constant.ensures c.args.scopes.now c.requires.ready.sound)

pub returns-in-Name : goal.returns-in-Name
returns-in-Name g c =
    of_form c.args.lists.now.layer.site (plain_form c.args.form.now) _ c.args.scopes.now c.args.scopes.now c.args.checker.now c.name.new.checker c.name.result
    (ap plain_form c.in-Name.is ∙ F.seen_Name same _ ∙ ap p.Name (sym c.as_slice.ensures)) c.name.ensures

pub returns-in-Tuple : goal.returns-in-Tuple
returns-in-Tuple g c =
    of_form c.args.lists.now.layer.site (plain_form c.args.form.now) _ c.args.scopes.now c.tuple.new.scopes c.args.checker.now c.tuple.new.checker c.tuple.result
    (ap plain_form c.in-Tuple.is ∙ F.seen_Tuple same _ ∙ ap (λ xs. p.Tuple (listed (map plain xs))) (sym c.as_slice-in-Tuple.ensures)) c.tuple.ensures

pub returns-in-Optional : goal.returns-in-Optional
returns-in-Optional g c =
    of_form c.args.lists.now.layer.site (plain_form c.args.form.now) _ c.args.scopes.now c.option_of.new.scopes c.args.checker.now c.option_of.new.checker c.option_of.result
    (ap plain_form c.in-Optional.is ∙ F.seen_Optional same _) c.option_of.ensures

pub returns-in-Tag : goal.returns-in-Tag
returns-in-Tag g c =
    of_form c.args.lists.now.layer.site (plain_form c.args.form.now) _ c.args.scopes.now c.args.scopes.now c.args.checker.now c.tag.new.checker c.tag.result
    (ap plain_form c.in-Tag.is ∙ F.seen_Tag same _ ∙ ap p.Tag (sym c.as_slice-in-Tag.ensures)) c.tag.ensures

pub returns-in-Tagged : goal.returns-in-Tagged
returns-in-Tagged g c =
    of_form c.args.lists.now.layer.site (plain_form c.args.form.now) _ c.args.scopes.now c.tagged.new.scopes c.args.checker.now c.tagged.new.checker c.tagged.result
    (ap plain_form c.in-Tagged.is ∙ F.seen_Tagged same _ _ ∙ ap (λ (z : Bytes). p.Tagged z (plain c.in-Tagged.a)) (sym c.as_slice-in-Tagged.ensures)) c.tagged.ensures

pub returns-in-Array : goal.returns-in-Array
returns-in-Array g c =
    of_form c.args.lists.now.layer.site (plain_form c.args.form.now) _ c.args.scopes.now c.any_array.new.scopes c.args.checker.now c.any_array.new.checker c.any_array.result
    (ap plain_form c.in-Array.is ∙ F.seen_Array same _ _ ∙ ap (λ xs. p.Array c.in-Array.mutable (listed (map plain xs))) (sym c.as_slice-in-Array.ensures)) c.any_array.ensures

pub returns-in-Object : goal.returns-in-Object
returns-in-Object g c =
    of_form c.args.lists.now.layer.site (plain_form c.args.form.now) _ c.args.scopes.now c.object.new.scopes c.args.checker.now c.object.new.checker c.object.result
    (ap plain_form c.in-Object.is ∙ F.seen_Object same _ ∙ ap (λ xs. p.Object (fields (map plain_field xs))) (sym c.as_slice-in-Object.ensures)) c.object.ensures

pub returns-in-Member : goal.returns-in-Member
returns-in-Member g c =
    of_form c.args.lists.now.layer.site (plain_form c.args.form.now) _ c.args.scopes.now c.member.new.scopes c.args.checker.now c.member.new.checker c.member.result
    (ap plain_form c.in-Member.is ∙ F.seen_Member same _ _ ∙ ap (λ (z : Bytes). p.Member (plain c.in-Member.a) z) (sym c.as_slice-in-Member.ensures)) c.member.ensures

pub returns-in-Projection : goal.returns-in-Projection
returns-in-Projection g c =
    of_form c.args.lists.now.layer.site (plain_form c.args.form.now) _ c.args.scopes.now c.projection.new.scopes c.args.checker.now c.projection.new.checker c.projection.result
    (ap plain_form c.in-Projection.is ∙ F.seen_Projection same _ _) c.projection.ensures

pub returns-in-Index : goal.returns-in-Index
returns-in-Index g c =
    of_form c.args.lists.now.layer.site (plain_form c.args.form.now) _ c.args.scopes.now c.index.new.scopes c.args.checker.now c.index.new.checker c.index.result
    (ap plain_form c.in-Index.is ∙ F.seen_Index same _ _) c.index.ensures

pub returns-in-Annotated : goal.returns-in-Annotated
returns-in-Annotated g c =
    of_form c.args.lists.now.layer.site (plain_form c.args.form.now) _ c.args.scopes.now c.annotated.new.scopes c.args.checker.now c.annotated.new.checker c.annotated.result
    (ap plain_form c.in-Annotated.is ∙ F.seen_Annotated same _ _) c.annotated.ensures

pub returns-in-Negative : goal.returns-in-Negative
returns-in-Negative g c =
    of_form c.args.lists.now.layer.site (plain_form c.args.form.now) _ c.args.scopes.now c.negative.new.scopes c.args.checker.now c.negative.new.checker c.negative.result
    (ap plain_form c.in-Negative.is ∙ F.seen_Negative same _) c.negative.ensures

pub returns-in-Binary : goal.returns-in-Binary
returns-in-Binary g c =
    of_form c.args.lists.now.layer.site (plain_form c.args.form.now) _ c.args.scopes.now c.binary.new.scopes c.args.checker.now c.binary.new.checker c.binary.result
    (ap plain_form c.in-Binary.is ∙ F.seen_Binary same _ _ _) c.binary.ensures

pub returns-in-Not : goal.returns-in-Not
returns-in-Not g c =
    of_form c.args.lists.now.layer.site (plain_form c.args.form.now) _ c.args.scopes.now c.negation.new.scopes c.args.checker.now c.negation.new.checker c.negation.result
    (ap plain_form c.in-Not.is ∙ F.seen_Not same _) c.negation.ensures

pub returns-in-Assign : goal.returns-in-Assign
returns-in-Assign g c =
    of_form c.args.lists.now.layer.site (plain_form c.args.form.now) _ c.args.scopes.now c.assign.new.scopes c.args.checker.now c.assign.new.checker c.assign.result
    (ap plain_form c.in-Assign.is ∙ F.seen_Assign same _ _) c.assign.ensures

pub returns-in-AssignBy : goal.returns-in-AssignBy
returns-in-AssignBy g c =
    of_form c.args.lists.now.layer.site (plain_form c.args.form.now) _ c.args.scopes.now c.assign_by.new.scopes c.args.checker.now c.assign_by.new.checker c.assign_by.result
    (ap plain_form c.in-AssignBy.is ∙ F.seen_AssignBy same _ _ _) c.assign_by.ensures

pub returns-in-Call : goal.returns-in-Call
returns-in-Call g c =
    of_form c.args.lists.now.layer.site (plain_form c.args.form.now) _ c.args.scopes.now c.calling.new.scopes c.args.checker.now c.calling.new.checker c.calling.result
    (ap plain_form c.in-Call.is ∙ F.seen_Call same _ _ _ ∙ ap (λ xs. p.Call (plain c.in-Call.f) (option_map (map type_node) c.in-Call.types) (listed (map plain xs))) (sym c.as_slice-in-Call.ensures)) c.calling.ensures

pub returns-in-When : goal.returns-in-When
returns-in-When g c =
    of_form c.args.lists.now.layer.site (plain_form c.args.form.now) _ c.args.scopes.now c.when.new.scopes c.args.checker.now c.when.new.checker c.when.result
    (ap plain_form c.in-When.is ∙ F.seen_When same _ _) c.when.ensures

pub returns-in-If : goal.returns-in-If
returns-in-If g c =
    of_form c.args.lists.now.layer.site (plain_form c.args.form.now) _ c.args.scopes.now c.conditional.new.scopes c.args.checker.now c.conditional.new.checker c.conditional.result
    (ap plain_form c.in-If.is ∙ F.seen_If same _ _ _) c.conditional.ensures

pub returns-in-Switch : goal.returns-in-Switch
returns-in-Switch g c =
    of_form c.args.lists.now.layer.site (plain_form c.args.form.now) _ c.args.scopes.now c.switching.new.scopes c.args.checker.now c.switching.new.checker c.switching.result
    (ap plain_form c.in-Switch.is ∙ F.seen_Switch same _ _ ∙ ap (λ xs. p.Switch (plain c.in-Switch.a) (cases (map plain_case xs))) (sym c.as_slice-in-Switch.ensures)) c.switching.ensures

pub returns-in-Try : goal.returns-in-Try
returns-in-Try g c =
    of_form c.args.lists.now.layer.site (plain_form c.args.form.now) _ c.args.scopes.now c.trying.new.scopes c.args.checker.now c.trying.new.checker c.trying.result
    (ap plain_form c.in-Try.is ∙ F.seen_Try same _ _ _) c.trying.ensures

pub returns-in-While : goal.returns-in-While
returns-in-While g c =
    of_form c.args.lists.now.layer.site (plain_form c.args.form.now) _ c.args.scopes.now c.while_loop.new.scopes c.args.checker.now c.while_loop.new.checker c.while_loop.result
    (ap plain_form c.in-While.is ∙ F.seen_While same _ _) c.while_loop.ensures

pub returns-in-Loop : goal.returns-in-Loop
returns-in-Loop g c =
    of_form c.args.lists.now.layer.site (plain_form c.args.form.now) _ c.args.scopes.now c.endless_loop.new.scopes c.args.checker.now c.endless_loop.new.checker c.endless_loop.result
    (ap plain_form c.in-Loop.is ∙ F.seen_Loop same _) c.endless_loop.ensures

pub returns-in-LoopWhile : goal.returns-in-LoopWhile
returns-in-LoopWhile g c =
    of_form c.args.lists.now.layer.site (plain_form c.args.form.now) _ c.args.scopes.now c.loop_while.new.scopes c.args.checker.now c.loop_while.new.checker c.loop_while.result
    (ap plain_form c.in-LoopWhile.is ∙ F.seen_LoopWhile same _ _) c.loop_while.ensures

pub returns-in-For : goal.returns-in-For
returns-in-For g c =
    of_form c.args.lists.now.layer.site (plain_form c.args.form.now) _ c.args.scopes.now c.iterating.new.scopes c.args.checker.now c.iterating.new.checker c.iterating.result
    (ap plain_form c.in-For.is ∙ F.seen_For same _ _ _) c.iterating.ensures

pub returns-in-Label : goal.returns-in-Label
returns-in-Label g c =
    of_form c.args.lists.now.layer.site (plain_form c.args.form.now) _ c.args.scopes.now c.labelled.new.scopes c.args.checker.now c.labelled.new.checker c.labelled.result
    (ap plain_form c.in-Label.is ∙ F.seen_Label same _ _ _ ∙ ap (λ (z : Bytes). p.Label z (annotation c.in-Label.written) (plain c.in-Label.a)) (sym c.as_slice-in-Label.ensures)) c.labelled.ensures

pub returns-in-Break : goal.returns-in-Break
returns-in-Break g c =
    of_form c.args.lists.now.layer.site (plain_form c.args.form.now) _ c.args.scopes.now c.args.scopes.now c.args.checker.now c.breaking.new.checker c.breaking.result
    (ap plain_form c.in-Break.is ∙ F.seen_Break same _ ∙ ap p.Break (sym c.as_slice-in-Break.ensures)) c.breaking.ensures

pub returns-in-BreakWith : goal.returns-in-BreakWith
returns-in-BreakWith g c =
    of_form c.args.lists.now.layer.site (plain_form c.args.form.now) _ c.args.scopes.now c.breaking_with.new.scopes c.args.checker.now c.breaking_with.new.checker c.breaking_with.result
    (ap plain_form c.in-BreakWith.is ∙ F.seen_BreakWith same _ _ ∙ ap (λ (z : Bytes). p.BreakWith z (plain c.in-BreakWith.a)) (sym c.as_slice-in-BreakWith.ensures)) c.breaking_with.ensures

pub returns-in-Continue : goal.returns-in-Continue
returns-in-Continue g c =
    of_form c.args.lists.now.layer.site (plain_form c.args.form.now) _ c.args.scopes.now c.args.scopes.now c.args.checker.now c.continuing.new.checker c.continuing.result
    (ap plain_form c.in-Continue.is ∙ F.seen_Continue same _ ∙ ap p.Continue (sym c.as_slice-in-Continue.ensures)) c.continuing.ensures

pub returns-in-Return : goal.returns-in-Return
returns-in-Return g c =
    of_form c.args.lists.now.layer.site (plain_form c.args.form.now) _ c.args.scopes.now c.args.scopes.now c.args.checker.now c.returning.new.checker c.returning.result
    (ap plain_form c.in-Return.is ∙ F.seen_Return same) c.returning.ensures

pub returns-in-ReturnWith : goal.returns-in-ReturnWith
returns-in-ReturnWith g c =
    of_form c.args.lists.now.layer.site (plain_form c.args.form.now) _ c.args.scopes.now c.returning_with.new.scopes c.args.checker.now c.returning_with.new.checker c.returning_with.result
    (ap plain_form c.in-ReturnWith.is ∙ F.seen_ReturnWith same _) c.returning_with.ensures

pub returns-in-Throw : goal.returns-in-Throw
returns-in-Throw g c =
    of_form c.args.lists.now.layer.site (plain_form c.args.form.now) _ c.args.scopes.now c.throwing.new.scopes c.args.checker.now c.throwing.new.checker c.throwing.result
    (ap plain_form c.in-Throw.is ∙ F.seen_Throw same _) c.throwing.ensures

pub returns-in-Do : goal.returns-in-Do
returns-in-Do g c =
    of_form c.args.lists.now.layer.site (plain_form c.args.form.now) _ c.args.scopes.now c.grouping.new.scopes c.args.checker.now c.grouping.new.checker c.grouping.result
    (ap plain_form c.in-Do.is ∙ F.seen_Do same _) c.grouping.ensures

pub returns-in-DoOption : goal.returns-in-DoOption
returns-in-DoOption g c =
    of_form c.args.lists.now.layer.site (plain_form c.args.form.now) _ c.args.scopes.now c.do_option.new.scopes c.args.checker.now c.do_option.new.checker c.do_option.result
    (ap plain_form c.in-DoOption.is ∙ F.seen_DoOption same _) c.do_option.ensures

pub returns-in-Bang : goal.returns-in-Bang
returns-in-Bang g c =
    of_form c.args.lists.now.layer.site (plain_form c.args.form.now) _ c.args.scopes.now c.bang.new.scopes c.args.checker.now c.bang.new.checker c.bang.result
    (ap plain_form c.in-Bang.is ∙ F.seen_Bang same _) c.bang.ensures

pub returns-in-Block : goal.returns-in-Block
returns-in-Block g c =
    of_form c.args.lists.now.layer.site (plain_form c.args.form.now) _ c.args.scopes.now c.block.new.scopes c.args.checker.now c.block.new.checker c.block.result
    (ap plain_form c.in-Block.is ∙ F.seen_Block same _ ∙ ap (λ xs. p.Block (seen_list xs)) (sym c.as_slice-in-Block.ensures)) c.block.ensures

pub returns-in-Function : goal.returns-in-Function
returns-in-Function g c =
    of_form c.args.lists.now.layer.site (plain_form c.args.form.now) _ c.args.scopes.now c.function.new.scopes c.args.checker.now c.function.new.checker c.function.result
    (ap plain_form c.in-Function.is ∙ F.seen_Function same _ _) c.function.ensures

pub returns-in-ObjectBlock : goal.returns-in-ObjectBlock
returns-in-ObjectBlock g c =
    of_form c.args.lists.now.layer.site (plain_form c.args.form.now) _ c.args.scopes.now c.object_block.new.scopes c.args.checker.now c.object_block.new.checker c.object_block.result
    (ap plain_form c.in-ObjectBlock.is ∙ F.seen_ObjectBlock same _ ∙ ap (λ xs. p.ObjectBlock (seen_list xs)) (sym c.as_slice-in-ObjectBlock.ensures)) c.object_block.ensures

pub returns-in-Assert : goal.returns-in-Assert
returns-in-Assert g c =
    of_form c.args.lists.now.layer.site (plain_form c.args.form.now) _ c.args.scopes.now c.assertion.new.scopes c.args.checker.now c.assertion.new.checker c.assertion.result
    (ap plain_form c.in-Assert.is ∙ F.seen_Assert same _) c.assertion.ensures

pub returns-in-Ignore : goal.returns-in-Ignore
returns-in-Ignore g c =
    of_form c.args.lists.now.layer.site (plain_form c.args.form.now) _ c.args.scopes.now c.ignoring.new.scopes c.args.checker.now c.ignoring.new.checker c.ignoring.result
    (ap plain_form c.in-Ignore.is ∙ F.seen_Ignore same _) c.ignoring.ensures

pub returns-in-Debug : goal.returns-in-Debug
returns-in-Debug g c =
    of_form c.args.lists.now.layer.site (plain_form c.args.form.now) _ c.args.scopes.now c.debugging.new.scopes c.args.checker.now c.debugging.new.checker c.debugging.result
    (ap plain_form c.in-Debug.is ∙ F.seen_Debug same _) c.debugging.ensures

pub returns-in-ActorReference : goal.returns-in-ActorReference
returns-in-ActorReference g c =
    of_form c.args.lists.now.layer.site (plain_form c.args.form.now) _ c.args.scopes.now c.args.scopes.now c.args.checker.now c.args.checker.now c.actor_reference.result
    (ap plain_form c.in-ActorReference.is ∙ F.seen_ActorReference same _ ∙ ap p.ActorReference (sym c.as_slice-in-ActorReference.ensures)) c.actor_reference.ensures

pub returns-in-Await : goal.returns-in-Await
returns-in-Await g c =
    of_form c.args.lists.now.layer.site (plain_form c.args.form.now) _ c.args.scopes.now c.awaiting.new.scopes c.args.checker.now c.awaiting.new.checker c.awaiting.result
    (ap plain_form c.in-Await.is ∙ F.seen_Await same _) c.awaiting.ensures

pub returns-in-BuiltIn : goal.returns-in-BuiltIn
returns-in-BuiltIn g c =
    of_form c.args.lists.now.layer.site (plain_form c.args.form.now) _ c.args.scopes.now c.args.scopes.now c.args.checker.now c.given_member.new.checker c.given_member.result
    (ap plain_form c.in-BuiltIn.is ∙ F.seen_BuiltIn same _) c.given_member.ensures

pub returns-in-Subsumed : goal.returns-in-Subsumed
returns-in-Subsumed g c =
    of_form c.args.lists.now.layer.site (plain_form c.args.form.now) _ c.args.scopes.now c.as_wanted.new.scopes c.args.checker.now c.as_wanted.new.checker c.as_wanted.result
    (ap plain_form c.in-Subsumed.is ∙ F.seen_Subsumed same _) c.as_wanted.ensures.answer
