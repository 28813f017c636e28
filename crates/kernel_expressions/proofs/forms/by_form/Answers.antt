use Rattle.std.proofs.Common.{◌∙◌, ap, map, option_map, sym}
use Rattle.typing_rules.specs.AbstractSyntax as p
use Rattle.typing_rules.specs.AbstractSyntax.{Bytes}
use Rattle.abstract_types.specs.TypeView.{annotation, type_node}
use Rattle.abstract_tree.specs.TreeView.{case, cases, declaration, declarations, expression, expression_form, fields, listed, object_field}
use Rattle.value_scopes.specs.Values.{noted}
use Rattle.judged_parts.proofs.TreeViews as V
use Rattle.kernel_expressions.proofs.ByForm.{of_form}
use Rattle.kernel_expressions.proofs.forms.by_form.Goals as goal

pub returns-in-Constant-clause-made : goal.returns-in-Constant-clause-made
returns-in-Constant-clause-made g c =
    of_form c.args.lists.now.layer.types.now c.args.frames.now c.args.note (expression_form (noted c.args.lists.now.layer.types.now.forms) c.args.form.now) _ c.constant.result
    (ap (expression_form (noted c.args.lists.now.layer.types.now.forms)) c.in-Constant.is ∙ V.seen_Constant (noted c.args.lists.now.layer.types.now.forms) _) (c.constant.ensures c.args.frames.now)

pub returns-in-Name-clause-made : goal.returns-in-Name-clause-made
returns-in-Name-clause-made g c =
    of_form c.args.lists.now.layer.types.now c.args.frames.now c.args.note (expression_form (noted c.args.lists.now.layer.types.now.forms) c.args.form.now) _ c.name.result
    (ap (expression_form (noted c.args.lists.now.layer.types.now.forms)) c.in-Name.is ∙ V.seen_Name (noted c.args.lists.now.layer.types.now.forms) _ ∙ ap p.Name (sym c.as_slice.ensures)) c.name.ensures

pub returns-in-Tuple-clause-made : goal.returns-in-Tuple-clause-made
returns-in-Tuple-clause-made g c =
    of_form c.args.lists.now.layer.types.now c.args.frames.now c.args.note (expression_form (noted c.args.lists.now.layer.types.now.forms) c.args.form.now) _ c.tuple.result
    (ap (expression_form (noted c.args.lists.now.layer.types.now.forms)) c.in-Tuple.is ∙ V.seen_Tuple (noted c.args.lists.now.layer.types.now.forms) _ ∙ ap (λ xs. p.Tuple (listed (map (expression (noted c.args.lists.now.layer.types.now.forms)) xs))) (sym c.as_slice-in-Tuple.ensures)) c.tuple.ensures.made

pub returns-in-Optional-clause-made : goal.returns-in-Optional-clause-made
returns-in-Optional-clause-made g c =
    of_form c.args.lists.now.layer.types.now c.args.frames.now c.args.note (expression_form (noted c.args.lists.now.layer.types.now.forms) c.args.form.now) _ c.option_of.result
    (ap (expression_form (noted c.args.lists.now.layer.types.now.forms)) c.in-Optional.is ∙ V.seen_Optional (noted c.args.lists.now.layer.types.now.forms) _) c.option_of.ensures.made

pub returns-in-Tag-clause-made : goal.returns-in-Tag-clause-made
returns-in-Tag-clause-made g c =
    of_form c.args.lists.now.layer.types.now c.args.frames.now c.args.note (expression_form (noted c.args.lists.now.layer.types.now.forms) c.args.form.now) _ c.tag.result
    (ap (expression_form (noted c.args.lists.now.layer.types.now.forms)) c.in-Tag.is ∙ V.seen_Tag (noted c.args.lists.now.layer.types.now.forms) _ ∙ ap p.Tag (sym c.as_slice-in-Tag.ensures)) (c.tag.ensures c.args.frames.now)

pub returns-in-Tagged-clause-made : goal.returns-in-Tagged-clause-made
returns-in-Tagged-clause-made g c =
    of_form c.args.lists.now.layer.types.now c.args.frames.now c.args.note (expression_form (noted c.args.lists.now.layer.types.now.forms) c.args.form.now) _ c.tagged.result
    (ap (expression_form (noted c.args.lists.now.layer.types.now.forms)) c.in-Tagged.is ∙ V.seen_Tagged (noted c.args.lists.now.layer.types.now.forms) _ _ ∙ ap (λ (z : Bytes). p.Tagged z (expression (noted c.args.lists.now.layer.types.now.forms) c.in-Tagged.a)) (sym c.as_slice-in-Tagged.ensures)) c.tagged.ensures.made

pub returns-in-Array-clause-made : goal.returns-in-Array-clause-made
returns-in-Array-clause-made g c =
    of_form c.args.lists.now.layer.types.now c.args.frames.now c.args.note (expression_form (noted c.args.lists.now.layer.types.now.forms) c.args.form.now) _ c.array.result
    (ap (expression_form (noted c.args.lists.now.layer.types.now.forms)) c.in-Array.is ∙ V.seen_Array (noted c.args.lists.now.layer.types.now.forms) _ _ ∙ ap (λ xs. p.Array c.in-Array.mutable (listed (map (expression (noted c.args.lists.now.layer.types.now.forms)) xs))) (sym c.as_slice-in-Array.ensures)) c.array.ensures.made

pub returns-in-Object-clause-made : goal.returns-in-Object-clause-made
returns-in-Object-clause-made g c =
    of_form c.args.lists.now.layer.types.now c.args.frames.now c.args.note (expression_form (noted c.args.lists.now.layer.types.now.forms) c.args.form.now) _ c.object.result
    (ap (expression_form (noted c.args.lists.now.layer.types.now.forms)) c.in-Object.is ∙ V.seen_Object (noted c.args.lists.now.layer.types.now.forms) _ ∙ ap (λ xs. p.Object (fields (map (object_field (noted c.args.lists.now.layer.types.now.forms)) xs))) (sym c.as_slice-in-Object.ensures)) c.object.ensures.made

pub returns-in-Member-clause-made : goal.returns-in-Member-clause-made
returns-in-Member-clause-made g c =
    of_form c.args.lists.now.layer.types.now c.args.frames.now c.args.note (expression_form (noted c.args.lists.now.layer.types.now.forms) c.args.form.now) _ c.member.result
    (ap (expression_form (noted c.args.lists.now.layer.types.now.forms)) c.in-Member.is ∙ V.seen_Member (noted c.args.lists.now.layer.types.now.forms) _ _ ∙ ap (λ (z : Bytes). p.Member (expression (noted c.args.lists.now.layer.types.now.forms) c.in-Member.a) z) (sym c.as_slice-in-Member.ensures)) c.member.ensures.made

pub returns-in-Projection-clause-made : goal.returns-in-Projection-clause-made
returns-in-Projection-clause-made g c =
    of_form c.args.lists.now.layer.types.now c.args.frames.now c.args.note (expression_form (noted c.args.lists.now.layer.types.now.forms) c.args.form.now) _ c.projection.result
    (ap (expression_form (noted c.args.lists.now.layer.types.now.forms)) c.in-Projection.is ∙ V.seen_Projection (noted c.args.lists.now.layer.types.now.forms) _ _) c.projection.ensures.made

pub returns-in-Index-clause-made : goal.returns-in-Index-clause-made
returns-in-Index-clause-made g c =
    of_form c.args.lists.now.layer.types.now c.args.frames.now c.args.note (expression_form (noted c.args.lists.now.layer.types.now.forms) c.args.form.now) _ c.index.result
    (ap (expression_form (noted c.args.lists.now.layer.types.now.forms)) c.in-Index.is ∙ V.seen_Index (noted c.args.lists.now.layer.types.now.forms) _ _) c.index.ensures.made

pub returns-in-Annotated-clause-made : goal.returns-in-Annotated-clause-made
returns-in-Annotated-clause-made g c =
    of_form c.args.lists.now.layer.types.now c.args.frames.now c.args.note (expression_form (noted c.args.lists.now.layer.types.now.forms) c.args.form.now) _ c.annotated.result
    (ap (expression_form (noted c.args.lists.now.layer.types.now.forms)) c.in-Annotated.is ∙ V.seen_Annotated (noted c.args.lists.now.layer.types.now.forms) _ _) c.annotated.ensures.made

pub returns-in-Negative-clause-made : goal.returns-in-Negative-clause-made
returns-in-Negative-clause-made g c =
    of_form c.args.lists.now.layer.types.now c.args.frames.now c.args.note (expression_form (noted c.args.lists.now.layer.types.now.forms) c.args.form.now) _ c.negative.result
    (ap (expression_form (noted c.args.lists.now.layer.types.now.forms)) c.in-Negative.is ∙ V.seen_Negative (noted c.args.lists.now.layer.types.now.forms) _) c.negative.ensures.made

pub returns-in-Binary-clause-made : goal.returns-in-Binary-clause-made
returns-in-Binary-clause-made g c =
    of_form c.args.lists.now.layer.types.now c.args.frames.now c.args.note (expression_form (noted c.args.lists.now.layer.types.now.forms) c.args.form.now) _ c.binary.result
    (ap (expression_form (noted c.args.lists.now.layer.types.now.forms)) c.in-Binary.is ∙ V.seen_Binary (noted c.args.lists.now.layer.types.now.forms) _ _ _) c.binary.ensures.made

pub returns-in-Not-clause-made : goal.returns-in-Not-clause-made
returns-in-Not-clause-made g c =
    of_form c.args.lists.now.layer.types.now c.args.frames.now c.args.note (expression_form (noted c.args.lists.now.layer.types.now.forms) c.args.form.now) _ c.negation.result
    (ap (expression_form (noted c.args.lists.now.layer.types.now.forms)) c.in-Not.is ∙ V.seen_Not (noted c.args.lists.now.layer.types.now.forms) _) c.negation.ensures.made

pub returns-in-Assign-clause-made : goal.returns-in-Assign-clause-made
returns-in-Assign-clause-made g c =
    of_form c.args.lists.now.layer.types.now c.args.frames.now c.args.note (expression_form (noted c.args.lists.now.layer.types.now.forms) c.args.form.now) _ c.assign.result
    (ap (expression_form (noted c.args.lists.now.layer.types.now.forms)) c.in-Assign.is ∙ V.seen_Assign (noted c.args.lists.now.layer.types.now.forms) _ _) c.assign.ensures.made

pub returns-in-AssignBy-clause-made : goal.returns-in-AssignBy-clause-made
returns-in-AssignBy-clause-made g c =
    of_form c.args.lists.now.layer.types.now c.args.frames.now c.args.note (expression_form (noted c.args.lists.now.layer.types.now.forms) c.args.form.now) _ c.assign_by.result
    (ap (expression_form (noted c.args.lists.now.layer.types.now.forms)) c.in-AssignBy.is ∙ V.seen_AssignBy (noted c.args.lists.now.layer.types.now.forms) _ _ _) c.assign_by.ensures.made

pub returns-in-Call-clause-made : goal.returns-in-Call-clause-made
returns-in-Call-clause-made g c =
    of_form c.args.lists.now.layer.types.now c.args.frames.now c.args.note (expression_form (noted c.args.lists.now.layer.types.now.forms) c.args.form.now) _ c.calling.result
    (ap (expression_form (noted c.args.lists.now.layer.types.now.forms)) c.in-Call.is ∙ V.seen_Call (noted c.args.lists.now.layer.types.now.forms) _ _ _ ∙ ap (λ xs. p.Call (expression (noted c.args.lists.now.layer.types.now.forms) c.in-Call.called) (option_map (map type_node) c.in-Call.types) (listed (map (expression (noted c.args.lists.now.layer.types.now.forms)) xs))) (sym c.as_slice-in-Call.ensures)) c.calling.ensures.made

pub returns-in-When-clause-made : goal.returns-in-When-clause-made
returns-in-When-clause-made g c =
    of_form c.args.lists.now.layer.types.now c.args.frames.now c.args.note (expression_form (noted c.args.lists.now.layer.types.now.forms) c.args.form.now) _ c.when.result
    (ap (expression_form (noted c.args.lists.now.layer.types.now.forms)) c.in-When.is ∙ V.seen_When (noted c.args.lists.now.layer.types.now.forms) _ _) c.when.ensures.made

pub returns-in-If-clause-made : goal.returns-in-If-clause-made
returns-in-If-clause-made g c =
    of_form c.args.lists.now.layer.types.now c.args.frames.now c.args.note (expression_form (noted c.args.lists.now.layer.types.now.forms) c.args.form.now) _ c.conditional.result
    (ap (expression_form (noted c.args.lists.now.layer.types.now.forms)) c.in-If.is ∙ V.seen_If (noted c.args.lists.now.layer.types.now.forms) _ _ _) c.conditional.ensures.made

pub returns-in-Switch-clause-made : goal.returns-in-Switch-clause-made
returns-in-Switch-clause-made g c =
    of_form c.args.lists.now.layer.types.now c.args.frames.now c.args.note (expression_form (noted c.args.lists.now.layer.types.now.forms) c.args.form.now) _ c.switching.result
    (ap (expression_form (noted c.args.lists.now.layer.types.now.forms)) c.in-Switch.is ∙ V.seen_Switch (noted c.args.lists.now.layer.types.now.forms) _ _ ∙ ap (λ xs. p.Switch (expression (noted c.args.lists.now.layer.types.now.forms) c.in-Switch.a) (cases (map (case (noted c.args.lists.now.layer.types.now.forms)) xs))) (sym c.as_slice-in-Switch.ensures)) c.switching.ensures.made

pub returns-in-Try-clause-made : goal.returns-in-Try-clause-made
returns-in-Try-clause-made g c =
    of_form c.args.lists.now.layer.types.now c.args.frames.now c.args.note (expression_form (noted c.args.lists.now.layer.types.now.forms) c.args.form.now) _ c.trying.result
    (ap (expression_form (noted c.args.lists.now.layer.types.now.forms)) c.in-Try.is ∙ V.seen_Try (noted c.args.lists.now.layer.types.now.forms) _ _ _) c.trying.ensures.made

pub returns-in-While-clause-made : goal.returns-in-While-clause-made
returns-in-While-clause-made g c =
    of_form c.args.lists.now.layer.types.now c.args.frames.now c.args.note (expression_form (noted c.args.lists.now.layer.types.now.forms) c.args.form.now) _ c.while_loop.result
    (ap (expression_form (noted c.args.lists.now.layer.types.now.forms)) c.in-While.is ∙ V.seen_While (noted c.args.lists.now.layer.types.now.forms) _ _) c.while_loop.ensures.made

pub returns-in-Loop-clause-made : goal.returns-in-Loop-clause-made
returns-in-Loop-clause-made g c =
    of_form c.args.lists.now.layer.types.now c.args.frames.now c.args.note (expression_form (noted c.args.lists.now.layer.types.now.forms) c.args.form.now) _ c.endless_loop.result
    (ap (expression_form (noted c.args.lists.now.layer.types.now.forms)) c.in-Loop.is ∙ V.seen_Loop (noted c.args.lists.now.layer.types.now.forms) _) c.endless_loop.ensures.made

pub returns-in-LoopWhile-clause-made : goal.returns-in-LoopWhile-clause-made
returns-in-LoopWhile-clause-made g c =
    of_form c.args.lists.now.layer.types.now c.args.frames.now c.args.note (expression_form (noted c.args.lists.now.layer.types.now.forms) c.args.form.now) _ c.loop_while.result
    (ap (expression_form (noted c.args.lists.now.layer.types.now.forms)) c.in-LoopWhile.is ∙ V.seen_LoopWhile (noted c.args.lists.now.layer.types.now.forms) _ _) c.loop_while.ensures.made

pub returns-in-For-clause-made : goal.returns-in-For-clause-made
returns-in-For-clause-made g c =
    of_form c.args.lists.now.layer.types.now c.args.frames.now c.args.note (expression_form (noted c.args.lists.now.layer.types.now.forms) c.args.form.now) _ c.iterating.result
    (ap (expression_form (noted c.args.lists.now.layer.types.now.forms)) c.in-For.is ∙ V.seen_For (noted c.args.lists.now.layer.types.now.forms) _ _ _) c.iterating.ensures.made

pub returns-in-Label-clause-made : goal.returns-in-Label-clause-made
returns-in-Label-clause-made g c =
    of_form c.args.lists.now.layer.types.now c.args.frames.now c.args.note (expression_form (noted c.args.lists.now.layer.types.now.forms) c.args.form.now) _ c.labelled.result
    (ap (expression_form (noted c.args.lists.now.layer.types.now.forms)) c.in-Label.is ∙ V.seen_Label (noted c.args.lists.now.layer.types.now.forms) _ _ _ ∙ ap (λ (z : Bytes). p.Label z (annotation c.in-Label.written) (expression (noted c.args.lists.now.layer.types.now.forms) c.in-Label.a)) (sym c.as_slice-in-Label.ensures)) c.labelled.ensures.made

pub returns-in-Break-clause-made : goal.returns-in-Break-clause-made
returns-in-Break-clause-made g c =
    of_form c.args.lists.now.layer.types.now c.args.frames.now c.args.note (expression_form (noted c.args.lists.now.layer.types.now.forms) c.args.form.now) _ c.breaking.result
    (ap (expression_form (noted c.args.lists.now.layer.types.now.forms)) c.in-Break.is ∙ V.seen_Break (noted c.args.lists.now.layer.types.now.forms) _ ∙ ap p.Break (sym c.as_slice-in-Break.ensures)) c.breaking.ensures

pub returns-in-BreakWith-clause-made : goal.returns-in-BreakWith-clause-made
returns-in-BreakWith-clause-made g c =
    of_form c.args.lists.now.layer.types.now c.args.frames.now c.args.note (expression_form (noted c.args.lists.now.layer.types.now.forms) c.args.form.now) _ c.breaking_with.result
    (ap (expression_form (noted c.args.lists.now.layer.types.now.forms)) c.in-BreakWith.is ∙ V.seen_BreakWith (noted c.args.lists.now.layer.types.now.forms) _ _ ∙ ap (λ (z : Bytes). p.BreakWith z (expression (noted c.args.lists.now.layer.types.now.forms) c.in-BreakWith.a)) (sym c.as_slice-in-BreakWith.ensures)) c.breaking_with.ensures.made

pub returns-in-Continue-clause-made : goal.returns-in-Continue-clause-made
returns-in-Continue-clause-made g c =
    of_form c.args.lists.now.layer.types.now c.args.frames.now c.args.note (expression_form (noted c.args.lists.now.layer.types.now.forms) c.args.form.now) _ c.continuing.result
    (ap (expression_form (noted c.args.lists.now.layer.types.now.forms)) c.in-Continue.is ∙ V.seen_Continue (noted c.args.lists.now.layer.types.now.forms) _ ∙ ap p.Continue (sym c.as_slice-in-Continue.ensures)) c.continuing.ensures

pub returns-in-Return-clause-made : goal.returns-in-Return-clause-made
returns-in-Return-clause-made g c =
    of_form c.args.lists.now.layer.types.now c.args.frames.now c.args.note (expression_form (noted c.args.lists.now.layer.types.now.forms) c.args.form.now) _ c.returning.result
    (ap (expression_form (noted c.args.lists.now.layer.types.now.forms)) c.in-Return.is ∙ V.seen_Return (noted c.args.lists.now.layer.types.now.forms)) c.returning.ensures

pub returns-in-ReturnWith-clause-made : goal.returns-in-ReturnWith-clause-made
returns-in-ReturnWith-clause-made g c =
    of_form c.args.lists.now.layer.types.now c.args.frames.now c.args.note (expression_form (noted c.args.lists.now.layer.types.now.forms) c.args.form.now) _ c.returning_with.result
    (ap (expression_form (noted c.args.lists.now.layer.types.now.forms)) c.in-ReturnWith.is ∙ V.seen_ReturnWith (noted c.args.lists.now.layer.types.now.forms) _) c.returning_with.ensures.made

pub returns-in-Throw-clause-made : goal.returns-in-Throw-clause-made
returns-in-Throw-clause-made g c =
    of_form c.args.lists.now.layer.types.now c.args.frames.now c.args.note (expression_form (noted c.args.lists.now.layer.types.now.forms) c.args.form.now) _ c.throwing.result
    (ap (expression_form (noted c.args.lists.now.layer.types.now.forms)) c.in-Throw.is ∙ V.seen_Throw (noted c.args.lists.now.layer.types.now.forms) _) c.throwing.ensures.made

pub returns-in-Do-clause-made : goal.returns-in-Do-clause-made
returns-in-Do-clause-made g c =
    of_form c.args.lists.now.layer.types.now c.args.frames.now c.args.note (expression_form (noted c.args.lists.now.layer.types.now.forms) c.args.form.now) _ c.part.result
    (ap (expression_form (noted c.args.lists.now.layer.types.now.forms)) c.in-Do.is ∙ V.seen_Do (noted c.args.lists.now.layer.types.now.forms) _) c.part.ensures.made

pub returns-in-DoOption-clause-made : goal.returns-in-DoOption-clause-made
returns-in-DoOption-clause-made g c =
    of_form c.args.lists.now.layer.types.now c.args.frames.now c.args.note (expression_form (noted c.args.lists.now.layer.types.now.forms) c.args.form.now) _ c.do_option.result
    (ap (expression_form (noted c.args.lists.now.layer.types.now.forms)) c.in-DoOption.is ∙ V.seen_DoOption (noted c.args.lists.now.layer.types.now.forms) _) c.do_option.ensures.made

pub returns-in-Bang-clause-made : goal.returns-in-Bang-clause-made
returns-in-Bang-clause-made g c =
    of_form c.args.lists.now.layer.types.now c.args.frames.now c.args.note (expression_form (noted c.args.lists.now.layer.types.now.forms) c.args.form.now) _ c.bang.result
    (ap (expression_form (noted c.args.lists.now.layer.types.now.forms)) c.in-Bang.is ∙ V.seen_Bang (noted c.args.lists.now.layer.types.now.forms) _) c.bang.ensures.made

pub returns-in-Block-clause-made : goal.returns-in-Block-clause-made
returns-in-Block-clause-made g c =
    of_form c.args.lists.now.layer.types.now c.args.frames.now c.args.note (expression_form (noted c.args.lists.now.layer.types.now.forms) c.args.form.now) _ c.block.result
    (ap (expression_form (noted c.args.lists.now.layer.types.now.forms)) c.in-Block.is ∙ V.seen_Block (noted c.args.lists.now.layer.types.now.forms) _ ∙ ap (λ xs. p.Block (declarations (map (declaration (noted c.args.lists.now.layer.types.now.forms)) xs))) (sym c.as_slice-in-Block.ensures)) c.block.ensures.made

pub returns-in-Function-clause-made : goal.returns-in-Function-clause-made
returns-in-Function-clause-made g c =
    of_form c.args.lists.now.layer.types.now c.args.frames.now c.args.note (expression_form (noted c.args.lists.now.layer.types.now.forms) c.args.form.now) _ c.function.result
    (ap (expression_form (noted c.args.lists.now.layer.types.now.forms)) c.in-Function.is ∙ V.seen_Function (noted c.args.lists.now.layer.types.now.forms) _ _) c.function.ensures.made

pub returns-in-ObjectBlock-clause-made : goal.returns-in-ObjectBlock-clause-made
returns-in-ObjectBlock-clause-made g c =
    of_form c.args.lists.now.layer.types.now c.args.frames.now c.args.note (expression_form (noted c.args.lists.now.layer.types.now.forms) c.args.form.now) _ c.object_block.result
    (ap (expression_form (noted c.args.lists.now.layer.types.now.forms)) c.in-ObjectBlock.is ∙ V.seen_ObjectBlock (noted c.args.lists.now.layer.types.now.forms) _ ∙ ap (λ xs. p.ObjectBlock (declarations (map (declaration (noted c.args.lists.now.layer.types.now.forms)) xs))) (sym c.as_slice-in-ObjectBlock.ensures)) c.object_block.ensures.made

pub returns-in-Assert-clause-made : goal.returns-in-Assert-clause-made
returns-in-Assert-clause-made g c =
    of_form c.args.lists.now.layer.types.now c.args.frames.now c.args.note (expression_form (noted c.args.lists.now.layer.types.now.forms) c.args.form.now) _ c.assertion.result
    (ap (expression_form (noted c.args.lists.now.layer.types.now.forms)) c.in-Assert.is ∙ V.seen_Assert (noted c.args.lists.now.layer.types.now.forms) _) c.assertion.ensures.made

pub returns-in-Ignore-clause-made : goal.returns-in-Ignore-clause-made
returns-in-Ignore-clause-made g c =
    of_form c.args.lists.now.layer.types.now c.args.frames.now c.args.note (expression_form (noted c.args.lists.now.layer.types.now.forms) c.args.form.now) _ c.ignoring.result
    (ap (expression_form (noted c.args.lists.now.layer.types.now.forms)) c.in-Ignore.is ∙ V.seen_Ignore (noted c.args.lists.now.layer.types.now.forms) _) c.ignoring.ensures.made

pub returns-in-Debug-clause-made : goal.returns-in-Debug-clause-made
returns-in-Debug-clause-made g c =
    of_form c.args.lists.now.layer.types.now c.args.frames.now c.args.note (expression_form (noted c.args.lists.now.layer.types.now.forms) c.args.form.now) _ c.part-in-Debug.result
    (ap (expression_form (noted c.args.lists.now.layer.types.now.forms)) c.in-Debug.is ∙ V.seen_Debug (noted c.args.lists.now.layer.types.now.forms) _) c.part-in-Debug.ensures.made

pub returns-in-ActorReference-clause-made : goal.returns-in-ActorReference-clause-made
returns-in-ActorReference-clause-made g c =
    of_form c.args.lists.now.layer.types.now c.args.frames.now c.args.note (expression_form (noted c.args.lists.now.layer.types.now.forms) c.args.form.now) _ c.actor_reference.result
    (ap (expression_form (noted c.args.lists.now.layer.types.now.forms)) c.in-ActorReference.is ∙ V.seen_ActorReference (noted c.args.lists.now.layer.types.now.forms) _ ∙ ap p.ActorReference (sym c.as_slice-in-ActorReference.ensures)) (c.actor_reference.ensures c.args.frames.now)

pub returns-in-Await-clause-made : goal.returns-in-Await-clause-made
returns-in-Await-clause-made g c =
    of_form c.args.lists.now.layer.types.now c.args.frames.now c.args.note (expression_form (noted c.args.lists.now.layer.types.now.forms) c.args.form.now) _ c.awaiting.result
    (ap (expression_form (noted c.args.lists.now.layer.types.now.forms)) c.in-Await.is ∙ V.seen_Await (noted c.args.lists.now.layer.types.now.forms) _) c.awaiting.ensures.made

pub returns-in-BuiltIn-clause-made : goal.returns-in-BuiltIn-clause-made
returns-in-BuiltIn-clause-made g c =
    of_form c.args.lists.now.layer.types.now c.args.frames.now c.args.note (expression_form (noted c.args.lists.now.layer.types.now.forms) c.args.form.now) _ c.built_in_member.result
    (ap (expression_form (noted c.args.lists.now.layer.types.now.forms)) c.in-BuiltIn.is ∙ V.seen_BuiltIn (noted c.args.lists.now.layer.types.now.forms) _) (c.built_in_member.ensures c.args.frames.now)

pub returns-in-Subsumed-clause-made : goal.returns-in-Subsumed-clause-made
returns-in-Subsumed-clause-made g c =
    of_form c.args.lists.now.layer.types.now c.args.frames.now c.args.note (expression_form (noted c.args.lists.now.layer.types.now.forms) c.args.form.now) _ c.part-in-Subsumed.result
    (ap (expression_form (noted c.args.lists.now.layer.types.now.forms)) c.in-Subsumed.is ∙ V.seen_Subsumed (noted c.args.lists.now.layer.types.now.forms) _) c.part-in-Subsumed.ensures.made
