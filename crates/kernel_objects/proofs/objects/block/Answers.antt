use Rattle.std.proofs.Common.{◌≡◌, ◌∙◌, List, true, Option, ap}
use Rattle.typed_tree.specs.declared.expression.Step.{Step}
use Rattle.typed_tree.specs.declared.expression.TypedExpression.{TypedExpression}
use Rattle.kernel_nodes.proofs.Rolling.{if_same}
use Rattle.kernel_parts.specs.Views.{list_of}
use Rattle.kernel_scopes.proofs.Around.{on_ok}
use Rattle.kernel_objects.specs.Objects.{block_at}
use Rattle.kernel_objects.proofs.Made.{back, cuts}
use Rattle.kernel_objects.proofs.objects.block.Goals as goal

pub truncate-requires : goal.truncate-requires
truncate-requires g c = cuts c.args.lists.now.layer.types.now true c.args.declarations.now c.args.frames.now c.list.new.frames c.in_ok-list.ensures.frame c.mark-mark.result c.mark-mark.ensures

pub returns-clause-made : goal.returns-clause-made
returns-clause-made g c =
    if_same c.block_value.result (block_at c.args.lists.now.layer.types.now c.args.note.kind c.in_ok-list.list.steps c.in_ok-list.list.last)
    (block_at c.args.lists.now.layer.types.now c.args.note.kind (list_of c.args.lists.now.layer.types.now c.args.frames.now true c.args.declarations.now).steps (list_of c.args.lists.now.layer.types.now c.args.frames.now true c.args.declarations.now).last)
    (ap (λ (l : List Step). block_at c.args.lists.now.layer.types.now c.args.note.kind l c.in_ok-list.list.last) c.in_ok-list.ensures.steps
    ∙ ap (λ (e : Option TypedExpression). block_at c.args.lists.now.layer.types.now c.args.note.kind (list_of c.args.lists.now.layer.types.now c.args.frames.now true c.args.declarations.now).steps e) c.in_ok-list.ensures.last) c.block_value.ensures

pub returns-clause-same : goal.returns-clause-same
returns-clause-same g c =
    on_ok c.block_value.result (c.truncate.new.self ≡ c.args.frames.now)
    (back c.args.lists.now.layer.types.now true c.args.declarations.now c.args.frames.now c.list.new.frames c.in_ok-list.ensures.frame c.mark-mark.result c.truncate.new.self c.mark-mark.ensures c.truncate.ensures.exits c.truncate.ensures.names)
