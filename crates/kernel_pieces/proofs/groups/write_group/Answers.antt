use Rattle.std.proofs.Common.{◌∙◌, List, ap}
use Rattle.typing_rules.specs.AbstractSyntax.{Bytes}
use Rattle.desugaring.specs.Frames.{with_names}
use Rattle.kernel_pieces.specs.Ordered.{group_in}
use Rattle.kernel_pieces.proofs.Grouped.{group_written}
use Rattle.kernel_pieces.proofs.groups.write_group.Goals as goal

pub returns : goal.returns
returns g c =
    let s = c.args.lists.now.layer.types.now in
    group_written c.push_group.result (group_in s c.args.declarations.now c.args.indexes.now) c.args.steps.now c.push_group.new.steps c.args.frames.now c.push_names.new.self c.group_functions.new.frames c.in_ok-names.names c.in_ok-functions.functions
    (c.in_ok-names.ensures s) (c.in_ok-push_names.ensures ∙ ap (λ (l : List Bytes). with_names l c.args.frames.now) c.as_slice.ensures) c.in_ok-functions.ensures.made c.in_ok-functions.ensures.same c.push_group.ensures
