use Rattle.std.proofs.Common.{Bool}
use Rattle.kernel_pieces.proofs.Ordering.{on_place}
use Rattle.kernel_pieces.proofs.order.write_place.Goals as goal

pub returns : goal.returns
returns g c = λ (v : Bool).
    on_place c.args.lists.now.layer.types.now c.args.declarations.now v c.write_declaration.result c.args.index _ c.at.result.now c.args.groups.now c.args.steps.now c.write_group.new.steps c.write_declaration.new.steps
    c.args.frames.now c.write_group.new.frames c.write_declaration.new.frames c.requires.within c.index-declarations-index.is c.requires.groups c.at.ensures c.in_ok-write_group.ensures c.write_declaration.ensures
