use Rattle.std.proofs.Common.{false, refl}
use Rattle.kernel_pieces.proofs.Whole.{whole_is}
use Rattle.kernel_pieces.proofs.lists.whole.Goals as goal

pub returns : goal.returns
returns g c =
    whole_is c.args.lists.now.layer.types.now c.args.declarations.now c.args.groups.now c.requires.groups c.at.result.now c.new-steps.result c.write_places.new.steps c.write_group.new.steps c.args.frames.now c.write_places.new.frames c.write_group.new.frames
    c.new-steps.ensures _ refl refl (c.in_ok-write_places.ensures false) c.at.ensures c.in_ok-write_group.ensures
