use Rattle.std.proofs.Common.{true, refl}
use Rattle.kernel_pieces.proofs.Whole.{valued_is}
use Rattle.kernel_pieces.proofs.lists.valued.Goals as goal

pub returns : goal.returns
returns g c =
    valued_is c.args.lists.now.layer.types.now c.args.declarations.now c.args.groups.now c.requires.groups c.at.result.now c.new-steps.result c.write_places.new.steps c.write_group.new.steps c.args.frames.now c.write_places.new.frames c.write_group.new.frames
    c.new-steps.ensures _ c.args.value.now c.in_ok-last.last c.part.new.frames c.requires.ends refl refl c.in_ok-last.ensures.made c.in_ok-last.ensures.same (c.in_ok-write_places.ensures true) c.at.ensures c.in_ok-write_group.ensures
