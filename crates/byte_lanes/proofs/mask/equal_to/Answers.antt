use Rattle.byte_lanes.proofs.MaskLemmas.{of_byte}
use Rattle.byte_lanes.proofs.mask.equal_to.Goals as goal

pub returns : goal.returns
returns c = of_byte _ c.args.bytes.now c.args.at c.args.byte c.requires
