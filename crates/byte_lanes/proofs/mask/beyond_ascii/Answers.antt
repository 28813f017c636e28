use Rattle.std.proofs.Common.{leb}
use Rattle.byte_lanes.proofs.MaskLemmas.{of_byte_first}
use Rattle.byte_lanes.proofs.mask.beyond_ascii.Goals as goal

pub returns : goal.returns
returns c = of_byte_first leb c.args.bytes.now c.args.at 128 c.requires
