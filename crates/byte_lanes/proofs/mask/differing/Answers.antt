use Rattle.byte_lanes.proofs.MaskLemmas.{of_two}
use Rattle.byte_lanes.proofs.mask.differing.Goals as goal

pub returns : goal.returns
returns c = of_two _ c.args.a.now c.args.b.now c.args.at c.requires.in_a c.requires.in_b
