use Rattle.written_kinds.proofs.Forms.{unit_written}
use Rattle.written_kinds.proofs.kinds.unit.Goals as goal

pub returns : goal.returns
returns c = unit_written c.args.types.now c.intern.new.types c.intern.result c.requires c.new-nothing.result c.new-nothing.ensures c.intern.ensures
