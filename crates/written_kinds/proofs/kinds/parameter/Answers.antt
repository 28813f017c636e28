use Rattle.written_kinds.proofs.Forms.{parameter_written}
use Rattle.written_kinds.proofs.kinds.parameter.Goals as goal

pub returns : goal.returns
returns c = parameter_written c.args.types.now c.intern.new.types c.intern.result c.requires c.args.at c.intern.ensures
