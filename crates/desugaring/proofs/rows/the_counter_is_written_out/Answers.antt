use Rattle.desugaring.proofs.Counter.{written_out}
use Rattle.desugaring.proofs.rows.the_counter_is_written_out.Goals as goal

pub returns : goal.returns
returns c = written_out
