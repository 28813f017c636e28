use Rattle.first_run_time.proofs.Replied.{short_trapped}
use Rattle.first_run_time.proofs.laws.short_arguments_trap.Goals as goal

pub returns : goal.returns
returns c = short_trapped
