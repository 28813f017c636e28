use Rattle.sized_sources.proofs.Sized.{written_out_programs_are_sized}
use Rattle.sized_sources.proofs.laws.written_out_programs_are_sized.Goals as goal

pub returns : goal.returns
returns c = written_out_programs_are_sized
