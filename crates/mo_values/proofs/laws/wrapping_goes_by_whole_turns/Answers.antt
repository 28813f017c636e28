use Rattle.mo_values.proofs.Wrapped.{is_wrapped}
use Rattle.mo_values.proofs.laws.wrapping_goes_by_whole_turns.Goals as goal

pub returns : goal.returns
returns c = λ kind n. is_wrapped kind n
