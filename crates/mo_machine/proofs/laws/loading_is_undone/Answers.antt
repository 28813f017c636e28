use Rattle.mo_machine.proofs.Unloaded.{unload_load}
use Rattle.mo_machine.proofs.laws.loading_is_undone.Goals as goal

pub returns : goal.returns
returns c = λ v. unload_load v
