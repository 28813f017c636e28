use Rattle.emitted_modules.proofs.Standing.{functions_stand}
use Rattle.emitted_modules.proofs.laws.functions_stand.Goals as goal

pub returns : goal.returns
returns c = functions_stand
