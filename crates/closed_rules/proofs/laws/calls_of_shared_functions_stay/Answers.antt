use Rattle.closed_rules.proofs.Constants.{send_stays}
use Rattle.closed_rules.proofs.laws.calls_of_shared_functions_stay.Goals as goal

pub returns : goal.returns
returns g = λ types first past lawful x ps rs ws w h. send_stays types first past lawful x ps rs ws w h
