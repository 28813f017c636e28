use Rattle.closed_types.proofs.Environments.{below_there, same_there}
use Rattle.closed_types.proofs.laws.environments_keep_subtyping.Goals as goal

pub returns-clause-below : goal.returns-clause-below
returns-clause-below g = λ types first past lawful scope e around t u s. below_there types first past lawful scope e around t u s

pub returns-clause-inside : goal.returns-clause-inside
returns-clause-inside g = λ types first past lawful scope e at inside t m. same_there types first past lawful scope e at inside t m
