use Rattle.std.proofs.Common.{refl}
use Rattle.typed_tree.proofs.OwnLabels.{labels_own}
use Rattle.closed_types.proofs.Expanded.{closing, expanded_closed, itself}
use Rattle.closed_types.proofs.laws.environments_close_types.Goals as goal

pub returns-clause-closing : goal.returns-clause-closing
returns-clause-closing g = λ types first past e. (closing types first past e, refl, refl)

pub returns-clause-closed : goal.returns-clause-closed
returns-clause-closed g = λ types first past lawful. expanded_closed types first past (labels_own types lawful)

pub returns-clause-itself : goal.returns-clause-itself
returns-clause-itself g = λ types first t l i. itself types first t l i
