use Rattle.std.proofs.Common.{refl}
use Rattle.desugaring.proofs.rows.hidden_names_are_not_found.Goals as goal

pub returns : goal.returns
returns c = refl
