use Rattle.type_definitions.proofs.Different.{terms_apart}
use Rattle.type_definitions.proofs.laws.terms_are_different.Goals as goal

pub returns : goal.returns
returns c = terms_apart
