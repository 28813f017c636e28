use Rattle.declaration_laws.proofs.Signing.{signatures_are_known}
use Rattle.declaration_laws.proofs.laws.signatures_are_known.Goals as goal

pub returns : goal.returns
returns c = signatures_are_known
