use Rattle.block_laws.proofs.Signing.{lists_are_signed}
use Rattle.block_laws.proofs.laws.lists_are_signed.Goals as goal

pub returns : goal.returns
returns c = lists_are_signed
