use Rattle.block_laws.proofs.Listing.{lists_are_made}
use Rattle.block_laws.proofs.laws.lists_are_made.Goals as goal

pub returns : goal.returns
returns c = lists_are_made
