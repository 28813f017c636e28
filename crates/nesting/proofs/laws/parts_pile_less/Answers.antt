use Rattle.nesting.proofs.Piles.{parts_pile_less}
use Rattle.nesting.proofs.laws.parts_pile_less.Goals as goal

pub returns : goal.returns
returns c = parts_pile_less
