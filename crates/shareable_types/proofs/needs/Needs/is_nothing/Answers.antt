use Rattle.shareable_types.proofs.Deciding.{nothing_is}
use Rattle.shareable_types.proofs.needs.Needs.is_nothing.Goals as goal

pub returns-then-not-self : goal.returns-then-not-self
returns-then-not-self c = nothing_is c.args.self.now c.is_empty.result c.if-not-self.true c.is_empty.ensures
