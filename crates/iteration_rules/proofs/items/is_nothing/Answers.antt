use Rattle.std.proofs.Common.{Some, None, sym}
use Rattle.std.specs.Prelude.{cond}
use Rattle.iteration_rules.proofs.ItemParts.{nothing_is}
use Rattle.iteration_rules.proofs.items.is_nothing.Goals as goal

pub returns-in-Some : goal.returns-in-Some
returns-in-Some c = nothing_is c.args.types.now c.args.id c.in-Some.node.now (cond c.is_nothing_at.result (Some tt) None) c.in-Some.ensures.there (sym c.is_nothing_at.ensures)

pub returns-in-None : goal.returns-in-None
returns-in-None c = absurd (c.in-None.ensures.missing c.requires.reached)
