use Rattle.std.proofs.Common.{sym, ◌∙◌}
use Rattle.core_members.proofs.Listing.{amount_is}
use Rattle.core_members.proofs.calls.amount.Goals as goal

pub returns-in-Ok : goal.returns-in-Ok
returns-in-Ok c = c.in-Ok.ensures.1 ∙ sym (amount_is c.args.operands.now)
