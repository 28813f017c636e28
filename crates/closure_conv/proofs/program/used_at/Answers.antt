use Rattle.std.proofs.Common.{◌∙◌, sym}
use Rattle.closure_conv.proofs.UseSets.{kept_at, none_at}
use Rattle.closure_conv.proofs.program.used_at.Goals as goal

pub returns-in-Some : goal.returns-in-Some
returns-in-Some c = let l = c.in-Some.ensures.lookup in kept_at c.args.needs.now c.args.number c.in-Some.used.now (l.3).0 (l.1)

pub returns-in-None : goal.returns-in-None
returns-in-None c = let l = c.in-None.ensures.lookup in c.requires ∙ sym (none_at c.args.needs.now c.args.number (l.3))
