use Rattle.std.proofs.Common.{◌∙◌, sym}
use Rattle.closure_conv.proofs.UseSets.{kept_at, none_at}
use Rattle.closure_conv.proofs.uses.needed.Goals as goal

pub returns-in-Some : goal.returns-in-Some
returns-in-Some c = let l = c.in-Some.ensures.lookup in c.as_slice.ensures ∙ kept_at c.args.needs.now c.args.group c.in-Some.used.now (l.3).0 (l.1)

pub returns-in-None : goal.returns-in-None
returns-in-None c = let l = c.in-None.ensures.lookup in sym (none_at c.args.needs.now c.args.group (l.3))
