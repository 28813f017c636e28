use Rattle.std.proofs.Common.{length}
use Rattle.judging.proofs.Steps.{none_below}
use Rattle.judging.proofs.site.Site.has_plain.Goals as goal

pub has_form-requires-clause-below : goal.has_form-requires-clause-below
has_form-requires-clause-below c = none_below (length c.args.checker.now.types.forms) c.args.kind c.requires.plain
