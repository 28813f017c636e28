use Rattle.judging.proofs.Steps.{plain_bottom}
use Rattle.judging.proofs.site.Site.has_bottom.Goals as goal

pub has_plain-requires-clause-plain : goal.has_plain-requires-clause-plain
has_plain-requires-clause-plain c = plain_bottom
