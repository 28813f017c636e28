use Rattle.judging.proofs.Steps.{plain_boolean}
use Rattle.judging.proofs.site.Site.has_boolean.Goals as goal

pub has_plain-requires-clause-plain : goal.has_plain-requires-clause-plain
has_plain-requires-clause-plain c = plain_boolean
