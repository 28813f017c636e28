use Rattle.judging.proofs.Steps.{below_some}
use Rattle.judging.proofs.site.Site.below_wanted.Goals as goal

pub returns-in-Some : goal.returns-in-Some
returns-in-Some c = λ s q. below_some c.args.self.now c.args.kind c.in-Some.wanted s c.args.checker.now c.needs_below.result c.in-Some.is q c.needs_below.ensures
