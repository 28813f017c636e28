use Rattle.judging.proofs.Ends.{branch_greatest, branch_wanted, no_branch}
use Rattle.judging.proofs.Steps.{reached_within}
use Rattle.judging.proofs.site.Site.branches.Goals as goal

pub has-requires-clause-within : goal.has-requires-clause-within
has-requires-clause-within c = reached_within c.args.checker.now.types c.in_ok-kind-in-None.kind c.requires.wanting.kept c.in_ok-kind-in-None.ensures.reached

pub returns-in-Some : goal.returns-in-Some
returns-in-Some c = λ s q f e. branch_wanted c.args.self.now c.args.kinds.now f s c.args.checker.now c.in-Some.wanted c.args.checker.now c.gives.result c.in-Some.is (c.gives.ensures s q f e)

pub returns-in_err-kind-in-None : goal.returns-in_err-kind-in-None
returns-in_err-kind-in-None c = λ s q f e. no_branch c.args.self.now c.args.kinds.now f s c.args.checker.now c.in_err-kind-in-None.field-0.0 c.from_residual.result c.in-None.is c.from_residual.ensures q c.in_err-kind-in-None.ensures.judged

pub returns-in_ok-kind-in-None : goal.returns-in_ok-kind-in-None
returns-in_ok-kind-in-None c = λ s q f e.
    branch_greatest c.args.self.now c.args.kinds.now f s c.args.checker.now c.in_ok-kind-in-None.kind c.has.new.checker c.has.result c.in-None.is q c.in_ok-kind-in-None.ensures.reached c.in_ok-kind-in-None.ensures.judged (c.has.ensures s q f e)
