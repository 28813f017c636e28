use Rattle.std.proofs.Common.{◌∙◌}
use Rattle.kept_parts.proofs.FormSteps.{last_first}
use Rattle.kept_parts.proofs.waiting.put_first.Goals as goal

pub loop-last-preserved : goal.loop-last-preserved
loop-last-preserved c =
    last_first c.args.under c.loop-last.inside.items c.pop.new.self.items c.in-Some.last c.loop-last.waiting.items c.push.new.self.items c.in-Some.ensures.items c.in_ok-push.ensures.items ∙ c.loop-last.invariant
