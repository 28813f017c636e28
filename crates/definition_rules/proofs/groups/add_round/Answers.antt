use Rattle.std.proofs.Common.{subst, ◌<◌}
use Rattle.definition_rules.proofs.Grouping.{one_at}
use Rattle.definition_rules.proofs.groups.add_round.Goals as goal

pub loop-i-preserved : goal.loop-i-preserved
loop-i-preserved c =
    one_at c.args.definitions.now c.args.terms.now c.args.place c.loop-i.i c.args.names.now.keys c.loop-i.names.keys c.add_uses_at.new.names.keys
    (subst (λ n. c.loop-i.i < n) c.len-many.ensures.len c.loop-i-test.true) c.loop-i.invariant c.in_ok-add_uses_at.ensures
