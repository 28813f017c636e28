use Rattle.order_rules.proofs.VariableParts.{not_stable, stable_sent}
use Rattle.order_rules.proofs.variables.stable_kind.Goals as goal

pub returns-then-stable : goal.returns-then-stable
returns-then-stable c = λ s q. stable_sent c.args.at c.args.kind s c.args.checker.now q c.args.stable c.needs_shareable.new.checker c.needs_shareable.result c.if-stable.true (c.needs_shareable.ensures s q)

pub returns-else-stable : goal.returns-else-stable
returns-else-stable c = λ s q. not_stable c.args.at c.args.kind s c.args.checker.now q c.args.stable c.if-stable.false
