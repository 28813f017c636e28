use Rattle.judging.specs.Views.{no_more, nothing}
use Rattle.judging.proofs.Chains.{no_memory}
use Rattle.judging.proofs.Steps.{reached_within}
use Rattle.order_rules.proofs.VariableParts.{may_be_sent, may_not_be_sent}
use Rattle.order_rules.proofs.variables.needs_shareable.Goals as goal

pub is_so-requires-clause-within : goal.is_so-requires-clause-within
is_so-requires-clause-within c = reached_within c.args.checker.now.types c.args.kind c.requires.known.kept c.requires.kind

pub returns-in_err-is_so : goal.returns-in_err-is_so
returns-in_err-is_so c = λ s q. no_memory nothing no_more _ s s c.args.checker.now _ c.from_residual.result c.from_residual.ensures

pub returns-then-branch : goal.returns-then-branch
returns-then-branch c = λ s q. may_be_sent c.args.at c.args.kind s c.args.checker.now q c.is_so.new.self c.in_ok-is_so.field-0 c.in_ok-is_so.ensures.answer c.in_ok-is_so.ensures.same c.in_ok-is_so.ensures.stands c.if-branch.true

pub returns-else-branch : goal.returns-else-branch
returns-else-branch c = λ s q. may_not_be_sent c.args.at c.args.kind s c.args.checker.now q c.is_so.new.self c.in_ok-is_so.field-0 c.in_ok-is_so.ensures.answer c.if-branch.false
