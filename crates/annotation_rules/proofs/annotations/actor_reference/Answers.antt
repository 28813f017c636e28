use Rattle.std.proofs.Common.{refl}
use Rattle.typing_rules.specs.declared.condition.Condition.TheVariants as condition
use Rattle.typing_rules.specs.AbstractSyntax as p
use Rattle.judging.specs.Views.{kind_reached, rule, typed_in}
use Rattle.judging.proofs.Chains.{fails}
use Rattle.annotation_rules.proofs.annotations.actor_reference.Goals as goal

pub returns : goal.returns
returns c = fails typed_in kind_reached (rule c.args.site.now (p.ActorReference c.args.text.now)) c.args.scopes.now c.args.checker.now condition.NotActor c.args.site.now.at (λ later w. refl)
