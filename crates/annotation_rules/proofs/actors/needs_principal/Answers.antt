use Rattle.std.proofs.Common.{Bool, subst}
use Rattle.typing_rules.specs.Answers.{IsPrincipalText}
use Rattle.met_types.specs.States.{IsSo}
use Rattle.annotation_rules.proofs.ActorTexts.{no_principal, principal_there}
use Rattle.annotation_rules.proofs.actors.needs_principal.Goals as goal

pub returns-then-is_principal : goal.returns-then-is_principal
returns-then-is_principal c = λ s. principal_there s c.args.text.now c.args.place (subst (λ (b : Bool). IsSo b (IsPrincipalText c.args.text.now)) c.if-is_principal.true c.is_principal.ensures)

pub returns-else-is_principal : goal.returns-else-is_principal
returns-else-is_principal c = λ s. no_principal s c.args.text.now c.args.place (subst (λ (b : Bool). IsSo b (IsPrincipalText c.args.text.now)) c.if-is_principal.false c.is_principal.ensures)
