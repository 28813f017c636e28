use Rattle.std.proofs.Common.{◌∙◌, ap}
use Rattle.typing_rules.specs.AbstractSyntax.{Bytes}
use Rattle.typing_rules.specs.AbstractSyntax as p
use Rattle.value_scopes.specs.Values.{noted}
use Rattle.judging.proofs.Forms.{seen_Name}
use Rattle.instance_rules.proofs.callees.named.Goals as goal

pub returns-clause-form : goal.returns-clause-form
returns-clause-form c = λ later. seen_Name (noted later) c.in_ok-name.name ∙ ap (λ (x : Bytes). p.Name x) c.in_ok-name.ensures
