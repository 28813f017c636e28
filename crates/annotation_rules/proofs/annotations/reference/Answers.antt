use Rattle.std.proofs.Common.{◌∙◌, List, ap, ℕ}
use Rattle.typing_rules.specs.AbstractSyntax as p
use Rattle.value_scopes.specs.Values.{noted}
use Rattle.judging.proofs.Forms.{seen_ActorReference}
use Rattle.annotation_rules.proofs.annotations.reference.Goals as goal

pub returns : goal.returns
returns c = λ later. seen_ActorReference (noted later) c.in_ok-text.text ∙ ap (λ (y : List ℕ). p.ActorReference y) c.in_ok-text.ensures
