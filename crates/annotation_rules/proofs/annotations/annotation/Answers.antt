use Rattle.std.proofs.Common.{◌∙◌, ap}
use Rattle.typing_rules.specs.AbstractSyntax.{TypeNode}
use Rattle.typing_rules.specs.AbstractSyntax as p
use Rattle.value_scopes.specs.Values.{noted}
use Rattle.judging.specs.Views.{typed_in}
use Rattle.judging.proofs.Forms.{seen_Annotated}
use Rattle.annotation_rules.proofs.annotations.annotation.Goals as goal

pub returns : goal.returns
returns c = λ later. seen_Annotated (noted later) c.args.of c.in_ok-written.written ∙ ap (λ (u : TypeNode). p.Annotated (typed_in c.args.of later) u) c.in_ok-written.ensures
