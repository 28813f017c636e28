use Rattle.annotation_rules.proofs.ActorTexts.{read_is}
use Rattle.annotation_rules.proofs.actors.is_principal.Goals as goal

pub returns : goal.returns
returns c = read_is c.args.text.now c.principal_read.result c.is_some.result c.is_some.ensures c.principal_read.ensures
