use Rattle.typed_patterns.proofs.Forms.{made_of}
use Rattle.typed_patterns.proofs.making.made.Goals as goal

pub returns : goal.returns
returns c = made_of c.args.note c.of_parts.result c.args.form c.of_parts.ensures
