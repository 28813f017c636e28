use Rattle.typed_patterns.proofs.Forms.{annotated_made}
use Rattle.typed_patterns.proofs.making.annotated.Goals as goal

pub returns : goal.returns
returns c = annotated_made c.args.note c.made.result c.args.part c.in_ok-written.written c.args.written.now c.in_ok-written.ensures c.made.ensures
