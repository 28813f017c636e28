use Rattle.std.proofs.Common.{Some, None, sym}
use Rattle.std.specs.Prelude.{cond}
use Rattle.judging.proofs.NodeParts.{blob_is}
use Rattle.judging.proofs.heads.is_blob.Goals as goal

pub returns-in-Some : goal.returns-in-Some
returns-in-Some c = blob_is c.args.types.now c.args.id c.in-Some.node.now c.in-Some.ensures.there (cond c.is_blob_at.result (Some tt) None) (sym c.is_blob_at.ensures)

pub returns-in-None : goal.returns-in-None
returns-in-None c = absurd (c.in-None.ensures.missing c.requires.reached)
