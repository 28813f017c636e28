use Rattle.std.proofs.Common.{sym}
use Rattle.kept_parts.proofs.unforming.unform_node.Goals as goal

pub put_blob-requires-clause-blob : goal.put_blob-requires-clause-blob
put_blob-requires-clause-blob c = sym c.in-Some.ensures

pub put_value-requires-clause-value : goal.put_value-requires-clause-value
put_value-requires-clause-value c = sym c.in-None.ensures
