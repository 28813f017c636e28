use Rattle.std.proofs.Common.{ap, ◌∙◌}
use Rattle.mo_types.specs.Graph.{node_at}
use Rattle.pattern_coverage.specs.Followed.{end_of}
use Rattle.pattern_coverage.specs.Inhabited.{type_at}
use Rattle.pattern_coverage.proofs.followed.value_node.Goals as goal

pub returns : goal.returns
returns c = c.value_node_at.ensures ∙ ap (λ i. node_at c.args.types.now (end_of c.args.types.now (type_at i))) c.index.ensures
