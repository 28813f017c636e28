use denote.Bor.{Bor}
use Rattle.std.proofs.Common.{Option, ap, option_map}
use Rattle.abstract_types.specs.declared.types.TypeNode.{TypeNode}
use Rattle.abstract_types.specs.TypeView.{type_node}
use Rattle.type_scopes.specs.Scopes.{seen}
use Rattle.proper_types.proofs.Readings.{written_or}
use Rattle.proper_types.proofs.reading.reads_or.Goals as goal

pub returns-in-Some-clause-judged : goal.returns-in-Some-clause-judged
returns-in-Some-clause-judged c =
    written_or (seen c.args.scope.now) _ c.args.other (type_node c.in-Some.node.now) c.args.types.now c.reads.new.types c.reads.new.sharing c.reads.result (ap (λ (o : Option (Bor TypeNode)). option_map (λ n. type_node n.now) o) c.in-Some.is)
    c.reads.ensures.judged
