use Rattle.std.proofs.lemmas.List.{take_more}
use Rattle.std.proofs.Common.{◌+◌, ◌∙◌, [], ◌∷◌, ◌++◌, ap, drop, sym, take}
use Rattle.abstract_types.specs.declared.types.TypeNode.{TypeNode}
use Rattle.met_types.specs.States.{IsReached}
use Rattle.type_scopes.specs.Scopes.{seen}
use Rattle.proper_types.specs.Rules.{as_terms}
use Rattle.proper_types.proofs.Judging.{handed}
use Rattle.proper_types.proofs.Readings.{all_read, each_more, each_reached_on, next_read, read_refused}
use Rattle.proper_types.proofs.Turns.{around}
use Rattle.proper_types.proofs.reading.reads_each.Goals as goal

pub returns-in_err-reads-clause-judged : goal.returns-in_err-reads-clause-judged
returns-in_err-reads-clause-judged c =
    handed (all_read (seen c.args.scope.now) c.args.nodes.now) c.args.types.now c.reads.new.types c.reads.new.sharing c.reads.new.sharing as_terms as_terms c.in_err-reads.field-0.0 c.from_residual.result c.from_residual.ensures
    (read_refused (seen c.args.scope.now) as_terms c.args.types.now c.loop-node.types c.reads.new.types c.loop-node.sharing c.reads.new.sharing (take c.loop-node.node-index c.args.nodes.now) (drop (c.loop-node.node-index + 1) c.args.nodes.now) c.args.nodes.now
    c.node-item.result c.loop-node.made c.in_err-reads.field-0.0
    (around c.args.nodes.now c.loop-node.node-index c.node-item.result
    (take_more c.args.nodes.now c.loop-node.node-index c.node-item.result c.loop-node-test.true ∙ ap (λ (n : TypeNode). take c.loop-node.node-index c.args.nodes.now ++ n ∷ []) (sym c.node-item.is)))
    c.loop-node.invariant.judged c.in_err-reads.ensures.judged)

pub loop-node-preserved : goal.loop-node-preserved
loop-node-preserved c = record {
  reached = each_more (IsReached c.reads.new.types) c.loop-node.made c.push.new.self c.in_ok-reads.field-0 c.in_ok-push.ensures.ok
      (each_reached_on c.loop-node.types c.reads.new.types c.loop-node.made c.in_ok-reads.ensures.judged.goes c.loop-node.invariant.reached) c.in_ok-reads.ensures.reached;
  judged = next_read (seen c.args.scope.now) c.args.types.now c.loop-node.types c.reads.new.types c.loop-node.sharing c.reads.new.sharing (take c.loop-node.node-index c.args.nodes.now) (take (c.loop-node.node-index + 1) c.args.nodes.now) c.node-item.result
      c.loop-node.made c.push.new.self c.in_ok-reads.field-0
      (take_more c.args.nodes.now c.loop-node.node-index c.node-item.result c.loop-node-test.true ∙ ap (λ (n : TypeNode). take c.loop-node.node-index c.args.nodes.now ++ n ∷ []) (sym c.node-item.is))
      c.in_ok-push.ensures.ok c.loop-node.invariant.judged c.in_ok-reads.ensures.judged;
}
