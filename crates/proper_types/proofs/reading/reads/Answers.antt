use Rattle.abstract_types.specs.TypeView.{type_node}
use Rattle.type_scopes.specs.Scopes.{seen}
use Rattle.proper_types.specs.Rules.{as_term, reads}
use Rattle.proper_types.proofs.Judging.{handed}
use Rattle.proper_types.proofs.Readings.{improper, met, not_met}
use Rattle.proper_types.proofs.reading.reads.Goals as goal

pub returns-in_err-proper-clause-judged : goal.returns-in_err-proper-clause-judged
returns-in_err-proper-clause-judged c =
    handed (reads (seen c.args.scope.now) (type_node c.args.node.now)) c.args.types.now c.proper.new.types c.proper.new.sharing c.proper.new.sharing as_term as_term c.in_err-proper.field-0.0 c.from_residual.result c.from_residual.ensures
    (improper (seen c.args.scope.now) (type_node c.args.node.now) c.args.types.now c.proper.new.types c.proper.new.sharing c.proper.new.sharing c.in_err-proper.field-0.0 c.in_err-proper.ensures)

pub returns-in_err-meets-clause-judged : goal.returns-in_err-meets-clause-judged
returns-in_err-meets-clause-judged c =
    handed (reads (seen c.args.scope.now) (type_node c.args.node.now)) c.args.types.now c.meets.new.types c.proper.new.sharing c.proper.new.sharing as_term as_term c.in_err-meets.field-0.0 c.from_residual-in_err-meets.result c.from_residual-in_err-meets.ensures
    (not_met (seen c.args.scope.now) (type_node c.args.node.now) c.args.types.now c.proper.new.types c.term.new.types c.meets.new.types c.proper.new.sharing c.in_ok-id.id c.in_ok-proper.ensures c.in_ok-id.ensures.same c.in_ok-id.ensures.made
    c.in_err-meets.field-0.0 c.in_err-meets.ensures.left c.in_err-meets.ensures.judged)

pub returns-clause-judged : goal.returns-clause-judged
returns-clause-judged c =
    met (seen c.args.scope.now) (type_node c.args.node.now) c.args.types.now c.proper.new.types c.term.new.types c.meets.new.types c.proper.new.sharing c.in_ok-id.id c.in_ok-proper.ensures c.in_ok-id.ensures.same c.in_ok-id.ensures.made
    c.in_ok-meets.ensures.kept c.in_ok-meets.ensures.goes c.in_ok-meets.ensures.judged
