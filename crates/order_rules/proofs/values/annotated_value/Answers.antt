use Rattle.abstract_types.specs.TypeView.{type_node}
use Rattle.abstract_tree.specs.TreeView.{plain}
use Rattle.judging.proofs.Steps.{reached_within}
use Rattle.order_rules.proofs.Declared.{fits, not_fitting, not_read}
use Rattle.order_rules.proofs.values.annotated_value.Goals as goal

pub reads-requires : goal.reads-requires
reads-requires g c = c.requires.ready.sound

pub part-requires-clause-ready : goal.part-requires-clause-ready
part-requires-clause-ready g c = c.in_ok-kind.ensures.ready c.args.layer.now.site c.requires.ready

pub part-requires-clause-wanted : goal.part-requires-clause-wanted
part-requires-clause-wanted g c = reached_within c.reads.new.checker.types c.in_ok-kind.kind c.in_ok-kind.ensures.answer.outcome.sound.known.kept c.in_ok-kind.ensures.answer.outcome.holds

pub returns-in_err-kind-clause-answer : goal.returns-in_err-kind-clause-answer
returns-in_err-kind-clause-answer g c =
    not_read c.args.layer.now.site (type_node c.args.written.now) c.args.layer.now.site.place (plain c.args.a.now) c.args.scopes.now c.args.checker.now c.reads.new.checker c.in_err-kind.field-0.0 c.from_residual.result c.from_residual.ensures
    c.in_err-kind.ensures.answer

pub returns-in_err-value-clause-answer : goal.returns-in_err-value-clause-answer
returns-in_err-value-clause-answer g c =
    not_fitting c.args.layer.now.site (type_node c.args.written.now) c.args.layer.now.site.place (plain c.args.a.now) c.args.scopes.now c.args.checker.now c.reads.new.checker c.in_ok-kind.kind c.in_ok-kind.ensures.answer
    c.part.new.scopes c.part.new.checker c.in_err-value.field-0.0 c.from_residual-in_err-value.result c.from_residual-in_err-value.ensures c.in_err-value.ensures.answer

pub returns-clause-answer : goal.returns-clause-answer
returns-clause-answer g c =
    fits c.args.layer.now.site (type_node c.args.written.now) c.args.layer.now.site.place (plain c.args.a.now) c.args.scopes.now c.args.checker.now c.reads.new.checker c.in_ok-kind.kind c.in_ok-kind.ensures.answer
    c.part.new.scopes c.part.new.checker c.in_ok-value.value c.requires.ready.sound.known.kept c.in_ok-value.ensures.answer
