use Rattle.abstract_tree.specs.TreeView.{plain}
use Rattle.abstract_types.specs.TypeView.{type_node}
use Rattle.annotation_rules.proofs.Annotating.{is_read, not_read}
use Rattle.annotation_rules.proofs.annotations.annotated.Goals as goal

pub annotated_at-requires-clause-ready : goal.annotated_at-requires-clause-ready
annotated_at-requires-clause-ready g c = c.in_ok-kind.ensures.ready c.args.layer.now.site c.requires.ready

pub annotated_at-requires-clause-kind : goal.annotated_at-requires-clause-kind
annotated_at-requires-clause-kind g c = c.in_ok-kind.ensures.answer.outcome.holds

pub returns-in_err-kind : goal.returns-in_err-kind
returns-in_err-kind g c =
    not_read c.args.layer.now.site (plain c.args.a.now) (type_node c.args.written.now) c.args.scopes.now c.args.checker.now c.reads.new.checker c.in_err-kind.field-0.0 c.from_residual.result c.from_residual.ensures
    c.in_err-kind.ensures.answer

pub returns : goal.returns
returns g c =
    is_read c.args.layer.now.site (plain c.args.a.now) (type_node c.args.written.now) c.args.scopes.now c.args.checker.now c.reads.new.checker c.annotated_at.new.scopes c.annotated_at.new.checker c.in_ok-kind.kind c.annotated_at.result
    c.in_ok-kind.ensures.answer c.annotated_at.ensures
