use Rattle.typing_rules.specs.AbstractSyntax as p
use Rattle.abstract_tree.specs.TreeView.{plain}
use Rattle.abstract_types.specs.TypeView.{type_node}
use Rattle.judging.specs.Views.{kind_reached, typed_in}
use Rattle.judging.proofs.Chains.{no_memory}
use Rattle.judging.proofs.Steps.{reached_on, reached_within}
use Rattle.annotation_rules.proofs.Annotating.{no_value, value_given}
use Rattle.annotation_rules.proofs.annotations.value_has.Goals as goal

pub part-requires-clause-wanted : goal.part-requires-clause-wanted
part-requires-clause-wanted g c = reached_within c.args.checker.now.types c.args.kind c.requires.ready.sound.known.kept c.requires.kind

pub has-requires-clause-within : goal.has-requires-clause-within
has-requires-clause-within g c =
    reached_within c.part.new.checker.types c.args.kind c.in_ok-of.ensures.ready.sound.known.kept (reached_on c.args.checker.now.types c.part.new.checker.types c.args.kind c.in_ok-of.ensures.answer.outcome.goes c.requires.kind)

pub returns-in_err-of : goal.returns-in_err-of
returns-in_err-of g c =
    no_value c.args.layer.now.site (plain c.args.a.now) (type_node c.args.written.now) c.args.kind c.args.scopes.now c.part.new.scopes c.args.checker.now c.part.new.checker c.in_err-of.field-0.0 c.from_residual.result c.from_residual.ensures
    c.in_err-of.ensures.answer

pub returns-in_err-form : goal.returns-in_err-form
returns-in_err-form g c = no_memory typed_in kind_reached _ c.args.scopes.now _ c.args.checker.now _ c.from_residual-in_err-form.result c.from_residual-in_err-form.ensures

pub returns : goal.returns
returns g c =
    value_given c.args.layer.now.site (plain c.args.a.now) (type_node c.args.written.now) c.args.kind c.args.scopes.now c.part.new.scopes c.args.checker.now c.part.new.checker c.has.new.checker c.in_ok-of.of c.has.result
    c.in_ok-of.ensures.answer (c.has.ensures c.part.new.scopes c.in_ok-of.ensures.ready.sound (λ later. p.Annotated (typed_in c.in_ok-of.of later) (type_node c.args.written.now)) c.in_ok-form.ensures)
