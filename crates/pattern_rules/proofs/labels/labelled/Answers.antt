use Rattle.std.proofs.Common.{◌∙◌, Option, ap}
use Rattle.typing_rules.specs.AbstractSyntax as p
use Rattle.typing_rules.specs.AbstractSyntax.{Bytes, TypeNode}
use Rattle.type_definitions.proofs.Meanings.{within_on}
use Rattle.abstract_types.specs.TypeView.{annotation}
use Rattle.abstract_tree.specs.TreeView.{plain}
use Rattle.value_scopes.specs.Values.{noted}
use Rattle.judging.specs.Views.{kind_reached, typed_in}
use Rattle.judging.proofs.Chains.{no_memory}
use Rattle.judging.proofs.Forms.{seen_Label}
use Rattle.pattern_rules.proofs.Labelling.{labelled_given, no_part, no_type}
use Rattle.pattern_rules.proofs.labels.labelled.Goals as goal

pub body-requires-clause-ready : goal.body-requires-clause-ready
body-requires-clause-ready g c = c.in_ok-kind.ensures.ready c.args.layer.now.site c.requires.ready

pub body-requires-clause-within : goal.body-requires-clause-within
body-requires-clause-within g c = c.in_ok-kind.ensures.answer.outcome.holds

pub has-requires-clause-within : goal.has-requires-clause-within
has-requires-clause-within g c = within_on c.reads_or_unit.new.checker.types.forms c.body.new.checker.types.forms c.in_ok-kind.kind c.in_ok-of.ensures.answer.outcome.goes.forms c.in_ok-kind.ensures.answer.outcome.holds

pub returns-in_err-kind : goal.returns-in_err-kind
returns-in_err-kind g c =
    no_type c.args.layer.now.site c.args.name.now (annotation c.args.written.now) (plain c.args.a.now) c.args.scopes.now c.args.checker.now c.reads_or_unit.new.checker c.in_err-kind.field-0.0 c.from_residual.result c.from_residual.ensures
    c.in_err-kind.ensures.answer

pub returns-in_err-of : goal.returns-in_err-of
returns-in_err-of g c =
    no_part c.args.layer.now.site c.args.name.now (annotation c.args.written.now) (plain c.args.a.now) c.args.scopes.now c.args.checker.now c.reads_or_unit.new.checker c.in_ok-kind.kind c.in_ok-kind.ensures.answer c.body.new.scopes c.body.new.checker
    c.in_err-of.field-0.0 c.from_residual-in_err-of.result c.from_residual-in_err-of.ensures c.in_err-of.ensures.answer

pub returns-in_err-name : goal.returns-in_err-name
returns-in_err-name g c = no_memory typed_in kind_reached _ c.args.scopes.now _ c.args.checker.now _ c.from_residual-in_err-name.result c.from_residual-in_err-name.ensures

pub returns-in_err-written : goal.returns-in_err-written
returns-in_err-written g c = no_memory typed_in kind_reached _ c.args.scopes.now _ c.args.checker.now _ c.from_residual-in_err-written.result c.from_residual-in_err-written.ensures

pub returns : goal.returns
returns g c =
    labelled_given c.args.layer.now.site c.args.name.now (annotation c.args.written.now) (plain c.args.a.now) c.args.scopes.now c.args.checker.now c.reads_or_unit.new.checker c.in_ok-kind.kind c.in_ok-kind.ensures.answer c.body.new.scopes
    c.body.new.checker c.has.new.checker c.in_ok-of.of c.has.result c.in_ok-of.ensures.answer
    (c.has.ensures c.body.new.scopes c.in_ok-of.ensures.ready.sound (λ later. p.Label c.args.name.now (annotation c.args.written.now) (typed_in c.in_ok-of.of later))
    (λ later.
    seen_Label (noted later) c.in_ok-name.name c.in_ok-written.written c.in_ok-of.of
    ∙ (ap (λ (x : Bytes). p.Label x (annotation c.in_ok-written.written) (typed_in c.in_ok-of.of later)) c.in_ok-name.ensures
    ∙ ap (λ (n : Option TypeNode). p.Label c.args.name.now n (typed_in c.in_ok-of.of later)) c.in_ok-written.ensures)))
