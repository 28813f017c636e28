use Rattle.typing_rules.specs.AbstractSyntax as p
use Rattle.abstract_types.specs.TypeView.{type_node}
use Rattle.judging.specs.Views.{kind_reached, typed_in}
use Rattle.judging.proofs.Chains.{no_memory}
use Rattle.judging.proofs.Steps.{reached_within}
use Rattle.annotation_rules.proofs.Annotating.{actor_given, no_actor, no_text, not_referred}
use Rattle.annotation_rules.proofs.annotations.actor_has.Goals as goal

pub has-requires-clause-within : goal.has-requires-clause-within
has-requires-clause-within c = reached_within c.args.checker.now.types c.args.kind c.requires.wanting.kept c.requires.kind

pub returns-then-not-is_actor : goal.returns-then-not-is_actor
returns-then-not-is_actor c = λ s q.
    no_actor c.args.site.now c.args.at c.args.text.now (type_node c.args.written.now) c.args.kind s c.args.checker.now c.is_actor.result c.is_actor.ensures c.if-not-is_actor.true

pub returns-in_err-needs_principal : goal.returns-in_err-needs_principal
returns-in_err-needs_principal c = λ s q.
    no_text c.args.site.now c.args.at c.args.text.now (type_node c.args.written.now) c.args.kind s c.args.checker.now c.is_actor.result c.is_actor.ensures c.if-not-is_actor.false q c.in_err-needs_principal.field-0.0
    c.from_residual.result c.from_residual.ensures (c.in_err-needs_principal.ensures c.args.checker.now.types)

pub returns-in_err-inner : goal.returns-in_err-inner
returns-in_err-inner c = λ s q. no_memory typed_in kind_reached _ s s c.args.checker.now _ c.from_residual-in_err-inner.result c.from_residual-in_err-inner.ensures

pub returns-in_err-of : goal.returns-in_err-of
returns-in_err-of c = λ s q.
    not_referred c.args.site.now c.args.at c.args.text.now (type_node c.args.written.now) c.args.kind s c.args.checker.now c.is_actor.result c.is_actor.ensures c.if-not-is_actor.false q
    (c.in_ok-needs_principal.ensures c.args.checker.now.types) c.in_err-of.field-0.0 c.from_residual-in_err-of.result c.from_residual-in_err-of.ensures
    (c.in_err-of.ensures s q (λ later. p.ActorReference c.args.text.now) c.in_ok-inner.ensures)

pub returns-in_err-form : goal.returns-in_err-form
returns-in_err-form c = λ s q. no_memory typed_in kind_reached _ s s c.args.checker.now _ c.from_residual-in_err-form.result c.from_residual-in_err-form.ensures

pub returns : goal.returns
returns c = λ s q.
    actor_given c.args.site.now c.args.at c.args.text.now (type_node c.args.written.now) c.args.kind s c.args.checker.now c.is_actor.result c.is_actor.ensures c.if-not-is_actor.false q
    (c.in_ok-needs_principal.ensures c.args.checker.now.types) c.has.new.checker c.in_ok-of.of c.has.result
    (c.in_ok-of.ensures s q (λ later. p.ActorReference c.args.text.now) c.in_ok-inner.ensures)
    (c.has.ensures s q (λ later. p.Annotated (typed_in c.in_ok-of.of later) (type_node c.args.written.now)) c.in_ok-form.ensures)
