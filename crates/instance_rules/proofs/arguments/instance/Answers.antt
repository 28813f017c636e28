use Rattle.std.proofs.Common.{List, map, subst, sym}
use Rattle.mo_types.specs.Sub.{Each}
use Rattle.type_terms.specs.declared.form.TermId.{TermId}
use Rattle.type_definitions.proofs.Meanings.{within_on}
use Rattle.abstract_types.specs.TypeView.{type_node}
use Rattle.met_types.specs.States.{IsReached}
use Rattle.judging.specs.Answers.{Answers}
use Rattle.judging.specs.Views.{term_in}
use Rattle.scope_judging.specs.Rules.{kind_within}
use Rattle.scope_judging.proofs.Answered.{ready_after}
use Rattle.instance_rules.specs.Instances.{at_arguments, instance}
use Rattle.instance_rules.proofs.InstanceParts.{counted, instance_given, not_as_many, not_counted, not_read}
use Rattle.instance_rules.proofs.arguments.instance.Goals as goal

pub at_read-requires-clause-kept : goal.at_read-requires-clause-kept
at_read-requires-clause-kept c = c.in_ok-arguments.ensures.outcome.sound.known.kept

pub at_read-requires-clause-within : goal.at_read-requires-clause-within
at_read-requires-clause-within c =
    within_on c.args.checker.now.types.forms c.reads_each.new.checker.types.forms c.args.bound.now.kind c.in_ok-arguments.ensures.outcome.goes.forms c.requires.within

pub at_read-requires-clause-reached : goal.at_read-requires-clause-reached
at_read-requires-clause-reached c = subst (λ (ids : List TermId). Each (IsReached c.reads_each.new.checker.types) ids) (sym c.as_slice.ensures) c.in_ok-arguments.ensures.outcome.holds

pub returns-in_err-arguments-clause-answer : goal.returns-in_err-arguments-clause-answer
returns-in_err-arguments-clause-answer c =
    not_read c.args.at c.args.bound.now (map type_node c.args.written.now) c.args.scopes.now c.args.checker.now (counted type_node c.args.written.now c.args.bound.now.generics c.len.result c.if-as_many.true c.len.ensures) c.reads_each.new.checker
    c.in_err-arguments.field-0.0 c.from_residual.result c.from_residual.ensures c.in_err-arguments.ensures

pub returns-in_ok-arguments-clause-answer : goal.returns-in_ok-arguments-clause-answer
returns-in_ok-arguments-clause-answer c =
    instance_given c.args.at c.args.bound.now (map type_node c.args.written.now) c.args.scopes.now c.args.checker.now (counted type_node c.args.written.now c.args.bound.now.generics c.len.result c.if-as_many.true c.len.ensures) c.reads_each.new.checker
    c.at_read.new.checker c.in_ok-arguments.arguments c.at_read.result c.in_ok-arguments.ensures
    (subst (λ (ids : List TermId). Answers term_in kind_within (at_arguments c.args.at c.args.bound.now ids) c.args.scopes.now c.reads_each.new.checker c.args.scopes.now c.at_read.new.checker c.at_read.result) c.as_slice.ensures
    (c.at_read.ensures c.args.scopes.now c.in_ok-arguments.ensures.outcome.sound))

pub returns-in_ok-arguments-clause-ready : goal.returns-in_ok-arguments-clause-ready
returns-in_ok-arguments-clause-ready c = λ x q.
    ready_after term_in kind_within (instance c.args.at c.args.bound.now (map type_node c.args.written.now)) c.args.scopes.now c.args.checker.now c.at_read.new.checker c.at_read.result x
    (instance_given c.args.at c.args.bound.now (map type_node c.args.written.now) c.args.scopes.now c.args.checker.now (counted type_node c.args.written.now c.args.bound.now.generics c.len.result c.if-as_many.true c.len.ensures) c.reads_each.new.checker
    c.at_read.new.checker c.in_ok-arguments.arguments c.at_read.result c.in_ok-arguments.ensures
    (subst (λ (ids : List TermId). Answers term_in kind_within (at_arguments c.args.at c.args.bound.now ids) c.args.scopes.now c.reads_each.new.checker c.args.scopes.now c.at_read.new.checker c.at_read.result) c.as_slice.ensures
    (c.at_read.ensures c.args.scopes.now c.in_ok-arguments.ensures.outcome.sound))) q

pub returns-else-as_many-clause-answer : goal.returns-else-as_many-clause-answer
returns-else-as_many-clause-answer c =
    not_as_many c.args.at c.args.bound.now (map type_node c.args.written.now) c.args.scopes.now c.args.checker.now (not_counted type_node c.args.written.now c.args.bound.now.generics c.len.result c.if-as_many.false c.len.ensures)
