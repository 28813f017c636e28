use Rattle.std.proofs.Common.{◌∙◌, List, Option, Some, Ok, Err, length, map, option_map, ap, subst, sym}
use Rattle.mo_types.specs.Sub.{Each}
use Rattle.type_terms.specs.declared.form.TermId.{TermId}
use Rattle.typing_rules.specs.AbstractSyntax.{TypeNode}
use Rattle.typing_rules.specs.AbstractSyntax as p
use Rattle.typing_rules.specs.Expressions.{JudgeEach}
use Rattle.type_definitions.specs.Meanings.{term}
use Rattle.type_definitions.specs.Tables.{Within}
use Rattle.type_definitions.proofs.Meanings.{each_within, within_on}
use Rattle.abstract_types.specs.TypeView.{type_node}
use Rattle.abstract_tree.specs.TreeView.{listed, plain}
use Rattle.met_types.specs.States.{State}
use Rattle.value_scopes.specs.Values.{noted}
use Rattle.judging.specs.declared.checker.Checker.{Checker}
use Rattle.judging.specs.Answers.{Answers}
use Rattle.judging.specs.Views.{context, definitions, each_in, each_reached, kind_reached, typed_in}
use Rattle.judging.proofs.Chains.{goes_on_from, no_memory}
use Rattle.judging.proofs.Forms.{seen_Call}
use Rattle.judging.proofs.Steps.{ready_on, sound_on}
use Rattle.application_rules.proofs.CallParts.{call_given, counted, no_items, not_as_many, not_counted, not_placed, placed_as}
use Rattle.application_rules.proofs.calls.called_with.Goals as goal

abbrev with_terms : Checker → State → Checker
with_terms k t = record k { types = t }

pub called-requires-clause-kept : goal.called-requires-clause-kept
called-requires-clause-kept g c = c.requires.ready.wanting.kept

pub called-requires-clause-within : goal.called-requires-clause-within
called-requires-clause-within g c = c.requires.standing.results

pub each-requires-clause-ready : goal.each-requires-clause-ready
each-requires-clause-ready g c =
    let s = sound_on c.args.checker.now c.args.scopes.now c.called.new.types c.requires.ready.sound c.in_ok-kind.ensures.kept c.in_ok-kind.ensures.goes in
    ready_on c.args.checker.now c.future_placed.new.checker c.args.scopes.now c.args.scopes.now c.args.layer.now.site c.requires.ready (c.in_ok-future_placed.ensures.answer c.args.scopes.now s).outcome.sound
    (goes_on_from c.args.checker.now.types c.called.new.types c.future_placed.new.checker.types c.in_ok-kind.ensures.goes c.in_ok-future_placed.ensures.goes)

pub each-requires-clause-wanted : goal.each-requires-clause-wanted
each-requires-clause-wanted g c =
    subst (λ (ids : List TermId). Each (Within c.future_placed.new.checker.types.forms) ids) (sym c.as_slice.ensures)
    (each_within c.args.checker.now.types.forms c.future_placed.new.checker.types.forms c.args.function.parameters
    (goes_on_from c.args.checker.now.types c.called.new.types c.future_placed.new.checker.types c.in_ok-kind.ensures.goes c.in_ok-future_placed.ensures.goes).forms c.requires.standing.parameters)

pub has-requires-clause-within : goal.has-requires-clause-within
has-requires-clause-within g c =
    within_on c.called.new.types.forms c.each.new.checker.types.forms c.in_ok-kind.kind
    (goes_on_from c.called.new.types c.future_placed.new.checker.types c.each.new.checker.types c.in_ok-future_placed.ensures.goes c.in_ok-given.ensures.answer.outcome.goes).forms c.in_ok-kind.ensures.within

pub returns-in_err-kind : goal.returns-in_err-kind
returns-in_err-kind g c = no_memory typed_in kind_reached _ c.args.scopes.now _ c.args.checker.now _ c.from_residual.result c.from_residual.ensures

pub returns-in_err-future_placed : goal.returns-in_err-future_placed
returns-in_err-future_placed g c =
    let s = sound_on c.args.checker.now c.args.scopes.now c.called.new.types c.requires.ready.sound c.in_ok-kind.ensures.kept c.in_ok-kind.ensures.goes in
    not_placed c.args.layer.now.site (option_map (map type_node) c.args.types.now) c.args.arguments.now c.args.of c.args.function c.args.scopes.now c.args.checker.now c.called.new.types c.in_ok-kind.kind c.in_ok-kind.ensures
    c.future_placed.new.checker c.in_err-future_placed.field-0.0 c.from_residual-in_err-future_placed.result c.from_residual-in_err-future_placed.ensures
    (placed_as c.args.layer.now.site (option_map (map type_node) c.args.types.now) c.args.arguments.now c.args.of c.args.function c.takes_call-takes.result c.in_ok-kind.kind c.args.scopes.now (with_terms c.args.checker.now c.called.new.types)
    c.future_placed.new.checker (Err c.in_err-future_placed.field-0.0) c.takes_call-takes.ensures (c.in_err-future_placed.ensures.answer c.args.scopes.now s))

pub returns-else-as_many : goal.returns-else-as_many
returns-else-as_many g c =
    let s = sound_on c.args.checker.now c.args.scopes.now c.called.new.types c.requires.ready.sound c.in_ok-kind.ensures.kept c.in_ok-kind.ensures.goes in
    not_as_many c.args.layer.now.site (option_map (map type_node) c.args.types.now) c.args.arguments.now c.args.of c.args.function c.args.scopes.now c.args.checker.now c.called.new.types c.in_ok-kind.kind c.in_ok-kind.ensures
    c.future_placed.new.checker
    (placed_as c.args.layer.now.site (option_map (map type_node) c.args.types.now) c.args.arguments.now c.args.of c.args.function c.takes_call-takes.result c.in_ok-kind.kind c.args.scopes.now (with_terms c.args.checker.now c.called.new.types)
    c.future_placed.new.checker (Ok tt) c.takes_call-takes.ensures (c.in_ok-future_placed.ensures.answer c.args.scopes.now s)) (not_counted (length c.args.function.parameters) (length c.args.arguments.now) c.len.result c.if-as_many.false c.len.ensures)

pub returns-in_err-given : goal.returns-in_err-given
returns-in_err-given g c =
    let s = sound_on c.args.checker.now c.args.scopes.now c.called.new.types c.requires.ready.sound c.in_ok-kind.ensures.kept c.in_ok-kind.ensures.goes in
    no_items c.args.layer.now.site (option_map (map type_node) c.args.types.now) c.args.arguments.now c.args.of c.args.function c.args.scopes.now c.args.checker.now c.called.new.types c.in_ok-kind.kind c.in_ok-kind.ensures
    c.future_placed.new.checker
    (placed_as c.args.layer.now.site (option_map (map type_node) c.args.types.now) c.args.arguments.now c.args.of c.args.function c.takes_call-takes.result c.in_ok-kind.kind c.args.scopes.now (with_terms c.args.checker.now c.called.new.types)
    c.future_placed.new.checker (Ok tt) c.takes_call-takes.ensures (c.in_ok-future_placed.ensures.answer c.args.scopes.now s)) (counted (length c.args.function.parameters) (length c.args.arguments.now) c.len.result c.if-as_many.true c.len.ensures) c.each.new.scopes c.each.new.checker c.in_err-given.field-0.0 c.from_residual-in_err-given.result
    c.from_residual-in_err-given.ensures
    (subst
    (λ (ids : List TermId). Answers each_in each_reached (λ v. JudgeEach (definitions v) (context v c.args.layer.now.site.place) (listed (map plain c.args.arguments.now)) (map (λ (id : TermId). Some (term v.later id)) ids)) c.args.scopes.now
    c.future_placed.new.checker c.each.new.scopes c.each.new.checker (Err c.in_err-given.field-0.0)) c.as_slice.ensures c.in_err-given.ensures.answer)

pub returns-in_err-types : goal.returns-in_err-types
returns-in_err-types g c = no_memory typed_in kind_reached _ c.args.scopes.now _ c.args.checker.now _ c.from_residual-in_err-types.result c.from_residual-in_err-types.ensures

pub returns-in_ok-types : goal.returns-in_ok-types
returns-in_ok-types g c =
    let s = sound_on c.args.checker.now c.args.scopes.now c.called.new.types c.requires.ready.sound c.in_ok-kind.ensures.kept c.in_ok-kind.ensures.goes in
    call_given c.args.layer.now.site (option_map (map type_node) c.args.types.now) c.args.arguments.now c.args.of c.args.function c.args.scopes.now c.args.checker.now c.called.new.types c.in_ok-kind.kind c.in_ok-kind.ensures
    c.future_placed.new.checker
    (placed_as c.args.layer.now.site (option_map (map type_node) c.args.types.now) c.args.arguments.now c.args.of c.args.function c.takes_call-takes.result c.in_ok-kind.kind c.args.scopes.now (with_terms c.args.checker.now c.called.new.types)
    c.future_placed.new.checker (Ok tt) c.takes_call-takes.ensures (c.in_ok-future_placed.ensures.answer c.args.scopes.now s)) (counted (length c.args.function.parameters) (length c.args.arguments.now) c.len.result c.if-as_many.true c.len.ensures) c.each.new.scopes c.each.new.checker c.has.new.checker c.in_ok-given.given c.has.result
    (subst
    (λ (ids : List TermId). Answers each_in each_reached (λ v. JudgeEach (definitions v) (context v c.args.layer.now.site.place) (listed (map plain c.args.arguments.now)) (map (λ (id : TermId). Some (term v.later id)) ids)) c.args.scopes.now
    c.future_placed.new.checker c.each.new.scopes c.each.new.checker (Ok c.in_ok-given.given)) c.as_slice.ensures c.in_ok-given.ensures.answer)
    (c.has.ensures c.each.new.scopes c.in_ok-given.ensures.ready.sound (λ later. p.Call (typed_in c.args.of later) (option_map (map type_node) c.args.types.now) (each_in c.in_ok-given.given later))
    (λ later.
    seen_Call (noted later) c.args.of c.in_ok-types.types c.in_ok-given.given
    ∙ ap (λ (ts : Option (List TypeNode)). p.Call (typed_in c.args.of later) ts (each_in c.in_ok-given.given later)) c.in_ok-types.ensures))
