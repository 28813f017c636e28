use Rattle.abstract_types.specs.PatternView.{plain as plain_pattern}
use Rattle.abstract_tree.specs.TreeView.{plain}
use Rattle.met_types.specs.States.{State}
use Rattle.judging.specs.declared.checker.Checker.{Checker}
use Rattle.judging.specs.Views.{kind_reached, typed_in}
use Rattle.judging.proofs.Chains.{no_memory}
use Rattle.judging.proofs.Steps.{ready_on, sound_on}
use Rattle.iteration_rules.proofs.Passing.{items_found, no_items, no_value}
use Rattle.iteration_rules.proofs.for_loops.iterating.Goals as goal

abbrev with_types : Checker → State → Checker
with_types k t = record k { types = t }

pub items-requires-clause-kept : goal.items-requires-clause-kept
items-requires-clause-kept g c = c.in_ok-of.ensures.ready.wanting.kept

pub items-requires-clause-reached : goal.items-requires-clause-reached
items-requires-clause-reached g c = c.in_ok-of.ensures.answer.outcome.holds

pub pass-requires-clause-ready : goal.pass-requires-clause-ready
pass-requires-clause-ready g c =
    ready_on c.part.new.checker (with_types c.part.new.checker c.items.new.types) c.part.new.scopes c.part.new.scopes c.args.layer.now.site c.in_ok-of.ensures.ready
    (sound_on c.part.new.checker c.part.new.scopes c.items.new.types c.in_ok-of.ensures.ready.sound c.in_ok-kind.ensures.kept c.in_ok-kind.ensures.goes) c.in_ok-kind.ensures.goes

pub returns-in_err-of : goal.returns-in_err-of
returns-in_err-of g c =
    no_value c.args.layer.now.site (plain_pattern c.args.pattern.now) (plain c.args.a.now) (plain c.args.b.now) c.args.scopes.now c.part.new.scopes c.args.checker.now c.part.new.checker c.in_err-of.field-0.0 c.from_residual.result
    c.from_residual.ensures c.in_err-of.ensures.answer

pub returns-in_err-kind : goal.returns-in_err-kind
returns-in_err-kind g c = no_memory typed_in kind_reached _ c.args.scopes.now _ c.args.checker.now _ c.from_residual-in_err-kind.result c.from_residual-in_err-kind.ensures

pub returns-in-Some : goal.returns-in-Some
returns-in-Some g c =
    items_found c.args.layer.now.site (plain_pattern c.args.pattern.now) (plain c.args.a.now) (plain c.args.b.now) c.args.scopes.now c.part.new.scopes c.args.checker.now c.part.new.checker c.in_ok-of.of c.in_ok-of.ensures.answer c.items.new.types
    c.in_ok-kind.field-0 c.in_ok-kind.ensures c.in-Some.kind c.in-Some.is c.pass.new.scopes c.pass.new.checker c.pass.result c.pass.ensures

pub returns-in-None : goal.returns-in-None
returns-in-None g c =
    no_items c.args.layer.now.site (plain_pattern c.args.pattern.now) (plain c.args.a.now) (plain c.args.b.now) c.args.scopes.now c.part.new.scopes c.args.checker.now c.part.new.checker c.in_ok-of.of c.in_ok-of.ensures.answer c.items.new.types
    c.in_ok-kind.field-0 c.in_ok-kind.ensures c.in-None.is
