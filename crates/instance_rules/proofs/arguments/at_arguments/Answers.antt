use Rattle.std.proofs.Common.{◌∙◌, sym}
use Rattle.type_definitions.specs.Tables.{Within}
use Rattle.type_definitions.proofs.Meanings.{each_map, within_on}
use Rattle.met_types.specs.States.{IsReached, State}
use Rattle.proper_types.proofs.Readings.{each_reached_on}
use Rattle.judging.specs.declared.checker.Checker.{Checker}
use Rattle.judging.specs.Views.{term_in}
use Rattle.judging.proofs.Chains.{goes_on_from, no_memory}
use Rattle.judging.proofs.Steps.{reached_within, sound_on}
use Rattle.scope_judging.specs.Rules.{kind_within}
use Rattle.instance_rules.proofs.InstanceParts.{bounds_as, is_instance, not_below, not_met, with_as}
use Rattle.instance_rules.proofs.arguments.at_arguments.Goals as goal

abbrev put : Checker → State → Checker
put k t = record k { types = t }

pub put_bounds-requires-clause-arguments : goal.put_bounds-requires-clause-arguments
put_bounds-requires-clause-arguments c =
    each_map (IsReached c.args.checker.now.types) (Within c.args.checker.now.types.forms) (λ id h. reached_within c.args.checker.now.types id c.requires.kept h) c.args.arguments.now c.requires.reached

pub meets_each-requires-clause-within : goal.meets_each-requires-clause-within
meets_each-requires-clause-within c =
    (bounds_as c.args.checker.now.types c.put_bounds.new.types c.args.arguments.now c.args.bound.now.generics c.in_ok-parameters.parameters c.as_slice-generics.result.now c.in_ok-bounds.bounds c.as_slice-highs.result.now
    (c.in_ok-parameters.ensures ∙ c.as_slice-generics.ensures) c.as_slice-generics.ensures c.as_slice-highs.ensures c.in_ok-bounds.ensures).within

pub needs_each_below-requires-clause-number : goal.needs_each_below-requires-clause-number
needs_each_below-requires-clause-number c =
    c.requires.number
    ∙ sym (bounds_as c.args.checker.now.types c.put_bounds.new.types c.args.arguments.now c.args.bound.now.generics c.in_ok-parameters.parameters c.as_slice-generics.result.now c.in_ok-bounds.bounds c.as_slice-highs.result.now
    (c.in_ok-parameters.ensures ∙ c.as_slice-generics.ensures) c.as_slice-generics.ensures c.as_slice-highs.ensures c.in_ok-bounds.ensures).many

pub needs_each_below-requires-clause-lows : goal.needs_each_below-requires-clause-lows
needs_each_below-requires-clause-lows c =
    each_reached_on c.put_bounds.new.types c.meets_each.new.checker.types c.args.arguments.now c.in_ok-meets_each.ensures.goes (each_reached_on c.args.checker.now.types c.put_bounds.new.types c.args.arguments.now c.in_ok-bounds.ensures.goes c.requires.reached)

pub put_with-requires-clause-within : goal.put_with-requires-clause-within
put_with-requires-clause-within c =
    within_on c.args.checker.now.types.forms c.meets_each.new.checker.types.forms c.args.bound.now.kind
    (goes_on_from c.args.checker.now.types c.put_bounds.new.types c.meets_each.new.checker.types c.in_ok-bounds.ensures.goes c.in_ok-meets_each.ensures.goes).forms c.requires.within

pub put_with-requires-clause-arguments : goal.put_with-requires-clause-arguments
put_with-requires-clause-arguments c =
    each_map (IsReached c.meets_each.new.checker.types) (Within c.meets_each.new.checker.types.forms) (λ id h. reached_within c.meets_each.new.checker.types id c.in_ok-meets_each.ensures.kept h) c.args.arguments.now
    (each_reached_on c.put_bounds.new.types c.meets_each.new.checker.types c.args.arguments.now c.in_ok-meets_each.ensures.goes (each_reached_on c.args.checker.now.types c.put_bounds.new.types c.args.arguments.now c.in_ok-bounds.ensures.goes c.requires.reached))

pub returns-in_err-parameters : goal.returns-in_err-parameters
returns-in_err-parameters c = λ s q. no_memory term_in kind_within _ s s c.args.checker.now _ c.from_residual.result c.from_residual.ensures

pub returns-in_err-bounds : goal.returns-in_err-bounds
returns-in_err-bounds c = λ s q. no_memory term_in kind_within _ s s c.args.checker.now _ c.from_residual-in_err-bounds.result c.from_residual-in_err-bounds.ensures

pub returns-in_err-meets_each : goal.returns-in_err-meets_each
returns-in_err-meets_each c = λ s q.
    not_met c.args.at c.args.bound.now c.args.arguments.now s c.args.checker.now c.put_bounds.new.types c.as_slice-highs.result.now c.requires.number
    (bounds_as c.args.checker.now.types c.put_bounds.new.types c.args.arguments.now c.args.bound.now.generics c.in_ok-parameters.parameters c.as_slice-generics.result.now c.in_ok-bounds.bounds c.as_slice-highs.result.now
    (c.in_ok-parameters.ensures ∙ c.as_slice-generics.ensures) c.as_slice-generics.ensures c.as_slice-highs.ensures c.in_ok-bounds.ensures) c.meets_each.new.checker c.in_err-meets_each.field-0.0
    c.from_residual-in_err-meets_each.result c.from_residual-in_err-meets_each.ensures
    (c.in_err-meets_each.ensures.answer s (sound_on c.args.checker.now s c.put_bounds.new.types q c.in_ok-bounds.ensures.kept c.in_ok-bounds.ensures.goes))

pub returns-in_err-needs_each_below : goal.returns-in_err-needs_each_below
returns-in_err-needs_each_below c = λ s q.
    let m = c.in_ok-meets_each.ensures.answer s (sound_on c.args.checker.now s c.put_bounds.new.types q c.in_ok-bounds.ensures.kept c.in_ok-bounds.ensures.goes) in
    not_below c.args.at c.args.bound.now c.args.arguments.now s c.args.checker.now c.put_bounds.new.types c.as_slice-highs.result.now c.requires.number
    (bounds_as c.args.checker.now.types c.put_bounds.new.types c.args.arguments.now c.args.bound.now.generics c.in_ok-parameters.parameters c.as_slice-generics.result.now c.in_ok-bounds.bounds c.as_slice-highs.result.now
    (c.in_ok-parameters.ensures ∙ c.as_slice-generics.ensures) c.as_slice-generics.ensures c.as_slice-highs.ensures c.in_ok-bounds.ensures) c.meets_each.new.checker m c.in_err-needs_each_below.field-0.0
    c.from_residual-in_err-needs_each_below.result c.from_residual-in_err-needs_each_below.ensures (c.in_err-needs_each_below.ensures s m.outcome.sound)

pub returns-in_err-put_with : goal.returns-in_err-put_with
returns-in_err-put_with c = λ s q. no_memory term_in kind_within _ s s c.args.checker.now _ c.from_residual-in_err-put_with.result c.from_residual-in_err-put_with.ensures

pub returns : goal.returns
returns c = λ s q.
    let m = c.in_ok-meets_each.ensures.answer s (sound_on c.args.checker.now s c.put_bounds.new.types q c.in_ok-bounds.ensures.kept c.in_ok-bounds.ensures.goes) in
    is_instance c.args.at c.args.bound.now c.args.arguments.now s c.args.checker.now c.put_bounds.new.types c.as_slice-highs.result.now c.requires.number
    (bounds_as c.args.checker.now.types c.put_bounds.new.types c.args.arguments.now c.args.bound.now.generics c.in_ok-parameters.parameters c.as_slice-generics.result.now c.in_ok-bounds.bounds c.as_slice-highs.result.now
    (c.in_ok-parameters.ensures ∙ c.as_slice-generics.ensures) c.as_slice-generics.ensures c.as_slice-highs.ensures c.in_ok-bounds.ensures) c.meets_each.new.checker m (c.in_ok-needs_each_below.ensures s m.outcome.sound)
    c.in_ok-put_with.field-0 c.put_with.new.types
    (with_as c.meets_each.new.checker.types c.put_with.new.types c.args.arguments.now c.args.bound.now.generics c.in_ok-parameters.parameters c.args.bound.now.kind c.in_ok-put_with.field-0 (c.in_ok-parameters.ensures ∙ c.as_slice-generics.ensures)
    c.in_ok-put_with.ensures)
