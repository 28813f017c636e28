use Rattle.std.proofs.Common.{false, ap}
use Rattle.abstract_types.specs.declared.names.PlacedName.{PlacedName}
use Rattle.abstract_types.specs.TypeView.{named}
use Rattle.order_rules.specs.Entries.{entry_in, entry_reached}
use Rattle.order_rules.proofs.Entering.{no_memory_enters, ready_entered}
use Rattle.order_rules.proofs.ObjectParts.{no_fields, object_given, unmet}
use Rattle.order_rules.proofs.VariableParts.{pushed_is}
use Rattle.order_rules.proofs.objects.object_entry.Goals as goal

pub returns-in_err-made-clause-enters : goal.returns-in_err-made-clause-enters
returns-in_err-made-clause-enters g c =
    no_fields c.args.lists.now.layer.site c.args.at (named c.args.name.now) c.args.list.now false c.args.scopes.now c.judge_object.new.scopes c.judge_object.new.scopes c.args.checker.now c.judge_object.new.checker
    c.in_err-made.field-0.0 c.from_residual.result c.from_residual.ensures c.in_err-made.ensures.answer

pub meets-requires-clause-kept : goal.meets-requires-clause-kept
meets-requires-clause-kept g c = c.in_ok-made.ensures.answer.outcome.sound.known.kept

pub meets-requires-clause-within : goal.meets-requires-clause-within
meets-requires-clause-within g c = c.in_ok-made.ensures.answer.outcome.holds

pub returns-in_err-meets-clause-enters : goal.returns-in_err-meets-clause-enters
returns-in_err-meets-clause-enters g c =
    unmet c.args.lists.now.layer.site c.args.at (named c.args.name.now) c.args.list.now false c.args.scopes.now c.judge_object.new.scopes c.args.checker.now c.judge_object.new.checker c.in_ok-made.made c.in_ok-made.ensures.answer
    c.judge_object.new.scopes c.meets.new.types c.in_err-meets.field-0.0 c.from_residual-in_err-meets.result c.from_residual-in_err-meets.ensures c.in_err-meets.ensures.left c.in_err-meets.ensures.judged

pub returns-in_err-copy-clause-enters : goal.returns-in_err-copy-clause-enters
returns-in_err-copy-clause-enters g c = no_memory_enters entry_in entry_reached _ c.args.scopes.now _ c.args.checker.now _ c.from_residual-in_err-copy.result c.from_residual-in_err-copy.ensures

pub returns-in_err-push-clause-enters : goal.returns-in_err-push-clause-enters
returns-in_err-push-clause-enters g c = no_memory_enters entry_in entry_reached _ c.args.scopes.now _ c.args.checker.now _ c.from_residual-in_err-push.result c.from_residual-in_err-push.ensures

pub returns-clause-enters : goal.returns-clause-enters
returns-clause-enters g c =
    object_given c.args.lists.now.layer.site c.args.at (named c.args.name.now) c.args.list.now false c.args.scopes.now c.judge_object.new.scopes c.args.checker.now c.judge_object.new.checker c.in_ok-made.made c.in_ok-made.ensures.answer
    c.in_ok-copy.copy (ap (λ (x : PlacedName). named x) c.in_ok-copy.ensures)
    (record c.judge_object.new.scopes { values = c.push.new.self }) c.meets.new.types
    (pushed_is c.judge_object.new.scopes c.push.new.self c.as_slice.result.now c.args.name.now.bytes c.constant-bound.result _ c.in_ok-push.ensures.ok c.as_slice.ensures c.constant-bound.ensures)
    c.in_ok-meets.ensures.kept c.in_ok-meets.ensures.goes c.in_ok-meets.ensures.reached c.in_ok-meets.ensures.judged

pub returns-clause-ready : goal.returns-clause-ready
returns-clause-ready g c =
    ready_entered entry_in entry_reached _ c.args.scopes.now (record c.judge_object.new.scopes { values = c.push.new.self }) c.args.checker.now (record c.judge_object.new.checker { types = c.meets.new.types }) _ c.args.lists.now.layer.site
    (returns-clause-enters g c) c.requires.ready
