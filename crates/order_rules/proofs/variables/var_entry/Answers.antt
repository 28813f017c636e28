use Rattle.std.proofs.Common.{false, Err, Ok, ap, option_map}
use Rattle.abstract_types.specs.declared.names.PlacedName.{PlacedName}
use Rattle.abstract_types.specs.TypeView.{annotation, named, type_node}
use Rattle.abstract_tree.specs.TreeView.{plain}
use Rattle.order_rules.specs.Entries.{entry_in, entry_reached}
use Rattle.order_rules.proofs.Declared.{written_as}
use Rattle.order_rules.proofs.Entering.{no_memory_enters, ready_entered}
use Rattle.order_rules.proofs.VariableParts.{no_value, pushed_is, unstable, variable_given}
use Rattle.order_rules.proofs.variables.var_entry.Goals as goal

pub returns-in_err-of-clause-enters : goal.returns-in_err-of-clause-enters
returns-in_err-of-clause-enters g c =
    no_value c.args.layer.now.site c.args.at c.args.stable (named c.args.name.now) (annotation c.args.written.now) (plain c.args.a.now) false c.args.scopes.now c.declared_value.new.scopes c.declared_value.new.scopes
    c.args.checker.now c.declared_value.new.checker c.in_err-of.field-0.0 c.from_residual.result c.from_residual.ensures
    (written_as c.args.layer.now.site c.args.layer.now.site.place (plain c.args.a.now) (option_map (λ n. type_node n.now) c.written_at.result) (annotation c.args.written.now) c.args.scopes.now c.declared_value.new.scopes c.args.checker.now c.declared_value.new.checker (Err c.in_err-of.field-0.0)
    c.written_at.ensures c.in_err-of.ensures.answer)

pub stable_kind-requires-clause-known : goal.stable_kind-requires-clause-known
stable_kind-requires-clause-known g c = c.in_ok-of.ensures.answer.outcome.sound.known

pub stable_kind-requires-clause-kind : goal.stable_kind-requires-clause-kind
stable_kind-requires-clause-kind g c = c.in_ok-of.ensures.answer.outcome.holds.0

pub returns-in_err-stable_kind-clause-enters : goal.returns-in_err-stable_kind-clause-enters
returns-in_err-stable_kind-clause-enters g c =
    unstable c.args.layer.now.site c.args.at c.args.stable (named c.args.name.now) (annotation c.args.written.now) (plain c.args.a.now) false c.args.scopes.now c.declared_value.new.scopes
    c.args.checker.now c.declared_value.new.checker c.in_ok-of.of
    (written_as c.args.layer.now.site c.args.layer.now.site.place (plain c.args.a.now) (option_map (λ n. type_node n.now) c.written_at.result) (annotation c.args.written.now) c.args.scopes.now c.declared_value.new.scopes c.args.checker.now c.declared_value.new.checker (Ok c.in_ok-of.of)
    c.written_at.ensures c.in_ok-of.ensures.answer)
    c.declared_value.new.scopes c.stable_kind.new.checker c.in_err-stable_kind.field-0.0 c.from_residual-in_err-stable_kind.result c.from_residual-in_err-stable_kind.ensures
    (c.in_err-stable_kind.ensures c.declared_value.new.scopes c.in_ok-of.ensures.answer.outcome.sound)

pub returns-in_err-copy-clause-enters : goal.returns-in_err-copy-clause-enters
returns-in_err-copy-clause-enters g c = no_memory_enters entry_in entry_reached _ c.args.scopes.now _ c.args.checker.now _ c.from_residual-in_err-copy.result c.from_residual-in_err-copy.ensures

pub returns-in_err-annotation-clause-enters : goal.returns-in_err-annotation-clause-enters
returns-in_err-annotation-clause-enters g c = no_memory_enters entry_in entry_reached _ c.args.scopes.now _ c.args.checker.now _ c.from_residual-in_err-annotation.result c.from_residual-in_err-annotation.ensures

pub returns-in_err-push-clause-enters : goal.returns-in_err-push-clause-enters
returns-in_err-push-clause-enters g c = no_memory_enters entry_in entry_reached _ c.args.scopes.now _ c.args.checker.now _ c.from_residual-in_err-push.result c.from_residual-in_err-push.ensures

pub returns-clause-enters : goal.returns-clause-enters
returns-clause-enters g c =
    variable_given c.args.layer.now.site c.args.at c.args.stable (named c.args.name.now) (annotation c.args.written.now) (plain c.args.a.now) false c.args.scopes.now c.declared_value.new.scopes
    c.args.checker.now c.declared_value.new.checker c.in_ok-of.of
    (written_as c.args.layer.now.site c.args.layer.now.site.place (plain c.args.a.now) (option_map (λ n. type_node n.now) c.written_at.result) (annotation c.args.written.now) c.args.scopes.now c.declared_value.new.scopes c.args.checker.now c.declared_value.new.checker (Ok c.in_ok-of.of)
    c.written_at.ensures c.in_ok-of.ensures.answer)
    c.in_ok-copy.copy c.in_ok-annotation.annotation (ap (λ (x : PlacedName). named x) c.in_ok-copy.ensures) c.in_ok-annotation.ensures
    (record c.declared_value.new.scopes { values = c.push.new.self }) c.stable_kind.new.checker
    (pushed_is c.declared_value.new.scopes c.push.new.self c.as_slice.result.now c.args.name.now.bytes c.variable-bound.result _ c.in_ok-push.ensures.ok c.as_slice.ensures c.variable-bound.ensures)
    (c.in_ok-stable_kind.ensures c.declared_value.new.scopes c.in_ok-of.ensures.answer.outcome.sound)

pub returns-clause-ready : goal.returns-clause-ready
returns-clause-ready g c = ready_entered entry_in entry_reached _ c.args.scopes.now (record c.declared_value.new.scopes { values = c.push.new.self }) c.args.checker.now c.stable_kind.new.checker _ c.args.layer.now.site
    (returns-clause-enters g c) c.requires.ready
