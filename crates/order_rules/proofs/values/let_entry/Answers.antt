use Rattle.std.proofs.Common.{false, Err, Ok, ap, option_map}
use Rattle.abstract_types.specs.TypeView.{type_node}
use Rattle.abstract_types.specs.PatternView.{plain as plain_pattern}
use Rattle.abstract_tree.specs.TreeView.{plain}
use Rattle.value_scopes.specs.declared.place.Place.{Place}
use Rattle.order_rules.proofs.Lets.{let_given, no_pattern, no_value, placed}
use Rattle.order_rules.proofs.values.let_entry.Goals as goal

pub declared_value-requires-clause-returns : goal.declared_value-requires-clause-returns
declared_value-requires-clause-returns g c = ap (λ (y : Place). y.returns) c.directly-place.ensures

pub returns-in_err-of-clause-enters : goal.returns-in_err-of-clause-enters
returns-in_err-of-clause-enters g c =
    no_value c.args.layer.now.site c.args.at (plain_pattern c.args.pattern.now) (plain c.args.a.now) false c.around_of.result c.around_of.ensures c.args.scopes.now c.declared_value.new.scopes c.declared_value.new.scopes
    c.args.checker.now c.declared_value.new.checker c.in_err-of.field-0.0 c.from_residual.result c.from_residual.ensures
    (placed c.args.layer.now.site (plain_pattern c.args.pattern.now) (plain c.args.a.now) c.around_of.result (option_map (λ n. type_node n.now) c.annotation.result) c.directly-place.result c.args.scopes.now c.declared_value.new.scopes c.args.checker.now c.declared_value.new.checker (Err c.in_err-of.field-0.0)
    c.annotation.ensures c.directly-place.ensures c.in_err-of.ensures.answer)

pub stands-requires-clause-sound : goal.stands-requires-clause-sound
stands-requires-clause-sound g c = c.in_ok-of.ensures.answer.outcome.sound

pub stands-requires-clause-reached : goal.stands-requires-clause-reached
stands-requires-clause-reached g c = c.in_ok-of.ensures.answer.outcome.holds.0

pub returns-in_err-pattern-clause-enters : goal.returns-in_err-pattern-clause-enters
returns-in_err-pattern-clause-enters g c =
    no_pattern c.args.layer.now.site c.args.at (plain_pattern c.args.pattern.now) (plain c.args.a.now) false c.around_of.result c.around_of.ensures c.args.scopes.now c.declared_value.new.scopes
    c.args.checker.now c.declared_value.new.checker c.in_ok-of.of
    (placed c.args.layer.now.site (plain_pattern c.args.pattern.now) (plain c.args.a.now) c.around_of.result (option_map (λ n. type_node n.now) c.annotation.result) c.directly-place.result c.args.scopes.now c.declared_value.new.scopes c.args.checker.now c.declared_value.new.checker (Ok c.in_ok-of.of)
    c.annotation.ensures c.directly-place.ensures c.in_ok-of.ensures.answer)
    c.stands.new.scopes c.stands.new.scopes c.stands.new.checker c.in_err-pattern.field-0.0 c.from_residual-in_err-pattern.result c.from_residual-in_err-pattern.ensures c.in_err-pattern.ensures.binds

pub returns-clause-enters : goal.returns-clause-enters
returns-clause-enters g c =
    let_given c.args.layer.now.site c.args.at (plain_pattern c.args.pattern.now) (plain c.args.a.now) false c.around_of.result c.around_of.ensures c.args.scopes.now c.declared_value.new.scopes
    c.args.checker.now c.declared_value.new.checker c.in_ok-of.of
    (placed c.args.layer.now.site (plain_pattern c.args.pattern.now) (plain c.args.a.now) c.around_of.result (option_map (λ n. type_node n.now) c.annotation.result) c.directly-place.result c.args.scopes.now c.declared_value.new.scopes c.args.checker.now c.declared_value.new.checker (Ok c.in_ok-of.of)
    c.annotation.ensures c.directly-place.ensures c.in_ok-of.ensures.answer)
    c.stands.new.scopes c.stands.new.checker c.in_ok-pattern.pattern c.in_ok-pattern.ensures.binds

pub returns-clause-ready : goal.returns-clause-ready
returns-clause-ready g c = c.in_ok-pattern.ensures.ready c.args.layer.now.site c.in_ok-of.ensures.ready
