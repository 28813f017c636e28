use Rattle.std.proofs.Common.{ap, map}
use Rattle.abstract_types.specs.TypeView.{named, type_node}
use Rattle.judging.proofs.Chains.{no_memory}
use Rattle.function_bodies.specs.Bodies.{any_made, body_in}
use Rattle.body_rules.proofs.Others.{alias_given}
use Rattle.body_rules.proofs.declarations.alias.Goals as goal

pub returns-in_err-copy : goal.returns-in_err-copy
returns-in_err-copy c = λ s q rest y. no_memory (body_in rest) any_made _ s _ c.args.checker.now _ c.from_residual.result c.from_residual.ensures

pub returns-in_err-names : goal.returns-in_err-names
returns-in_err-names c = λ s q rest y. no_memory (body_in rest) any_made _ s _ c.args.checker.now _ c.from_residual-in_err-names.result c.from_residual-in_err-names.ensures

pub returns-in_err-of : goal.returns-in_err-of
returns-in_err-of c = λ s q rest y. no_memory (body_in rest) any_made _ s _ c.args.checker.now _ c.from_residual-in_err-of.result c.from_residual-in_err-of.ensures

pub returns-in_err-kind : goal.returns-in_err-kind
returns-in_err-kind c = λ s q rest y. no_memory (body_in rest) any_made _ s _ c.args.checker.now _ c.from_residual-in_err-kind.result c.from_residual-in_err-kind.ensures

pub returns : goal.returns
returns c = λ s q rest y.
    alias_given y c.args.at (named c.args.name.now) (map named c.args.parameters.now) (type_node c.args.of.now) rest s c.args.checker.now c.unit.new.types c.in_ok-kind.kind q c.in_ok-kind.ensures c.in_ok-copy.copy (ap named c.in_ok-copy.ensures) c.in_ok-names.names (ap (map named) c.in_ok-names.ensures)
    c.in_ok-of.of c.in_ok-of.ensures
