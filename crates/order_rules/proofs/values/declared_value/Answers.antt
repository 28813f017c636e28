use Rattle.std.proofs.Common.{None, Some, ap, option_map, sym}
use Rattle.abstract_types.specs.TypeView.{type_node}
use Rattle.abstract_tree.specs.TreeView.{plain}
use Rattle.order_rules.proofs.Declared.{written_as}
use Rattle.order_rules.proofs.values.declared_value.Goals as goal

pub returns-in-Some-clause-answer : goal.returns-in-Some-clause-answer
returns-in-Some-clause-answer g c =
    written_as c.args.layer.now.site c.args.place (plain c.args.a.now) (Some (type_node c.in-Some.written.now)) (option_map (λ n. type_node n.now) c.args.written) c.args.scopes.now c.annotated_value.new.scopes c.args.checker.now
    c.annotated_value.new.checker c.annotated_value.result (sym (ap (option_map (λ n. type_node n.now)) c.in-Some.is)) c.annotated_value.ensures.answer

pub returns-in-None-clause-answer : goal.returns-in-None-clause-answer
returns-in-None-clause-answer g c =
    written_as c.args.layer.now.site c.args.place (plain c.args.a.now) None (option_map (λ n. type_node n.now) c.args.written) c.args.scopes.now c.own_value.new.scopes c.args.checker.now
    c.own_value.new.checker c.own_value.result (sym (ap (option_map (λ n. type_node n.now)) c.in-None.is)) c.own_value.ensures.answer
