use Rattle.std.proofs.Common.{sym}
use Rattle.abstract_types.specs.TypeView.{type_node}
use Rattle.annotation_rules.proofs.Annotating.{is_reference, is_value}
use Rattle.annotation_rules.proofs.annotations.annotated_at.Goals as goal

pub returns-in-Some : goal.returns-in-Some
returns-in-Some g c =
    is_reference c.args.layer.now.site c.args.a.now (type_node c.args.written.now) c.args.kind c.args.scopes.now c.args.scopes.now c.args.checker.now c.actor_has.new.checker c.actor_has.result c.in-Some.text.now
    (sym c.in-Some.ensures) (c.actor_has.ensures c.args.scopes.now c.requires.ready.sound)

pub returns-in-None : goal.returns-in-None
returns-in-None g c =
    is_value c.args.layer.now.site c.args.a.now (type_node c.args.written.now) c.args.kind c.args.scopes.now c.value_has.new.scopes c.args.checker.now c.value_has.new.checker c.value_has.result (sym c.in-None.ensures) c.value_has.ensures
