use Rattle.std.proofs.Common.{map}
use Rattle.abstract_tree.specs.TreeView.{declarations, plain_declaration}
use Rattle.typing_rules.specs.Programs.{method_fields}
use Rattle.type_scopes.specs.Scopes.{seen}
use Rattle.object_types.specs.Joining.{method_before, together}
use Rattle.object_types.proofs.Adding.{fields_within, from_none, actor_made}
use Rattle.object_types.proofs.Viewed.{methods_are}
use Rattle.object_types.proofs.members.actor_type.Goals as goal

pub actor-requires-clause-within : goal.actor-requires-clause-within
actor-requires-clause-within c = fields_within c.args.types.now c.push_methods.new.types (together (map (method_before (seen c.args.scope.now)) c.args.list.now)) (method_fields (seen c.args.scope.now) (declarations (map plain_declaration c.args.list.now))) c.push_methods.new.made.items c.from_vec.result
    (methods_are (seen c.args.scope.now) c.args.list.now) (from_none c.args.types.now c.push_methods.new.types _ c.new-made.result.items c.push_methods.new.made.items c.new-made.ensures.items c.in_ok-push_methods.ensures) c.from_vec.ensures

pub returns-in-Ok : goal.returns-in-Ok
returns-in-Ok c = actor_made c.args.types.now c.push_methods.new.types (together (map (method_before (seen c.args.scope.now)) c.args.list.now)) (method_fields (seen c.args.scope.now) (declarations (map plain_declaration c.args.list.now))) c.push_methods.new.made.items c.from_vec.result
    (methods_are (seen c.args.scope.now) c.args.list.now) (from_none c.args.types.now c.push_methods.new.types _ c.new-made.result.items c.push_methods.new.made.items c.new-made.ensures.items c.in_ok-push_methods.ensures) c.from_vec.ensures c.actor.new.types c.in-Ok.id c.in-Ok.ensures
