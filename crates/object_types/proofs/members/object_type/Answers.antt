use Rattle.std.proofs.Common.{map}
use Rattle.abstract_tree.specs.TreeView.{declarations, plain_declaration}
use Rattle.typing_rules.specs.DeclaredTypes.{member_fields}
use Rattle.type_scopes.specs.Scopes.{seen}
use Rattle.object_types.specs.Joining.{member_before, together}
use Rattle.object_types.proofs.Adding.{fields_within, from_none, object_made}
use Rattle.object_types.proofs.Viewed.{members_are}
use Rattle.object_types.proofs.members.object_type.Goals as goal

pub object-requires-clause-within : goal.object-requires-clause-within
object-requires-clause-within c = fields_within c.args.types.now c.push_members.new.types (together (map (member_before (seen c.args.scope.now)) c.args.list.now)) (member_fields (seen c.args.scope.now) (declarations (map plain_declaration c.args.list.now))) c.push_members.new.made.items c.from_vec.result
    (members_are (seen c.args.scope.now) c.args.list.now) (from_none c.args.types.now c.push_members.new.types _ c.new-made.result.items c.push_members.new.made.items c.new-made.ensures.items c.in_ok-push_members.ensures.made) c.from_vec.ensures

pub returns-in-Ok-clause-made : goal.returns-in-Ok-clause-made
returns-in-Ok-clause-made c = object_made c.args.types.now c.push_members.new.types (together (map (member_before (seen c.args.scope.now)) c.args.list.now)) (member_fields (seen c.args.scope.now) (declarations (map plain_declaration c.args.list.now))) c.push_members.new.made.items c.from_vec.result
    (members_are (seen c.args.scope.now) c.args.list.now) (from_none c.args.types.now c.push_members.new.types _ c.new-made.result.items c.push_members.new.made.items c.new-made.ensures.items c.in_ok-push_members.ensures.made) c.from_vec.ensures c.object.new.types c.in-Ok.id c.in-Ok.ensures
