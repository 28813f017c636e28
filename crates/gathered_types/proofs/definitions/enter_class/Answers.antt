use Rattle.std.proofs.Common.{ap, length, map, subst, sym, ◌∙◌}
use Rattle.abstract_types.specs.PatternView.{plain_signature}
use Rattle.abstract_types.specs.TypeView.{named}
use Rattle.abstract_tree.specs.TreeView.{declarations, plain_declaration}
use Rattle.type_scopes.specs.Scopes.{Names, seen}
use Rattle.declared_names.specs.Scoping.{Extends}
use Rattle.declared_names.proofs.Entering.{extends_more}
use Rattle.gathered_types.proofs.Defining.{class_found, list_seen}
use Rattle.gathered_types.proofs.definitions.enter_class.Goals as goal

pub returns-clause-seen : goal.returns-clause-seen
returns-clause-seen c = ap seen c.in_ok-right.ensures.scope ∙ list_seen (seen c.args.scope.now) (named c.args.name.now) (plain_signature c.args.signature.now) (declarations (map plain_declaration c.args.fields.now)) (seen c.enter_generics.new.scope) (seen c.push_list.new.scope)
    (rw c.as_slice.ensures at c.in_ok-enter_generics.ensures.seen) c.in_ok-push_list.ensures.seen

pub returns-clause-extends : goal.returns-clause-extends
returns-clause-extends c = subst (λ (n : Names). Extends c.args.scope.now n) (sym c.in_ok-right.ensures.scope)
    (extends_more c.args.scope.now c.enter_generics.new.scope c.push_list.new.scope c.in_ok-enter_generics.ensures.extends c.in_ok-push_list.ensures.extends)

pub returns-clause-found : goal.returns-clause-found
returns-clause-found c = class_found (seen c.args.scope.now) (named c.args.name.now) (plain_signature c.args.signature.now) (declarations (map plain_declaration c.args.fields.now)) (seen c.enter_generics.new.scope) (seen c.push_list.new.scope)
    (rw c.as_slice.ensures at c.in_ok-enter_generics.ensures.seen) c.in_ok-push_list.ensures.seen
    c.args.types.now c.enter_generics.new.types c.object_type.new.types (length c.parameters-outer.result.now) (seen c.object_type.new.scope).parameters c.in_ok-right.right c.in_ok-made.made c.args.found.now c.enter_generics.new.found c.push_type.new.self
    (ap length c.parameters-outer.ensures) (ap (λ (n : Names). (seen n).parameters) c.in_ok-right.ensures.scope) c.in_ok-made.ensures
    (rw c.as_slice.ensures at c.in_ok-enter_generics.ensures.found) c.in_ok-right.ensures.made c.in_ok-push_type.ensures
