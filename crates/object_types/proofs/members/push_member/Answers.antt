use Rattle.std.proofs.Common.{Bool, subst, sym}
use Rattle.std.specs.Prelude.{OnOk}
use Rattle.abstract_tree.specs.TreeView.{plain_declaration_form}
use Rattle.typing_rules.specs.DeclaredTypes.{declared_fields}
use Rattle.type_scopes.specs.Scopes.{seen}
use Rattle.object_types.specs.Adding.{Adds}
use Rattle.object_types.specs.Joining.{before_if}
use Rattle.object_types.proofs.Adding.{adds_none}
use Rattle.object_types.proofs.members.push_member.Goals as goal

pub returns-then-one-clause-made : goal.returns-then-one-clause-made
returns-then-one-clause-made c =
    subst (λ (b : Bool). OnOk c.push_declared.result (Adds c.args.types.now c.push_declared.new.types (before_if b (declared_fields (seen c.args.scope.now) (plain_declaration_form c.args.one.now.form))) c.args.made.now.items c.push_declared.new.made.items)) (sym c.if-one.true)
    (rw c.get.ensures at c.push_declared.ensures.made)

pub returns-else-one-clause-made : goal.returns-else-one-clause-made
returns-else-one-clause-made c =
    subst (λ (b : Bool). Adds c.args.types.now c.args.types.now (before_if b (declared_fields (seen c.args.scope.now) (plain_declaration_form c.args.one.now.form))) c.args.made.now.items c.args.made.now.items) (sym c.if-one.false)
    (adds_none c.args.types.now c.args.made.now.items c.requires)
