use Rattle.std.proofs.Common.{◌∙◌, [], ap, sym}
use Rattle.type_definitions.proofs.PutIn.{if_ok}
use Rattle.abstract_tree.specs.declared.expressions.ExpressionForm.TheVariants as shapes
use Rattle.abstract_tree.specs.TreeView.{plain}
use Rattle.typing_rules.specs.AbstractSyntax.{Bytes}
use Rattle.value_scopes.specs.Places.{context_in}
use Rattle.instance_rules.specs.Callees.{of_callee, of_member, of_name}
use Rattle.instance_rules.proofs.CalleeParts.{callee_member, callee_name, callee_other, no_generic, sought_as}
use Rattle.instance_rules.proofs.callees.polymorphic.Goals as goal

pub returns-in-Name : goal.returns-in-Name
returns-in-Name c = if_ok c.of_name.result _ _ c.of_name.ensures
    (λ found h. sought_as c.args.types.now (of_name c.args.scopes.now c.as_slice.result.now) (of_callee c.args.scopes.now (plain c.args.callee.now)) found c.of_name.new.types
    (λ later place. callee_name (context_in later c.args.scopes.now place) c.args.callee.now c.as_slice.result.now (sym c.get.ensures ∙ (c.in-Name.is ∙ ap (λ (x : Bytes). shapes.Name x) (sym c.as_slice.ensures)))) h)

pub returns-in-Member : goal.returns-in-Member
returns-in-Member c = if_ok c.of_member.result _ _ c.of_member.ensures
    (λ found h. sought_as c.args.types.now (of_member c.args.scopes.now (plain c.in-Member.of) c.as_slice-in-Member.result.now) (of_callee c.args.scopes.now (plain c.args.callee.now)) found c.of_member.new.types
    (λ later place. callee_member (context_in later c.args.scopes.now place) c.args.callee.now c.in-Member.of c.as_slice-in-Member.result.now (sym c.get.ensures ∙ (c.in-Member.is ∙ ap (λ (x : Bytes). shapes.Member c.in-Member.of x) (sym c.as_slice-in-Member.ensures)))) h)

pub returns-in_default : goal.returns-in_default
returns-in_default c =
    no_generic c.args.types.now c.requires.kept c.args.scopes.now [] (of_callee c.args.scopes.now (plain c.args.callee.now))
    (λ later l place. callee_other (context_in later c.args.scopes.now place) c.args.callee.now (λ x q. c.in_default.not-Name x (c.get.ensures ∙ q)) (λ o x q. c.in_default.not-Member o x (c.get.ensures ∙ q)))
