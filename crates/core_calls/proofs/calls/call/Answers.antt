use Rattle.std.proofs.Common.{length, map, ap, sym, subst, ◌∙◌}
use Rattle.core_ir.specs.declared.expression.Expression.{Expression}
use Rattle.core_ir.specs.Expressions as core
use Rattle.typed_tree.specs.declared.action.Action.TheVariants as action
use Rattle.typed_tree.specs.Language.{Exps, Do}
use Rattle.typed_tree.specs.View.{exps, expression}
use Rattle.elaboration.specs.Elaboration.{elaborate, elaborate_operands}
use Rattle.elaboration.specs.Members.{Elaborated}
use Rattle.core_parts.specs.Making.{IsMade}
use Rattle.core_parts.proofs.Going.{on_ok}
use Rattle.core_calls.specs.Calling.{plain}
use Rattle.core_calls.proofs.Operating.{call_is}
use Rattle.core_calls.proofs.calls.call.Goals as goal

pub returns-in-Some-clause-made : goal.returns-in-Some-clause-made
returns-in-Some-clause-made g c =
    on_ok c.at_once.result c.at_once.ensures.made (λ made one.
    let Of : Exps → Type 0 = λ es. IsMade (elaborate c.args.scope.now (length c.args.groups.now) (Do action.Call es)) c.args.groups.now c.at_once.new.groups made in
    subst Of (sym c.in-Some.ensures.some) one)

pub returns-in-None-clause-made : goal.returns-in-None-clause-made
returns-in-None-clause-made g c =
    on_ok c.plainly.result c.plainly.ensures.made (λ made one.
    let Of : Elaborated → Type 0 = λ d. IsMade d c.args.groups.now c.plainly.new.groups made in
    subst Of (ap (λ (k : core.Goal). plain k (elaborate_operands c.args.scope.now (length c.args.groups.now) (exps (map expression c.args.typed.now)))) call_is
    ∙ sym (c.in-None.ensures.none c.args.scope.now (length c.args.groups.now))) one)
