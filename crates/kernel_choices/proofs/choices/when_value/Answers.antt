use Rattle.std.proofs.Common.{◌∙◌, ap, refl, sym}
use Rattle.typed_tree.specs.declared.expression.TypedExpression.{TypedExpression}
use Rattle.typed_tree.specs.declared.expression.Form.TheVariants as f
use Rattle.typed_tree.specs.declared.expression.Form.TheOpen as F
use Rattle.kernel_types.specs.Numbers.{number_of}
use Rattle.kernel_nodes.specs.Made.{unit_in}
use Rattle.kernel_nodes.proofs.Rolling.{made_as}
use Rattle.kernel_choices.proofs.choices.when_value.Goals as goal

pub returns : goal.returns
returns c =
    made_as c.at.result (number_of c.args.types.now c.args.kind) (number_of c.args.types.now c.args.kind) (f.If c.args.c c.args.a c.in_ok-nothing.nothing) (F.If c.args.c c.args.a (unit_in c.args.types.now)) refl
    (f.rolls-If c.args.c c.args.a (unit_in c.args.types.now) ∙ ap (λ (z : TypedExpression). f.If c.args.c c.args.a z) (sym c.in_ok-nothing.ensures)) c.at.ensures
