use Rattle.std.proofs.Common.{ap}
use Rattle.typed_tree.specs.declared.expression.Function.{Function}
use Rattle.kernel_methods.proofs.Same.{if_same}
use Rattle.kernel_methods.specs.Methods.{made_of, method_in}
use Rattle.kernel_methods.proofs.public_functions.method.Goals as goal

pub returns-clause-made : goal.returns-clause-made
returns-clause-made g c =
    let s = c.args.layer.now.types.now in
    if_same c.made_method.result (made_of s c.args.kind c.args.context.now c.args.name.now c.in_ok-function.function) (method_in s c.args.frames.now c.args.kind c.args.query c.args.context.now c.args.name.now c.args.of.now c.args.body.now)
    (ap (λ (z : Function). made_of s c.args.kind c.args.context.now c.args.name.now z) c.in_ok-function.ensures.made) c.made_method.ensures
